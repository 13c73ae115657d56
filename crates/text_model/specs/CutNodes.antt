-- The first refusal of the sequences of a job that have `cut`. Such a sequence must be concurrent and short-circuit. An algorithm
-- below one has no leaf elsewhere, and what it produces is taken only below that sequence. So what is cut off is missed by nothing.
use Rattle.std.specs.Prelude.{ℕ, ◌+◌, nat_eq, nat_le, nat_lt, Bool, false, not, ◌&&◌, ◌||◌, [], ◌∷◌, length, find, position, count_by, Option, option_map}
use Rattle.std.specs.List.{enumerate_from, list_any}
use Rattle.std.specs.Option.{option_map_or}
use Rattle.hive_model.specs.Algorithm.{Algorithm}
use Rattle.hive_model.specs.Below.{is_algorithm_below}
use Rattle.hive_model.specs.ControlFlow.{leaves}
use Rattle.hive_model.specs.Job.{Job}
use Rattle.hive_model.specs.Sequence.{Sequence}
use Rattle.hive_model.specs.Valid.{handle_names}
use Rattle.text_model.specs.Names.{name_at}
use Rattle.text_model.specs.Steps.{first_of, find_map}
use Rattle.text_model.specs.declared.cut_refusal.CutRefusal.{CutRefusal}
use Rattle.text_model.specs.declared.cut_refusal.CutRefusal.TheVariants.{Kind, Shared, Input}

-- some sequence with `cut` passes the test
abbrev pub any_cut : Job → (ℕ → Bool) → Bool
any_cut job test = list_any (λ (it : ℕ × Sequence). it.1.cut && test it.0) (enumerate_from 0 job.sequences)

abbrev pub is_of_wrong_kind : Sequence → Bool
is_of_wrong_kind q = q.cut && (q.sequential || not q.short_circuit)

abbrev pub wrong_kind : Job → Option CutRefusal
wrong_kind job = option_map (λ (q : Sequence). Kind q.name) (find is_of_wrong_kind job.sequences)

-- it is below a sequence with `cut`, and has another leaf
abbrev pub is_shared : Job → ℕ → Bool
is_shared job number = any_cut job (λ s. is_algorithm_below job s number) && nat_lt 1 (count_by (nat_eq number) (leaves job))

abbrev pub shared : Job → Option CutRefusal
shared job =
    option_map (λ (it : ℕ × Algorithm). Shared it.1.name)
    (find (λ (it : ℕ × Algorithm). is_shared job it.0) (enumerate_from 0 job.algorithms))

abbrev pub produces : ℕ → Algorithm → Bool
produces handle a = nat_le a.first_output handle && nat_lt handle (a.first_output + length a.outputs)

-- the producer is below a sequence with `cut` that the taker isn't below
abbrev pub is_cut_off : Job → ℕ → ℕ → Bool
is_cut_off job taker producer = any_cut job (λ s. is_algorithm_below job s producer && not (is_algorithm_below job s taker))

abbrev pub may_lack : Job → ℕ → ℕ → Bool
may_lack job taker handle = option_map_or (is_cut_off job taker) (position (produces handle) job.algorithms) false

abbrev pub input_cut_off : Job → Option CutRefusal
input_cut_off job =
    find_map (λ (it : ℕ × Algorithm). option_map (λ handle. Input it.1.name (name_at (handle_names job) handle))
    (find (may_lack job it.0) it.1.inputs)) (enumerate_from 0 job.algorithms)

unfoldable pub cut_refusal : Job → Option CutRefusal
cut_refusal job = first_of (wrong_kind job ∷ shared job ∷ input_cut_off job ∷ [])
