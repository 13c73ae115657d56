use Rattle.std.proofs.Common.{◌≡◌, ◌<◌, ◌≤◌, ℕ, List, ap, sym, subst, ◌∙◌}
use Rattle.std.specs.Prelude.{All}
use Rattle.std.specs.List.{AllByRecursion}
use Rattle.hive_model.specs.Algorithm.{Algorithm}
use Rattle.hive_model.specs.Handles.{handle_count}
use Rattle.hive_model.specs.Many.{Many}
use Rattle.hive_model.specs.declared.limits.TheConstants.{MOST_ALGORITHMS}
use Rattle.algo_states.specs.States.{inputs_of}
use Rattle.algo_states.proofs.Indexing.{as-many, inputs-within}
use Rattle.algo_states.proofs.table.StateTable.new.Goals as goal

pub consumers_of-requires-clause-within : goal.consumers_of-requires-clause-within
consumers_of-requires-clause-within c =
    let job = c.args.job.now in
    let handles : c.from-handles.result ≡ handle_count job = c.from-handles.ensures ∙ c.handles.ensures in
    let inputs = subst (λ (n : ℕ). AllByRecursion (λ (a : Algorithm). AllByRecursion (λ h. h < n) a.inputs) job.algorithms) (sym handles) c.requires.inputs in
    subst (λ (them : List (Many ℕ)). All (λ (it : Many ℕ). All (λ h. h < c.from-handles.result) it.items) them) (sym c.as_slice.ensures.value)
    (inputs-within c.in_ok-needs.needs.items job.algorithms c.from-handles.result (c.in_ok-needs.ensures ∙ ap inputs_of c.algorithms.ensures) inputs)

pub with_index-requires-clause-few : goal.with_index-requires-clause-few
with_index-requires-clause-few c =
    let same = as-many c.in_ok-needs.needs.items c.args.job.now.algorithms (c.in_ok-needs.ensures ∙ ap inputs_of c.algorithms.ensures) in
    subst (λ (n : ℕ). n ≤ MOST_ALGORITHMS) (sym same) c.requires.limits.algorithms
