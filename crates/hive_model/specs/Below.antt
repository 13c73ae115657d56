-- The members below a sequence: its own, theirs, and so on down.
use Rattle.std.specs.Prelude.{ℕ, zero, suc, nat_eq, Bool, false, List, [], ◌∷◌, slice_get}
use Rattle.std.specs.List.{flat_map, list_any}
use Rattle.std.specs.Option.{option_map_or}
use Rattle.hive_model.specs.Job.{Job}
use Rattle.hive_model.specs.Reached.{is_leaf_of}
use Rattle.hive_model.specs.Sequence.{Sequence}
use Rattle.hive_model.specs.declared.limits.TheConstants.{MOST_DEPTH}
use Rattle.hive_model.specs.declared.sequence.Member.{Member}
use Rattle.hive_model.specs.declared.sequence.Member.TheVariants.{Alg, Seq}

-- what stands below a member, at most `depth` sequences deep; nothing stands below an algorithm
unfoldable pub below_within : ℕ → List Sequence → Member → List Member
below_within depth sequences (Alg a) = []
below_within zero sequences (Seq s) = []
below_within (suc depth) sequences (Seq s) =
    option_map_or (λ q. flat_map (λ m. m ∷ below_within depth sequences m) q.members) (slice_get sequences s) []

unfoldable pub below : Job → ℕ → List Member
below job s = below_within MOST_DEPTH job.sequences (Seq s)

abbrev pub is_sequence_of : ℕ → Member → Bool
is_sequence_of number (Alg a) = false
is_sequence_of number (Seq s) = nat_eq s number

-- the algorithm of that number has a leaf below the sequence s
abbrev pub is_algorithm_below : Job → ℕ → ℕ → Bool
is_algorithm_below job s number = list_any (is_leaf_of number) (below job s)

-- the sequence of that number stands below the sequence s
abbrev pub is_sequence_below : Job → ℕ → ℕ → Bool
is_sequence_below job s number = list_any (is_sequence_of number) (below job s)
