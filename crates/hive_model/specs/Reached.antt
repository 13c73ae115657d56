-- What control flow has reached. The top is reached. A reached concurrent node enters all its members. A reached sequential
-- node enters its members in order, up to the first that is undecided or, where the node is short-circuit, fixes it.
use Rattle.std.specs.Prelude.{ℕ, zero, suc, ◌+◌, nat_eq, Bool, false, not, ◌&&◌, if◌then◌else◌, List, [], ◌∷◌, map, take, Option, slice_get}
use Rattle.std.specs.List.{flat_map, list_any, prefix_len}
use Rattle.std.specs.Option.{option_map_or}
use Rattle.hive_model.specs.Decision.{decision, is_undecided, is_fixing}
use Rattle.hive_model.specs.Job.{Job}
use Rattle.hive_model.specs.Sequence.{Sequence}
use Rattle.hive_model.specs.declared.limits.TheConstants.{MOST_DEPTH}
use Rattle.hive_model.specs.declared.decision.Decision.{Decision}
use Rattle.hive_model.specs.declared.outcome.Outcome.{Outcome}
use Rattle.hive_model.specs.declared.sequence.Member.{Member}
use Rattle.hive_model.specs.declared.sequence.Member.TheVariants.{Alg, Seq}

-- whether a sequential node goes on after a member with this decision
abbrev pub passes : Sequence → Decision → Bool
passes q d = not (is_undecided d) && not (q.short_circuit && is_fixing q.mode_or d)

-- the members that a reached node enters, where these are the members' decisions
unfoldable pub entered : Sequence → List Decision → List Member
entered q decisions = if q.sequential then take (prefix_len (passes q) decisions + 1) q.members else q.members

-- the members that are reached from a reached one, itself among them, at most `depth` sequences deep
unfoldable pub reached_within : ℕ → List Sequence → (Member → Decision) → Member → List Member
reached_within depth sequences decide (Alg a) = Alg a ∷ []
reached_within zero sequences decide (Seq s) = []
reached_within (suc depth) sequences decide (Seq s) =
    Seq s ∷ option_map_or (λ q. flat_map (reached_within depth sequences decide) (entered q (map decide q.members))) (slice_get sequences s) []

unfoldable pub reached : Job → List (Option Outcome) → List Member
reached job ran = reached_within MOST_DEPTH job.sequences (decision job ran) (Seq job.top)

abbrev pub is_leaf_of : ℕ → Member → Bool
is_leaf_of number (Alg a) = nat_eq a number
is_leaf_of number (Seq s) = false

-- an algorithm is reached if one of its leaves is
abbrev pub is_reached : List Member → ℕ → Bool
is_reached members number = list_any (is_leaf_of number) members
