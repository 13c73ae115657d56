-- The decision of a node: true, false, or undecided. A leaf tells its algorithm's outcome, and a sequence is decided by its
-- members and its flags. False fixes an AND and is what an OR starts from; true the other way round.
use Rattle.std.specs.Prelude.{ℕ, zero, suc, Bool, true, false, not, ◌||◌, if◌then◌else◌, List, map, Option, Some, None, slice_get}
use Rattle.std.specs.List.{find, list_any}
use Rattle.std.specs.Option.{option_map_or}
use Rattle.std.specs.Prelude.{unwrap_or}
use Rattle.hive_model.specs.Job.{Job}
use Rattle.hive_model.specs.Results.{outcome_at}
use Rattle.hive_model.specs.Sequence.{Sequence}
use Rattle.hive_model.specs.declared.limits.TheConstants.{MOST_DEPTH}
use Rattle.hive_model.specs.declared.decision.Decision.{Decision}
use Rattle.hive_model.specs.declared.decision.Decision.TheVariants.{True, False, Undecided}
use Rattle.hive_model.specs.declared.outcome.Outcome.{Outcome}
use Rattle.hive_model.specs.declared.outcome.Outcome.TheVariants.{Accepted, Rejected, Failed}
use Rattle.hive_model.specs.declared.sequence.Member.{Member}
use Rattle.hive_model.specs.declared.sequence.Member.TheVariants.{Alg, Seq}

-- a failed algorithm, and one that has not run, decide nothing
abbrev pub leaf_decision : Option Outcome → Decision
leaf_decision None = Undecided
leaf_decision (Some Accepted) = True
leaf_decision (Some Rejected) = False
leaf_decision (Some (Failed at fault)) = Undecided

abbrev pub is_undecided : Decision → Bool
is_undecided True = false
is_undecided False = false
is_undecided Undecided = true

-- the value of a member that fixes the node: true for an OR, false for an AND
abbrev pub fixing : Bool → Decision
fixing mode_or = if mode_or then True else False

-- the value of a node that no member fixes
abbrev pub neutral : Bool → Decision
neutral mode_or = if mode_or then False else True

abbrev pub is_fixing : Bool → Decision → Bool
is_fixing mode_or True = mode_or
is_fixing mode_or False = not mode_or
is_fixing mode_or Undecided = false

-- all members have to be decided
abbrev pub strict : Bool → List Decision → Decision
strict mode_or members =
    if list_any is_undecided members then Undecided
    else (if list_any (is_fixing mode_or) members then fixing mode_or else neutral mode_or)

-- one member that fixes is enough
abbrev pub concurrent : Bool → List Decision → Decision
concurrent mode_or members =
    if list_any (is_fixing mode_or) members then fixing mode_or
    else (if list_any is_undecided members then Undecided else neutral mode_or)

-- the first member from the left that is undecided or fixes gives its value
abbrev pub sequential : Bool → List Decision → Decision
sequential mode_or members = unwrap_or (find (λ d. is_undecided d || is_fixing mode_or d) members) (neutral mode_or)

abbrev pub inverted : Bool → Decision → Decision
inverted false d = d
inverted true True = False
inverted true False = True
inverted true Undecided = Undecided

-- a filter that is ignored: whatever is decided counts as true
abbrev pub ignored : Bool → Decision → Decision
ignored false d = d
ignored true True = True
ignored true False = True
ignored true Undecided = Undecided

abbrev pub before_flags : Sequence → List Decision → Decision
before_flags q members =
    if q.short_circuit then (if q.sequential then sequential q.mode_or members else concurrent q.mode_or members)
    else strict q.mode_or members

-- the table of nodes: short circuit and order first, then `invert`, then `ignore_filter`
unfoldable pub node_decision : Sequence → List Decision → Decision
node_decision q members = ignored q.ignore_filter (inverted q.invert (before_flags q members))

-- the decision of a member at most `depth` sequences deep
unfoldable pub decision_within : ℕ → List Sequence → List (Option Outcome) → Member → Decision
decision_within depth sequences ran (Alg a) = leaf_decision (outcome_at ran a)
decision_within zero sequences ran (Seq s) = Undecided
decision_within (suc depth) sequences ran (Seq s) =
    option_map_or (λ q. node_decision q (map (decision_within depth sequences ran) q.members)) (slice_get sequences s) Undecided

-- The sequences of a valid job are not deeper, so the depth never shows: the decision of a sequence is its node's over the
-- decisions of its members, which is a law.
unfoldable pub decision : Job → List (Option Outcome) → Member → Decision
decision job ran member = decision_within MOST_DEPTH job.sequences ran member
