-- What a node counts of its members' decisions.
use Rattle.std.specs.Prelude.{◌≡◌, ◌+◌, ◌-◌, ◌≤◌, ◌<◌, ◌^◌, if◌then◌else◌, List}
use Rattle.std.specs.List.{count_by, prefix_len}
use Rattle.hive_model.specs.Decision.{is_undecided, is_fixing}
use Rattle.hive_model.specs.Reached.{passes}
use Rattle.hive_model.specs.Sequence.{Sequence}
use Rattle.hive_model.specs.declared.decision.Decision.{Decision}
use Rattle.decision_nodes.specs.declared.deciding.Counts.{Counts}

pub record IsCounted (q : Sequence) (states : List Decision) (counts : Counts) : Type 0 where
  pub undecided_are : counts.undecided ≡ count_by is_undecided states
  pub fixing_are : counts.fixing ≡ count_by (is_fixing q.mode_or) states
  pub passed_are : counts.passed ≡ prefix_len (passes q) states

-- the counts where one member was undecided that now has this decision
pub record IsCountedBefore (q : Sequence) (states : List Decision) (counts : Counts) (decision : Decision)
    : Type 0 where
  pub undecided_were : counts.undecided ≡ count_by is_undecided states + 1
  pub fixing_were : (if is_fixing q.mode_or decision then counts.fixing + 1 else counts.fixing)
      ≡ count_by (is_fixing q.mode_or) states
  pub passed_were : counts.passed ≤ prefix_len (passes q) states
  pub fits : counts.fixing < 2 ^ 64 - 1
