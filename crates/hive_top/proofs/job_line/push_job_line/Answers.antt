use Rattle.std.proofs.Common.{codes, decimal, length}
use Rattle.hive_model.specs.Handles.{handle_count}
use Rattle.hive_top.proofs.Joined.{joined}
use Rattle.hive_top.proofs.job_line.push_job_line.Goals as goal

pub returns : goal.returns
returns c =
    let job = c.args.job.now in
    joined c.args.out.now.items c.push_number.new.out.items c.push_number-2.new.out.items c.push_number-3.new.out.items
    c.extend_from_slice.new.self.items (codes "job ") (decimal (length job.algorithms)) (codes " algorithms ") (decimal (length job.sequences))
    (codes " sequences ") (decimal (handle_count job)) (codes " handles\n")
    (rw c.algorithms.ensures at c.in_ok-push_number.ensures) (rw c.sequences.ensures at c.in_ok-push_number-2.ensures)
    (rw (c.from.ensures, c.handles.ensures) at c.in_ok-push_number-3.ensures) c.in_ok-extend_from_slice.ensures.items
