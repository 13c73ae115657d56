use Rattle.std.proofs.Common.{take}
use Rattle.decision_nodes.specs.Founding.{AddsMembers}
use Rattle.decision_nodes.proofs.founding.add_members.Given as goal

abbrev pub invariant-loop-place : goal.invariant-loop-place
invariant-loop-place l = AddsMembers l.fn.index.leaves l.fn.index.parents l.sequence (take l.place l.members) l.index.leaves l.index.parents
