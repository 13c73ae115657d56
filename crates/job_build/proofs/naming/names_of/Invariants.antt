use Rattle.std.proofs.Common.{◌≡◌, ◌++◌, drop, map}
use Rattle.job_build.proofs.naming.names_of.Given as goal

abbrev pub invariant-loop-one : goal.invariant-loop-one
invariant-loop-one g l = l.names.items ++ map g.T.Titled.title (drop l.one-index l.all) ≡ map g.T.Titled.title l.all
