use Rattle.std.proofs.Common.{◌≡◌, ◌++◌, Bor, List, ℕ, drop, map}
use Rattle.std.specs.List.{enumerate_from, flat_map}
use Rattle.text_model.specs.Report.{put_at}
use Rattle.hive_model.specs.Same.{texts}
use Rattle.report_text.proofs.report.push_puts.Given as goal

abbrev pub invariant-loop-index : goal.invariant-loop-index
invariant-loop-index l =
    l.out.items ++ flat_map (put_at l.store) (enumerate_from l.index (map (λ (name : Bor (List ℕ)). name.now) (drop l.index l.names)))
    ≡ l.fn.out.items ++ flat_map (put_at l.store) (enumerate_from 0 (texts l.names))
