use Rattle.std.proofs.Common.{◌≡◌, ◌++◌, drop}
use Rattle.std.specs.List.{flat_map}
use Rattle.text_model.specs.Report.{numbers_text, spaced}
use Rattle.report_text.proofs.report.push_numbers.Given as goal

abbrev pub invariant-loop-number : goal.invariant-loop-number
invariant-loop-number l =
    l.out.items ++ flat_map spaced (drop l.number-index l.others) ≡ l.fn.out.items ++ numbers_text l.fn.numbers
