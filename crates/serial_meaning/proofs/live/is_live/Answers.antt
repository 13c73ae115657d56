use Rattle.std.proofs.Common.{not, sym, ap, ◌∙◌}
use Rattle.std.specs.List.{enumerate_from, list_any}
use Rattle.hive_model.specs.Live.{cuts_algorithm, is_live}
use Rattle.serial_meaning.proofs.Any.{numbered_none_more, numbered_some, numbered_none_all}
use Rattle.serial_meaning.proofs.live.is_live.Goals as goal

pub returns-then-branch : goal.returns-then-branch
unfolding is_live
returns-then-branch c =
    let test = cuts_algorithm c.args.job.now c.args.outcomes.now c.args.number in
    let cuts = sym c.in_ok-cuts_algorithm.ensures ∙ c.if-branch.true in
    sym (ap (λ them. not (list_any test (enumerate_from 0 them))) (sym c.sequences-sequence-items.ensures)
    ∙ ap not
    (numbered_some test c.sequences-sequence-items.result.now c.loop-place.place c.sequence-item.result c.loop-place-test.true c.sequence-item.is cuts))

pub loop-place-preserved : goal.loop-place-preserved
loop-place-preserved c =
    let test = cuts_algorithm c.args.job.now c.args.outcomes.now c.args.number in
    let passed = sym c.in_ok-cuts_algorithm.ensures ∙ c.if-branch.false in
    numbered_none_more test c.sequences-sequence-items.result.now c.loop-place.place c.sequence-item.result
    c.loop-place-test.true c.sequence-item.is passed
    c.loop-place.invariant

pub returns : goal.returns
unfolding is_live
returns c =
    let test = cuts_algorithm c.args.job.now c.args.outcomes.now c.args.number in
    sym (ap (λ them. not (list_any test (enumerate_from 0 them))) (sym c.sequences-sequence-items.ensures)
    ∙ ap not
    (numbered_none_all test c.sequences-sequence-items.result.now c.loop-place.place c.loop-place-test.false c.loop-place.invariant))
