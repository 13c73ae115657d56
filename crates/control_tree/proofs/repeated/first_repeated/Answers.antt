use Rattle.std.proofs.Common.{◌≡◌, ◌<◌, ◌∙◌, ap, length, get_or, sym, true, false, arith}
use Rattle.std.proofs.lemmas.List.{get_or_read, length-set}
use Rattle.control_tree.proofs.Twice.{repeated-here, repeated-later, repeated-none, flag-more}
use Rattle.control_tree.proofs.repeated.first_repeated.Goals as goal

pub returns-then-index-clause-first : goal.returns-then-index-clause-first
returns-then-index-clause-first c =
    let within : get_or c.args.numbers.now c.loop-number.number-index 0 < c.args.count = c.requires c.loop-number.number-index 0 c.loop-number-test.true in
    let inside : get_or c.args.numbers.now c.loop-number.number-index 0 < length c.loop-number.seen.items = let e = c.loop-number.invariant.size in omega arith in
    let flag : get_or c.loop-number.seen.items (get_or c.args.numbers.now c.loop-number.number-index 0) false ≡ true =
    sym (get_or_read c.loop-number.seen.items (get_or c.args.numbers.now c.loop-number.number-index 0) c.index.result.now inside c.index.ensures false) ∙ c.if-index.true in
    sym (repeated-here c.args.numbers.now c.loop-number.number-index c.loop-number-test.true
    (sym (c.loop-number.invariant.flags (get_or c.args.numbers.now c.loop-number.number-index 0) within) ∙ flag))
    ∙ c.loop-number.invariant.rest

pub loop-number-preserved : goal.loop-number-preserved
loop-number-preserved c =
    let within : get_or c.args.numbers.now c.loop-number.number-index 0 < c.args.count = c.requires c.loop-number.number-index 0 c.loop-number-test.true in
    let inside : get_or c.args.numbers.now c.loop-number.number-index 0 < length c.loop-number.seen.items = let e = c.loop-number.invariant.size in omega arith in
    let flag : get_or c.loop-number.seen.items (get_or c.args.numbers.now c.loop-number.number-index 0) false ≡ false =
    sym (get_or_read c.loop-number.seen.items (get_or c.args.numbers.now c.loop-number.number-index 0) c.index.result.now inside c.index.ensures false) ∙ c.if-index.false in
    record {
      rest = sym (repeated-later c.args.numbers.now c.loop-number.number-index c.loop-number-test.true
          (sym (c.loop-number.invariant.flags (get_or c.args.numbers.now c.loop-number.number-index 0) within) ∙ flag))
          ∙ c.loop-number.invariant.rest;
      size = length-set c.loop-number.seen.items (get_or c.args.numbers.now c.loop-number.number-index 0) true ∙ c.loop-number.invariant.size;
      flags = λ n less. flag-more c.args.numbers.now c.loop-number.seen.items c.loop-number.number-index n c.args.count c.loop-number-test.true
          c.loop-number.invariant.size within less (c.loop-number.invariant.flags n less);
    }

pub returns-clause-first : goal.returns-clause-first
returns-clause-first c = sym (repeated-none c.args.numbers.now c.loop-number.number-index (omega arith)) ∙ c.loop-number.invariant.rest
