use Rattle.std.proofs.Common.{◌≡◌, ◌<◌, length, slice_index, arith}
use Rattle.std.proofs.lemmas.Bool.Decides.{nat_tests}
use Rattle.std.proofs.lemmas.List.{take_all}
use Rattle.timeline.proofs.Cuts.{cut_at, cut_whole, lacks_before}
use Rattle.timeline.proofs.pieces.first_piece.Goals as goal

pub returns-in-Some-clause-some : goal.returns-in-Some-clause-some
returns-in-Some-clause-some c =
    let s = c.args.separator in
    let text = c.args.text.now in
    let i = c.in-Some.index in
    let low : i < length text = c.in-Some.ensures.0.high in
    let found : slice_index text i ≡ s = grind (arith, nat_tests, c.in-Some.ensures.1) in
    rw (c.split_at.ensures.front, c.split_at-in-Some.ensures.back)
    (cut_at s i text low found (λ k lt e. c.in-Some.ensures.0.before k (omega arith) lt
    (grind (arith, nat_tests))))

pub returns-in-None-clause-none : goal.returns-in-None-clause-none
returns-in-None-clause-none c =
    let s = c.args.separator in
    let text = c.args.text.now in
    let none = lacks_before s (length text) text (omega arith)
    (λ k lt e. c.in-None.ensures k (omega arith) lt (grind (arith, nat_tests))) in
    cut_whole s text (rw (take_all (length text) text (omega arith)) at none)
