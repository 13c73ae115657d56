use Rattle.std.proofs.Common.{◌≡◌, ◌<◌, ◌+◌, length, take, drop, slice_index, ap, sym, ◌∙◌, arith}
use Rattle.std.proofs.lemmas.Bool.Decides.{nat_tests}
use Rattle.std.proofs.lemmas.List.{take_all}
use Rattle.text_model.specs.Pieces.{cut}
use Rattle.event_records.proofs.Cuts.{HasNo-take, cut-found, cut-whole, parted}
use Rattle.event_records.proofs.pieces.first_piece.Goals as goal

pub returns-in-Some-clause-some : goal.returns-in-Some-clause-some
returns-in-Some-clause-some c =
    let s = c.args.separator in
    let text = c.args.text.now in
    let i = c.in-Some.index in
    let low : i < length text = c.in-Some.ensures.0.high in
    let found : slice_index text i ≡ s = grind (arith, nat_tests, c.in-Some.ensures.1) in
    let none = HasNo-take s i text (omega arith) (λ k lt e. c.in-Some.ensures.0.before k (omega arith) lt (grind (arith, nat_tests))) in
    rw (c.split_at.ensures.front, c.split_at-in-Some.ensures.back)
    (ap (cut s) (sym (parted i text s low found)) ∙ cut-found s (take i text) (drop (i + 1) text) none)

pub returns-in-None-clause-none : goal.returns-in-None-clause-none
returns-in-None-clause-none c =
    let s = c.args.separator in
    let text = c.args.text.now in
    let none = HasNo-take s (length text) text (omega arith) (λ k lt e. c.in-None.ensures k (omega arith) lt (grind (arith, nat_tests))) in
    cut-whole s text (rw (take_all (length text) text (omega arith)) at none)
