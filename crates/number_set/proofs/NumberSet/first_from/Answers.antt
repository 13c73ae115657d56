use Rattle.std.proofs.Common.{◌≡◌, ◌/◌, length, get_or, sym, ap, ◌∙◌, arith}
use Rattle.number_set.specs.Numbers.{has, has_bit}
use Rattle.number_set.proofs.Bits.{first_after, no_more_numbers, number_at, numbers_up_to}
use Rattle.number_set.proofs.NumberSet.first_from.Goals as goal

pub returns-then-first-ge-WORDS : goal.returns-then-first-ge-WORDS
unfolding has
returns-then-first-ge-WORDS c = λ n h.
    let words = c.args.self.now.words in
    let whole : length words ≡ 16 = search in
    no_more_numbers words c.args.from (c.args.from / 64) (omega (arith, whole, c.from-first.ensures, c.if-first-ge-WORDS.true))
    (λ k up low. absurd (omega arith)) n h

pub returns-in-Some : goal.returns-in-Some
unfolding has
returns-in-Some c =
    let words = c.args.self.now.words in
    let place = c.from-first.result / 64 in
    let it = c.in-Some.ensures in (
      omega (arith, it.0, c.from-first.ensures, c.from.ensures),
      omega (arith, it.1, c.if-first-ge-WORDS.false),
      number_at words place c.in-Some.bit it.1 it.2,
      numbers_up_to words c.args.from place c.in-Some.bit (λ n up low. absurd (omega (arith, c.from-first.ensures))) it.1
          (λ k h. it.3 k (omega (arith, h, c.from-first.ensures, c.from.ensures))),
    )

pub returns : goal.returns
unfolding has
returns c =
    let words = c.args.self.now.words in
    first_after words c.args.from c.from-first.result _ c.first_in.result c.from-first.ensures
    (λ k up lt. ap (λ f. has_bit (get_or words (f / 64) 0) k) (sym c.from-first.ensures) ∙ c.in_default.ensures k (omega (arith, up, c.from.ensures)))
    c.first_in.ensures
