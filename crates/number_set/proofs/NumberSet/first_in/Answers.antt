use Rattle.std.proofs.Common.{◌*◌, arith}
use Rattle.number_set.specs.Numbers.{has}
use Rattle.number_set.proofs.Bits.{numbers_below, numbers_up_to, number_at, no_more_numbers}
use Rattle.number_set.proofs.NumberSet.first_in.Goals as goal

pub returns-in-Some : goal.returns-in-Some
unfolding has
returns-in-Some c =
    let words = c.args.self.now.words in
    let place = c.loop-place.place in
    let it = c.in-Some.ensures in (
      omega (arith, it.1),
      omega (arith, it.1),
      number_at words place c.in-Some.bit it.1 it.2,
      numbers_up_to words (64 * c.args.first) place c.in-Some.bit c.loop-place.invariant.1 it.1 (λ k h. it.3 k (omega arith)),
    )

pub loop-place-preserved : goal.loop-place-preserved
unfolding has
loop-place-preserved c = (
  c.loop-place.invariant.0,
  numbers_below c.args.self.now.words (64 * c.args.first) c.loop-place.place c.loop-place.invariant.1
      (λ k h lt. c.in_default.ensures k (omega arith)),
)

pub returns : goal.returns
unfolding has
returns c =
    no_more_numbers c.args.self.now.words (64 * c.args.first) c.loop-place.place (omega (arith, c.loop-place.invariant.0)) c.loop-place.invariant.1
