use Rattle.std.proofs.Common.{length-set, ◌∙◌, arith}
use Rattle.number_set.specs.Numbers.{has}
use Rattle.number_set.proofs.Bits.{without_more, without_all}
use Rattle.number_set.proofs.NumberSet.without.Goals as goal

pub loop-place-preserved : goal.loop-place-preserved
loop-place-preserved c =
    let now = c.loop-place.invariant in (
      length-set c.loop-place.left.words c.loop-place.place c.without_bits.result ∙ now.0,
      now.1,
      without_more c.loop-place.left.words c.args.self.now.words c.args.other.now.words c.loop-place.place c.without_bits.result
          (omega (arith, now.0)) now.2 c.without_bits.ensures,
    )

pub returns : goal.returns
unfolding has
returns c = λ n.
    let now = c.loop-place.invariant in
    without_all c.loop-place.left.words c.args.self.now.words c.args.other.now.words c.loop-place.place n (omega (arith, now.0))
    (omega (arith, now.1)) now.2
