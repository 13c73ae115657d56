use Rattle.std.proofs.Common.{ℕ, ◌≤◌, subst, get_or, arith}
use Rattle.std.proofs.lemmas.Bool.{eqb-true}
use Rattle.number_set.specs.Numbers.{has}
use Rattle.number_set.proofs.Bits.{one_more_word, no_other_words}
use Rattle.number_set.proofs.NumberSet.is_one_word.Goals as goal

pub loop-place-preserved : goal.loop-place-preserved
loop-place-preserved c = (
  c.loop-place.invariant.0,
  one_more_word c.args.self.now.words c.loop-place.place c.loop-place.others c.loop-place.invariant.1,
)

pub returns : goal.returns
unfolding has
returns c = λ none.
    let words = c.args.self.now.words in
    no_other_words words c.loop-place.place (omega (arith, c.loop-place.invariant.0, c.loop-place-test.false))
    (λ p some lt. subst (λ (k : ℕ). get_or words p 0 ≤ k) (eqb-true _ _ none) (c.loop-place.invariant.1 p some lt))
