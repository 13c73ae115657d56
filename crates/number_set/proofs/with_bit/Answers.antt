use Rattle.std.specs.Int.{w64}
use Rattle.std.proofs.lemmas.Bool.{eqb-false}
use Rattle.std.proofs.lemmas.Nat.Bits.{bit_at_set_same, bit_at_set_other}
use Rattle.number_set.proofs.Bits.{bit_one, same_bit}
use Rattle.number_set.proofs.with_bit.Goals as goal

pub returns-clause-same : goal.returns-clause-same
returns-clause-same c = bit_one _ _ (bit_at_set_same w64 c.args.word c.args.bit c.requires)

pub returns-clause-others : goal.returns-clause-others
returns-clause-others c = λ n lt other.
    same_bit _ c.args.word n (bit_at_set_other w64 c.args.word c.args.bit c.requires n (eqb-false n c.args.bit other))
