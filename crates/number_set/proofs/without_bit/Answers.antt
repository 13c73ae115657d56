use Rattle.std.specs.Int.{w64}
use Rattle.std.proofs.lemmas.Bool.{eqb-false}
use Rattle.std.proofs.lemmas.Nat.Bits.{bit_at_clear_same, bit_at_clear_other}
use Rattle.number_set.proofs.Bits.{bit_none, same_bit}
use Rattle.number_set.proofs.without_bit.Goals as goal

pub returns-clause-same : goal.returns-clause-same
returns-clause-same c = bit_none _ _ (bit_at_clear_same w64 c.args.word c.args.bit c.requires)

pub returns-clause-others : goal.returns-clause-others
returns-clause-others c = λ n lt other.
    same_bit _ c.args.word n (bit_at_clear_other w64 c.args.word c.args.bit c.requires n lt (eqb-false n c.args.bit other))
