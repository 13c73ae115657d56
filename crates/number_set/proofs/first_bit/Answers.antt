use Rattle.std.proofs.Common.{◌≡◌, ◌≤◌, ◌-◌, ◌*◌, ◌%◌, ◌^◌, sym, ◌∙◌, arith}
use lib.Bits.{bit_and}
use Rattle.std.proofs.lemmas.Nat.{and_le_l}
use Rattle.number_set.proofs.Bits.{no_high_bits, high_word, least_bit}
use Rattle.number_set.proofs.first_bit.Goals as goal

pub returns-then-high-eq0 : goal.returns-then-high-eq0
returns-then-high-eq0 c =
    no_high_bits c.args.word c.args.low c.ranges.word.fits (sym (high_word c.args.word c.args.low c.requires) ∙ c.if-high-eq0.true)

pub returns : goal.returns
returns c =
    let mask = (2 ^ 64 - 1) * 2 ^ c.args.low % 2 ^ 64 in
    let small : bit_and c.args.word mask ≤ c.args.word = and_le_l c.args.word mask in
    let some : bit_and c.args.word mask ≡ 0 → ⊥ = c.if-high-eq0.false in
    let it =
    least_bit c.args.word c.args.low (bit_and c.args.word mask) c.requires c.ranges.word.fits
    (high_word c.args.word c.args.low c.requires) (omega (arith, small, c.ranges.word.fits)) (omega (arith, some))
    in
    (it.from_low, it.within, it.is_one, it.first)
