use Rattle.std.proofs.Common.{◌^◌, refl, arith}
use Rattle.timeline.proofs.Numbers.{fits_bound, no_number, over_bound}
use Rattle.timeline.proofs.values.short_of.Goals as goal

pub returns-then-number-lt65536 : goal.returns-then-number-lt65536
returns-then-number-lt65536 c = rw (fits_bound (2 ^ 16) c.args.text.now c.in-Some.number c.in-Some.ensures
    (omega arith)) refl

pub returns-else-number-lt65536 : goal.returns-else-number-lt65536
returns-else-number-lt65536 c = rw (over_bound (2 ^ 16) c.args.text.now c.in-Some.number c.in-Some.ensures
    (omega arith)) refl

pub returns-in-None : goal.returns-in-None
returns-in-None c = rw (no_number (2 ^ 16) c.args.text.now c.in-None.ensures (omega arith)) refl
