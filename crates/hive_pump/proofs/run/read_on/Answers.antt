use Rattle.std.proofs.Common.{◌≡◌, inr, [], append-nil, arith}
use Rattle.std.proofs.lemmas.Bool.Decides.{nat_tests}
use Rattle.hive_pump.proofs.run.read_on.Goals as goal

pub returns-in-Ok-eq0 : goal.returns-in-Ok-eq0
returns-in-Ok-eq0 g c =
    let zero : c.in-Ok-eq0.field-0 ≡ 0 = grind (arith, nat_tests, c.in-Ok-eq0.field-0-test) in
    record {
      piece = [];
      bytes = rw zero at c.in-Ok-eq0.ensures.bytes;
      calm = c.in-Ok-eq0.ensures.cause;
      reads = λ job fed given h. rw (append-nil fed) (c.end.ensures.has_read job fed given h);
      at_end = λ e. c.in-Ok-eq0.ensures.end zero;
      total = omega arith;
      goes_on = inr c.end.ensures.ended;
    }
