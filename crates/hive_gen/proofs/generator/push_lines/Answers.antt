use Rattle.hive_gen.specs.Rest.{rest_of}
use Rattle.hive_gen.proofs.Lines.{less_left, some_left}
use Rattle.hive_gen.proofs.generator.push_lines.Goals as goal

pub loop-at-smaller : goal.loop-at-smaller
loop-at-smaller c =
    let some = some_left (rest_of c.loop-at.at) c.is_end.result c.is_end.ensures c.if-not-is_end.true in
    less_left _ _ _ _ c.in_ok-at-2.ensures.text c.in_ok-at-2.ensures.onward some
