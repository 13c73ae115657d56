use Rattle.std.proofs.Common.{ℕ, List, ◌<◌, length, subst}
use Rattle.hive_gen.specs.Rest.{rest_of}
use Rattle.hive_gen.proofs.Lines.{less_left}
use Rattle.hive_gen.proofs.generator.Generator.push_piece.Goals as goal

pub returns-clause-onward : goal.returns-clause-onward
returns-clause-onward c =
    let now = rest_of c.in_ok-self-inside.field-0 in
    let less = less_left c.args.out.now.items c.push_lines.new.out.items (rest_of c.self.inside.at) now
    c.in_ok-self-inside.ensures.text c.in_ok-self-inside.ensures.onward in
    subst (λ (before : List ℕ). 0 < length before → length now < length before) c.self.view_is less
