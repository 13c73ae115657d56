use Rattle.std.proofs.Common.{◌≡◌, ◌+◌, map, length, ◌<◌, ◌≤◌, arith}
use Rattle.std.specs.Arc.{arc_value}
use Rattle.std.proofs.lemmas.List.{length-map}
use Rattle.expr_code.proofs.Handles.{output_at, before_outputs, output_past}
use Rattle.expr_code.proofs.frame.output_index.Goals as goal

pub returns-then-handle-first : goal.returns-then-handle-first
returns-then-handle-first c =
    before_outputs c.args.handle c.args.first (map arc_value c.args.outputs.now) c.if-handle-first.true

pub returns-then-index-outputs : goal.returns-then-index-outputs
returns-then-index-outputs c =
    let at : c.args.handle ≡ c.args.first + c.from-index.result = omega (arith, c.from-index.ensures, c.if-handle-first.false) in
    let inside : c.from-index.result < length (map arc_value c.args.outputs.now) = rw (length-map c.args.outputs.now arc_value) c.if-index-outputs.true in
    (output_at c.args.handle c.args.first (map arc_value c.args.outputs.now) c.from-index.result at, inside)

pub returns-else-index-outputs : goal.returns-else-index-outputs
returns-else-index-outputs c =
    let at : c.args.handle ≡ c.args.first + c.from-index.result = omega (arith, c.from-index.ensures, c.if-handle-first.false) in
    let past : length (map arc_value c.args.outputs.now) ≤ c.from-index.result = rw (length-map c.args.outputs.now arc_value) c.if-index-outputs.false in
    output_past c.args.handle c.args.first (map arc_value c.args.outputs.now) c.from-index.result at past
