use Rattle.std.proofs.Common.{◌≡◌, ◌++◌, map, slice_get, sym, ap, ◌∙◌, arith}
use Rattle.std.specs.Arc.{arc_value}
use Rattle.std.specs.List.{range_with_len}
use Rattle.hive_model.specs.Store.{shown}
use Rattle.serial_meaning.proofs.Joined.{shown_more}
use Rattle.serial_meaning.proofs.Stores.{fitted-outputs}
use Rattle.serial_meaning.proofs.store.push_outputs.Goals as goal

pub loop-number-preserved : goal.loop-number-preserved
loop-number-preserved c =
    shown_more shown (slice_get (map arc_value c.args.outputs.now)) (map shown c.args.places.now.items)
    c.loop-number.places.items c.push.new.self.items c.loop-number.number _
    c.loop-number.invariant c.in_ok-push.ensures.items c.in_ok-output_at.ensures

pub returns : goal.returns
returns c =
    let front = map shown c.args.places.now.items in
    let all : c.loop-number.number ≡ c.args.count = omega arith in
    c.loop-number.invariant
    ∙ ap (λ n. front ++ map (slice_get (map arc_value c.args.outputs.now)) (range_with_len 0 n)) all
    ∙ ap (λ them. front ++ them) (sym (fitted-outputs c.args.count (map arc_value c.args.outputs.now)))
