use Rattle.std.proofs.Common.{◌≡◌, ◌++◌, map, sym, ap, ◌∙◌, arith}
use Rattle.std.specs.List.{range_with_len}
use Rattle.hive_model.specs.Enabled.{product_in}
use Rattle.hive_model.specs.Store.{shown}
use Rattle.serial_meaning.proofs.Joined.{shown_more}
use Rattle.serial_meaning.proofs.Stores.{fitted-cells}
use Rattle.serial_meaning.proofs.store.push_cells.Goals as goal

pub loop-number-preserved : goal.loop-number-preserved
loop-number-preserved c =
    shown_more shown (product_in c.args.cells.now) (map shown c.args.places.now.items) c.loop-number.places.items
    c.push.new.self.items c.loop-number.number _
    c.loop-number.invariant c.in_ok-push.ensures.items c.in_ok-cell_at.ensures

pub returns : goal.returns
returns c =
    let front = map shown c.args.places.now.items in
    let all : c.loop-number.number ≡ c.args.count = omega arith in
    c.loop-number.invariant ∙ ap (λ n. front ++ map (product_in c.args.cells.now) (range_with_len 0 n)) all
    ∙ ap (λ them. front ++ them) (sym (fitted-cells c.args.count c.args.cells.now))
