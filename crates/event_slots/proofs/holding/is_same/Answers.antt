use Rattle.std.proofs.Common.{◌≡◌, sym, ap, ◌∙◌}
use Rattle.std.specs.Arc.{arc_value}
use Rattle.event_laws.proofs.Same.{products}
use Rattle.hive_model.specs.contracts.product.ProductPartialEq.TheImpl.{ghosts as of_products}
use Rattle.event_slots.proofs.holding.is_same.Goals as goal

pub returns : goal.returns
returns c =
    let product = c.args.product.now in
    let same = products (arc_value c.args.input.now) product in
    let is : c.eq.result ≡ of_products.eq (arc_value c.args.input.now) product =
    c.eq.ensures ∙ ap (λ x. of_products.eq x product) c.deref.ensures in
    (λ e. same.0 (sym is ∙ e), λ e. is ∙ same.1 e)
