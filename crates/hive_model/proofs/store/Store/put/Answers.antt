use Rattle.std.proofs.Common.{◌∙◌, ap, Some, slice_set}
use Rattle.std.proofs.lemmas.List.{map-set}
use Rattle.hive_model.specs.Store.{shown}
use Rattle.hive_model.specs.contracts.store.Store.{the_view}
use Rattle.hive_model.proofs.store.Store.put.Goals as goal

pub returns : goal.returns
returns c =
    map-set shown c.self.inside.0.items c.from-place.result (Some c.args.product)
    ∙ ap (λ n. slice_set (the_view c.self.inside) n (shown (Some c.args.product))) c.from-place.ensures
    ∙ ap (λ xs. slice_set xs c.args.handle (shown (Some c.args.product))) c.self.view_is
