use Rattle.std.proofs.Common.{false, ap, ◌∙◌, sym, Option}
use Rattle.std.specs.Option.{option_map_or}
use Rattle.clone_pools.specs.Loans.{Pool, is_lent, is_out}
use Rattle.clone_pools.proofs.Reading.{pool-inside, pool-shown}
use Rattle.clone_pools.proofs.pools.Pools.is_lent.Goals as goal

pub returns : goal.returns
unfolding is_lent
returns c =
    let it = c.args.self.now in
    let inside = c.self.inside in
    let at = pool-inside it inside.pools.items inside.units.items c.args.algorithm c.from.result c.index.result.now c.self.view_is c.from.ensures c.requires
    c.index.ensures in
    let shown = pool-shown it inside.pools.items inside.units.items c.args.algorithm c.from.result c.index.result.now c.self.view_is c.from.ensures at in
    c.is_out.ensures ∙ sym (ap (λ (o : Option Pool). option_map_or (λ p. is_out p c.args.clone) o false) shown)
