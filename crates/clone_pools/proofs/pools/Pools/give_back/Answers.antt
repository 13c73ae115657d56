use Rattle.std.proofs.Common.{◌≡◌, ℕ, ◌+◌, List, Option, false, ap, ◌∙◌, sym, subst, get_or}
use Rattle.std.specs.Prelude.{IsSomeAnd, slice_set}
use Rattle.std.specs.Option.{option_map_or}
use Rattle.clone_pools.specs.Lending.{ServesOne}
use Rattle.clone_pools.specs.Loans.{Pool, is_lent, is_out, without_loan}
use Rattle.clone_pools.specs.Units.{named}
use Rattle.clone_pools.proofs.Reading.{given-back, pool-inside, pool-shown, same-pool, some-within, with-pool}
use Rattle.clone_pools.proofs.Totals.{back-counted, exclusive}
use Rattle.clone_pools.proofs.pools.Pools.give_back.Goals as goal

pub give_back-requires-clause-out : goal.give_back-requires-clause-out
unfolding is_lent
give_back-requires-clause-out c =
    let it = c.args.self.now in
    let n = c.args.lent.algorithm in
    let p = c.index_mut.result.now in
    let at = pool-inside it c.self.inside.pools.items c.self.inside.units.items n c.from-number.result p c.self.view_is c.from-number.ensures
    (some-within it.pools n (λ p. ServesOne p c.args.lent.scratch) c.requires.made_for) c.index_mut.ensures.value in
    let shown = pool-shown it c.self.inside.pools.items c.self.inside.units.items n c.from-number.result p c.self.view_is c.from-number.ensures at in
    sym (ap (λ (o : Option Pool). option_map_or (λ p. is_out p c.args.lent.clone) o false) shown) ∙ c.requires.out

pub give_back-requires-clause-made_for : goal.give_back-requires-clause-made_for
give_back-requires-clause-made_for c =
    let it = c.args.self.now in
    let n = c.args.lent.algorithm in
    let p = c.index_mut.result.now in
    let at = pool-inside it c.self.inside.pools.items c.self.inside.units.items n c.from-number.result p c.self.view_is c.from-number.ensures
    (some-within it.pools n (λ p. ServesOne p c.args.lent.scratch) c.requires.made_for) c.index_mut.ensures.value in
    let shown = pool-shown it c.self.inside.pools.items c.self.inside.units.items n c.from-number.result p c.self.view_is c.from-number.ensures at in
    subst (λ (o : Option Pool). IsSomeAnd o (λ p. ServesOne p c.args.lent.scratch)) shown c.requires.made_for

pub invariant_of-self : goal.invariant_of-self
unfolding is_lent
invariant_of-self c =
    let it = c.args.self.now in
    let n = c.args.lent.algorithm in
    let p = c.index_mut.result.now in
    let at = pool-inside it c.self.inside.pools.items c.self.inside.units.items n c.from-number.result p c.self.view_is c.from-number.ensures
    (some-within it.pools n (λ p. ServesOne p c.args.lent.scratch) c.requires.made_for) c.index_mut.ensures.value in
    let shown = pool-shown it c.self.inside.pools.items c.self.inside.units.items n c.from-number.result p c.self.view_is c.from-number.ensures at in
    let out = sym (ap (λ (o : Option Pool). option_map_or (λ p. is_out p c.args.lent.clone) o false) shown) ∙ c.requires.out in
    let same : c.resources.result.now ≡ p.resources =
    c.resources.ensures ∙ ap (λ (q : Pool). q.resources) (same-pool c.self.inside.pools.items c.from-number.result p c.index.result.now at c.index.ensures) in
    let given = λ (r : ℕ). c.give_units.ensures.units r ∙ ap (λ (rs : List ℕ). get_or c.self.inside.left.items r 0 + named r rs) same in
    rw c.give_back.ensures
    (back-counted c.self.inside.pools.items c.self.inside.units.items c.self.inside.left.items c.give_units.new.left.items c.from-number.result p c.args.lent.clone
    at out c.self.invariant c.give_units.ensures.length given)

pub returns-clause-exclusive : goal.returns-clause-exclusive
unfolding is_lent
returns-clause-exclusive c =
    let it = c.args.self.now in
    let n = c.args.lent.algorithm in
    let p = c.index_mut.result.now in
    let at = pool-inside it c.self.inside.pools.items c.self.inside.units.items n c.from-number.result p c.self.view_is c.from-number.ensures
    (some-within it.pools n (λ p. ServesOne p c.args.lent.scratch) c.requires.made_for) c.index_mut.ensures.value in
    let shown = pool-shown it c.self.inside.pools.items c.self.inside.units.items n c.from-number.result p c.self.view_is c.from-number.ensures at in
    let out = sym (ap (λ (o : Option Pool). option_map_or (λ p. is_out p c.args.lent.clone) o false) shown) ∙ c.requires.out in
    let same : c.resources.result.now ≡ p.resources =
    c.resources.ensures ∙ ap (λ (q : Pool). q.resources) (same-pool c.self.inside.pools.items c.from-number.result p c.index.result.now at c.index.ensures) in
    let given = λ (r : ℕ). c.give_units.ensures.units r ∙ ap (λ (rs : List ℕ). get_or c.self.inside.left.items r 0 + named r rs) same in
    rw c.give_back.ensures
    (exclusive (slice_set c.self.inside.pools.items c.from-number.result (without_loan p c.args.lent.clone)) c.self.inside.units.items c.give_units.new.left.items
    (back-counted c.self.inside.pools.items c.self.inside.units.items c.self.inside.left.items c.give_units.new.left.items c.from-number.result p c.args.lent.clone
    at out c.self.invariant c.give_units.ensures.length given))

pub returns-clause-back : goal.returns-clause-back
returns-clause-back c =
    let it = c.args.self.now in
    let n = c.args.lent.algorithm in
    let p = c.index_mut.result.now in
    let at = pool-inside it c.self.inside.pools.items c.self.inside.units.items n c.from-number.result p c.self.view_is c.from-number.ensures
    (some-within it.pools n (λ p. ServesOne p c.args.lent.scratch) c.requires.made_for) c.index_mut.ensures.value in
    let shown = pool-shown it c.self.inside.pools.items c.self.inside.units.items n c.from-number.result p c.self.view_is c.from-number.ensures at in
    given-back it _ c.args.lent p shown
    (with-pool it c.self.inside.pools.items c.self.inside.units.items n c.from-number.result c.give_back.new.self (without_loan p c.args.lent.clone) c.self.view_is
    c.from-number.ensures c.give_back.ensures)
