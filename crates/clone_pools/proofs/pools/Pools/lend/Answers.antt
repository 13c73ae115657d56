use Rattle.std.proofs.Common.{ℕ, ◌+◌, List, true, false, ap, ◌∙◌, sym, get_or}
use Rattle.std.specs.Prelude.{slice_set}
use Rattle.clone_pools.specs.Loans.{with_loan}
use Rattle.clone_pools.specs.Units.{named}
use Rattle.clone_pools.proofs.Answering.{kept-pool, resources-lent, says-lent, says-no-memory, says-no-unit, says-not-free, tells-units}
use Rattle.clone_pools.proofs.Reading.{pool-inside, pool-shown, same-pool, with-pool}
use Rattle.clone_pools.proofs.Totals.{exclusive, lent-counted}
use Rattle.clone_pools.proofs.pools.Pools.lend.Goals as goal

pub returns-then-not-has_units-clause-says : goal.returns-then-not-has_units-clause-says
returns-then-not-has_units-clause-says c =
    let it = c.args.self.now in
    let pools = c.self.inside.pools.items in
    let units = c.self.inside.units.items in
    let p = c.index.result.now in
    let m = c.from-number.result in
    let at = pool-inside it pools units c.args.algorithm m p c.self.view_is c.from-number.ensures c.requires c.index.ensures in
    let shown = pool-shown it pools units c.args.algorithm m p c.self.view_is c.from-number.ensures at in
    let left = tells-units it pools units c.self.inside.left.items c.as_slice.result.now c.resources.result.now p p false c.self.view_is c.self.invariant
    c.as_slice.ensures.value c.resources.ensures (same-pool pools m p p at c.index.ensures) c.if-not-has_units.ensures in
    says-no-unit it c.args.algorithm c.args.place p shown left

pub invariant_of-self : goal.invariant_of-self
invariant_of-self c =
    let it = c.args.self.now in
    let pools = c.self.inside.pools.items in
    let units = c.self.inside.units.items in
    let p = c.index_mut.result.now in
    let m = c.from-number.result in
    let at = pool-inside it pools units c.args.algorithm m p c.self.view_is c.from-number.ensures c.requires c.index_mut.ensures.value in
    let same = resources-lent pools m p c.lend.new.self c.index-in-Lent.result.now c.resources-in-Lent.result.now c.in-Lent.lent.clone c.args.place at
    c.in-Lent.ensures.1 c.index-in-Lent.ensures c.resources-in-Lent.ensures in
    let taken = λ (r : ℕ).
    ap (λ (rs : List ℕ). get_or c.take_units.new.left.items r 0 + named r rs) (sym same) ∙ c.take_units.ensures.units r in
    let counted = lent-counted pools units c.self.inside.left.items c.take_units.new.left.items m p c.in-Lent.lent.clone c.args.place at c.in-Lent.ensures.0.free
    c.self.invariant c.take_units.ensures.length taken in
    rw c.in-Lent.ensures.1 counted

pub returns-in-Lent-clause-says : goal.returns-in-Lent-clause-says
returns-in-Lent-clause-says c =
    let it = c.args.self.now in
    let pools = c.self.inside.pools.items in
    let units = c.self.inside.units.items in
    let p = c.index_mut.result.now in
    let m = c.from-number.result in
    let at = pool-inside it pools units c.args.algorithm m p c.self.view_is c.from-number.ensures c.requires c.index_mut.ensures.value in
    let shown = pool-shown it pools units c.args.algorithm m p c.self.view_is c.from-number.ensures at in
    let left = tells-units it pools units c.self.inside.left.items c.as_slice.result.now c.resources.result.now p c.index.result.now true c.self.view_is c.self.invariant
    c.as_slice.ensures.value c.resources.ensures (same-pool pools m p c.index.result.now at c.index.ensures) c.if-not-has_units.ensures in
    says-lent it _ c.args.algorithm c.args.place p c.in-Lent.lent shown left c.in-Lent.ensures.0
    (with-pool it pools units c.args.algorithm m c.lend.new.self (with_loan p c.in-Lent.lent.clone c.args.place) c.self.view_is c.from-number.ensures
    c.in-Lent.ensures.1)

pub returns-in-Lent-clause-exclusive : goal.returns-in-Lent-clause-exclusive
returns-in-Lent-clause-exclusive c =
    let it = c.args.self.now in
    let pools = c.self.inside.pools.items in
    let units = c.self.inside.units.items in
    let p = c.index_mut.result.now in
    let m = c.from-number.result in
    let at = pool-inside it pools units c.args.algorithm m p c.self.view_is c.from-number.ensures c.requires c.index_mut.ensures.value in
    let same = resources-lent pools m p c.lend.new.self c.index-in-Lent.result.now c.resources-in-Lent.result.now c.in-Lent.lent.clone c.args.place at
    c.in-Lent.ensures.1 c.index-in-Lent.ensures c.resources-in-Lent.ensures in
    let taken = λ (r : ℕ).
    ap (λ (rs : List ℕ). get_or c.take_units.new.left.items r 0 + named r rs) (sym same) ∙ c.take_units.ensures.units r in
    let counted = lent-counted pools units c.self.inside.left.items c.take_units.new.left.items m p c.in-Lent.lent.clone c.args.place at c.in-Lent.ensures.0.free
    c.self.invariant c.take_units.ensures.length taken in
    rw c.in-Lent.ensures.1 (exclusive (slice_set pools m (with_loan p c.in-Lent.lent.clone c.args.place)) units c.take_units.new.left.items counted)

pub returns-in-NotFree-clause-says : goal.returns-in-NotFree-clause-says
returns-in-NotFree-clause-says c =
    let it = c.args.self.now in
    let pools = c.self.inside.pools.items in
    let units = c.self.inside.units.items in
    let p = c.index_mut.result.now in
    let m = c.from-number.result in
    let at = pool-inside it pools units c.args.algorithm m p c.self.view_is c.from-number.ensures c.requires c.index_mut.ensures.value in
    let shown = pool-shown it pools units c.args.algorithm m p c.self.view_is c.from-number.ensures at in
    says-not-free it _ c.args.algorithm c.args.place p shown c.in-NotFree.ensures.0
    (kept-pool it pools units m p c.lend.new.self c.self.view_is at c.in-NotFree.ensures.1)

pub returns-in-NoMemory-clause-says : goal.returns-in-NoMemory-clause-says
returns-in-NoMemory-clause-says c =
    let it = c.args.self.now in
    let pools = c.self.inside.pools.items in
    let units = c.self.inside.units.items in
    let p = c.index_mut.result.now in
    let m = c.from-number.result in
    let at = pool-inside it pools units c.args.algorithm m p c.self.view_is c.from-number.ensures c.requires c.index_mut.ensures.value in
    let shown = pool-shown it pools units c.args.algorithm m p c.self.view_is c.from-number.ensures at in
    let left = tells-units it pools units c.self.inside.left.items c.as_slice.result.now c.resources.result.now p c.index.result.now true c.self.view_is c.self.invariant
    c.as_slice.ensures.value c.resources.ensures (same-pool pools m p c.index.result.now at c.index.ensures) c.if-not-has_units.ensures in
    says-no-memory it _ c.args.algorithm c.args.place p shown left c.in-NoMemory.ensures.0
    (kept-pool it pools units m p c.lend.new.self c.self.view_is at c.in-NoMemory.ensures.1)
