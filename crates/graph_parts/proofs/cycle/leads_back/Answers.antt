use Rattle.std.proofs.Common.{◌≡◌, ◌<◌, ◌≤◌, ◌∷◌, [], ◌++◌, List, ℕ, length, get_or, sym, ap, ◌∙◌, arith}
use Rattle.std.proofs.lemmas.List.{get_or_read}
use Rattle.text_model.specs.Walks.{is_on_cycle}
use Rattle.graph_parts.proofs.Searching.{links-at, searched-none, searched-more-by, searched-back-by, searched-never, searched-few}
use Rattle.graph_parts.specs.Links.{links}
use Rattle.graph_parts.proofs.cycle.leads_back.Goals as goal

pub loop-at-init : goal.loop-at-init
loop-at-init c =
    searched-none c.args.next.now c.args.from c.in_ok-seen.seen.items c.push.new.self.items c.requires.from
    c.in_ok-seen.ensures (c.in_ok-push.ensures.items ∙ ap (λ (them : List ℕ). them ++ (c.args.from ∷ [])) c.in_ok-found.ensures.items)

pub returns-then-at-len-clause-back : goal.returns-then-at-len-clause-back
returns-then-at-len-clause-back c =
    sym (searched-never c.args.next.now c.args.from c.loop-at.at c.loop-at.seen.items c.loop-at.found.items c.loop-at.invariant (omega arith) (length c.args.next.now))

pub returns-then-at-len-clause-never : goal.returns-then-at-len-clause-never
returns-then-at-len-clause-never c = λ e steps.
    searched-never c.args.next.now c.args.from c.loop-at.at c.loop-at.seen.items c.loop-at.found.items c.loop-at.invariant (omega arith) steps

pub returns-then-branch-clause-back : goal.returns-then-branch-clause-back
returns-then-branch-clause-back c =
    searched-back-by c.args.next.now c.args.from c.loop-at.at c.loop-at.seen.items c.loop-at.found.items c.index-next-number.result c.as_slice.result.now
    c.loop-at.invariant (omega arith) c.loop-at-test.true (c.index-next-number.is ∙ ap (λ n. get_or c.args.next.now n c.index-next-number.result)
    (get_or_read c.loop-at.found.items c.loop-at.at c.index-number.result.now (omega arith) c.index-number.ensures 0)) c.as_slice.ensures.value
    (c.in_ok-follow.ensures.back c.if-branch.true)

pub loop-at-preserved : goal.loop-at-preserved
loop-at-preserved c =
    searched-more-by c.args.next.now c.args.from c.loop-at.at c.loop-at.seen.items c.follow.new.seen.items c.loop-at.found.items c.follow.new.found.items
    c.index-next-number.result c.as_slice.result.now c.requires.within
    c.loop-at.invariant (omega arith) (c.index-next-number.is ∙ ap (λ n. get_or c.args.next.now n c.index-next-number.result)
    (get_or_read c.loop-at.found.items c.loop-at.at c.index-number.result.now (omega arith) c.index-number.ensures 0)) c.as_slice.ensures.value
    (c.in_ok-follow.ensures.follows c.if-branch.false)

pub returns-clause-back : goal.returns-clause-back
returns-clause-back c =
    sym (searched-never c.args.next.now c.args.from c.loop-at.at c.loop-at.seen.items c.loop-at.found.items c.loop-at.invariant
    (let few = searched-few c.args.next.now c.args.from c.loop-at.at c.loop-at.seen.items c.loop-at.found.items c.loop-at.invariant in omega (arith, few))
    (length c.args.next.now))

pub returns-clause-never : goal.returns-clause-never
returns-clause-never c = λ e steps.
    searched-never c.args.next.now c.args.from c.loop-at.at c.loop-at.seen.items c.loop-at.found.items c.loop-at.invariant
    (let few = searched-few c.args.next.now c.args.from c.loop-at.at c.loop-at.seen.items c.loop-at.found.items c.loop-at.invariant in omega (arith, few)) steps
