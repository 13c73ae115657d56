-- The holder raises the count by what the history grew, and knows the value's history from then on.
use Rattle.std.proofs.Common.{◌≡◌, ℕ, ◌-◌, ◌<◌, List, ◌++◌, length, All, sym, ap, ◌∙◌, subst, arith}
use Rattle.std.specs.List.{range_with_len}
use Rattle.turn_lock.specs.History.{added}
use Rattle.turn_lock.specs.Pass.{held}
use Rattle.turn_lock.specs.View.{ready}
use Rattle.turn_lock.proofs.Positions.{own-inside}
use Rattle.turn_lock.proofs.Prefixes.{follows_prefix, prefix-length}
use Rattle.turn_lock.proofs.CountSteps.{filled, released}
use Rattle.turn_lock.proofs.turn.Turn.release.Goals as goal
use Rattle.turn_lock.proofs.turn.Turn.release.Goals.{After-pass_on}

pub raise-requires-clause-holds : goal.raise-requires-clause-holds
raise-requires-clause-holds g c =
    let holding = c.requires.pass.1 in
    let before = c.args.pass.now.seat.me in
    let after = c.exchange-empty.new.seat.me in
    let now = filled before after c.args.value _ _ holding.stage holding.slot c.exchange-empty.ensures.3 in
    let grows = follows_prefix _ _ c.requires.history in
    let longer = prefix-length _ _ grows in
    let count = holding.count in
    let items = c.items.ensures in record {
      ticket = holding.ticket;
      known = held c.args.pass.now;
      value = c.args.value;
      stage = now.0;
      slot = now.1;
      grows = grows;
      count = omega arith;
      small = c.requires.fits;
    }

pub pass_on-requires-clause-holds : goal.pass_on-requires-clause-holds
pass_on-requires-clause-holds g c =
    let holding = c.requires.pass.1 in
    let before = c.args.pass.now.seat.me in
    let after = c.exchange-empty.new.seat.me in
    let now = filled before after c.args.value _ _ holding.stage holding.slot c.exchange-empty.ensures.3 in
    let raised = c.raise.ensures.counts holding.ticket _ c.args.value now.0 now.1 in
    (holding.ticket, c.args.value, ap (λ v. v.stage) raised.0, raised.1 ∙ now.1)

-- what the pass knows at the end
knows : (g : _) (c : goal.After-pass_on g)
    → (c.pass_on.new.seat.me.0.rights ≡ c.args.pass.now.seat.me.0.rights)
    × (c.pass_on.new.seat.me.0.seen ≡ g.V.Kept.list c.args.value)
    × (c.pass_on.new.seat.me.0.own
    ≡ c.args.pass.now.seat.me.0.own ++ added (held c.args.pass.now) (g.V.Kept.list c.args.value))
knows g c =
    let holding = c.requires.pass.1 in
    let history = g.V.Kept.list c.args.value in
    let before = c.args.pass.now.seat.me in
    let after = c.exchange-empty.new.seat.me in
    let was = c.exchange-empty.ensures.3 in
    let now = filled before after c.args.value _ _ holding.stage holding.slot was in
    let raised = c.raise.ensures.counts holding.ticket _ c.args.value now.0 now.1 in
    let first : ℕ = length (held c.args.pass.now) in
    let more : c.items.result - c.args.pass.now.count ≡ length history - first =
    λ i. c.items.ensures i - holding.count i in
    let is = raised.0 ∙ λ i. ready holding.ticket history (range_with_len first (more i)) (was i).0 in
    released before.0 _ _ holding.ticket history _ is c.pass_on.ensures.idle

pub invariant_of-pass : goal.invariant_of-pass
invariant_of-pass g c =
    let k = knows g c in
    let pass = c.args.pass.now in
    let history = g.V.Kept.list c.args.value in
    let seen = prefix-length _ _ c.requires.pass.1.seen in
    let grows = prefix-length _ _ (follows_prefix _ _ c.requires.history) in
    let inside : All (λ p. p < length history) (pass.seat.me.0.own ++ added (held pass) history) =
    own-inside pass.seat.me.0.own _ _ _ _ pass.inside (omega arith) (omega arith) in
    let Inside = λ (x : List g.row.V-Item.Denot × List ℕ). All (λ p. p < length x.0) x.1 in record {
      rights_are = pass.rights_are ∙ sym k.0;
      some = pass.some;
      inside = subst Inside (λ i. (sym k.1 i, sym k.2 i)) inside;
    }

pub returns-clause-seen : goal.returns-clause-seen
returns-clause-seen g c = (knows g (goal.at.returns-clause-seen g c).After-pass_on).1

pub returns-clause-own : goal.returns-clause-own
returns-clause-own g c = (knows g (goal.at.returns-clause-own g c).After-pass_on).2
