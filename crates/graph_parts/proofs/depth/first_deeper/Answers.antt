use Rattle.std.proofs.Common.{◌≡◌, length, sym, ◌∙◌, ap, position, find, arith}
use Rattle.std.specs.List.{range_with_len}
use Rattle.text_model.specs.Walks.{is_deeper_than}
use Rattle.graph_parts.proofs.Deeper.{first-told, tell-none, tell-more}
use Rattle.graph_parts.specs.Links.{links}
use Rattle.graph_parts.proofs.depth.first_deeper.Goals as goal

pub loop-round-init : goal.loop-round-init
loop-round-init c = tell-none c.args.next.now c.in_ok-deeper.deeper.items c.in_ok-deeper.ensures

pub one_deeper-requires-clause-size : goal.one_deeper-requires-clause-size
one_deeper-requires-clause-size c = let e = c.loop-round.invariant.0 in omega arith

pub loop-round-preserved : goal.loop-round-preserved
loop-round-preserved c =
    tell-more c.args.next.now c.loop-round.deeper.items c.in_ok-deeper-2.deeper.items c.loop-round._round c.requires c.loop-round.invariant
    (c.in_ok-deeper-2.ensures ∙ rw c.as_slice.ensures.value)

pub returns-clause-first : goal.returns-clause-first
returns-clause-first c =
    let same : c.loop-round._round ≡ c.args.further = omega arith in
    c.first_set.ensures.first ∙ ap (position (λ flag. flag)) c.as_slice-2.ensures.value
    ∙ first-told (is_deeper_than (links c.args.next.now) c.loop-round._round) c.loop-round.deeper.items (length c.args.next.now) c.loop-round.invariant
    ∙ ap (λ further. find (is_deeper_than (links c.args.next.now) further) (range_with_len 0 (length c.args.next.now))) same
