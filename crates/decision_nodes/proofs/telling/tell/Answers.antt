use Rattle.std.proofs.Common.{◌≡◌, length, refl, slice_get, sym, ap, subst, ◌∙◌, arith}
use Rattle.hive_model.specs.Reached.{entered}
use Rattle.hive_model.specs.declared.sequence.Member.TheVariants.{Seq}
use Rattle.hive_model.specs.declared.limits.TheConstants.{MOST_DEPTH}
use Rattle.decision_nodes.specs.Index.{IsForest, IsIn}
use Rattle.decision_nodes.specs.Marks.{AreMarkedFrom, IsNested, Reaches, marked, sequences_of}
use Rattle.decision_nodes.specs.Standing.{Standing}
use Rattle.decision_nodes.proofs.Hearing.{HasTold, has_told, same_length, small_members, sequences_stay, stands_in}
use Rattle.decision_nodes.proofs.Standings.{get_within}
use Rattle.decision_nodes.proofs.telling.tell.Goals as goal

pub learn-requires-clause-member : goal.learn-requires-clause-member
learn-requires-clause-member c = λ m at.
    subst (λ k. IsIn (length c.args.outcomes.now) k m) (same_length c.args.nodes.now.items) (c.requires.forest.1.members c.args.edge m at)

pub enter_further-requires-clause-nested : goal.enter_further-requires-clause-nested
enter_further-requires-clause-nested c =
    let nodes = c.args.nodes.now.items in
    let place = c.requires.place in
    let it = stands_in nodes c.args.edge place.0 place.1 in
    let same : sequences_of c.as_slice-3.result.now ≡ sequences_of nodes =
    ap sequences_of (c.as_slice-3.ensures.value ∙ c.learn.ensures it.0 place.0 it.1) ∙ sequences_stay nodes c.args.edge.sequence it.0 _ it.1.there refl
    in
    subst (λ them. IsNested MOST_DEPTH them (Seq c.args.edge.sequence)) (sym same)
    (c.requires.forest.1.nested c.args.edge.sequence (get_within (sequences_of nodes) c.args.edge.sequence place.1.node place.1.there))

pub enter_further-requires-clause-small : goal.enter_further-requires-clause-small
enter_further-requires-clause-small c =
    let nodes = c.args.nodes.now.items in
    let place = c.requires.place in
    let it = stands_in nodes c.args.edge place.0 place.1 in
    let same : sequences_of c.as_slice-3.result.now ≡ sequences_of nodes =
    ap sequences_of (c.as_slice-3.ensures.value ∙ c.learn.ensures it.0 place.0 it.1) ∙ sequences_stay nodes c.args.edge.sequence it.0 _ it.1.there refl
    in
    small_members c.as_slice-3.result.now (length c.args.outcomes.now) c.requires.forest.0
    (subst (λ them. IsForest them (length c.args.outcomes.now) c.requires.forest.0) (sym same) c.requires.forest.1)

pub enter_further-requires-clause-number : goal.enter_further-requires-clause-number
enter_further-requires-clause-number c =
    let place = c.requires.place in
    let within = get_within (sequences_of c.args.nodes.now.items) c.args.edge.sequence place.1.node place.1.there in
    let few = c.requires.forest.1.few_sequences in
    omega (arith, within, few)

pub is_open-requires : goal.is_open-requires
is_open-requires c =
    let nodes = c.args.nodes.now.items in
    let place = c.requires.place in
    let it = stands_in nodes c.args.edge place.0 place.1 in
    let same : sequences_of c.as_slice-4.result.now ≡ sequences_of nodes =
    ap sequences_of (c.as_slice-4.ensures.value ∙ c.learn.ensures it.0 place.0 it.1) ∙ sequences_stay nodes c.args.edge.sequence it.0 _ it.1.there refl
    in
    let within = get_within (sequences_of nodes) c.args.edge.sequence place.1.node place.1.there in
    let long = ap length same in
    let count = same_length c.as_slice-4.result.now in
    omega (arith, within, long, count)

pub returns : goal.returns
returns c =
    let nodes = c.args.nodes.now.items in
    let place = c.requires.place in
    let e = c.args.edge in
    let it = stands_in nodes e place.0 place.1 in
    let n = it.0 in
    let here : c.node_at.result.now ≡ n = cc (c.node_at.ensures, ap (λ them. slice_get them e.sequence) c.as_slice.ensures.value, it.1.there) in
    let all : HasTold nodes c.args.outcomes.now e c.is_closed_by.result c.learn.new.nodes.items (marked c.args.marks.now) (marked c.enter_further.new.marks) =
    has_told nodes c.learn.new.nodes.items c.args.outcomes.now e n place.0 c.is_closed_by.result c.is_open-was_open.result c.is_open.result
    c.entered-entered.result (marked c.args.marks.now) (marked c.enter_further.new.marks) it.1 (c.learn.ensures n place.0 it.1)
    c.is_closed_by.ensures
    (c.is_open-was_open.ensures n (ap (λ them. slice_get them e.sequence) c.as_slice-2.ensures.value ∙ it.1.there))
    (λ k at. c.is_open.ensures k (ap (λ them. slice_get them e.sequence) c.as_slice-4.ensures.value ∙ at))
    (c.entered-entered.ensures.count ∙ ap (λ (x : Standing). length (entered x.sequence x.states)) here)
    (subst (λ them. Reaches them (marked c.args.marks.now) (marked c.enter_further.new.marks)) c.as_slice-3.ensures.value c.enter_further.ensures.reaches)
    (λ h. subst (λ them. AreMarkedFrom them (marked c.enter_further.new.marks) e.sequence c.entered-entered.result) c.as_slice-3.ensures.value
    (c.enter_further.ensures.entered h))
    in
    record { sequences = all.same; tells = all.tells; falls = all.falls; more = c.enter_further.ensures.reaches.more }
