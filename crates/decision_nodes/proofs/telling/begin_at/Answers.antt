use Rattle.std.proofs.Common.{List, ◌++◌, length, refl, slice_get, sym, ap, subst, ◌∙◌, arith}
use Rattle.decision_nodes.specs.Marks.{marked, sequences_of}
use Rattle.decision_nodes.specs.Standing.{Standing}
use Rattle.decision_nodes.specs.Telling.{IsUnderWay}
use Rattle.decision_nodes.specs.declared.edge.Edge.{Edge}
use Rattle.decision_nodes.proofs.Hearing.{same_length}
use Rattle.decision_nodes.proofs.Rising.{nothing_told, places_stand, some_there}
use Rattle.decision_nodes.proofs.telling.begin_at.Goals as goal

pub returns-then-is_open-clause-tells : goal.returns-then-is_open-clause-tells
returns-then-is_open-clause-tells c = λ top rest way.
    let nodes = c.args.nodes.now.items in
    let it = some_there nodes c.args.number (omega (arith, c.requires.number, c.requires.forest.all_parents, same_length nodes)) in
    nothing_told nodes c.args.outcomes.now c.args.parents.now c.args.number top rest it.0 (marked c.args.marks.now) c.requires.forest it.1
    (sym (c.is_open.ensures it.0 (ap (λ (them : List Standing). slice_get them c.args.number) c.as_slice.ensures.value ∙ it.1)) ∙ c.if-is_open.true) way

pub tell_all-requires-clause-places : goal.tell_all-requires-clause-places
tell_all-requires-clause-places c =
    places_stand (sequences_of c.args.nodes.now.items) (length c.args.outcomes.now) c.args.parents.now c.args.number c.args.number c.at.result.now
    c.requires.forest c.at.ensures refl

pub returns-clause-tells : goal.returns-clause-tells
returns-clause-tells c = λ top rest way.
    c.tell_all.ensures.tells top rest
    (subst (λ (them : List Edge). IsUnderWay c.args.nodes.now.items c.args.outcomes.now (them ++ rest) top (marked c.args.marks.now)) (sym c.at.ensures) way)
