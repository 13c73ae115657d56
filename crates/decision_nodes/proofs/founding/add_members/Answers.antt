use Rattle.std.proofs.Common.{ℕ, get_or, refl}
use Rattle.std.proofs.lemmas.Option.{slice_get-get_or}
use Rattle.hive_model.specs.declared.sequence.Member.{Member}
use Rattle.hive_model.specs.declared.sequence.Member.TheVariants.{Alg}
use Rattle.decision_nodes.specs.declared.edge.Edge.{Edge}
use Rattle.decision_nodes.proofs.Indexing.{adds_more}
use Rattle.decision_nodes.proofs.founding.add_members.Goals as goal

pub loop-place-preserved : goal.loop-place-preserved
loop-place-preserved c =
    let members = c.args.members.now in
    let place : ℕ = c.loop-place.place in
    let m : Member = get_or members place (Alg 0) in
    let e : Edge = record { sequence = c.args.sequence; place = place } in
    adds_more c.args.index.now.leaves c.args.index.now.parents c.loop-place.index.leaves c.loop-place.index.parents
    c.add.new.index.leaves c.add.new.index.parents c.args.sequence place members m e c.loop-place.invariant
    (slice_get-get_or members place (Alg 0) c.loop-place-test.true) refl c.in_ok-add.ensures
