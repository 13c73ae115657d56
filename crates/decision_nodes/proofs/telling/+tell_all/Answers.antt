use Rattle.std.proofs.Common.{◌≡◌, ℕ, ◌+◌, ◌<◌, ◌≤◌, true, if◌then◌else◌, List, ◌++◌, length, get_or, sym, ap, subst, ◌∙◌, arith}
use Rattle.std.specs.List.{count_by}
use Rattle.hive_model.specs.declared.sequence.Member.{Member}
use Rattle.decision_nodes.specs.Index.{IsForest, IsPlace, places_at}
use Rattle.decision_nodes.specs.Marks.{marked, sequences_of}
use Rattle.decision_nodes.specs.Standing.{is_open}
use Rattle.decision_nodes.specs.Telling.{IsUnderWay}
use Rattle.decision_nodes.specs.declared.edge.Edge.{Edge}
use Rattle.decision_nodes.proofs.Rising.{among_at, places_stand, told_all, told_more}
use Rattle.decision_nodes.proofs.Standings.{get_within}
use Rattle.decision_nodes.proofs.telling.+tell_all.Goals as goal
use Rattle.decision_nodes.proofs.telling.+tell_all.Goals.{then-tell, else-tell}

pub tell-requires-clause-place : goal.tell-requires-clause-place
tell-requires-clause-place t c =
    let e : Edge = get_or c.args.edges.now c.loop-edge.edge-index (record { sequence = 0; place = 0 }) in
    subst (λ them. IsPlace them e) (sym c.loop-edge.invariant.same)
    (c.requires.places e (among_at c.args.edges.now c.loop-edge.edge-index (record { sequence = 0; place = 0 }) c.loop-edge-test.true))

pub at-above-requires : goal.at-above-requires
at-above-requires t c =
    let e : Edge = get_or c.args.edges.now c.loop-edge.edge-index (record { sequence = 0; place = 0 }) in
    let place = c.requires.places e (among_at c.args.edges.now c.loop-edge.edge-index (record { sequence = 0; place = 0 }) c.loop-edge-test.true) in
    let within = get_within (sequences_of c.args.nodes.now.items) e.sequence place.1.node place.1.there in
    omega (arith, within, c.requires.forest.all_parents, c.from.ensures)

pub tell_all-requires : goal.tell_all-requires
tell_all-requires t c =
    let e : Edge = get_or c.args.edges.now c.loop-edge.edge-index (record { sequence = 0; place = 0 }) in
    let same = c.tell.ensures.sequences ∙ c.loop-edge.invariant.same in
    let fewer : count_by is_open c.tell.new.nodes.items + 1 ≤ count_by is_open c.loop-edge.nodes.items =
    subst (λ b. count_by is_open c.tell.new.nodes.items + (if b then 1 else 0) ≤ count_by is_open c.loop-edge.nodes.items) c.if-tell.true c.tell.ensures.falls
    in
    let down : count_by is_open c.tell.new.nodes.items < t = omega (arith, fewer, c.loop-edge.invariant.less, c.decreases) in (
      down,
      (
        subst (λ them. IsForest them (length c.args.outcomes.now) c.args.parents.now) (sym same) c.requires.forest,
        places_stand (sequences_of c.tell.new.nodes.items) (length c.args.outcomes.now) c.args.parents.now e.sequence c.from.result c.at-above.result.now
            (subst (λ them. IsForest them (length c.args.outcomes.now) c.args.parents.now) (sym same) c.requires.forest) c.at-above.ensures c.from.ensures,
      ),
    )

pub loop-edge-preserved : goal.loop-edge-preserved
loop-edge-preserved t c =
    let d : Edge = record { sequence = 0; place = 0 } in
    let i : ℕ = c.loop-edge.edge-index in
    let edges = c.args.edges.now in
    let e : Edge = get_or edges i d in
    let parents = c.args.parents.now in
    let outcomes = c.args.outcomes.now in
    let now = c.loop-edge.invariant in
    let finish : (top : ℕ) (rest : List Edge) →
    IsUnderWay c.tell.new.nodes.items outcomes (if c.tell.result then places_at parents e.sequence ++ rest else rest) top (marked c.tell.new.marks) →
    IsUnderWay c.if-tell.nodes.items outcomes rest top (marked c.if-tell.marks) =
    elim c.if-tell.branch [
      | then-tell w ↦ λ top rest way.
          let list : w.at-above.result.now ≡ places_at parents e.sequence = w.at-above.ensures ∙ ap (places_at parents) w.from.ensures in
          let before : IsUnderWay c.tell.new.nodes.items outcomes (w.at-above.result.now ++ rest) top (marked c.tell.new.marks) =
          subst (λ them. IsUnderWay c.tell.new.nodes.items outcomes (them ++ rest) top (marked c.tell.new.marks)) (sym list)
          (subst (λ b. IsUnderWay c.tell.new.nodes.items outcomes (if b then places_at parents e.sequence ++ rest else rest) top (marked c.tell.new.marks)) w.if-tell.true way)
          in
          subst (λ it. IsUnderWay it.items outcomes rest top (marked c.if-tell.marks)) (sym w.nodes-is)
          (subst (λ it. IsUnderWay w.tell_all.new.nodes.items outcomes rest top (marked it)) (sym w.marks-is) (w.tell_all.ensures.tells top rest before))
      | else-tell w ↦ λ top rest way.
          let before : IsUnderWay c.tell.new.nodes.items outcomes rest top (marked c.tell.new.marks) =
          subst (λ b. IsUnderWay c.tell.new.nodes.items outcomes (if b then places_at parents e.sequence ++ rest else rest) top (marked c.tell.new.marks)) w.if-tell.false way
          in
          subst (λ it. IsUnderWay it.items outcomes rest top (marked c.if-tell.marks)) (sym w.nodes-is)
          (subst (λ it. IsUnderWay c.tell.new.nodes.items outcomes rest top (marked it)) (sym w.marks-is) before)
    ]
    in
    let same : sequences_of c.if-tell.nodes.items ≡ sequences_of c.tell.new.nodes.items =
    elim c.if-tell.branch [
      | then-tell w ↦ ap (λ it. sequences_of it.items) w.nodes-is ∙ w.tell_all.ensures.sequences
      | else-tell w ↦ ap (λ it. sequences_of it.items) w.nodes-is
    ]
    in
    let some : count_by is_open c.tell.new.nodes.items ≤ count_by is_open c.loop-edge.nodes.items = omega (arith, c.tell.ensures.falls) in
    let less : count_by is_open c.if-tell.nodes.items ≤ count_by is_open c.tell.new.nodes.items =
    elim c.if-tell.branch [
      | then-tell w ↦ omega (arith, w.tell_all.ensures.falls, ap (λ it. count_by is_open it.items) w.nodes-is)
      | else-tell w ↦ omega (arith, ap (λ it. count_by is_open it.items) w.nodes-is)
    ]
    in
    let more : (m : Member) → marked c.tell.new.marks m ≡ true → marked c.if-tell.marks m ≡ true =
    elim c.if-tell.branch [
      | then-tell w ↦ λ m h. ap (λ it. marked it m) w.marks-is ∙ w.tell_all.ensures.more m h
      | else-tell w ↦ λ m h. ap (λ it. marked it m) w.marks-is ∙ h
    ]
    in
    record {
      same = same ∙ c.tell.ensures.sequences ∙ now.same;
      less = omega (arith, less, some, now.less);
      more = λ m h. more m (c.tell.ensures.more m (now.more m h));
      tells = λ top rest way.
          told_more c.args.nodes.now.items c.loop-edge.nodes.items c.tell.new.nodes.items c.if-tell.nodes.items outcomes (length outcomes) parents edges i d
          c.tell.result (marked c.loop-edge.marks) (marked c.tell.new.marks) (marked c.if-tell.marks) c.loop-edge-test.true c.requires.forest now.same
          c.tell.ensures.tells finish top rest (now.tells top rest way);
    }

pub returns-clause-tells : goal.returns-clause-tells
returns-clause-tells t c = λ top rest way.
    told_all c.loop-edge.nodes.items c.args.outcomes.now c.args.edges.now rest c.loop-edge.edge-index top (marked c.loop-edge.marks)
    c.loop-edge-test.false (c.loop-edge.invariant.tells top rest way)
