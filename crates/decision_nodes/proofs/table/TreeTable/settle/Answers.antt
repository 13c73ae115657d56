use Rattle.std.proofs.Common.{◌≡◌, ℕ, Some, None, [], ◌++◌, length, set, length-set, slice_get, refl, sym, ap, subst, ◌∙◌, arith}
use Rattle.std.specs.List.{list_any}
use Rattle.hive_model.specs.Sequence.{Sequence}
use Rattle.hive_model.specs.declared.sequence.Member.TheVariants.{Alg, Seq}
use Rattle.decision_nodes.specs.Index.{IsAmong}
use Rattle.decision_nodes.specs.Marks.{marked}
use Rattle.decision_nodes.specs.Telling.{IsUnderWay}
use Rattle.decision_nodes.specs.Tree.{Tree}
use Rattle.decision_nodes.proofs.Beginning.{difference, settling, table_with}
use Rattle.decision_nodes.proofs.Hearing.{same_length}
use Rattle.decision_nodes.proofs.Meaning.{table_reached}
use Rattle.decision_nodes.proofs.table.TreeTable.settle.Goals as goal

pub tell_all-requires-clause-places : goal.tell_all-requires-clause-places
tell_all-requires-clause-places c = λ e among.
    (Alg c.from-number.result, c.self.invariant.0.leaves_right e c.from-number.result (subst (IsAmong e) c.at-places.ensures among))

pub invariant_of-self : goal.invariant_of-self
invariant_of-self c =
    let nodes = c.self.inside.nodes.items in
    let outcomes = c.self.inside.outcomes.items in
    let leaves = c.self.inside.leaves in
    let a : ℕ = c.from-number.result in
    let top : ℕ = c.self.inside.top in
    let marks = marked c.self.inside.marks in
    let others = set outcomes a (Some c.args.outcome.now) in
    let unsettled : slice_get outcomes a ≡ Some None =
    ap (slice_get outcomes) c.from-number.ensures ∙ ap (λ (t : Tree). slice_get t.outcomes c.args.algorithm) c.self.view_is ∙ c.requires
    in
    let before = settling nodes outcomes leaves c.self.inside.parents top a c.args.outcome.now marks c.self.invariant.0 unsettled in
    let started : IsUnderWay nodes c.as_slice.result.now (c.at-places.result.now ++ []) top marks =
    subst (λ them. IsUnderWay nodes them (c.at-places.result.now ++ []) top marks) (sym c.as_slice.ensures.value)
    (subst (λ them. IsUnderWay nodes others (them ++ []) top marks) (sym c.at-places.ensures) before)
    in
    let after : IsUnderWay c.tell_all.new.nodes.items others [] top (marked c.tell_all.new.marks) =
    subst (λ them. IsUnderWay c.tell_all.new.nodes.items them [] top (marked c.tell_all.new.marks)) c.as_slice.ensures.value
    (c.tell_all.ensures.tells top [] started)
    in
    let same = c.tell_all.ensures.sequences in
    let long = ap length same in (
      table_with nodes c.tell_all.new.nodes.items leaves c.self.inside.parents outcomes others top marks (marked c.tell_all.new.marks) c.self.invariant.0 same
          (length-set outcomes a (Some c.args.outcome.now))
          (omega (arith, long, same_length nodes, same_length c.tell_all.new.nodes.items)) after
          (c.tell_all.ensures.more (Seq top) c.self.invariant.0.top_marked),
      c.self.invariant.1 ∙ ap (list_any (λ (q : Sequence). q.cut)) (sym same),
    )

pub returns-clause-reached : goal.returns-clause-reached
returns-clause-reached c = λ a.
    let new = invariant_of-self c in
    difference (c.without.ensures a)
    (table_reached c.tell_all.new.nodes.items c.self.inside.leaves c.self.inside.parents
    (set c.self.inside.outcomes.items c.from-number.result (Some c.args.outcome.now)) c.self.inside.top (marked c.tell_all.new.marks) new.0
    _ refl a)
    (table_reached c.self.inside.nodes.items c.self.inside.leaves c.self.inside.parents c.self.inside.outcomes.items c.self.inside.top
    (marked c.self.inside.marks) c.self.invariant.0 c.args.self.now (sym c.self.view_is) a)
