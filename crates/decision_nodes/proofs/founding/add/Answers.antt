use Rattle.std.proofs.Common.{[], ◌∷◌, ◌++◌, length, set, ap, subst, ◌∙◌}
use Rattle.decision_nodes.specs.Index.{IsIn, places_at}
use Rattle.decision_nodes.proofs.Indexing.{adds_leaf, adds_parent}
use Rattle.decision_nodes.proofs.founding.add.Goals as goal

pub returns-in_ok-add-in-Alg : goal.returns-in_ok-add-in-Alg
returns-in_ok-add-in-Alg c =
    let leaves = c.args.index.now.leaves in
    let parents = c.args.index.now.parents in
    adds_leaf leaves parents c.add.new.self c.in-Alg.number c.args.edge c.args.member c.in-Alg.is
    (subst (IsIn (length leaves) (length parents)) c.in-Alg.is c.requires)
    (c.in_ok-add-in-Alg.ensures ∙ ap (λ k. set leaves k (places_at leaves k ++ c.args.edge ∷ [])) c.from.ensures)

pub returns-in_ok-add-in-Seq : goal.returns-in_ok-add-in-Seq
returns-in_ok-add-in-Seq c =
    let leaves = c.args.index.now.leaves in
    let parents = c.args.index.now.parents in
    adds_parent leaves parents c.add-in-Seq.new.self c.in-Seq.number c.args.edge c.args.member c.in-Seq.is
    (subst (IsIn (length leaves) (length parents)) c.in-Seq.is c.requires)
    (c.in_ok-add-in-Seq.ensures ∙ ap (λ k. set parents k (places_at parents k ++ c.args.edge ∷ [])) c.from-in-Seq.ensures)
