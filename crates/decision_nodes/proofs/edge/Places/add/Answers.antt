use Rattle.std.proofs.Common.{◌≡◌, List, [], ◌∷◌, ◌++◌, length, set, get_or, sym, ap, ◌∙◌, subst, arith}
use Rattle.std.specs.Result.{OnOk}
use Rattle.decision_nodes.specs.Index.{items_of}
use Rattle.decision_nodes.specs.declared.edge.Edge.{Edge}
use Rattle.decision_nodes.proofs.Indexing.{added_list}
use Rattle.decision_nodes.proofs.edge.Places.add.Goals as goal
use Rattle.decision_nodes.proofs.edge.Places.add.Goals.{in-Ok, in-Err}

pub returns : goal.returns
returns c =
    elim c.match-push.branch [
      | in-Ok w ↦
          subst (λ r. OnOk r (items_of (set c.self.inside.lists.items c.args.number c.push.new.self) ≡ set c.args.self.now c.args.number (get_or c.args.self.now c.args.number [] ++ c.args.edge ∷ [])))
          (sym w.result-is)
          (added_list c.self.inside.lists.items c.args.number c.index_mut-list.result.now c.push.new.self c.args.edge c.index_mut-list.ensures.value
          (omega (arith, ap (λ (them : List (List Edge)). length them) c.self.view_is, c.requires)) w.in-Ok.ensures.ok
          ∙ ap (λ (them : List (List Edge)). set them c.args.number (get_or them c.args.number [] ++ c.args.edge ∷ [])) c.self.view_is)
      | in-Err w ↦
          subst (λ r. OnOk r (items_of (set c.self.inside.lists.items c.args.number c.push.new.self) ≡ set c.args.self.now c.args.number (get_or c.args.self.now c.args.number [] ++ c.args.edge ∷ [])))
          (sym w.result-is) tt
    ]
