use Rattle.std.proofs.Common.{◌≡◌, ◌↔◌, Bool, true, false, not, List, [], ℕ, Option, Some, None, Bor, refl, ◌∙◌, sym}
use Rattle.std.specs.Option.{is_some}
use Rattle.text_model.specs.declared.bytes.TheConstants.{SPACE}
use Rattle.timeline.specs.Left.{left}
use Rattle.timeline.proofs.Cuts.{cut-some}
use Rattle.timeline.proofs.fields.Fields.is_empty.Goals as goal

none_left : (rest : Option (Bor (List ℕ))) (empty : Bool) (fields : List (List ℕ)) →
    is_some rest ≡ not empty → left rest ≡ fields →
    ((empty ≡ true) ↔ (fields ≡ []))
none_left None true fields h e = (λ it. sym e, λ it. refl)
none_left None false fields h e = absurd (cc)
none_left (Some text) true fields h e = absurd (cc)
none_left (Some text) false fields h e = (λ it. absurd (cc), λ it. absurd (cut-some SPACE text.now (e ∙ it)))

pub returns : goal.returns
returns c = none_left c.self.inside.rest c.is_none.result c.args.self.now c.is_none.ensures c.self.view_is
