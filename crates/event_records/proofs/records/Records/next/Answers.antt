-- Where no line was there and nothing was refused, none is taken.
use Rattle.std.proofs.Common.{◌≡◌, ℕ, Bool, List, [], ◌∷◌, Option, None, IfSome, true, false, ap, refl, subst, sym, ◌∙◌}
use Rattle.text_model.specs.Lines.{lines}
use Rattle.text_model.specs.declared.record_refusal.RecordRefusal.{RecordRefusal}
use Rattle.event_records.specs.Reading.{Reading, standing_at_rest, standing_by}
use Rattle.event_records.specs.declared.next.Next.{Next}
use Rattle.event_records.proofs.records.Records.next.Goals as goal

by_lines : (ended header : Bool) (found : List (List ℕ)) (P : Next → Type 0) → (found ≡ [] → IfSome (standing_at_rest ended header []) P) →
    IfSome (standing_at_rest ended header found) P
by_lines ended header [] P h = h refl
by_lines false header (line ∷ found) P h = tt
by_lines true header (line ∷ found) P h = by header
  where
    by : (t : Bool) → IfSome (standing_at_rest true t (line ∷ found)) P
    by true = tt
    by false = tt

pub returns-clause-stands : goal.returns-clause-stands
returns-clause-stands c =
    let old = c.args.self.now in
    let unrefused : old.refusal ≡ None = ap (λ (r : Reading). r.refusal) (sym c.self.view_is) ∙ c.in_default.is in
    let reached = c.read-reached.ensures in
    let same : Next → Type 0 = λ answer. (c.settle.result ≡ answer) × (c.settle.new.self ≡ old) in
    subst (λ (refusal : Option RecordRefusal). IfSome (standing_by refusal old) same) (sym unrefused)
    (by_lines old.ended old.before.header (lines old.ended old.pending) same
    (λ none. let is = reached.rests none in c.settle.ensures.stands is.0 is.1 is.2))
