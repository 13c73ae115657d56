-- A line with another number of fields than its word asks for.
use Rattle.std.proofs.Common.{◌≡◌, ◌≢◌, ℕ, List, [], ◌∷◌, length, Err, refl}
use Rattle.text_model.specs.TimelineRead.{admit_of, back_of, claim_of, last_of, outcome_of, retire_of}
use Rattle.text_model.specs.declared.timeline_refusal.TimelineCause.TheVariants.{Fields}

pub admit_few : (fields : List (List ℕ)) → length fields ≢ 2 → admit_of fields ≡ Err Fields
unfolding admit_of
admit_few [] h = refl
admit_few (slot ∷ []) h = refl
admit_few (slot ∷ place ∷ []) h = absurd (h refl)
admit_few (slot ∷ place ∷ other ∷ others) h = refl

pub claim_few : (fields : List (List ℕ)) → length fields ≢ 4 → claim_of fields ≡ Err Fields
unfolding claim_of
claim_few [] h = refl
claim_few (slot ∷ []) h = refl
claim_few (slot ∷ algorithm ∷ []) h = refl
claim_few (slot ∷ algorithm ∷ clone ∷ []) h = refl
claim_few (slot ∷ algorithm ∷ clone ∷ worker ∷ []) h = absurd (h refl)
claim_few (slot ∷ algorithm ∷ clone ∷ worker ∷ other ∷ others) h = refl

pub back_few : (fields : List (List ℕ)) → length fields ≢ 1 → back_of fields ≡ Err Fields
unfolding back_of
back_few [] h = refl
back_few (ticket ∷ []) h = absurd (h refl)
back_few (ticket ∷ other ∷ others) h = refl

pub retire_few : (fields : List (List ℕ)) → length fields ≢ 1 → retire_of fields ≡ Err Fields
unfolding retire_of
retire_few [] h = refl
retire_few (slot ∷ []) h = absurd (h refl)
retire_few (slot ∷ other ∷ others) h = refl

pub last_more : (fields : List (List ℕ)) → fields ≢ [] → last_of fields ≡ Err Fields
unfolding last_of
last_more [] h = absurd (h refl)
last_more (field ∷ fields) h = refl

pub outcome_few : (word : List ℕ) (fields : List (List ℕ)) → fields ≢ [] → length fields ≢ 2 →
    outcome_of (word ∷ fields) ≡ Err Fields
unfolding outcome_of
outcome_few word [] h k = absurd (h refl)
outcome_few word (place ∷ []) h k = refl
outcome_few word (place ∷ fault ∷ []) h k = absurd (k refl)
outcome_few word (place ∷ fault ∷ other ∷ others) h k = refl
