-- What is read was written: the fields that are read as an entry are those that it is written as.
use Rattle.std.proofs.Common.{◌≡◌, ℕ, nat_eq, Bool, true, false, if◌then◌else◌, List, [], ◌∷◌, codes, Option, Some, None, Result, Ok, Err, find, subst, refl, ap, sym, ◌∙◌, arith}
use Rattle.std.proofs.lemmas.Bool.{and_parts, eqb-true}
use Rattle.std.specs.List.{AllByRecursion}
use Rattle.hive_model.specs.Same.{same_text}
use Rattle.hive_model.specs.declared.entry.Entry.{Entry}
use Rattle.hive_model.specs.declared.entry.Entry.TheVariants.{Admit, Claim, Done, Back, Retire, Last}
use Rattle.hive_model.specs.declared.outcome.Fault.{Fault}
use Rattle.hive_model.specs.declared.outcome.Outcome.{Outcome}
use Rattle.hive_model.specs.declared.outcome.Outcome.TheVariants.{Accepted, Rejected, Failed}
use Rattle.hive_model.specs.declared.outcome.Place.{Place}
use Rattle.hive_model.specs.declared.outcome.Place.TheVariants.{Output, Filter}
use Rattle.text_model.specs.Report.{fault_word}
use Rattle.text_model.specs.Steps.{◌>>=◌, or_refuse}
use Rattle.text_model.specs.Timeline.{FitsClone, FitsFields, FitsOutcome, clone_word, entry_words, nothing, outcome_words, place_number}
use Rattle.text_model.specs.TimelineRead.{Reader, admit_of, back_of, claim_of, clone_of, done_of, entry_of, fault_of, faults, last_of, number_of_bits, outcome_of, place_of, readers, retire_of}
use Rattle.text_model.specs.declared.timeline_refusal.TimelineCause.{TimelineCause}
use Rattle.text_model.specs.declared.timeline_refusal.TimelineCause.TheVariants.{Word, Fields}
use Rattle.timeline.proofs.Numbers.{number_back}

pub same_bytes : (xs ys : List ℕ) → same_text xs ys ≡ true → xs ≡ ys
same_bytes [] [] h = refl
same_bytes [] (y ∷ ys) h = absurd (cc)
same_bytes (x ∷ xs) [] h = absurd (cc)
same_bytes (x ∷ xs) (y ∷ ys) h =
    let both = and_parts (nat_eq x y) (same_text xs ys) h in
    let first : x ≡ y = eqb-true x y both.0 in
    let others : xs ≡ ys = same_bytes xs ys both.1 in
    cc

-- single fields

clone_back : (text : List ℕ) (clone : Option ℕ) → clone_of text ≡ Ok clone →
    (clone_word clone ≡ text) × FitsClone clone
clone_back text clone h = by (same_text text nothing) (number_of_bits 8 text) refl refl h
  where
    said : (other : Option ℕ) → ◌≡◌ {A = Result (Option ℕ) TimelineCause} (Ok other) (Ok clone) →
        (clone_word other ≡ text) × FitsClone other → (clone_word clone ≡ text) × FitsClone clone
    said other e it = let same : other ≡ clone = cc in
        subst (λ (o : Option ℕ). (clone_word o ≡ text) × FitsClone o) same it

    by : (t : Bool) (n : Result ℕ TimelineCause) → same_text text nothing ≡ t → number_of_bits 8 text ≡ n →
        (if t then Ok None else (n >>= λ it. Ok (Some it))) ≡ Ok clone →
        (clone_word clone ≡ text) × FitsClone clone
    by true n e r h = said None h (sym (same_bytes text nothing e), tt)
    by false (Ok n) e r h = said (Some n) h (number_back 8 text n (omega arith) r)
    by false (Err why) e r h = absurd (cc)

abbrev IsPlace : List ℕ → Fault → Place → Type 0
IsPlace text fault at = (place_number at ≡ text) × FitsOutcome (Failed at fault)

place_back : (text : List ℕ) (fault : Fault) (at : Place) → place_of text ≡ Ok at → IsPlace text fault at
place_back text fault at h = by (same_text text nothing) (number_of_bits 16 text) refl refl h
  where
    said : (other : Place) → ◌≡◌ {A = Result Place TimelineCause} (Ok other) (Ok at) →
        IsPlace text fault other → IsPlace text fault at
    said other e it = let same : other ≡ at = cc in subst (IsPlace text fault) same it

    by : (t : Bool) (n : Result ℕ TimelineCause) → same_text text nothing ≡ t → number_of_bits 16 text ≡ n →
        (if t then Ok Filter else (n >>= λ it. Ok (Output it))) ≡ Ok at → IsPlace text fault at
    by true n e r h = said Filter h (sym (same_bytes text nothing e), tt)
    by false (Ok n) e r h = said (Output n) h (number_back 16 text n (omega arith) r)
    by false (Err why) e r h = absurd (cc)

fault_found : (text : List ℕ) (all : List Fault) (fault : Fault) →
    or_refuse Fields (find (λ it. same_text (fault_word it) text) all) ≡ Ok fault → fault_word fault ≡ text
fault_found text [] fault h = absurd (cc)
fault_found text (first ∷ others) fault h = by (same_text (fault_word first) text) refl h
    (fault_found text others fault)
  where
    by : (t : Bool) → same_text (fault_word first) text ≡ t →
        or_refuse Fields (if t then Some first else find (λ it. same_text (fault_word it) text) others)
        ≡ Ok fault →
        (or_refuse Fields (find (λ it. same_text (fault_word it) text) others) ≡ Ok fault →
        fault_word fault ≡ text) →
        fault_word fault ≡ text
    by true e h later = let same : first ≡ fault = cc in
        ap fault_word (sym same) ∙ same_bytes (fault_word first) text e
    by false e h later = later h

fault_back : (text : List ℕ) (fault : Fault) → fault_of text ≡ Ok fault → fault_word fault ≡ text
fault_back text fault h = fault_found text faults fault h

-- outcomes

pub record IsOutcome (fields : List (List ℕ)) (outcome : Outcome) : Type 0 where
  pub words : outcome_words outcome ≡ fields
  pub fits : FitsOutcome outcome

said_outcome : (fields : List (List ℕ)) (other outcome : Outcome) →
    ◌≡◌ {A = Result Outcome TimelineCause} (Ok other) (Ok outcome) →
    IsOutcome fields other → IsOutcome fields outcome
said_outcome fields other outcome e it = let same : other ≡ outcome = cc in subst (IsOutcome fields) same it

outcome_back : (fields : List (List ℕ)) (outcome : Outcome) → outcome_of fields ≡ Ok outcome →
    IsOutcome fields outcome
unfolding outcome_of
outcome_back [] outcome h = absurd (cc)
outcome_back (word ∷ []) outcome h = by (same_text word (codes "accepted"))
    (same_text word (codes "rejected")) refl refl h
  where
    only : {v w : List ℕ} → v ≡ w → v ∷ [] ≡ w ∷ []
    only e = ap (λ (it : List ℕ). it ∷ []) e

    by : (a r : Bool) → same_text word (codes "accepted") ≡ a → same_text word (codes "rejected") ≡ r →
        (if a then Ok Accepted else (if r then Ok Rejected else Err Fields)) ≡ Ok outcome →
        IsOutcome (word ∷ []) outcome
    by true r e f h =
        said_outcome (word ∷ []) Accepted outcome h
        (record { words = only (sym (same_bytes word (codes "accepted") e)); fits = tt })
    by false true e f h =
        said_outcome (word ∷ []) Rejected outcome h
        (record { words = only (sym (same_bytes word (codes "rejected") f)); fits = tt })
    by false false e f h = absurd (cc)
outcome_back (word ∷ place ∷ []) outcome h = absurd (cc)
outcome_back (word ∷ place ∷ fault ∷ []) outcome h =
    by (same_text word (codes "failed")) (fault_of fault) (place_of place) refl refl refl h
  where
    by : (t : Bool) (f : Result Fault TimelineCause) (p : Result Place TimelineCause) →
        same_text word (codes "failed") ≡ t →
        fault_of fault ≡ f → place_of place ≡ p →
        (if t then (f >>= λ why. p >>= λ at. Ok (Failed at why)) else Err Fields) ≡ Ok outcome →
        IsOutcome (word ∷ place ∷ fault ∷ []) outcome
    by true (Ok why) (Ok at) e f p h =
        let w = same_bytes word (codes "failed") e in
        let n = place_back place why at p in
        let k = fault_back fault why f in
        said_outcome (word ∷ place ∷ fault ∷ []) (Failed at why) outcome h
        (record { words = rw (w, n.0, k) refl; fits = n.1 })
    by true (Ok why) (Err cause) e f p h = absurd (cc)
    by true (Err cause) p e f q h = absurd (cc)
    by false f p e q r h = absurd (cc)
outcome_back (word ∷ place ∷ fault ∷ other ∷ others) outcome h = absurd (cc)

-- entries

pub record IsEntry (line : List (List ℕ)) (entry : Entry) : Type 0 where
  pub words : entry_words entry ≡ line
  pub fits : FitsFields entry

said_entry : (words : List (List ℕ)) (other entry : Entry) →
    ◌≡◌ {A = Result Entry TimelineCause} (Ok other) (Ok entry) →
    IsEntry words other → IsEntry words entry
said_entry words other entry e it = let same : other ≡ entry = cc in subst (IsEntry words) same it

-- what a word's reader reads was written with that word
abbrev Undoes : Reader → Type 0
Undoes reader = (fields : List (List ℕ)) (entry : Entry) → reader.1 fields ≡ Ok entry →
    IsEntry (reader.0 ∷ fields) entry

admit_back : Undoes (codes "admit", admit_of)
unfolding admit_of
admit_back [] entry h = absurd (cc)
admit_back (slot ∷ []) entry h = absurd (cc)
admit_back (slot ∷ place ∷ []) entry h = by (number_of_bits 8 slot) (number_of_bits 64 place) refl refl h
  where
    by : (a b : Result ℕ TimelineCause) → number_of_bits 8 slot ≡ a → number_of_bits 64 place ≡ b →
        (a >>= λ s. b >>= λ p. Ok (Admit s p)) ≡ Ok entry → IsEntry (codes "admit" ∷ slot ∷ place ∷ []) entry
    by (Ok s) (Ok p) e f h =
        let a = number_back 8 slot s (omega arith) e in
        let b = number_back 64 place p (omega arith) f in
        said_entry _ (Admit s p) entry h (record { words = rw (a.0, b.0) refl; fits = (a.1, b.1) })
    by (Ok s) (Err why) e f h = absurd (cc)
    by (Err why) b e f h = absurd (cc)
admit_back (slot ∷ place ∷ other ∷ others) entry h = absurd (cc)

claim_back : Undoes (codes "claim", claim_of)
unfolding claim_of
claim_back [] entry h = absurd (cc)
claim_back (slot ∷ []) entry h = absurd (cc)
claim_back (slot ∷ algorithm ∷ []) entry h = absurd (cc)
claim_back (slot ∷ algorithm ∷ clone ∷ []) entry h = absurd (cc)
claim_back (slot ∷ algorithm ∷ clone ∷ worker ∷ []) entry h =
    by (number_of_bits 8 slot) (number_of_bits 16 algorithm) (clone_of clone)
    (number_of_bits 8 worker) refl refl refl refl h
  where
    by : (a b : Result ℕ TimelineCause) (c : Result (Option ℕ) TimelineCause) (d : Result ℕ TimelineCause) →
        number_of_bits 8 slot ≡ a → number_of_bits 16 algorithm ≡ b → clone_of clone ≡ c →
        number_of_bits 8 worker ≡ d →
        (a >>= λ s. b >>= λ n. c >>= λ k. d >>= λ w. Ok (Claim s n k w)) ≡ Ok entry →
        IsEntry (codes "claim" ∷ slot ∷ algorithm ∷ clone ∷ worker ∷ []) entry
    by (Ok s) (Ok n) (Ok k) (Ok w) e f g i h =
        let a = number_back 8 slot s (omega arith) e in
        let b = number_back 16 algorithm n (omega arith) f in
        let c = clone_back clone k g in
        let d = number_back 8 worker w (omega arith) i in
        said_entry _ (Claim s n k w) entry h
        (record { words = rw (a.0, b.0, c.0, d.0) refl; fits = (a.1, b.1, c.1, d.1) })
    by (Ok s) (Ok n) (Ok k) (Err why) e f g i h = absurd (cc)
    by (Ok s) (Ok n) (Err why) d e f g i h = absurd (cc)
    by (Ok s) (Err why) c d e f g i h = absurd (cc)
    by (Err why) b c d e f g i h = absurd (cc)
claim_back (slot ∷ algorithm ∷ clone ∷ worker ∷ other ∷ others) entry h = absurd (cc)

done_back : Undoes (codes "done", done_of)
unfolding done_of
done_back [] entry h = absurd (cc)
done_back (ticket ∷ fields) entry h = by (outcome_of fields) (number_of_bits 64 ticket) refl refl h
  where
    by : (o : Result Outcome TimelineCause) (n : Result ℕ TimelineCause) → outcome_of fields ≡ o →
        number_of_bits 64 ticket ≡ n →
        (o >>= λ outcome. n >>= λ t. Ok (Done t outcome)) ≡ Ok entry →
        IsEntry (codes "done" ∷ ticket ∷ fields) entry
    by (Ok outcome) (Ok t) e f h =
        let o = outcome_back fields outcome e in
        let n = number_back 64 ticket t (omega arith) f in
        said_entry _ (Done t outcome) entry h
        (record { words = rw (n.0, o.words) refl; fits = (n.1, o.fits) })
    by (Ok outcome) (Err why) e f h = absurd (cc)
    by (Err why) n e f h = absurd (cc)

back_back : Undoes (codes "back", back_of)
unfolding back_of
back_back [] entry h = absurd (cc)
back_back (ticket ∷ []) entry h = by (number_of_bits 64 ticket) refl h
  where
    by : (n : Result ℕ TimelineCause) → number_of_bits 64 ticket ≡ n → (n >>= λ t. Ok (Back t)) ≡ Ok entry →
        IsEntry (codes "back" ∷ ticket ∷ []) entry
    by (Ok t) e h =
        let n = number_back 64 ticket t (omega arith) e in
        said_entry _ (Back t) entry h (record { words = rw (n.0) refl; fits = n.1 })
    by (Err why) e h = absurd (cc)
back_back (ticket ∷ other ∷ others) entry h = absurd (cc)

retire_back : Undoes (codes "retire", retire_of)
unfolding retire_of
retire_back [] entry h = absurd (cc)
retire_back (slot ∷ []) entry h = by (number_of_bits 8 slot) refl h
  where
    by : (n : Result ℕ TimelineCause) → number_of_bits 8 slot ≡ n → (n >>= λ s. Ok (Retire s)) ≡ Ok entry →
        IsEntry (codes "retire" ∷ slot ∷ []) entry
    by (Ok s) e h =
        let n = number_back 8 slot s (omega arith) e in
        said_entry _ (Retire s) entry h (record { words = rw (n.0) refl; fits = n.1 })
    by (Err why) e h = absurd (cc)
retire_back (slot ∷ other ∷ others) entry h = absurd (cc)

last_back : Undoes (codes "last", last_of)
unfolding last_of
last_back [] entry h = said_entry _ Last entry h (record { words = refl; fits = tt })
last_back (field ∷ fields) entry h = absurd (cc)

found_back : (all : List Reader) (word : List ℕ) (fields : List (List ℕ)) (entry : Entry) →
    AllByRecursion Undoes all →
    (or_refuse Word (find (λ (it : Reader). same_text it.0 word) all) >>= λ it. it.1 fields) ≡ Ok entry →
    IsEntry (word ∷ fields) entry
found_back [] word fields entry undo h = absurd (cc)
found_back (first ∷ others) word fields entry undo h =
    by (same_text first.0 word) refl h (found_back others word fields entry undo.1)
  where
    by : (t : Bool) → same_text first.0 word ≡ t →
        (or_refuse Word (if t then Some first else find (λ (it : Reader). same_text it.0 word) others)
        >>= λ it. it.1 fields) ≡ Ok entry →
        ((or_refuse Word (find (λ (it : Reader). same_text it.0 word) others) >>= λ it. it.1 fields)
        ≡ Ok entry →
        IsEntry (word ∷ fields) entry) → IsEntry (word ∷ fields) entry
    by true e h later =
        subst (λ (w : List ℕ). IsEntry (w ∷ fields) entry) (same_bytes first.0 word e) (undo.0 fields entry h)
    by false e h later = later h

pub entry_back : (words : List (List ℕ)) (entry : Entry) → entry_of words ≡ Ok entry → IsEntry words entry
unfolding entry_of
entry_back [] entry h = absurd (cc)
entry_back (word ∷ fields) entry h =
    found_back readers word fields entry
    (admit_back, (claim_back, (done_back, (back_back, (retire_back, (last_back, tt)))))) h
