-- What stands at positions of a history stays there as it grows.
use Rattle.std.proofs.Common.{◌≡◌, ℕ, zero, suc, ◌+◌, ◌-◌, ◌<◌, ◌≤◌, Bool, true, false, cond, List, [], ◌∷◌, ◌++◌, length, take, slice_get, Option, refl, sym, ap, ◌∙◌, arith, length-append}
use Rattle.std.proofs.lemmas.Bool.{true≢false}
use Rattle.std.proofs.lemmas.List.{take-append-le, take_all}
use Rattle.std.proofs.lemmas.List.Elements.{All-head, All-tail}
use Rattle.std.proofs.lemmas.List.Sums.{sum_by-append, sum_by-cons}
use Rattle.std.specs.List.{All, count_by}
use Rattle.std.specs.Option.{option_map_or}
use Rattle.hive_model.proofs.Lists.{slice_get-append_back, slice_get-append_front}
use Rattle.hive_model.specs.History.{entry_of, journal_of}
use Rattle.hive_model.specs.declared.entry.Entry.{Entry}
use Rattle.hive_model.specs.declared.item.Item.{Item}
use Rattle.hive_model.specs.declared.item.Item.TheVariants.{Opening, Admitted, Entered, Stop}
use Rattle.hive_workers.specs.Items.{count_at, enters, is_claim, stands_at, ticket_at}

-- one position

pub stands-front : (kind : Entry → Bool) (items rest : List Item) (n : ℕ) → n < length items →
    stands_at kind (items ++ rest) n ≡ stands_at kind items n
stands-front kind items rest n h =
    ap (λ (o : Option Item). option_map_or (enters kind) o false) (slice_get-append_front items rest n h)

pub stands-last : (kind : Entry → Bool) (found : List Item) (e : Entry) →
    stands_at kind (found ++ Entered e ∷ []) (length found) ≡ kind e
stands-last kind found e =
    ap (λ (o : Option Item). option_map_or (enters kind) o false)
    (slice_get-append_back found (Entered e ∷ []) (length found) (omega arith) ∙ ap (slice_get (Entered e ∷ [])) none)
  where
    none : length found - length found ≡ 0
    none = omega arith

-- how many of the positions

pub count-front : (kind : Entry → Bool) (items rest : List Item) (positions : List ℕ) →
    All (λ n. n < length items) positions → count_at kind (items ++ rest) positions ≡ count_at kind items positions
count-front kind items rest [] h = refl
count-front kind items rest (n ∷ positions) h =
    let f : ℕ → ℕ = λ x. cond (stands_at kind (items ++ rest) x) 1 0 in
    let g : ℕ → ℕ = λ x. cond (stands_at kind items x) 1 0 in
    sum_by-cons f n positions
    ∙ (ap (λ (b : Bool). cond b 1 0 + count_at kind (items ++ rest) positions)
    (stands-front kind items rest n (All-head (λ (k : ℕ). k < length items) n positions h))
    ∙ (ap (λ (k : ℕ). cond (stands_at kind items n) 1 0 + k)
    (count-front kind items rest positions (All-tail (λ (k : ℕ). k < length items) n positions h))
    ∙ sym (sum_by-cons g n positions)))

pub count-push : (p : ℕ → Bool) (positions : List ℕ) (n : ℕ) →
    count_by p (positions ++ n ∷ []) ≡ count_by p positions + cond (p n) 1 0
count-push p positions n =
    let f : ℕ → ℕ = λ x. cond (p x) 1 0 in
    sum_by-append f positions (n ∷ []) ∙ ap (λ (k : ℕ). count_by p positions + k) (none_more (f n))
  where
    none_more : (k : ℕ) → 0 + k ≡ k
    none_more k = omega arith

pub count-last : (kind : Entry → Bool) (found : List Item) (e : Entry) (positions : List ℕ) →
    All (λ n. n < length found) positions →
    count_at kind (found ++ Entered e ∷ []) (positions ++ length found ∷ [])
    ≡ count_at kind found positions + cond (kind e) 1 0
count-last kind found e positions h =
    let items = found ++ Entered e ∷ [] in
    count-push (stands_at kind items) positions (length found)
    ∙ (ap (λ (k : ℕ). k + cond (stands_at kind items (length found)) 1 0)
    (count-front kind found (Entered e ∷ []) positions h)
    ∙ ap (λ (b : Bool). count_at kind found positions + cond b 1 0) (stands-last kind found e))

-- tickets

pub ticket-front : (items rest : List Item) (n : ℕ) → n ≤ length items →
    ticket_at (items ++ rest) n ≡ ticket_at items n
ticket-front items rest n h = ap (λ (l : List Item). length (journal_of l)) (take-append-le n items rest h)

pub ticket-last : (found rest : List Item) → ticket_at (found ++ rest) (length found) ≡ length (journal_of found)
ticket-last found rest =
    ticket-front found rest (length found) (omega arith)
    ∙ ap (λ (l : List Item). length (journal_of l)) (take_all (length found) found (omega arith))

-- a claim's entry is one of the journal
pub ticket-within : (items : List Item) (n : ℕ) → stands_at is_claim items n ≡ true →
    ticket_at items n < length (journal_of items)
ticket-within [] n h = absurd (true≢false (sym h))
ticket-within (Opening job slots ∷ items) zero h = absurd (true≢false (sym h))
ticket-within (Admitted slot place event ∷ items) zero h = absurd (true≢false (sym h))
ticket-within (Stop ∷ items) zero h = absurd (true≢false (sym h))
ticket-within (Entered e ∷ items) zero h = omega arith
ticket-within (item ∷ items) (suc n) h =
    let later = ticket-within items n h in
    let front = length-append (entry_of item) (journal_of (take n items)) in
    let whole = length-append (entry_of item) (journal_of items) in
    omega arith
