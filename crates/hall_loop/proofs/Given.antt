-- The records that a loop admitted stand first among those of its history, however that goes on.
use Rattle.std.proofs.Common.{◌≡◌, ℕ, zero, suc, ◌+◌, ◌≤◌, List, [], ◌∷◌, ◌++◌, length, length-append, take, refl, sym, ap, ◌∙◌, arith, append_assoc}
use Rattle.std.proofs.lemmas.List.{take-append-le}
use Rattle.hive_hall.proofs.Items.{records-parts}
use Rattle.hive_model.specs.EventRecord.{EventRecord}
use Rattle.hive_model.specs.History.{BeginsWith, records_of}
use Rattle.hive_model.specs.declared.item.Item.{Item}
use Rattle.hive_model.specs.declared.item.Item.TheVariants.{Admitted}

pub begins-on : (front mid later : List Item) → BeginsWith mid front → BeginsWith later mid → BeginsWith later front
begins-on front mid later a b =
    (a.0 ++ b.0, b.1 ∙ (ap (λ (l : List Item). l ++ b.0) a.1 ∙ append_assoc front a.0 b.0))

pub record IsStillFirst (admitted : ℕ) (items later : List Item) : Type 0 where
  pub known : admitted ≤ length (records_of later)
  pub same : take admitted (records_of later) ≡ take admitted (records_of items)

pub still-first : (admitted : ℕ) (items later : List Item) → BeginsWith later items →
    admitted ≤ length (records_of items) → IsStillFirst admitted items later
still-first admitted items later begins known =
    let more = records_of begins.0 in
    let parts : records_of later ≡ records_of items ++ more = ap records_of begins.1 ∙ records-parts items begins.0 in
    let lengths = ap (λ (l : List EventRecord). length l) parts in
    record {
      known = omega (arith, known, lengths, length-append (records_of items) more);
      same = ap (take admitted) parts ∙ take-append-le admitted (records_of items) more known;
    }

all-taken : (xs : List EventRecord) (n : ℕ) → length xs ≡ n → take n xs ≡ xs
all-taken [] zero h = refl
all-taken [] (suc n) h = refl
all-taken (x ∷ xs) zero h = absurd (omega (arith, h))
all-taken (x ∷ xs) (suc n) h = ap (λ (l : List EventRecord). x ∷ l) (all-taken xs n (omega (arith, h)))

-- one record more, where nobody else has admitted any
pub record IsOneMore (admitted : ℕ) (items later : List Item) (event : EventRecord) : Type 0 where
  pub known : admitted + 1 ≤ length (records_of later)
  pub first : take (admitted + 1) (records_of later) ≡ take admitted (records_of items) ++ event ∷ []

pub one-more : (admitted slot place : ℕ) (items found later : List Item) (event : EventRecord) → BeginsWith found items →
    admitted ≤ length (records_of items) → length (records_of found) ≡ admitted →
    later ≡ found ++ Admitted slot place event ∷ [] → IsOneMore admitted items later event
one-more admitted slot place items found later event begins known all more =
    let parts : records_of later ≡ records_of found ++ event ∷ [] =
    ap records_of more ∙ records-parts found (Admitted slot place event ∷ []) in
    let size : length (records_of found ++ event ∷ []) ≡ admitted + 1 =
    omega (arith, length-append (records_of found) (event ∷ []), all) in
    let still = still-first admitted items found begins known in
    record {
      known = omega (arith, size, ap (λ (l : List EventRecord). length l) parts);
      first = ap (take (admitted + 1)) parts
          ∙ (all-taken (records_of found ++ event ∷ []) (admitted + 1) size
          ∙ ap (λ (l : List EventRecord). l ++ event ∷ [])
          (sym (all-taken (records_of found) admitted all) ∙ still.same));
    }
