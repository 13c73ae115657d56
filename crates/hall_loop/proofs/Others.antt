-- Where all that others entered is work, a call finds nothing but work since the pass has seen the history, and so
-- does whoever closes the hall.
use Rattle.std.proofs.Common.{◌≡◌, ℕ, zero, suc, ◌+◌, ◌-◌, ◌<◌, ◌≤◌, ◌==◌, Bool, true, false, cond, get_or, List, [], ◌∷◌, ◌++◌, length, slice_get, Option, Some, sum_by, refl, sym, ap, ◌∙◌, subst, ⊎_elim, arith, append-nil, length-append}
use Rattle.std.proofs.lemmas.Bool.{cases_lt, eqb-true, false_from_ne_true, le-ltb, lt-ltb, true≢false}
use Rattle.std.proofs.lemmas.List.Elements.{All-head, All-pop, All-tail}
use Rattle.std.proofs.lemmas.List.Sums.{sum_by-append, sum_by-cons}
use Rattle.std.proofs.lemmas.Option.{none-some, same_Some, slice_get-get_or, slice_get_past}
use Rattle.std.specs.List.{All, range_with_len}
use Rattle.std.specs.Option.{option_map_or}
use Rattle.hive_hall.specs.Calls.{Calls}
use Rattle.hive_hall.specs.Closing.{AreAllOf, IsLast}
use Rattle.hive_hall.specs.Pass.{IsPassOf, opening_of, own, seen}
use Rattle.hive_hall.specs.Says.{Histories}
use Rattle.hive_hall.specs.declared.hall.Hall.{Hall}
use Rattle.hive_hall.specs.declared.pass.Pass.{Pass}
use Rattle.hive_model.proofs.Lists.{slice_get-append_back}
use Rattle.hive_model.specs.History.{BeginsWith, DeskState, positions_added}
use Rattle.hive_model.specs.declared.entry.Entry.{Entry}
use Rattle.hive_model.specs.declared.item.Item.{Item}
use Rattle.hive_workers.proofs.Standing.{stands-front}
use Rattle.hive_workers.specs.Items.{enters, is_work, stands_at}
use Rattle.turn_lock.proofs.Positions.{times-append}
use Rattle.turn_lock.specs.History.{below, times}
use Rattle.hall_loop.specs.Others.{AreWork, AreWorkBut, HasOnlyWorked, OthersWork}

-- how often a position stands in a list

abbrev counted : Bool → ℕ
counted b = cond b 1 0

counts-none : (b : Bool) → b ≡ false → counted b ≡ 0
counts-none true h = absurd (true≢false h)
counts-none false h = refl

counts-one : (b : Bool) → b ≡ true → counted b ≡ 1
counts-one true h = refl
counts-one false h = absurd (true≢false (sym h))

-- it is none of them
times-none : (n : ℕ) (xs : List ℕ) → ((i m : ℕ) → slice_get xs i ≡ Some m → m ≡ n → ⊥) → times n xs ≡ 0
times-none n [] h = refl
times-none n (x ∷ xs) h =
    let parts = sum_by-cons (λ q. cond (q == n) 1 0) x xs in
    let others = times-none n xs (λ i m there same. h (suc i) m there same) in
    let differs : (x == n) ≡ false = false_from_ne_true (x == n) (λ same. h 0 x refl (eqb-true x n same)) in
    let first = counts-none (x == n) differs in
    omega (arith, parts, others, first)

-- it is one of them
times-some : (P : ℕ → Type 0) (n : ℕ) (xs : List ℕ) → All P xs → 0 < times n xs → P n
times-some P n [] all some = absurd (omega arith)
times-some P n (x ∷ xs) all some =
    by (x == n) refl (λ more. times-some P n xs (All-tail P x xs all) more)
  where
    by : (b : Bool) → (x == n) ≡ b → (0 < times n xs → P n) → P n
    by true same others = subst P (eqb-true x n same) (All-head P x xs all)
    by false differs others =
        let parts = sum_by-cons (λ q. cond (q == n) 1 0) x xs in
        let first = counts-none (x == n) differs in
        others (omega (arith, some, parts, first))

below-past : (n end : ℕ) → end ≤ n → below n end ≡ 0
below-past n end h = counts-none _ (le-ltb n end h)

below-within : (n end : ℕ) → n < end → below n end ≡ 1
below-within n end h = counts-one _ (lt-ltb n end h)

-- the positions that were added lie behind the earlier history

range-behind : (first count i n : ℕ) → slice_get (range_with_len first count) i ≡ Some n → first ≤ n
range-behind first zero i n there = absurd (none-some n there)
range-behind first (suc count) zero n there =
    let same : first ≡ n = same_Some first n there in
    omega arith
range-behind first (suc count) (suc i) n there =
    let later = range-behind (first + 1) count i n there in
    omega arith

pub added-behind : {T : Type 0} (found later : List T) (i n : ℕ) →
    slice_get (positions_added found later) i ≡ Some n → length found ≤ n
added-behind found later i n there = range-behind (length found) (length later - length found) i n there

begins-length : (items front : List Item) → BeginsWith items front → length front ≤ length items
begins-length items front it = omega (arith, length-append front it.0, ap (λ (l : List Item). length l) it.1)

-- what stands in a history stands in each longer one
stands-more : (kind : Entry → Bool) (items rest : List Item) (n : ℕ) → stands_at kind items n ≡ true →
    stands_at kind (items ++ rest) n ≡ true
stands-more kind items rest n stands = ⊎_elim
    (λ (within : n < length items). stands-front kind items rest n within ∙ stands)
    (λ (past : length items ≤ n). absurd (true≢false (sym stands
    ∙ ap (λ (o : Option Item). option_map_or (enters kind) o false) (slice_get_past items n past))))
    (cases_lt n (length items))

stands-back : (kind : Entry → Bool) (front rest : List Item) (k : ℕ) (d : Item) → k < length rest →
    stands_at kind (front ++ rest) (length front + k) ≡ enters kind (get_or rest k d)
stands-back kind front rest k d within =
    let here : length front + k - length front ≡ k = omega arith in
    ap (λ (o : Option Item). option_map_or (enters kind) o false)
    (slice_get-append_back front rest (length front + k) (omega arith)
    ∙ (ap (slice_get rest) here ∙ slice_get-get_or rest k d within))

-- lists

-- in the front all is work but for these positions, and behind it all is
pub record IsFrontWork (opened : ℕ) (front rest : List Item) (mine : List ℕ) : Type 0 where
  pub before : AreWorkBut opened front mine
  pub since : AreWork rest

-- So it is where in a longer list all is work but for these positions, which lie in the front, and others, which lie
-- behind both parts.
pub front-others : (opened : ℕ) (front rest tail : List Item) (mine added : List ℕ) → opened ≤ length front →
    ((i n : ℕ) → slice_get mine i ≡ Some n → n < length front) →
    ((i n : ℕ) → slice_get added i ≡ Some n → length (front ++ rest) ≤ n) →
    AreWorkBut opened ((front ++ rest) ++ tail) (mine ++ added) → IsFrontWork opened front rest mine
front-others opened front rest tail mine added few within behind work =
    let found : List Item = front ++ rest in
    let found_long = length-append front rest in
    let whole_long = length-append found tail in
    let not_added : (n : ℕ) → n < length found → times n added ≡ 0 =
    λ n less. times-none n added (λ i m there same. let h = behind i m there in omega (arith, h, same, less)) in
    let in_found : (n : ℕ) → opened ≤ n → n < length found → times n mine ≡ 0 → stands_at is_work found n ≡ true =
    λ n late less none.
    let others = not_added n less in
    let parts = times-append n mine added in
    sym (stands-front is_work found tail n less)
    ∙ work n late (omega (arith, less, whole_long)) (omega (arith, none, others, parts)) in
    record {
      before = λ n late less none.
          sym (stands-front is_work front rest n less) ∙ in_found n late (omega (arith, less, found_long)) none;
      since = λ k d less.
          sym (stands-back is_work front rest k d less)
          ∙ in_found (length front + k) (omega (arith, few)) (omega (arith, less, found_long))
          (times-none (length front + k) mine
          (λ i m there same. let h = within i m there in omega (arith, h, same)));
    }

-- a call

-- What the pass found since it last saw the history is work, and so is all that others had entered before.
pub record SeesOthers (hall : Hall) (p : Pass) (found : List Item) : Type 0 where
  pub rest : List Item
  pub found_is : found ≡ seen p ++ rest
  pub work : AreWork rest
  pub before : OthersWork hall p

sees-others : (hall : Hall) (p : Pass) (found tail : List Item) (added : List ℕ) → IsPassOf hall p →
    BeginsWith found (seen p) → ((i n : ℕ) → slice_get added i ≡ Some n → length found ≤ n) →
    AreWorkBut (length (opening_of hall)) (found ++ tail) (own p ++ added) → SeesOthers hall p found
sees-others hall p found tail added pass begins behind work =
    let opened : ℕ = length (opening_of hall) in
    let it = front-others opened (seen p) begins.0 tail (own p) added
    (begins-length (seen p) (opening_of hall) pass.knows.begins) pass.knows.in_order.within
    (λ i n there. subst (λ (l : List Item). length l ≤ n) begins.1 (behind i n there))
    (subst (λ (l : List Item). AreWorkBut opened (l ++ tail) (own p ++ added)) begins.1 work) in
    record { rest = begins.0; found_is = begins.1; work = it.since; before = it.before }

pub call-others : (hall : Hall) (happened : Histories) (p q : Pass) (it : Calls happened p q) → IsPassOf hall p →
    IsPassOf hall q → BeginsWith (seen q) it.found → OthersWork hall q → SeesOthers hall p it.found
call-others hall happened p q it pass also later work =
    let opened : ℕ = length (opening_of hall) in
    let added : List ℕ = positions_added it.found (seen q) in
    sees-others hall p it.found later.0 added pass it.begins (added-behind it.found (seen q))
    (subst (λ (l : List Item). AreWorkBut opened l (own p ++ added)) later.1
    (subst (AreWorkBut opened (seen q)) it.own_more work))

-- the end

-- what is a worker's own is work
workers-stand : (hall : Hall) (final : List Item) (n : ℕ) (workers : List Pass) → All (HasOnlyWorked hall) workers →
    All (λ p. BeginsWith final (seen p)) workers → 0 < sum_by (λ p. times n (own p)) workers →
    stands_at is_work final n ≡ true
workers-stand hall final n [] only begins some = absurd (omega arith)
workers-stand hall final n (w ∷ workers) only begins some =
    let parts = sum_by-cons (λ (p : Pass). times n (own p)) w workers in
    let it = All-head (HasOnlyWorked hall) w workers only in
    let front = All-head (λ (p : Pass). BeginsWith final (seen p)) w workers begins in
    ⊎_elim
    (λ (here : 0 < times n (own w)).
    subst (λ (l : List Item). stands_at is_work l n ≡ true) (sym front.1)
    (stands-more is_work (seen w) front.0 n
    (times-some (λ (k : ℕ). stands_at is_work (seen w) k ≡ true) n (own w) it.only here)))
    (λ (none : times n (own w) ≤ 0).
    workers-stand hall final n workers (All-tail (HasOnlyWorked hall) w workers only)
    (All-tail (λ (p : Pass). BeginsWith final (seen p)) w workers begins) (omega (arith, some, parts, none)))
    (cases_lt 0 (times n (own w)))

-- the last history is what this pass has seen, where all that others entered is work, and more work
pub record LeavesOthers (hall : Hall) (p : Pass) (final : List Item) : Type 0 where
  pub others : OthersWork hall p
  pub rest : List Item
  pub final_is : final ≡ seen p ++ rest
  pub work : AreWork rest

-- each new position of the last history is some pass's own, so what isn't this one's is a worker's
closed-but : (hall : Hall) (workers passes : List Pass) (p : Pass) (d : DeskState) (last : IsLast hall passes d) →
    passes ≡ workers ++ p ∷ [] → All (HasOnlyWorked hall) workers →
    AreWorkBut (length (opening_of hall)) last.final (own p)
closed-but hall workers passes p d last split only n late less none =
    let times_of : Pass → ℕ = λ x. times n (own x) in
    let begins = All-pop (λ (x : Pass). BeginsWith last.final (seen x)) passes workers (Some p) split last.begins in
    let owned = last.owned n in
    let past = below-past n (length (opening_of hall)) late in
    let within = below-within n (length last.final) less in
    let whole = ap (λ (l : List Pass). sum_by times_of l) split in
    let parts = sum_by-append times_of workers (p ∷ []) in
    let alone = sum_by-cons times_of p [] in
    workers-stand hall last.final n workers only begins.0
    (omega (arith, owned, past, within, whole, parts, alone, none))

pub closed-others : (hall : Hall) (passes workers : List Pass) (p : Pass) (d : DeskState) →
    passes ≡ workers ++ p ∷ [] → (last : IsLast hall passes d) → AreAllOf hall passes →
    All (HasOnlyWorked hall) workers → LeavesOthers hall p last.final
closed-others hall passes workers p d split last all only =
    let opened : ℕ = length (opening_of hall) in
    let final : List Item = last.final in
    let pass = All-pop (IsPassOf hall) passes workers (Some p) split all.1 in
    let begins = All-pop (λ (x : Pass). BeginsWith final (seen x)) passes workers (Some p) split last.begins in
    let it = sees-others hall p final [] [] pass.1 begins.1 (λ i n there. absurd (none-some n there))
    (subst (λ (l : List Item). AreWorkBut opened l (own p ++ [])) (sym (append-nil final))
    (subst (AreWorkBut opened final) (sym (append-nil (own p)))
    (closed-but hall workers passes p d last split only))) in
    record { others = it.before; rest = it.rest; final_is = it.found_is; work = it.work }
