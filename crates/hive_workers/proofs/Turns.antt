-- A run, call by call.
use Rattle.std.proofs.Common.{◌≡◌, ℕ, ◌+◌, ◌≤◌, min, List, [], ◌∷◌, ◌++◌, length, Some, refl, sym, ap, ◌∙◌, subst, arith, append-nil, append_assoc, length-append}
use Rattle.std.proofs.lemmas.Bool.{true≢false}
use Rattle.std.proofs.lemmas.List.{map-append}
use Rattle.std.proofs.lemmas.List.Elements.{All-nil, Contains-push}
use Rattle.std.specs.List.{count_by}
use Rattle.core_laws.proofs.OwnEntries.{own-entries}
use Rattle.expr_code.specs.Claim.{Claim as Work, Done as Executed}
use Rattle.hive_hall.proofs.Items.{journal-parts}
use Rattle.hive_hall.specs.Calls.{BooksOne, Calls, QueuesNone, Queues, StaysOut}
use Rattle.hive_hall.specs.Pass.{IsPassOf, job_of, number_of, own, put, seen, slots_of, took}
use Rattle.hive_hall.specs.Says.{BackHere, ClaimHere, DoneHere}
use Rattle.hive_hall.specs.declared.answers.Ask.TheVariants.{Told}
use Rattle.hive_hall.specs.declared.hall.Hall.{Hall}
use Rattle.hive_hall.specs.declared.pass.Pass.{Pass}
use Rattle.hive_model.specs.History.{journal_of, records_of}
use Rattle.hive_model.specs.Machine.{Machine}
use Rattle.hive_model.specs.declared.entry.Entry.{Entry}
use Rattle.hive_model.specs.declared.entry.Entry.TheVariants as entry
use Rattle.hive_model.specs.declared.item.Item.{Item}
use Rattle.hive_model.specs.declared.item.Item.TheVariants.{Entered}
use Rattle.scheduler_core.specs.Says.{IsNotOut, IsWorkOf}
use Rattle.scheduler_core.specs.declared.answers.Claim.TheVariants.{Job as Working}
use Rattle.scheduler_core.specs.declared.answers.Give.{Give}
use Rattle.scheduler_core.specs.declared.answers.Give.TheVariants.{Booked, NotOutstanding}
use Rattle.hive_workers.proofs.Accounts.{booked-gone, claims-are-fewer, refused-gone, returned-gone}
use Rattle.hive_workers.proofs.Moves.{SeesMore, at-state, has-led, replayed, sees-more, sees-own, stays-out}
use Rattle.hive_workers.proofs.OlderClaims.{handed-out}
use Rattle.hive_workers.proofs.Works.{HasEntered, entered-gone, entered-more, entered-own, entered-works}
use Rattle.hive_workers.specs.Items.{count_at, is_claim, is_done}
use Rattle.hive_workers.specs.Outstanding.{AreAccounted, state_after}
use Rattle.hive_workers.specs.Worked.{works_of}
use Rattle.hive_workers.specs.Working.{HasRoom, IsSum, IsWorking, TakesAlone, no_tally, one_astray, one_given, one_handed_back, one_put_back}
use Rattle.hive_workers.specs.declared.limits.TheConstants.{MOST_COUNTED}
use Rattle.hive_workers.specs.declared.tally.Tally.{Tally}

-- The queue's half of a run: so many results were booked.
pub record HasPassed (p : Pass) (given strays dones : ℕ) (queued taken : List Executed) (q : Pass) : Type 0 where
  pub put_more : put q ≡ put p ++ queued
  pub took_more : took q ≡ took p ++ taken
  pub astray : ℕ
  pub balance : given + length taken ≡ dones + length queued + astray
  pub strays_are : strays ≡ min astray MOST_COUNTED

entered-of : (hall : Hall) (p : Pass) (in_hand : List Work) (t : Tally) (q : Pass) (w : IsWorking hall p in_hand t q) →
    HasEntered hall p (t.performed + length in_hand) t.put_back (count_at is_done (seen q) w.added)
    (works_of w.queued ++ in_hand) w.added q
entered-of hall p in_hand t q w = record {
  begins = w.items.begins;
  number_same = w.items.number_same;
  own_more = w.items.own_more;
  new = w.items.new;
  stand = record {
    within = w.within;
    only = w.items.only;
    claims_are = w.items.claims_are;
    backs_are = w.items.backs_are;
    dones_are = refl;
  };
  few = w.few;
  accounted = w.accounted;
}

passed-of : (hall : Hall) (p : Pass) (in_hand : List Work) (t : Tally) (q : Pass) (w : IsWorking hall p in_hand t q) →
    HasPassed p t.given t.strays (count_at is_done (seen q) w.added) w.queued w.taken q
passed-of hall p in_hand t q w = record {
  put_more = w.queue.put_more;
  took_more = w.queue.took_more;
  astray = w.queue.astray;
  balance = w.queue.balance;
  strays_are = w.queue.strays_are;
}

-- the two halves together
working : (hall : Hall) (p : Pass) (in_hand : List Work) (t : Tally) (q : Pass) (claims backs dones : ℕ)
    (works : List Work) (added : List ℕ) (queued taken : List Executed) →
    HasEntered hall p claims backs dones works added q → HasPassed p t.given t.strays dones queued taken q →
    claims ≡ t.performed + length in_hand → backs ≡ t.put_back → works ≡ works_of queued ++ in_hand →
    IsWorking hall p in_hand t q
working hall p in_hand t q claims backs dones works added queued taken it queue claims_are backs_are works_are =
    record {
      added = added;
      items = record {
        begins = it.begins;
        number_same = it.number_same;
        own_more = it.own_more;
        new = it.new;
        only = it.stand.only;
        claims_are = it.stand.claims_are ∙ claims_are;
        backs_are = it.stand.backs_are ∙ backs_are;
      };
      within = it.stand.within;
      queued = queued;
      taken = taken;
      queue = record {
        put_more = queue.put_more;
        took_more = queue.took_more;
        astray = queue.astray;
        balance = queue.balance ∙ ap (λ (n : ℕ). n + length queued + queue.astray) (sym it.stand.dones_are);
        strays_are = queue.strays_are;
      };
      few = subst (λ (n : ℕ). n ≤ count_by is_claim (journal_of (seen q))) claims_are it.few;
      accounted = λ m h. subst (λ (ws : List Work). AreAccounted (seen q) added ws m) works_are (it.accounted m h);
    }

passed-same : (p : Pass) (given strays dones : ℕ) (queued taken : List Executed) (q r : Pass) → QueuesNone q r →
    HasPassed p given strays dones queued taken q → HasPassed p given strays dones queued taken r
passed-same p given strays dones queued taken q r same it = record {
  put_more = same.0 ∙ it.put_more;
  took_more = same.1 ∙ it.took_more;
  astray = it.astray;
  balance = it.balance;
  strays_are = it.strays_are;
}

-- no work is in hand
abbrev empty_hands : ℕ
empty_hands = length {A = Work} []

-- the queue's lists

works-push : (queued : List Executed) (value : Executed) →
    works_of queued ++ value.claim ∷ [] ≡ works_of (queued ++ value ∷ []) ++ []
works-push queued value =
    sym (append-nil (works_of (queued ++ value ∷ [])) ∙ map-append (λ (d : Executed). d.claim) queued (value ∷ []))

no-works : (queued : List Executed) (v : Work) → (works_of queued ++ []) ++ v ∷ [] ≡ works_of queued ++ v ∷ []
no-works queued v = ap (λ (l : List Work). l ++ v ∷ []) (append-nil (works_of queued))

more-strays : (strays astray most : ℕ) → strays ≡ min astray most → min (strays + 1) most ≡ min (astray + 1) most
more-strays strays astray most h = omega arith

passed-plus : (p : Pass) (given strays dones : ℕ) (queued taken : List Executed) (q : Pass) →
    HasPassed p given strays dones queued taken q → HasPassed p given strays (dones + 0) queued taken q
passed-plus p given strays dones queued taken q it = record {
  put_more = it.put_more;
  took_more = it.took_more;
  astray = it.astray;
  balance = let b = it.balance in omega (arith, b);
  strays_are = it.strays_are;
}

-- a result was booked that was in hand, or taken
passed-done : (p : Pass) (given strays dones more : ℕ) (queued taken : List Executed) (others : List Executed)
    (q r : Pass) →
    more + length others ≡ 1 → put r ≡ put q → took r ≡ took q ++ others →
    HasPassed p given strays dones queued taken q →
    HasPassed p (given + more) strays (dones + 1) queued (taken ++ others) r
passed-done p given strays dones more queued taken others q r one puts takes it = record {
  put_more = puts ∙ it.put_more;
  took_more = takes ∙ (ap (λ (l : List Executed). l ++ others) it.took_more ∙ append_assoc (took p) taken others);
  astray = it.astray;
  balance = let b = it.balance in let long = length-append taken others in omega (arith, b, long, one);
  strays_are = it.strays_are;
}

module _ (hall : Hall) (p q r : Pass) (t : Tally) (pass : IsPassOf hall q) where
  -- nothing was added
  pub working-more : (in_hand : List Work) (found : List Item) → SeesMore q r found → QueuesNone q r →
      IsWorking hall p in_hand t q → IsWorking hall p in_hand t r
  working-more in_hand found more same w =
      let dones = count_at is_done (seen q) w.added in
      let works = works_of w.queued ++ in_hand in
      working hall p in_hand t r (t.performed + length in_hand) t.put_back dones works w.added w.queued w.taken
      (entered-more hall p q r (t.performed + length in_hand) t.put_back dones works w.added found pass more
      (entered-of hall p in_hand t q w))
      (passed-same p t.given t.strays dones w.queued w.taken q r same (passed-of hall p in_hand t q w))
      refl refl refl

  -- a claim was added, and is in hand
  pub working-claim : (v : Work) →
      Calls (ClaimHere (job_of hall) (slots_of hall) (number_of q) (Told (Working v))) q r →
      QueuesNone q r → IsWorking hall p [] t q → IsWorking hall p (v ∷ []) t r
  working-claim v call same w =
      let step = call.step.1 in
      let e = entry.Claim step.added.0 v.algorithm v.clone (number_of q) in
      let more = sees-own _ q r e call step.added.1 in
      let dones = count_at is_done (seen q) w.added in
      let works = works_of w.queued ++ [] in
      let ticket : v.ticket ≡ length (journal_of call.found) =
      step.said.ticket ∙ ap (λ (l : List Entry). length l) step.legal.journal in
      let before = entered-works hall p q (t.performed + empty_hands) t.put_back dones works w.added (v ∷ [])
      (entered-of hall p [] t q w) in
      working hall p (v ∷ []) t r (t.performed + empty_hands + 1) (t.put_back + 0) (dones + 0) (works ++ v ∷ [])
      (w.added ++ length call.found ∷ []) w.queued w.taken
      (entered-own hall p q r (t.performed + empty_hands) t.put_back dones (works ++ v ∷ []) w.added call.found e
      pass more refl
      (λ m h claim slot number c out is.
      let P : Machine → Type 0 = λ x. IsWorkOf x step.said.slot v in
      let it = at-state P _ m (replayed hall (seen r) step.after step.still_legal ∙ h) step.said.out in (
        v,
        Contains-push works v,
        handed-out (journal_of (seen r)) m step.said.slot v
            (own-entries (job_of hall) (slots_of hall) (records_of (seen r)) (journal_of (seen r)) m h) it.out
            slot number c out
            (is ∙ sym ticket),
      ))
      before)
      (passed-same p t.given t.strays (dones + 0) w.queued w.taken q r same
      (passed-plus p t.given t.strays dones w.queued w.taken q (passed-of hall p [] t q w)))
      (omega arith) (omega arith) (no-works w.queued v)

  -- what was in hand was queued
  pub working-queued : (value : Executed) → Queues value q r → IsWorking hall p (value.claim ∷ []) t q →
      IsWorking hall p [] (one_given t) r
  working-queued value it w =
      let held = value.claim ∷ [] in
      let dones = count_at is_done (seen q) w.added in
      let works = works_of w.queued ++ held in
      working hall p [] (one_given t) r (t.performed + length held) t.put_back dones works w.added
      (w.queued ++ value ∷ []) w.taken
      (entered-more hall p q r (t.performed + length held) t.put_back dones works w.added (seen q) pass
      (stays-out q r it.out) (entered-of hall p held t q w))
      (record {
        put_more = it.put_more ∙ (ap (λ (l : List Executed). l ++ value ∷ []) w.queue.put_more
            ∙ append_assoc (put p) w.queued (value ∷ []));
        took_more = it.took_same ∙ w.queue.took_more;
        astray = w.queue.astray;
        balance = let b = w.queue.balance in let long = length-append w.queued (value ∷ []) in omega (arith, b, long);
        strays_are = w.queue.strays_are;
      })
      (omega arith) refl (works-push w.queued value)

  -- what was in hand was booked
  pub working-booked : (value : Executed) →
      Calls (DoneHere (job_of hall) (slots_of hall) value Booked) q r → QueuesNone q r →
      IsWorking hall p (value.claim ∷ []) t q → IsWorking hall p [] (one_given t) r
  working-booked value call same w =
      let held = value.claim ∷ [] in
      let e = entry.Done value.claim.ticket value.left.outcome in
      let more = sees-own _ q r e call call.step.added in
      let dones = count_at is_done (seen q) w.added in
      let works = works_of w.queued ++ held in
      let claims = t.performed + length held in
      let added = w.added ++ length call.found ∷ [] in
      working hall p [] (one_given t) r (claims + 0) (t.put_back + 0) (dones + 1) (works_of w.queued) added w.queued
      (w.taken ++ [])
      (entered-gone hall p r (claims + 0) (t.put_back + 0) (dones + 1) (works_of w.queued) added value.claim
      (λ m h. booked-gone hall call.found value.claim value.left.outcome m
      (ap (state_after hall) (sym call.step.added) ∙ h))
      (entered-own hall p q r claims t.put_back dones works w.added call.found e pass more refl
      (λ m h claim. absurd (true≢false (sym claim))) (entered-of hall p held t q w)))
      (passed-done p t.given t.strays dones 1 w.queued w.taken [] q r (omega arith) same.0
      (same.1 ∙ sym (append-nil (took q))) (passed-of hall p held t q w))
      (omega arith) (omega arith) (sym (append-nil (works_of w.queued)))

  -- what was in hand was handed back
  refused : (v : Work) (found : List Item) → SeesMore q r found → QueuesNone q r →
      ((m : Machine) → state_after hall (seen r) ≡ Some m → IsNotOut v m) →
      IsWorking hall p (v ∷ []) t q → IsWorking hall p [] (one_handed_back t) r
  refused v found more same not w =
      let held = v ∷ [] in
      let dones = count_at is_done (seen q) w.added in
      let works = works_of w.queued ++ held in
      let claims = t.performed + length held in
      working hall p [] (one_handed_back t) r claims t.put_back dones (works_of w.queued) w.added w.queued w.taken
      (entered-gone hall p r claims t.put_back dones (works_of w.queued) w.added v
      (λ m h. refused-gone v m (not m h))
      (entered-more hall p q r claims t.put_back dones works w.added found pass more (entered-of hall p held t q w)))
      (passed-same p t.given t.strays dones w.queued w.taken q r same (passed-of hall p held t q w))
      (omega arith) refl (sym (append-nil (works_of w.queued)))

  pub working-refused : (value : Executed) (back : Executed) →
      Calls (DoneHere (job_of hall) (slots_of hall) value (NotOutstanding back)) q r → QueuesNone q r →
      IsWorking hall p (value.claim ∷ []) t q → IsWorking hall p [] (one_handed_back t) r
  working-refused value back call same w =
      let step = call.step in
      refused value.claim call.found (sees-more _ q r call step.added) same
      (λ m h. at-state (IsNotOut value.claim) _ m
      (replayed hall call.found step.before step.legal ∙ (ap (state_after hall) (sym step.added) ∙ h)) step.said.2) w

  -- what was in hand was put back
  pub working-returned : (v : Work) → Calls (BackHere (job_of hall) (slots_of hall) v Booked) q r → QueuesNone q r →
      IsWorking hall p (v ∷ []) t q → IsWorking hall p [] (one_put_back t) r
  working-returned v call same w =
      let held = v ∷ [] in
      let e = entry.Back v.ticket in
      let more = sees-own _ q r e call call.step.added in
      let dones = count_at is_done (seen q) w.added in
      let works = works_of w.queued ++ held in
      let claims = t.performed + length held in
      let added = w.added ++ length call.found ∷ [] in
      working hall p [] (one_put_back t) r (claims + 0) (t.put_back + 1) (dones + 0) (works_of w.queued) added
      w.queued w.taken
      (entered-gone hall p r (claims + 0) (t.put_back + 1) (dones + 0) (works_of w.queued) added v
      (λ m h. returned-gone hall call.found v m (ap (state_after hall) (sym call.step.added) ∙ h))
      (entered-own hall p q r claims t.put_back dones works w.added call.found e pass more refl
      (λ m h claim. absurd (true≢false (sym claim))) (entered-of hall p held t q w)))
      (passed-same p t.given t.strays (dones + 0) w.queued w.taken q r same
      (passed-plus p t.given t.strays dones w.queued w.taken q (passed-of hall p held t q w)))
      (omega arith) refl (sym (append-nil (works_of w.queued)))

  pub working-kept : (v back : Work) → Calls (BackHere (job_of hall) (slots_of hall) v (NotOutstanding back)) q r →
      QueuesNone q r → IsWorking hall p (v ∷ []) t q → IsWorking hall p [] (one_handed_back t) r
  working-kept v back call same w =
      let step = call.step in
      refused v call.found (sees-more _ q r call step.added) same
      (λ m h. at-state (IsNotOut v) _ m
      (replayed hall call.found step.before step.legal ∙ (ap (state_after hall) (sym step.added) ∙ h)) step.said.2) w

  -- a result that waited was booked
  pub working-took : BooksOne hall Booked q r → IsWorking hall p [] t q → IsWorking hall p [] t r
  working-took it w =
      let value = it.value in
      let call = it.call in
      let e = entry.Done value.claim.ticket value.left.outcome in
      let more = sees-own _ q r e call call.step.added in
      let dones = count_at is_done (seen q) w.added in
      let works = works_of w.queued ++ [] in
      let claims = t.performed + empty_hands in
      let added = w.added ++ length call.found ∷ [] in
      working hall p [] t r (claims + 0) (t.put_back + 0) (dones + 1) works added w.queued (w.taken ++ value ∷ [])
      (entered-own hall p q r claims t.put_back dones works w.added call.found e pass more refl
      (λ m h claim. absurd (true≢false (sym claim))) (entered-of hall p [] t q w))
      (passed-none (passed-done p t.given t.strays dones 0 w.queued w.taken (value ∷ []) q r (omega arith) it.put_same
      it.took_more (passed-of hall p [] t q w)))
      (omega arith) (omega arith) refl
    where
      passed-none : {strays dones : ℕ} {queued taken : List Executed} →
          HasPassed p (t.given + 0) strays dones queued taken r →
          HasPassed p t.given strays dones queued taken r
      passed-none {strays = strays} {dones = dones} {queued = queued} {taken = taken} it =
          subst (λ (n : ℕ). HasPassed p n strays dones queued taken r) (omega arith) it

  -- a result that waited was astray
  pub working-stray : (back : Executed) → BooksOne hall (NotOutstanding back) q r → IsWorking hall p [] t q →
      IsWorking hall p [] (one_astray t) r
  working-stray back it w =
      let value = it.value in
      let dones = count_at is_done (seen q) w.added in
      let works = works_of w.queued ++ [] in
      let claims = t.performed + empty_hands in
      working hall p [] (one_astray t) r claims t.put_back dones works w.added w.queued (w.taken ++ value ∷ [])
      (entered-more hall p q r claims t.put_back dones works w.added it.call.found pass
      (sees-more _ q r it.call it.call.step.added) (entered-of hall p [] t q w))
      (record {
        put_more = it.put_same ∙ w.queue.put_more;
        took_more = it.took_more ∙ (ap (λ (l : List Executed). l ++ value ∷ []) w.queue.took_more
            ∙ append_assoc (took p) w.taken (value ∷ []));
        astray = w.queue.astray + 1;
        balance = let b = w.queue.balance in let long = length-append w.taken (value ∷ []) in omega (arith, b, long);
        strays_are = more-strays t.strays w.queue.astray MOST_COUNTED w.queue.strays_are;
      })
      refl refl refl

  -- none waited
  pub working-idle : StaysOut q r → QueuesNone q r → IsWorking hall p [] t q → IsWorking hall p [] t r
  working-idle out same w = working-more [] (seen q) (stays-out q r out) same w

-- at first
pub working-starts : (hall : Hall) (p : Pass) → IsWorking hall p [] no_tally p
working-starts hall p =
    working hall p [] no_tally p 0 0 0 [] [] [] [] (record {
      begins = ([], sym (append-nil (seen p)));
      number_same = refl;
      own_more = sym (append-nil (own p));
      new = All-nil (λ (n : ℕ). length (seen p) ≤ n);
      stand = record {
        within = All-nil _;
        only = All-nil _;
        claims_are = refl;
        backs_are = refl;
        dones_are = refl;
      };
      few = omega arith;
      accounted = λ m h. All-nil _;
    }) (record {
      put_more = sym (append-nil (put p));
      took_more = sym (append-nil (took p));
      astray = 0;
      balance = refl;
      strays_are = refl;
    }) refl refl refl

-- a claim's ticket is a number, so one claim more can be counted
pub room : (hall : Hall) (p q r : Pass) (t : Tally) (v : Work) → IsPassOf hall r →
    Calls (ClaimHere (job_of hall) (slots_of hall) (number_of q) (Told (Working v))) q r →
    IsWorking hall p (v ∷ []) t r → v.ticket ≤ MOST_COUNTED → IsSum t → HasRoom t
room hall p q r t v pass call w small sum =
    let step = call.step.1 in
    let led = has-led hall r pass in
    let e = entry.Claim step.added.0 v.algorithm v.clone (number_of q) in
    let journal : journal_of (seen r) ≡ journal_of call.found ++ e ∷ [] =
    ap journal_of step.added.1 ∙ journal-parts call.found (Entered e ∷ []) in
    let long = ap (λ (l : List Entry). length l) journal in
    let parts = length-append (journal_of call.found) (e ∷ []) in
    let ticket : v.ticket ≡ length (journal_of call.found) =
    step.said.ticket ∙ ap (λ (l : List Entry). length l) step.legal.journal in
    let fewer = claims-are-fewer (job_of hall) (slots_of hall) (records_of (seen r)) (journal_of (seen r)) led.state
    led.led
    (omega (arith, long, parts)) in
    let few = w.few in
    (omega (arith, long, parts, ticket, fewer, few, small), sum)

-- the only pass takes what it put
pub takes-alone : (hall : Hall) (answer : Give Executed) (p q : Pass) → BooksOne hall answer p q → TakesAlone hall p q
takes-alone hall answer p q it one =
    let puts = it.in_order one in
    let whole = ap (λ (l : List Executed). length l) puts.1 in
    let parts = length-append (took p) (it.value ∷ puts.0) in
    let puts_same = ap (λ (l : List Executed). length l) it.put_same in
    let more = ap (λ (l : List Executed). length l) it.took_more in
    let one_more = length-append (took p) (it.value ∷ []) in
    (omega (arith, more, one_more), omega (arith, whole, parts, puts_same, more, one_more))
