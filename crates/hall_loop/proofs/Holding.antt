-- The loop keeps no claim of its own back: as its pass sees more, a claim that was handed in or put back stays so, and
-- one that it has just added is in hand.
use Rattle.std.proofs.Common.{◌≡◌, ℕ, ◌+◌, ◌-◌, ◌<◌, Bool, true, false, List, [], ◌∷◌, ◌++◌, length, length-append, slice_get, Option, Some, None, refl, sym, ap, ◌∙◌, subst, arith, append_assoc}
use Rattle.std.proofs.lemmas.Bool.{false≢true, true≢false}
use Rattle.std.proofs.lemmas.List.Elements.{All-nil, All-push, Contains-push}
use Rattle.std.proofs.lemmas.Option.{slice_get-get_or}
use Rattle.std.specs.List.{All, range_with_len}
use Rattle.std.specs.Option.{option_map_or}
use Rattle.core_laws.proofs.OwnEntries.{own-entries}
use Rattle.expr_code.specs.Claim.{Claim as Work, Done as Executed}
use Rattle.hall_loop.specs.Beside.{HoldsNothing, HoldsOnly}
use Rattle.hive_hall.specs.Calls.{BookSays, Calls}
use Rattle.hive_hall.specs.Closing.{IsNewIn}
use Rattle.hive_hall.specs.Pass.{IsPassOf, job_of, number_of, own, seen, slots_of}
use Rattle.hive_hall.specs.Says.{AdmitHere, BackHere, ClaimHere, DoneHere, Histories, LastHere, RetireHere, StopHere}
use Rattle.hive_hall.specs.declared.answers.Ask.TheVariants.{Told, Stopped}
use Rattle.hive_hall.specs.declared.answers.Book.{Book}
use Rattle.hive_hall.specs.declared.answers.Book.TheVariants as book
use Rattle.hive_hall.specs.declared.hall.Hall.{Hall}
use Rattle.hive_hall.specs.declared.pass.Pass.{Pass}
use Rattle.hive_model.proofs.Lists.{slice_get-append_back}
use Rattle.hive_model.specs.EventRecord.{EventRecord}
use Rattle.hive_model.specs.History.{BeginsWith, DeskState, Participant, journal_of, records_of}
use Rattle.hive_model.specs.Machine.{Machine}
use Rattle.hive_model.specs.declared.entry.Entry.{Entry}
use Rattle.hive_model.specs.declared.entry.Entry.TheVariants as entry
use Rattle.hive_model.specs.declared.item.Item.{Item}
use Rattle.hive_model.specs.declared.item.Item.TheVariants.{Admitted, Entered, Stop}
use Rattle.hive_workers.proofs.Accounts.{booked-gone, fewer-works, later-accounts, more-works, refused-gone, returned-gone}
use Rattle.hive_workers.proofs.Moves.{SeesMore, at-state, has-led, in-state, replayed, sees-more, stays-out}
use Rattle.hive_workers.proofs.OlderClaims.{handed-out}
use Rattle.hive_workers.proofs.Standing.{ticket-last}
use Rattle.hive_workers.specs.Items.{enters, is_claim, stands_at, ticket_at}
use Rattle.hive_workers.specs.Outstanding.{AreAccounted, IsAccounted, state_after}
use Rattle.scheduler_core.specs.Says.{IsNotOut, IsWorkOf}
use Rattle.scheduler_core.specs.declared.answers.Admit.{Admit}
use Rattle.scheduler_core.specs.declared.answers.Admit.TheVariants.{At, Closed, Full, NoMemory as NoRoom}
use Rattle.scheduler_core.specs.declared.answers.Claim.{Claim}
use Rattle.scheduler_core.specs.declared.answers.Claim.TheVariants.{Job as Working, Idle, Over, NoMemory as NoneToWork}
use Rattle.scheduler_core.specs.declared.answers.Finished.{Finished}
use Rattle.scheduler_core.specs.declared.answers.Give.{Give}
use Rattle.scheduler_core.specs.declared.answers.Give.TheVariants.{Booked, NotOutstanding}
use Rattle.scheduler_core.specs.declared.answers.Said.{Said}
use Rattle.scheduler_core.specs.declared.answers.Said.TheVariants.{Now, Before}

stands-item : (kind : Entry → Bool) (found : List Item) (item : Item) →
    stands_at kind (found ++ item ∷ []) (length found) ≡ enters kind item
stands-item kind found item =
    ap (λ (o : Option Item). option_map_or (enters kind) o false)
    (slice_get-append_back found (item ∷ []) (length found) (omega arith) ∙ ap (slice_get (item ∷ [])) none)
  where
    none : length found - length found ≡ 0
    none = omega arith

-- a claim was handed out
abbrev pub is_job : Claim → Bool
is_job (Working v) = true
is_job (Idle running) = false
is_job Over = false
is_job NoneToWork = false

-- a new pass holds nothing
pub holds-none : (hall : Hall) (d : DeskState) (p : Pass) → IsNewIn hall d p → HoldsNothing hall p
holds-none hall d p new =
    let it = has-led hall p new.0 in
    in-state (AreAccounted (seen p) (own p) []) (state_after hall (seen p)) it.state it.led
    (subst (λ (l : List ℕ). AreAccounted (seen p) l [] it.state) (sym (ap (λ (x : Participant Executed). x.own) new.1))
    (All-nil (λ (n : ℕ). stands_at is_claim (seen p) n ≡ true → IsAccounted it.state [] (ticket_at (seen p) n))))

module _ (hall : Hall) (p q : Pass) (before : IsPassOf hall p) (after : IsPassOf hall q) where
  abbrev Holds : Pass → List Work → Machine → Type 0
  Holds r works m = AreAccounted (seen r) (own r) works m

  within : All (λ n. n < length (seen p)) (own p)
  within k d h = before.knows.in_order.within k _ (slice_get-get_or (own p) k d h)

  -- the history has grown
  grown : (works : List Work) (rest : List Item) → seen q ≡ seen p ++ rest → (m last : Machine) →
      state_after hall (seen p) ≡ Some m → state_after hall (seen q) ≡ Some last → Holds p works m →
      AreAccounted (seen q) (own p) works last
  grown works rest is m last led now it =
      subst (λ (l : List Item). AreAccounted l (own p) works last) (sym is)
      (later-accounts hall (seen p) rest m last (own p) works led (ap (state_after hall) (sym is) ∙ now) within it)

  -- by nothing of its own
  holds-more : (works : List Work) (found : List Item) → SeesMore p q found → HoldsOnly hall p works →
      HoldsOnly hall q works
  holds-more works found more it =
      let a = has-led hall p before in
      let b = has-led hall q after in
      in-state (Holds q works) (state_after hall (seen q)) b.state b.led
      (subst (λ (l : List ℕ). AreAccounted (seen q) l works b.state) (sym more.own_same)
      (grown works more.begins.0 (more.seen_is ∙ more.begins.1) a.state b.state a.led b.led
      (at-state (Holds p works) (state_after hall (seen p)) a.state a.led it)))

  -- by one item of its own
  record Adds (found : List Item) (item : Item) : Type 0 where
    pub begins : BeginsWith found (seen p)
    pub seen_is : seen q ≡ found ++ item ∷ []
    pub own_more : own q ≡ own p ++ length found ∷ []

  adds : (happened : Histories) (item : Item) (it : Calls happened p q) → seen q ≡ it.found ++ item ∷ [] →
      Adds it.found item
  adds happened item it more = record {
    begins = it.begins;
    seen_is = more;
    own_more =
        let one : length (seen q) - length it.found ≡ 1 =
        omega (arith, ap (λ (l : List Item). length l) more, length-append it.found (item ∷ [])) in
        it.own_more ∙ ap (λ (n : ℕ). own p ++ range_with_len (length it.found) n) one;
  }

  holds-added : (works : List Work) (found : List Item) (item : Item) → Adds found item →
      ((m : Machine) → state_after hall (seen q) ≡ Some m → enters is_claim item ≡ true →
      IsAccounted m works (length (journal_of found))) → HoldsOnly hall p works → HoldsOnly hall q works
  holds-added works found item more account it =
      let a = has-led hall p before in
      let b = has-led hall q after in
      let rest = more.begins.0 in
      let is : seen q ≡ seen p ++ (rest ++ item ∷ []) =
      more.seen_is ∙ (ap (λ (l : List Item). l ++ item ∷ []) more.begins.1 ∙ append_assoc (seen p) rest (item ∷ [])) in
      let older = grown works (rest ++ item ∷ []) is a.state b.state a.led b.led
      (at-state (Holds p works) (state_after hall (seen p)) a.state a.led it) in
      in-state (Holds q works) (state_after hall (seen q)) b.state b.led
      (subst (λ (l : List ℕ). AreAccounted (seen q) l works b.state) (sym more.own_more)
      (All-push (λ (n : ℕ). stands_at is_claim (seen q) n ≡ true → IsAccounted b.state works (ticket_at (seen q) n))
      (own p) (length found) older
      (λ stands. subst (IsAccounted b.state works)
      (sym (ap (λ (l : List Item). ticket_at l (length found)) more.seen_is ∙ ticket-last found (item ∷ [])))
      (account b.state b.led (sym (ap (λ (l : List Item). stands_at is_claim l (length found)) more.seen_is
      ∙ stands-item is_claim found item) ∙ stands)))))

  -- that enters no claim
  holds-other : (works : List Work) (found : List Item) (item : Item) → Adds found item → enters is_claim item ≡ false →
      HoldsOnly hall p works → HoldsOnly hall q works
  holds-other works found item more none it =
      holds-added works found item more (λ m h claim. absurd (false≢true (sym none ∙ claim))) it

  -- what is outstanding no more is in hand no more
  lets-go : (v : Work) → ((m : Machine) → state_after hall (seen q) ≡ Some m → Holds q (v ∷ []) m → Holds q [] m) →
      HoldsOnly hall q (v ∷ []) → HoldsNothing hall q
  lets-go v gone it =
      let b = has-led hall q after in
      in-state (Holds q []) (state_after hall (seen q)) b.state b.led
      (gone b.state b.led (at-state (Holds q (v ∷ [])) (state_after hall (seen q)) b.state b.led it))

  -- the calls

  claimed : (v : Work) → Calls (ClaimHere (job_of hall) (slots_of hall) (number_of p) (Told (Working v))) p q →
      HoldsNothing hall p → HoldsOnly hall q (v ∷ [])
  claimed v call it =
      let step = call.step.1 in
      let e = entry.Claim step.added.0 v.algorithm v.clone (number_of p) in
      let ticket : v.ticket ≡ length (journal_of call.found) =
      step.said.ticket ∙ ap (λ (l : List Entry). length l) step.legal.journal in
      let a = has-led hall p before in
      let more : HoldsOnly hall p (v ∷ []) =
      in-state (Holds p (v ∷ [])) (state_after hall (seen p)) a.state a.led
      (more-works (seen p) (own p) [] (v ∷ []) a.state
      (at-state (Holds p []) (state_after hall (seen p)) a.state a.led it)) in
      holds-added (v ∷ []) call.found (Entered e) (adds _ (Entered e) call step.added.1)
      (λ m h claim slot number c out is.
      let P : Machine → Type 0 = λ x. IsWorkOf x step.said.slot v in
      let now = at-state P _ m (replayed hall (seen q) step.after step.still_legal ∙ h) step.said.out in (
        v,
        Contains-push [] v,
        handed-out (journal_of (seen q)) m step.said.slot v
            (own-entries (job_of hall) (slots_of hall) (records_of (seen q)) (journal_of (seen q)) m h) now.out
            slot number c out (is ∙ sym ticket),
      ))
      more

  pub claim-holds : (answer : Claim) (v : Work) → answer ≡ Working v →
      Calls (ClaimHere (job_of hall) (slots_of hall) (number_of p) (Told answer)) p q → HoldsNothing hall p →
      HoldsOnly hall q (v ∷ [])
  claim-holds answer v same call it =
      claimed v (subst (λ (a : Claim). Calls (ClaimHere (job_of hall) (slots_of hall) (number_of p) (Told a)) p q) same call)
      it

  -- where none was told
  pub calm-holds : (answer : Claim) → is_job answer ≡ false →
      Calls (ClaimHere (job_of hall) (slots_of hall) (number_of p) (Told answer)) p q → HoldsNothing hall p →
      HoldsNothing hall q
  calm-holds (Working v) none call it = absurd (true≢false none)
  calm-holds (Idle running) none call it = holds-more [] call.found (sees-more _ p q call call.step.1.added) it
  calm-holds Over none call it = holds-more [] call.found (sees-more _ p q call call.step.1.added) it
  calm-holds NoneToWork none call it = holds-more [] call.found (sees-more _ p q call call.step.1.added) it

  pub stopped-holds : Calls (ClaimHere (job_of hall) (slots_of hall) (number_of p) Stopped) p q → HoldsNothing hall p →
      HoldsNothing hall q
  stopped-holds call it = holds-more [] call.found (sees-more _ p q call call.step.1.added) it

  done-more : (works : List Work) (v : Executed) (answer : Give Executed) →
      Calls (DoneHere (job_of hall) (slots_of hall) v answer) p q → HoldsOnly hall p works → HoldsOnly hall q works
  done-more works v Booked call it =
      let e = entry.Done v.claim.ticket v.left.outcome in
      holds-other works call.found (Entered e) (adds _ (Entered e) call call.step.added) refl it
  done-more works v (NotOutstanding back) call it =
      holds-more works call.found (sees-more _ p q call call.step.added) it

  pub done-holds : (v : Executed) (answer : Give Executed) →
      Calls (DoneHere (job_of hall) (slots_of hall) v answer) p q → HoldsOnly hall p (v.claim ∷ []) → HoldsNothing hall q
  done-holds v Booked call it =
      lets-go v.claim (λ m h. fewer-works (seen q) (own q) [] v.claim m
      (booked-gone hall call.found v.claim v.left.outcome m (ap (state_after hall) (sym call.step.added) ∙ h)))
      (done-more (v.claim ∷ []) v Booked call it)
  done-holds v (NotOutstanding back) call it =
      let step = call.step in
      lets-go v.claim (λ m h. fewer-works (seen q) (own q) [] v.claim m (refused-gone v.claim m
      (at-state (IsNotOut v.claim) _ m
      (replayed hall call.found step.before step.legal ∙ (ap (state_after hall) (sym step.added) ∙ h)) step.said.2)))
      (done-more (v.claim ∷ []) v (NotOutstanding back) call it)

  pub back-holds : (v : Work) (answer : Give Work) → Calls (BackHere (job_of hall) (slots_of hall) v answer) p q →
      HoldsOnly hall p (v ∷ []) → HoldsNothing hall q
  back-holds v Booked call it =
      let e = entry.Back v.ticket in
      lets-go v (λ m h. fewer-works (seen q) (own q) [] v m
      (returned-gone hall call.found v m (ap (state_after hall) (sym call.step.added) ∙ h)))
      (holds-other (v ∷ []) call.found (Entered e) (adds _ (Entered e) call call.step.added) refl it)
  back-holds v (NotOutstanding back) call it =
      let step = call.step in
      lets-go v (λ m h. fewer-works (seen q) (own q) [] v m (refused-gone v m
      (at-state (IsNotOut v) _ m
      (replayed hall call.found step.before step.legal ∙ (ap (state_after hall) (sym step.added) ∙ h)) step.said.2)))
      (holds-more (v ∷ []) call.found (sees-more _ p q call call.step.added) it)

  pub book-holds : (answer : Book) → BookSays hall answer p q → HoldsNothing hall p → HoldsNothing hall q
  book-holds book.Booked said it = done-more [] said.value Booked said.call it
  book-holds (book.NotOutstanding back) said it = done-more [] said.value (NotOutstanding back) said.call it
  book-holds book.Empty said it = holds-more [] (seen p) (stays-out p q said.0) it

  pub retire-holds : (answer : Option Finished) → Calls (RetireHere (job_of hall) (slots_of hall) answer) p q →
      HoldsNothing hall p → HoldsNothing hall q
  retire-holds (Some f) call it =
      let e = entry.Retire call.step.added.0 in
      holds-other [] call.found (Entered e) (adds _ (Entered e) call call.step.added.1) refl it
  retire-holds None call it = holds-more [] call.found (sees-more _ p q call call.step.added) it

  pub admit-holds : (event : EventRecord) (answer : Admit) →
      Calls (AdmitHere (job_of hall) (slots_of hall) event answer) p q → HoldsNothing hall p → HoldsNothing hall q
  admit-holds event (At slot place) call it =
      let item = Admitted slot (length (records_of call.found) + 1) event in
      holds-other [] call.found item (adds _ item call call.step.added) refl it
  admit-holds event (Closed back) call it = holds-more [] call.found (sees-more _ p q call call.step.added) it
  admit-holds event (Full back) call it = holds-more [] call.found (sees-more _ p q call call.step.added) it
  admit-holds event (NoRoom back) call it = holds-more [] call.found (sees-more _ p q call call.step.added) it

  pub last-holds : (answer : Said) → Calls (LastHere (job_of hall) (slots_of hall) answer) p q → HoldsNothing hall p →
      HoldsNothing hall q
  last-holds Now call it =
      holds-other [] call.found (Entered entry.Last) (adds _ (Entered entry.Last) call call.step.added) refl it
  last-holds Before call it = holds-more [] call.found (sees-more _ p q call call.step.added) it

  pub stop-holds : (answer : Said) → Calls (StopHere (job_of hall) (slots_of hall) answer) p q → HoldsNothing hall p →
      HoldsNothing hall q
  stop-holds Now call it = holds-other [] call.found Stop (adds _ Stop call call.step.1.added) refl it
  stop-holds Before call it = holds-more [] call.found (sees-more _ p q call call.step.1.added) it
