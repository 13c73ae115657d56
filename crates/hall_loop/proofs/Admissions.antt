-- An event is admitted beside workers, or why it isn't.
use Rattle.std.proofs.Common.{◌≡◌, ◌≢◌, ℕ, ◌+◌, ◌-◌, ◌*◌, ◌<◌, ◌^◌, Bool, true, false, is_some, List, [], ◌∷◌, ◌++◌, append-nil, length, length-append, count_by, Option, Some, None, slice_get, refl, sym, ap, ◌∙◌, subst, arith}
use Rattle.std.proofs.lemmas.Option.{slice_get_within}
use Rattle.std.specs.Prelude.{IsSomeAnd}
use Rattle.core_laws.proofs.Counting.{count-cons}
use Rattle.core_laws.proofs.OncePlaces.{run-once}
use Rattle.event_loop.proofs.Moves.{all-admitted}
use Rattle.event_loop.proofs.Ran.{closed-before}
use Rattle.event_loop.proofs.Tallies.{few-counted}
use Rattle.event_loop.proofs.Tallying.{tallied-admits}
use Rattle.event_loop.specs.Loop.{IsResultOf}
use Rattle.event_loop.specs.Running.{IsTallied}
use Rattle.event_loop.specs.Waiting.{Waits}
use Rattle.hall_loop.proofs.Given.{IsOneMore, begins-on, one-more}
use Rattle.hall_loop.proofs.Steps.{Kept, found-told, kept-none, results-still, still}
use Rattle.hall_loop.proofs.Works.{history-one}
use Rattle.hall_loop.specs.Beside.{AreResultsOf, IsToldBy, Keeps, first_of}
use Rattle.hall_loop.specs.Others.{OthersWork}
use Rattle.hive_hall.specs.Calls.{Calls}
use Rattle.hive_hall.specs.Pass.{IsPassOf, job_of, seen, slots_of}
use Rattle.hive_hall.specs.Says.{AdmitHere}
use Rattle.hive_hall.specs.declared.hall.Hall.{Hall}
use Rattle.hive_hall.specs.declared.pass.Pass.{Pass}
use Rattle.hive_model.proofs.Lists.{slice_get-append_front}
use Rattle.hive_model.specs.EventRecord.{EventRecord}
use Rattle.hive_model.specs.History.{BeginsWith, DeskState, records_of}
use Rattle.hive_model.specs.Machine.{Busy}
use Rattle.hive_model.specs.Replay.{replay}
use Rattle.hive_model.specs.declared.entry.Entry.TheVariants as entry
use Rattle.hive_model.specs.declared.item.Item.TheVariants.{Admitted}
use Rattle.report_text.specs.declared.counts.Counts.{Counts}
use Rattle.scheduler_core.proofs.Claims.{taken, told}
use Rattle.scheduler_core.specs.Says.{is_closed, is_full}
use Rattle.scheduler_core.specs.declared.answers.Admit.{Admit}
use Rattle.scheduler_core.specs.declared.answers.Admit.TheVariants.{At, Closed, Full}
use Rattle.std.specs.List.{list_all}

-- where fewer events are in flight than there are slots, a slot is empty

not-all : (slots : List (Option Busy)) → list_all (λ (s : Option Busy). is_some s) slots ≡ true →
    count_by is_some slots ≡ length slots
not-all [] all = refl
not-all (Some b ∷ slots) all =
    omega (arith, count-cons is_some (Some b) slots, not-all slots all)
not-all (None ∷ slots) all = absurd (cc)

pub has-empty : (d : DeskState) (waiting : Waits) (handed : ℕ) (counts : Counts) →
    (t : IsTallied d waiting handed counts) → length d.admitted < counts.events + d.slots →
    is_full t.machine ≡ true → ⊥
has-empty d waiting handed counts t free full =
    let m = t.machine in
    let many = (run-once d.job d.slots d.admitted d.journal m t.led).many in
    let all = all-admitted d m t.desk t.led in
    let few = few-counted m.finished counts t.counted in
    let busy = not-all m.slots full in
    omega (arith, many, all, few.events, busy, t.slots, free)

-- the results that wait are those of records that are still there

pub more-results : (hall : Hall) (records : List EventRecord) (event : EventRecord) (handed : ℕ) (waiting : Waits) →
    AreResultsOf hall records handed waiting → AreResultsOf hall (records ++ event ∷ []) handed waiting
more-results hall records event handed waiting are i r there =
    let t = taken (slice_get records (handed + i)) (λ (x : EventRecord). IsResultOf (job_of hall) x r) (are i r there) in
    let within = slice_get_within records (handed + i) t.value t.was in
    let at : slice_get (records ++ event ∷ []) (handed + i) ≡ Some t.value =
    slice_get-append_front records (event ∷ []) (handed + i) within ∙ t.was in
    subst (λ (o : Option EventRecord). IsSomeAnd o (λ x. IsResultOf (job_of hall) x r)) (sym at) t.holds

module _ (hall : Hall) (p q : Pass) (waiting : Waits) (counts : Counts) (slots admitted handed : ℕ) (closed : Bool)
    (off : closed ≡ false) (k : Keeps hall p waiting counts slots admitted handed closed) (pass : IsPassOf hall q)
    (free : admitted < counts.events + slots) (few : admitted < handed + 2 * slots) (event : EventRecord) where
  abbrev Told : DeskState → Type 0
  Told d = IsToldBy waiting counts admitted handed closed d

  -- it has the next place
  module _ (slot place : ℕ) (it : Calls (AdmitHere (job_of hall) (slots_of hall) event (At slot place)) p q)
      (room : admitted < 2 ^ 32 - 1) where
    here : BeginsWith (seen q) it.found
    here = (Admitted slot (length (records_of it.found) + 1) event ∷ [], it.step.added)

    pub begins-at : BeginsWith (seen q) (seen p)
    begins-at = begins-on (seen p) it.found (seen q) it.begins here

    pub same-at : first_of q admitted ≡ first_of p admitted
    same-at = (still hall p q waiting counts slots admitted handed closed k pass begins-at).same

    -- what it makes of what was told
    told-more : Told it.step.before → IsToldBy waiting counts (admitted + 1) handed closed it.step.after
    told-more t =
        let s = it.step in
        let d = s.before in
        let records : s.after.admitted ≡ d.admitted ++ event ∷ [] =
        ap (λ (x : DeskState). x.admitted) s.said.1 in
        record {
          tally = tallied-admits d s.after waiting handed slot counts event t.tally s.said.1 s.still_legal.desk
              (omega (arith, t.all, room)) (omega (arith, t.all, few, k.slots_are, s.legal.slots));
          all = omega (
            arith,
            t.all,
            ap (λ (l : List EventRecord). length l) records,
            length-append d.admitted (event ∷ []),
          );
          last = ap is_closed s.said.1
              ∙ (closed-before d.journal (entry.Admit slot (length d.admitted + 1)) refl ∙ t.last);
        }

    pub admitted-at : place ≡ admitted + 1 → IsOneMore admitted (seen p) (seen q) event
    admitted-at at =
        let s = it.step in
        let records = ap (λ (l : List EventRecord). length l) s.legal.records in
        one-more admitted slot (length (records_of it.found) + 1) (seen p) it.found (seen q) event it.begins k.known
        (omega (arith, at, s.said.0, records)) s.added

    pub keeps-at : place ≡ admitted + 1 → Keeps hall q waiting counts slots (admitted + 1) handed closed
    keeps-at at =
        let one = admitted-at at in
        record {
          pass = pass;
          slots_are = k.slots_are;
          known = one.known;
          results = subst (λ (l : List EventRecord). AreResultsOf hall l handed waiting) (sym one.first)
              (more-results hall (first_of p admitted) event handed waiting k.results);
          told = λ others d legal.
              subst (λ (x : DeskState). IsToldBy waiting counts (admitted + 1) handed closed x)
              (sym (history-one (job_of hall) (slots_of hall) (seen q) d it.step.after legal it.step.still_legal))
              (told-more (found-told hall p q waiting counts slots admitted handed closed k pass _ it here others
              it.step.before it.step.legal));
        }

    -- another place, which only another's events can have
    pub lost-at : place ≢ admitted + 1 → OthersWork hall q → ⊥
    lost-at differs others =
        let t = found-told hall p q waiting counts slots admitted handed closed k pass _ it here others
        it.step.before it.step.legal in
        differs (omega (arith, it.step.said.0, t.all))

    pub keeps-lost : place ≢ admitted + 1 → Keeps hall q waiting counts slots admitted handed closed
    keeps-lost differs = record {
      pass = pass;
      slots_are = k.slots_are;
      known = (still hall p q waiting counts slots admitted handed closed k pass begins-at).known;
      results = results-still hall p q waiting counts slots admitted handed closed k pass begins-at;
      told = λ others d legal. absurd (lost-at differs others);
    }

  -- it was handed back
  module _ (answer : Admit) (it : Calls (AdmitHere (job_of hall) (slots_of hall) event answer) p q) where
    pub back-kept : seen q ≡ it.found → Kept hall p q waiting counts slots admitted handed closed k pass
    back-kept same = kept-none hall p q waiting counts slots admitted handed closed k pass _ it same

    back-told : seen q ≡ it.found → OthersWork hall q → Told it.step.before
    back-told same others =
        found-told hall p q waiting counts slots admitted handed closed k pass _ it
        ([], same ∙ sym (append-nil it.found)) others it.step.before it.step.legal

  pub back-full : (back : EventRecord) →
      (it : Calls (AdmitHere (job_of hall) (slots_of hall) event (Full back)) p q) → OthersWork hall q → ⊥
  back-full back it others =
      let t = back-told (Full back) it it.step.added others in
      let d = it.step.before in
      let full = told (replay d.job d.slots d.admitted d.journal) (λ m. is_full m ≡ true) t.tally.machine t.tally.led
      it.step.said.3 in
      has-empty d waiting handed counts t.tally (omega (arith, t.all, free, k.slots_are, it.step.legal.slots)) full

  pub back-closed : (back : EventRecord) →
      (it : Calls (AdmitHere (job_of hall) (slots_of hall) event (Closed back)) p q) → OthersWork hall q → ⊥
  back-closed back it others =
      let t = back-told (Closed back) it it.step.added others in
      let said = it.step.said.2 in
      let was = t.last in
      let on = off in
      absurd (cc)
