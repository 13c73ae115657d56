-- Entries of one kind are entered one by one, and claims that are outstanding are put back.
use Rattle.std.proofs.Common.{◌≡◌, ℕ, ◌<◌, Bool, true, List, [], ◌∷◌, ◌++◌, append-nil, append_assoc, Some, refl, sym, ap, ◌∙◌, arith}
use Rattle.std.proofs.lemmas.Bool.{true≢false}
use Rattle.std.proofs.lemmas.List.Elements.{All-append, All-cons, All-nil, All-weaker}
use Rattle.std.specs.Option.{option_map_or}
use Rattle.event_loop.proofs.Effects.{back-effect}
use Rattle.event_loop.proofs.Entries.{back-step}
use Rattle.event_loop.proofs.Ran.{entered}
use Rattle.event_slots.specs.Slots.{claims_out}
use Rattle.hall_loop.specs.Settled.{Enters}
use Rattle.hive_model.specs.History.{DeskState}
use Rattle.hive_model.specs.Machine.{Machine}
use Rattle.hive_model.specs.Replay.{replay}
use Rattle.hive_model.specs.declared.entry.Entry.{Entry}
use Rattle.hive_model.specs.declared.entry.Entry.TheVariants as entry
use Rattle.hive_workers.specs.Items.{is_back, is_done, is_work}
use Rattle.scheduler_core.proofs.Claims.{taken}
use Rattle.scheduler_core.specs.Says.{IsLeastOut, IsRecalled, with_entry}
use Rattle.scheduler_core.specs.State.{IsDesk}

abbrev IsKind : (Entry → Bool) → Entry → Type 0
IsKind kind e = kind e ≡ true

-- none at all
pub enters-none : (kind : Entry → Bool) (d : DeskState) → Enters kind d d
enters-none kind d = record {
  entries = [];
  only = All-nil (IsKind kind);
  appended = ap (λ (l : List Entry). record d { journal = l }) (sym (append-nil d.journal));
}

-- one entry more
pub enters-one : (kind : Entry → Bool) (first d after : DeskState) (e : Entry) → Enters kind first d →
    after ≡ with_entry d e → kind e ≡ true → Enters kind first after
enters-one kind first d after e so_far appended one = record {
  entries = so_far.entries ++ e ∷ [];
  only = All-append (IsKind kind) so_far.entries (e ∷ []) so_far.only
      (All-cons (IsKind kind) e [] one (All-nil (IsKind kind)));
  appended = appended ∙ (ap (λ (x : DeskState). with_entry x e) so_far.appended
      ∙ ap (λ (l : List Entry). record first { journal = l }) (append_assoc first.journal so_far.entries (e ∷ [])));
}

-- results, and claims that are put back, are work

done-works : (e : Entry) → is_done e ≡ true → is_work e ≡ true
done-works (entry.Admit slot place) h = absurd (true≢false (sym h))
done-works (entry.Claim slot number clone worker) h = refl
done-works (entry.Done ticket outcome) h = refl
done-works (entry.Back ticket) h = refl
done-works (entry.Retire slot) h = absurd (true≢false (sym h))
done-works entry.Last h = absurd (true≢false (sym h))

back-works : (e : Entry) → is_back e ≡ true → is_work e ≡ true
back-works (entry.Admit slot place) h = absurd (true≢false (sym h))
back-works (entry.Claim slot number clone worker) h = refl
back-works (entry.Done ticket outcome) h = refl
back-works (entry.Back ticket) h = refl
back-works (entry.Retire slot) h = absurd (true≢false (sym h))
back-works entry.Last h = absurd (true≢false (sym h))

pub works-done : (d after : DeskState) → Enters is_done d after → Enters is_work d after
works-done d after it = record {
  entries = it.entries;
  only = All-weaker (IsKind is_done) (IsKind is_work) done-works it.entries it.only;
  appended = it.appended;
}

pub works-back : (d after : DeskState) → Enters is_back d after → Enters is_work d after
works-back d after it = record {
  entries = it.entries;
  only = All-weaker (IsKind is_back) (IsKind is_work) back-works it.entries it.only;
  appended = it.appended;
}

-- how many claims are outstanding
unfoldable pub out_at : DeskState → ℕ
out_at d = option_map_or (λ (m : Machine). claims_out m.slots) (replay d.job d.slots d.admitted d.journal) 0

out-is : (d : DeskState) (m : Machine) → replay d.job d.slots d.admitted d.journal ≡ Some m →
    out_at d ≡ claims_out m.slots
unfolding out_at
out-is d m led = ap (λ o. option_map_or (λ (n : Machine). claims_out n.slots) o 0) led

pub recalled-less : (d after : DeskState) → IsRecalled d after → IsDesk after → out_at after < out_at d
recalled-less d after it desk =
    let t = taken (replay d.job d.slots d.admitted d.journal) (IsLeastOut it.ticket) it.least in
    let e = entered d after t.value (entry.Back it.ticket) t.was it.appended desk in
    let b = back-effect t.value e.next
    (back-step d.job d.admitted d.journal t.value e.next it.ticket e.steps) in
    omega (arith, b.claims, out-is d t.value t.was, out-is after e.next e.led)
