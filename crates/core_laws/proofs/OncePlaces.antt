-- Each record that was admitted is in one slot or ended once, whatever entry comes.
use Rattle.std.proofs.Common.{◌≡◌, ℕ, ◌+◌, ◌-◌, ◌<◌, ◌≤◌, nat_eq, true, not, is_some, List, [], ◌∷◌, ◌++◌, length, length-append, count_by, replicate, slice_get, slice_set, Option, Some, None, inl, inr, refl, sym, ap, ◌∙◌, subst, arith}
use Rattle.std.proofs.lemmas.Bool.{and_parts, cases_eq, eq-eqb, eqb-true, ne_eqb}
use Rattle.std.proofs.lemmas.List.Sums.{sum_by-append}
use Rattle.std.proofs.lemmas.List.Folds.{sum_by-replicate}
use Rattle.std.proofs.lemmas.Option.{same_Some, none-some}
use Rattle.core_laws.proofs.Counting.{one_if}
use Rattle.core_laws.proofs.Lending.{changed, filled}
use Rattle.core_laws.proofs.Steps.{after-some, found-is, when-some}
use Rattle.core_laws.specs.Once.{AreOnce, ended_at, has_place, times}
use Rattle.hive_model.specs.Algorithm.{Algorithm}
use Rattle.hive_model.specs.Event.{result_of}
use Rattle.hive_model.specs.EventRecord.{EventRecord}
use Rattle.hive_model.specs.Execution.{execution}
use Rattle.hive_model.specs.Job.{Job}
use Rattle.hive_model.specs.Machine.{Busy, Finished, Machine, begun, opening}
use Rattle.hive_model.specs.Replay.{replay, replay_from}
use Rattle.hive_model.specs.Step.{admitting, busy_at, claimed, claiming, completed, found, putting_back, step, with_slot}
use Rattle.hive_model.specs.declared.entry.Entry.{Entry}
use Rattle.hive_model.specs.declared.entry.Entry.TheVariants.{Admit, Claim, Done, Back, Retire, Last}

pub opening-once : (slots : ℕ) → AreOnce (opening slots)
opening-once slots = record {
  once = λ place low high. absurd (omega (arith, low, high));
  zero = omega (arith, none 0);
  later = λ place high. omega (arith, none place);
  many = omega (arith, sum_by-replicate (λ (s : Option Busy). one_if (is_some s)) slots None);
}
  where
    none : (place : ℕ) → count_by (has_place place) (replicate slots None) ≡ 0
    none place = omega (arith, sum_by-replicate (λ (s : Option Busy). one_if (has_place place s)) slots None)

-- what changes no count

kept-once : (m next : Machine) → next.admitted ≡ m.admitted →
    ((place : ℕ) → times place next ≡ times place m) →
    count_by is_some next.slots + length next.finished ≡ count_by is_some m.slots + length m.finished →
    AreOnce m → AreOnce next
kept-once m next admitted same many it = record {
  once = λ place low high. same place ∙ it.once place low (omega (arith, admitted, high));
  zero = same 0 ∙ it.zero;
  later = λ place high. same place ∙ it.later place (omega (arith, admitted, high));
  many = many ∙ it.many ∙ sym admitted;
}

one-slot-once : (m : Machine) (slot : ℕ) (old new : Busy) → busy_at m slot ≡ Some old →
    new.place ≡ old.place → AreOnce m → AreOnce (with_slot m slot (Some new))
one-slot-once m slot old new there place it =
    kept-once m (with_slot m slot (Some new)) refl
    (λ p. omega (
      arith,
      changed (λ s. one_if (has_place p s)) m slot old (Some new) there,
      ap (λ n. one_if (nat_eq n p)) place,
    ))
    (omega (arith, changed (λ s. one_if (is_some s)) m slot old (Some new) there)) it

-- the entries

one-if-same : (a b : ℕ) → a ≡ b → one_if (nat_eq a b) ≡ 1
one-if-same a b e = ap one_if (eq-eqb a b e)

one-if-other : (a b : ℕ) → (a ≡ b → ⊥) → one_if (nat_eq a b) ≡ 0
one-if-other a b e = ap one_if (ne_eqb a b e)

admit-once : (job : Job) (m next : Machine) (slot place : ℕ) (at : Option (Option Busy))
    (found : Option EventRecord) → AreOnce m → slice_get m.slots slot ≡ at →
    admitting job m slot place at found ≡ Some next → AreOnce next
unfolding begun
admit-once job m next slot place (Some None) (Some event) it empty h =
    let w = when-some _ _ next h in
    let tests = and_parts (not m.closed) (nat_eq place (m.admitted + 1)) w.holds in
    let is : place ≡ m.admitted + 1 = eqb-true place (m.admitted + 1) tests.1 in
    let new : Option Busy = Some (begun job place event) in
    let later : Machine = record (with_slot m slot new) { admitted = m.admitted + 1 } in
    let grown = λ (p : ℕ). filled (λ s. one_if (has_place p s)) m slot new empty in
    subst AreOnce w.is (record {
      once = λ p low high. elim (cases_eq p place) [
        | inl same ↦
            let far : m.admitted < p = omega (arith, same, is) in
            omega (arith, grown p, one-if-same place p (sym same), it.later p far)
        | inr other ↦
            let near : p ≤ m.admitted = omega (arith, other, is, high) in
            omega (arith, grown p, one-if-other place p (λ e. other (sym e)), it.once p low near)
      ];
      zero = omega (arith, grown 0, one-if-other place 0 (λ e. absurd (omega (arith, e, is))), it.zero);
      later = λ p high. (
          let other : one_if (nat_eq place p) ≡ 0 = one-if-other place p
          (λ e. absurd (omega (arith, e, is, high))) in
          let before : m.admitted < p = omega (arith, high) in
          omega (arith, grown p, other, it.later p before)
          );
      many = omega (arith, filled (λ s. one_if (is_some s)) m slot new empty, it.many);
    })
admit-once job m next slot place (Some None) None it empty h = absurd (none-some next h)
admit-once job m next slot place (Some (Some b)) found it empty h = absurd (none-some next h)
admit-once job m next slot place None found it empty h = absurd (none-some next h)

claim-once : (job : Job) (ticket : ℕ) (m next : Machine) (slot number : ℕ) (clone : Option ℕ)
    (at : Option Busy) (of : Option Algorithm) → AreOnce m → busy_at m slot ≡ at →
    claiming job ticket m slot number clone at of ≡ Some next → AreOnce next
unfolding claimed
claim-once job ticket m next slot number clone (Some b) (Some a) it there h =
    let w = when-some _ _ next h in
    subst AreOnce w.is (one-slot-once m slot b (claimed b number a ticket clone) there refl it)
claim-once job ticket m next slot number clone (Some b) None it there h = absurd (none-some next h)
claim-once job ticket m next slot number clone None of it there h = absurd (none-some next h)

retire-once : (job : Job) (m : Machine) (slot : ℕ) (b : Busy) (event : EventRecord) →
    busy_at m slot ≡ Some b → AreOnce m →
    AreOnce (record (with_slot m slot None) {
      finished = m.finished ++ record { place = b.place; result = result_of job event b.ran } ∷ [];
    })
retire-once job m slot b event there it =
    let f : Finished = record { place = b.place; result = result_of job event b.ran } in
    kept-once m (record (with_slot m slot None) { finished = m.finished ++ f ∷ [] }) refl
    (λ p. omega (
      arith,
      changed (λ s. one_if (has_place p s)) m slot b None there,
      sum_by-append (λ x. one_if (ended_at p x)) m.finished (f ∷ []),
    ))
    (omega (
      arith,
      changed (λ s. one_if (is_some s)) m slot b None there,
      length-append m.finished (f ∷ []),
    )) it

pub step-once : (job : Job) (records : List EventRecord) (past : List Entry) (m next : Machine)
    (entry : Entry) →
    AreOnce m → step job records past m entry ≡ Some next → AreOnce next
unfolding step completed
step-once job records past m next (Admit slot place) it h =
    admit-once job m next slot place (slice_get m.slots slot) (slice_get records m.admitted) it refl h
step-once job records past m next (Claim slot number clone worker) it h =
    claim-once job (length past) m next slot number clone (busy_at m slot)
    (slice_get job.algorithms number) it refl h
step-once job records past m next (Done ticket outcome) it h =
    let f = after-some _ (found past m ticket) next h in
    let a = after-some _ (slice_get job.algorithms f.value.number) next f.gives in
    let w = when-some _ _ next a.gives in
    let was = found-is past m ticket f.value f.was in
    let new : Busy = completed f.value.busy f.value.number a.value (execution a.value f.value.claim.inputs) in
    subst AreOnce w.is (one-slot-once m f.value.slot f.value.busy new was.busy refl it)
step-once job records past m next (Back ticket) it h =
    let f = after-some _ (found past m ticket) next h in
    let was = found-is past m ticket f.value f.was in
    let new : Busy = record f.value.busy { claims = slice_set f.value.busy.claims f.value.number None } in
    subst AreOnce (same_Some (putting_back m f.value) next f.gives)
    (one-slot-once m f.value.slot f.value.busy new was.busy refl it)
step-once job records past m next (Retire slot) it h =
    let b = after-some _ (busy_at m slot) next h in
    let e = after-some _ (slice_get records (b.value.place - 1)) next b.gives in
    let w = when-some _ _ next e.gives in
    subst AreOnce w.is (retire-once job m slot b.value e.value b.was it)
step-once job records past m next Last it h =
    let w = when-some _ _ next h in
    subst AreOnce w.is (kept-once m (record m { closed = true }) refl (λ p. refl) refl it)

once-from : (job : Job) (records : List EventRecord) (past : List Entry) (m last : Machine)
    (journal : List Entry) → AreOnce m → replay_from job records past m journal ≡ Some last → AreOnce last
unfolding replay_from
once-from job records past m last [] it h = subst AreOnce (same_Some m last h) it
once-from job records past m last (entry ∷ journal) it h =
    let next = after-some _ (step job records past m entry) last h in
    once-from job records (past ++ entry ∷ []) next.value last journal
    (step-once job records past m next.value entry it next.was) next.gives

pub run-once : (job : Job) (slots : ℕ) (records : List EventRecord) (journal : List Entry) (m : Machine) →
    replay job slots records journal ≡ Some m → AreOnce m
unfolding replay
run-once job slots records journal m h =
    once-from job records [] (opening slots) m journal (opening-once slots) h
