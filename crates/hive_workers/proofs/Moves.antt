-- What a call leaves of a pass, put plainly: it has seen more, and one entry of that is its own, or none.
use Rattle.std.proofs.Common.{◌≡◌, ℕ, ◌-◌, List, [], ◌∷◌, ◌++◌, length, Option, Some, None, refl, sym, ap, ◌∙◌, subst, arith, append-nil, length-append}
use Rattle.std.specs.List.{range_with_len}
use Rattle.std.specs.Option.{IsSomeAnd}
use Rattle.hive_hall.specs.Calls.{Calls, StaysOut}
use Rattle.hive_hall.specs.Legal.{IsHistoryOf}
use Rattle.hive_hall.specs.Pass.{IsPassOf, job_of, number_of, own, seen, slots_of}
use Rattle.hive_hall.specs.Says.{Histories}
use Rattle.hive_hall.specs.declared.hall.Hall.{Hall}
use Rattle.hive_hall.specs.declared.pass.Pass.{Pass}
use Rattle.hive_model.specs.EventRecord.{EventRecord}
use Rattle.hive_model.specs.History.{BeginsWith, DeskState, records_of}
use Rattle.hive_model.specs.Job.{Job}
use Rattle.hive_model.specs.Machine.{Machine}
use Rattle.hive_model.specs.Replay.{replay}
use Rattle.hive_model.specs.declared.entry.Entry.{Entry}
use Rattle.hive_model.specs.declared.item.Item.{Item}
use Rattle.hive_model.specs.declared.item.Item.TheVariants.{Entered}
use Rattle.hive_workers.specs.Outstanding.{state_after}

-- nothing of what it has seen since is its own
pub record SeesMore (p q : Pass) (found : List Item) : Type 0 where
  pub begins : BeginsWith found (seen p)
  pub seen_is : seen q ≡ found
  pub own_same : own q ≡ own p
  pub number_same : number_of q ≡ number_of p

-- the last entry is
pub record SeesOwn (p q : Pass) (found : List Item) (e : Entry) : Type 0 where
  pub begins : BeginsWith found (seen p)
  pub seen_is : seen q ≡ found ++ Entered e ∷ []
  pub own_more : own q ≡ own p ++ length found ∷ []
  pub number_same : number_of q ≡ number_of p

pub sees-more : (happened : Histories) (p q : Pass) (it : Calls happened p q) → seen q ≡ it.found →
    SeesMore p q it.found
sees-more happened p q it same = record {
  begins = it.begins;
  seen_is = same;
  own_same =
      let none : length (seen q) - length it.found ≡ 0 = omega (arith, ap (λ (l : List Item). length l) same) in
      it.own_more ∙ (ap (λ (n : ℕ). own p ++ range_with_len (length it.found) n) none ∙ append-nil (own p));
  number_same = it.number_same;
}

pub sees-own : (happened : Histories) (p q : Pass) (e : Entry) (it : Calls happened p q) →
    seen q ≡ it.found ++ Entered e ∷ [] → SeesOwn p q it.found e
sees-own happened p q e it more = record {
  begins = it.begins;
  seen_is = more;
  own_more =
      let one : length (seen q) - length it.found ≡ 1 =
      omega (arith, ap (λ (l : List Item). length l) more, length-append it.found (Entered e ∷ [])) in
      it.own_more ∙ ap (λ (n : ℕ). own p ++ range_with_len (length it.found) n) one;
  number_same = it.number_same;
}

pub stays-out : (p q : Pass) → StaysOut p q → SeesMore p q (seen p)
stays-out p q it = record {
  begins = ([], sym (append-nil (seen p)));
  seen_is = it.seen_same;
  own_same = it.own_same;
  number_same = it.number_same;
}

-- a legal history leads to a state

pub replayed : (hall : Hall) (items : List Item) (d : DeskState) → IsHistoryOf (job_of hall) (slots_of hall) items d →
    replay d.job d.slots d.admitted d.journal ≡ state_after hall items
replayed hall items d legal =
    ap (λ (j : Job). replay j d.slots d.admitted d.journal) legal.job
    ∙ (ap (λ (n : ℕ). replay (job_of hall) n d.admitted d.journal) legal.slots
    ∙ (ap (λ (rs : List EventRecord). replay (job_of hall) (slots_of hall) rs d.journal) legal.records
    ∙ ap (replay (job_of hall) (slots_of hall) (records_of items)) legal.journal))

pub record HasLed (hall : Hall) (items : List Item) : Type 0 where
  pub state : Machine
  pub led : state_after hall items ≡ Some state

some-state : (P : Machine → Type 0) (hall : Hall) (items : List Item) → IsSomeAnd (state_after hall items) P →
    HasLed hall items
some-state P hall items h = by (state_after hall items) refl h
  where
    by : (o : Option Machine) → state_after hall items ≡ o → IsSomeAnd o P → HasLed hall items
    by (Some m) is h = record { state = m; led = is }
    by None is h = absurd h

pub has-led : (hall : Hall) (p : Pass) → IsPassOf hall p → HasLed hall (seen p)
has-led hall p it =
    let legal = it.knows.legal in
    let P : Machine → Type 0 = λ m. m.admitted ≡ length it.knows.told.admitted in
    some-state P hall (seen p)
    (subst (λ (o : Option Machine). IsSomeAnd o P) (replayed hall (seen p) it.knows.told legal) legal.desk.legal)

pub at-state : (P : Machine → Type 0) (o : Option Machine) (m : Machine) → o ≡ Some m → IsSomeAnd o P → P m
at-state P o m is h = subst (λ (x : Option Machine). IsSomeAnd x P) is h

pub in-state : (P : Machine → Type 0) (o : Option Machine) (m : Machine) → o ≡ Some m → P m → IsSomeAnd o P
in-state P o m is h = subst (λ (x : Option Machine). IsSomeAnd x P) (sym is) h
