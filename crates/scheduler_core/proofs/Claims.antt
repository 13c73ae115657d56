-- Claims that are outstanding: each has its own entry in the journal, and the inputs that the store of its event holds.
use Rattle.std.proofs.Common.{◌≡◌, ◌≢◌, ℕ, List, slice_get, Option, Some, None, refl, ap, sym, ◌∙◌, subst}
use Rattle.std.proofs.lemmas.Option.{same_Some, none-some}
use Rattle.std.specs.Option.{option_flatten}
use Rattle.std.specs.Prelude.{IfNone, IsSomeAnd}
use Rattle.core_laws.proofs.OwnEntries.{own-entries}
use Rattle.core_laws.proofs.States.{replay-sound}
use Rattle.core_laws.specs.Tickets.{HaveEntries}
use Rattle.event_slots.specs.Claiming.{IsHeld}
use Rattle.event_slots.specs.Slots.{busy_in}
use Rattle.hive_model.specs.Algorithm.{Algorithm}
use Rattle.hive_model.specs.Enabled.{inputs_in}
use Rattle.hive_model.specs.EventRecord.{EventRecord}
use Rattle.hive_model.specs.Job.{Job}
use Rattle.hive_model.specs.Machine.{Busy, Machine, Outstanding, claim_at}
use Rattle.hive_model.specs.Replay.{replay}
use Rattle.hive_model.specs.Step.{busy_at}
use Rattle.hive_model.specs.Valid.{IsValidJob}
use Rattle.hive_model.specs.declared.entry.Entry.{Entry}
use Rattle.hive_model.specs.declared.entry.Entry.TheVariants.{Admit, Claim, Done, Back, Retire, Last}
use Rattle.hive_model.specs.declared.product.Product.{Product}
use Rattle.scheduler_core.proofs.Entries.{busy-spelled}
use Rattle.scheduler_core.specs.Says.{IsOutIn}
use Rattle.scheduler_core.specs.State.{AreClaimsOf, NamesClaim}

-- something of which a fact holds

pub record Taken {X : Type 0} (o : Option X) (P : X → Type 0) : Type 0 where
  pub value : X
  pub was : o ≡ Some value
  pub holds : P value

pub taken : {X : Type 0} (o : Option X) (P : X → Type 0) → IsSomeAnd o P → Taken o P
taken (Some x) P h = record { value = x; was = refl; holds = h }
taken None P h = absurd h

pub given : {X : Type 0} (o : Option X) (P : X → Type 0) (x : X) → o ≡ Some x → P x → IsSomeAnd o P
given o P x e h = subst (λ p. IsSomeAnd p P) (sym e) h

pub told : {X : Type 0} (o : Option X) (P : X → Type 0) (x : X) → o ≡ Some x → IsSomeAnd o P → P x
told o P x e h = subst (λ p. IsSomeAnd p P) e h

-- the claims of a run

pub known-claims : (job : Job) (slots : ℕ) (records : List EventRecord) (journal : List Entry) (m : Machine) →
    IsValidJob job → replay job slots records journal ≡ Some m → AreClaimsOf job journal m
known-claims job slots records journal m valid led =
    let sound = replay-sound job slots records journal m valid.numbered led in
    record {
      entries = own-entries job slots records journal m led;
      inputs = λ slot number b c there mine.
          let event = (sound.busy slot b there).sound in
          let claim = event.claims number c mine in
          given (slice_get job.algorithms number) (λ a. c.inputs ≡ inputs_in b.store a.inputs) claim.algorithm
          claim.there (claim.inputs ∙ ap (λ s. inputs_in s claim.algorithm.inputs) (sym event.store_is));
    }

pub same-claim : (c : Outstanding) (ticket : ℕ) (clone : Option ℕ) (inputs : List Product) →
    c.ticket ≡ ticket → c.clone ≡ clone → c.inputs ≡ inputs →
    c ≡ record { ticket = ticket; clone = clone; inputs = inputs }
same-claim c ticket clone inputs e f g =
    ap (λ x. record { ticket = x; clone = c.clone; inputs = c.inputs }) e
    ∙ (ap (λ x. record { ticket = ticket; clone = x; inputs = c.inputs }) f
    ∙ ap (λ x. record { ticket = ticket; clone = clone; inputs = x }) g)

pub held-out : (job : Job) (journal : List Entry) (m : Machine) (slot ticket number : ℕ) (clone : Option ℕ)
    (inputs : List Product) → AreClaimsOf job journal m → IsHeld job m.slots slot ticket number clone inputs →
    IsOutIn m slot ticket number clone inputs
held-out job journal m slot ticket number clone inputs known held =
    let b = taken (busy_in m.slots slot) _ held in
    let c = taken (claim_at b.value number) _ b.holds in
    let there : busy_at m slot ≡ Some b.value = sym (busy-spelled m slot) ∙ b.was in
    let a = taken (slice_get job.algorithms number) (λ (a : Algorithm). inputs ≡ inputs_in b.value.store a.inputs)
    c.holds.2 in
    let own : c.value.inputs ≡ inputs_in b.value.store a.value.inputs =
    told (slice_get job.algorithms number) (λ (a : Algorithm). c.value.inputs ≡ inputs_in b.value.store a.inputs)
    a.value a.was (known.inputs slot number b.value c.value there c.was) in
    record {
      busy = b.value;
      there = there;
      claim = c.was ∙ ap Some (same-claim c.value ticket clone inputs c.holds.0 c.holds.1 (own ∙ sym a.holds));
    }

pub out-held : (job : Job) (journal : List Entry) (m : Machine) (slot ticket number : ℕ) (clone : Option ℕ)
    (inputs : List Product) → AreClaimsOf job journal m → IsOutIn m slot ticket number clone inputs →
    IsHeld job m.slots slot ticket number clone inputs
out-held job journal m slot ticket number clone inputs known out =
    given (busy_in m.slots slot) _ out.busy (busy-spelled m slot ∙ out.there)
    (given (claim_at out.busy number) _ _ out.claim
    (refl, refl, known.inputs slot number out.busy _ out.there out.claim))

-- a ticket names one claim

pub out-named : (job : Job) (journal : List Entry) (m : Machine) (slot ticket number : ℕ) (clone : Option ℕ)
    (inputs : List Product) → AreClaimsOf job journal m → IsOutIn m slot ticket number clone inputs →
    NamesClaim journal ticket slot number
out-named job journal m slot ticket number clone inputs known out =
    let entry = known.entries slot out.busy number _ out.there out.claim in
    record { clone = clone; worker = entry.worker; there = entry.there }

slot_in : Entry → ℕ
slot_in (Admit slot place) = 0
slot_in (Claim slot number clone worker) = slot
slot_in (Done ticket outcome) = 0
slot_in (Back ticket) = 0
slot_in (Retire slot) = 0
slot_in Last = 0

number_in : Entry → ℕ
number_in (Admit slot place) = 0
number_in (Claim slot number clone worker) = number
number_in (Done ticket outcome) = 0
number_in (Back ticket) = 0
number_in (Retire slot) = 0
number_in Last = 0

pub names-one : (journal : List Entry) (ticket slot number other n : ℕ) → NamesClaim journal ticket slot number →
    NamesClaim journal ticket other n → (slot ≡ other) × (number ≡ n)
unfolding slot_in number_in
names-one journal ticket slot number other n one two =
    let same : Claim slot number one.clone one.worker ≡ Claim other n two.clone two.worker =
    same_Some _ _ (sym one.there ∙ two.there) in
    (ap slot_in same, ap number_in same)

-- where the entry names another algorithm, or the slot doesn't hold the claim, it is out in no slot

pub other-name : (job : Job) (journal : List Entry) (m : Machine) (at slot ticket claimed number : ℕ)
    (clone : Option ℕ) (inputs : List Product) → AreClaimsOf job journal m →
    NamesClaim journal ticket at claimed → claimed ≢ number →
    IsOutIn m slot ticket number clone inputs → ⊥
other-name job journal m at slot ticket claimed number clone inputs known names other out =
    other (names-one journal ticket at claimed slot number names
    (out-named job journal m slot ticket number clone inputs known out)).1

pub not-held : (job : Job) (journal : List Entry) (m : Machine) (at slot ticket claimed number : ℕ)
    (clone : Option ℕ) (inputs : List Product) → AreClaimsOf job journal m →
    NamesClaim journal ticket at claimed →
    (IsHeld job m.slots at ticket number clone inputs → ⊥) →
    IsOutIn m slot ticket number clone inputs → ⊥
not-held job journal m at slot ticket claimed number clone inputs known names none out =
    let same = (names-one journal ticket at claimed slot number names
    (out-named job journal m slot ticket number clone inputs known out)).0 in
    none (subst (λ s. IsHeld job m.slots s ticket number clone inputs) (sym same)
    (out-held job journal m slot ticket number clone inputs known out))

pub no-name : (job : Job) (journal : List Entry) (m : Machine) (slot ticket number : ℕ)
    (clone : Option ℕ) (inputs : List Product) → AreClaimsOf job journal m →
    ((at n : ℕ) → NamesClaim journal ticket at n → ⊥) → IsOutIn m slot ticket number clone inputs → ⊥
no-name job journal m slot ticket number clone inputs known none out =
    none slot number (out-named job journal m slot ticket number clone inputs known out)

pub where-none : {X : Type 0} (o : Option X) (P : Type 0) → o ≡ None → P → IfNone o P
where-none None P e h = h
where-none (Some x) P e h = absurd (none-some x (sym e))
