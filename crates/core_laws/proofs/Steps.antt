-- Slots, and what a step found where it came.
use Rattle.std.proofs.Common.{◌≡◌, ◌≢◌, ℕ, ◌<◌, Bool, true, false, List, length, slice_get, Option, Some, None, refl, ap, subst}
use Rattle.std.proofs.lemmas.Option.{same_Some, none-some, slice_get_within}
use Rattle.std.specs.Option.{option_and_then}
use Rattle.core_laws.proofs.Places.{get-set_other, get-set_same}
use Rattle.hive_model.specs.Machine.{Busy, Machine, claim_at}
use Rattle.hive_model.specs.Step.{Found, busy_at, found, found_by, found_claim, when, with_slot}
use Rattle.hive_model.specs.declared.entry.Entry.{Entry}
use Rattle.hive_model.specs.declared.entry.Entry.TheVariants.{Admit, Claim, Done, Back, Retire, Last}

pub record IsWhen {T : Type 0} (b : Bool) (x y : T) : Type 0 where
  pub holds : b ≡ true
  pub is : x ≡ y

pub when-some : {T : Type 0} (b : Bool) (x y : T) → when b x ≡ Some y → IsWhen b x y
when-some true x y h = record { holds = refl; is = same_Some x y h }
when-some false x y h = absurd (none-some y h)

-- a step after another one that gave something
pub record IsAfter {X Y : Type 0} (f : X → Option Y) (o : Option X) (y : Y) : Type 0 where
  pub value : X
  pub was : o ≡ Some value
  pub gives : f value ≡ Some y

pub after-some : {X Y : Type 0} (f : X → Option Y) (o : Option X) (y : Y) → option_and_then f o ≡ Some y →
    IsAfter f o y
after-some f (Some x) y h = record { value = x; was = refl; gives = h }
after-some f None y h = absurd (none-some y h)

-- slots

pub busy-same : (m : Machine) (slot : ℕ) (it : Option Busy) → slot < length m.slots →
    busy_at (with_slot m slot it) slot ≡ it
busy-same m slot it h = ap (option_and_then (λ (o : Option Busy). o)) (get-set_same m.slots slot it h)

pub busy-other : (m : Machine) (slot other : ℕ) (it : Option Busy) → other ≢ slot →
    busy_at (with_slot m slot it) other ≡ busy_at m other
busy-other m slot other it h = ap (option_and_then (λ (o : Option Busy). o))
    (get-set_other m.slots slot other it h)

pub busy-within : (m : Machine) (slot : ℕ) (b : Busy) → busy_at m slot ≡ Some b → slot < length m.slots
busy-within m slot b h =
    let it = after-some (λ (o : Option Busy). o) (slice_get m.slots slot) b h in
    slice_get_within m.slots slot it.value it.was

-- a claim that was found by its ticket

pub record IsFound (m : Machine) (f : Found) : Type 0 where
  pub busy : busy_at m f.slot ≡ Some f.busy
  pub claim : claim_at f.busy f.number ≡ Some f.claim

found_claim-is : (m : Machine) (ticket slot number : ℕ) (f : Found) →
    found_claim m ticket slot number ≡ Some f → IsFound m f
found_claim-is m ticket slot number f h =
    let b = after-some _ (busy_at m slot) f h in
    let c = after-some _ (claim_at b.value number) f b.gives in
    let w = when-some _ _ f c.gives in
    subst (IsFound m) w.is (record { busy = b.was; claim = c.was })

found_by-is : (m : Machine) (ticket : ℕ) (entry : Entry) (f : Found) → found_by m ticket entry ≡ Some f →
    IsFound m f
found_by-is m ticket (Claim slot number clone worker) f h = found_claim-is m ticket slot number f h
found_by-is m ticket (Admit slot place) f h = absurd (none-some f h)
found_by-is m ticket (Done other outcome) f h = absurd (none-some f h)
found_by-is m ticket (Back other) f h = absurd (none-some f h)
found_by-is m ticket (Retire slot) f h = absurd (none-some f h)
found_by-is m ticket Last f h = absurd (none-some f h)

pub found-is : (past : List Entry) (m : Machine) (ticket : ℕ) (f : Found) → found past m ticket ≡ Some f →
    IsFound m f
unfolding found
found-is past m ticket f h =
    let it = after-some (found_by m ticket) (slice_get past ticket) f h in
    found_by-is m ticket it.value f it.gives
