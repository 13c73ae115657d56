-- What each step on a word tells its pass: what it knew and held, the number found, what it knows and holds after.
-- The value goes out of the slot and back by a plain exchange between these steps, which changes no view.
use Rattle.std.specs.Prelude.{◌≡◌, ◌≢◌, ℕ, ◌+◌, ◌-◌, ◌%◌, ◌^◌, ◌<◌, ◌≤◌, List, [], ◌∷◌, ◌++◌, Option, Some, length}
use Rattle.std.specs.List.{range_with_len}
use mathlib.Core.List.{IsPrefix}
use Rattle.atomic_table.specs.Table.{Me, Step, rest}
use Rattle.turn_lock.specs.declared.view.Knows.{Knows}
use Rattle.turn_lock.specs.declared.view.Stage.TheVariants.{Idle, Waits, Holds}
use Rattle.turn_lock.specs.History.{longer, shorter}
use Rattle.turn_lock.specs.View.{newcomer, staged, ready}

module _ {I : Type 0} where
  -- one right less
  abbrev pub split_left : Knows I → Knows I
  split_left v = record { rights = v.rights - 1; stage = v.stage; seen = v.seen; told = v.told; own = v.own }

  -- the new pass has that right, and has seen as much
  abbrev pub split_right : Knows I → Knows I
  split_right v = newcomer 1 v.seen

  -- the rights and the positions of both, and the longer prefix; the shorter one is remembered until the next look
  abbrev pub joined : Knows I → Knows I → Knows I
  joined v w = record {
    rights = v.rights + w.rights;
    stage = v.stage;
    seen = longer v.seen w.seen;
    told = shorter v.seen w.seen;
    own = v.own ++ w.own;
  }

  abbrev pub spent : Knows I
  spent = newcomer 0 []

-- a pass by what it knows and the slots that it has out
abbrev pub Knower : Type 0 → Type 0 → Type 0
Knower V I = Me (Option V) (Knows I)

module _ {V I : Type 0} where
  -- the pass waits with the ticket of this remainder
  abbrev pub Awaits : ℕ → Knower V I → Type 0
  Awaits found m = (t : ℕ) × (found ≡ t % 2 ^ 64) × (m.0.stage ≡ Waits t)

  -- it comes to wait with the ticket of this remainder, and else stays as it was
  abbrev pub GetsTicket : ℕ → Knower V I → Knower V I → Type 0
  GetsTicket found m m' = (t : ℕ) × (found ≡ t % 2 ^ 64) × (m'.0 ≡ staged (Waits t) m.0) × (m'.1 ≡ m.1)

  abbrev pub Drew : Step (Option V) → Knower V I → ℕ → Knower V I → Type 0
  Drew st m found m' = GetsTicket found m m'

  -- the value comes out of the slot, and its history begins with what the pass has seen
  abbrev pub Takes : (V → List I) → ℕ → Knower V I → Knower V I → Type 0
  Takes list t m m' = (x : V) × (m'.0 ≡ staged (Holds t (list x)) m.0) × (m'.1 ≡ (0, Some x) ∷ m.1)
      × IsPrefix m.0.seen (list x) × (length (list x) < 2 ^ 64)

  -- who waits takes the value where its ticket is served; else nothing changes. Any pass learns that its rights
  -- are few, and that what it was told begins what it has seen
  pub record Looked (list : V → List I) (st : Step (Option V)) (m : Knower V I) (found : ℕ) (m' : Knower V I)
      : Type 0 where
    pub idle : m.0.stage ≡ Idle → m' ≡ m
    pub served : (t : ℕ) → m.0.stage ≡ Waits t → found ≡ t % 2 ^ 64 → Takes list t m m'
    pub waits : (t : ℕ) → m.0.stage ≡ Waits t → found ≢ t % 2 ^ 64 → m' ≡ m
    pub few : m.0.rights < 2 ^ 32
    pub told : length m.0.told ≤ length m.0.seen → IsPrefix m.0.told m.0.seen

  -- the slot that is out has a value, whose history has so many items more than the holder was given
  pub record MayRaise (list : V → List I) (more : ℕ) (m : Knower V I) : Type 0 where
    pub ticket : ℕ
    pub known : List I
    pub value : V
    pub stage : m.0.stage ≡ Holds ticket known
    pub slot : m.1 ≡ (0, Some value) ∷ []
    pub grows : IsPrefix known (list value)
    pub count : length (list value) ≡ length known + more
    pub small : length (list value) < 2 ^ 64

  -- the holder has seen the history of the value x in the slot, and owns the positions that were counted
  abbrev pub Counts : (V → List I) → ℕ → Knower V I → Knower V I → Type 0
  Counts list more m m' = (t : ℕ) (known : List I) (x : V) → m.0.stage ≡ Holds t known → m.1 ≡ (0, Some x) ∷ []
      → (m'.0 ≡ ready t (list x) (range_with_len (length known) more) m.0) × (m'.1 ≡ m.1)

  abbrev pub Raised : (V → List I) → Step (Option V) → Knower V I → ℕ → Knower V I → Type 0
  Raised list st m found m' = Counts list st.first m m'

  -- the slot that is out has a value, and the holder knows its history
  abbrev pub MayGoHome : (V → List I) → Knower V I → Type 0
  MayGoHome list m = (t : ℕ) × (x : V) × (m.0.stage ≡ Holds t (list x)) × (m.1 ≡ (0, Some x) ∷ [])

  -- the holder is idle again, and the slot is at home
  abbrev pub PassedOn : Step (Option V) → Knower V I → ℕ → Knower V I → Type 0
  PassedOn st m found m' = (m'.0 ≡ staged Idle m.0) × (m'.1 ≡ rest m.1)
