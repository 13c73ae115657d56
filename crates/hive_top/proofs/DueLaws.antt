-- What a call owes by its counts follows from what they bear out.
use Rattle.std.proofs.Common.{◌≡◌, ◌≢◌, ◌⊎◌, inl, inr, ℕ, Bool, true, false, List, [], Option, refl, sym, arith, append-nil}
use Rattle.std.proofs.lemmas.Bool.Decides.{nat_tests}
use Rattle.std.specs.Io.KnownBytes.{Appends}
use Rattle.hive_edge.specs.Fault.{Calm, Rose}
use Rattle.hive_edge.specs.Shelf.{Files}
use Rattle.hive_pump.specs.Written.{AppendsPrefix}
use Rattle.hive_top.specs.Answer.{Answer, CanRise, IsDue, rose}
use Rattle.hive_top.specs.Called.{BearsOut, Called, IsBrokenOff, Wrote}
use Rattle.hive_top.specs.declared.status.Status.{Status}
use Rattle.hive_top.specs.declared.status.Status.TheVariants as status

-- below its last value a count tells whether there was a failure
pub rose-is : (b : Bool) (before now : ℕ) → BearsOut b before now → CanRise now → rose before now ≡ b
rose-is true before now h below = grind (arith, nat_tests)
rose-is false before now h below = grind (arith, nat_tests)

-- a count that rose isn't calm
pub not-calm : (before now : ℕ) → Rose before now → Calm before now → ⊥
not-calm before now rose calm = omega (arith, rose.0, rose.1, calm.0, calm.1)

pub prefix-whole : (old new : Option (List ℕ)) (text : List ℕ) → Appends old new text → AppendsPrefix old new text
prefix-whole old new text appends = record { front = text; back = []; whole = sym (append-nil text); bytes = appends }

module _ (words : List (List ℕ)) (files : Option Files) (rest now got got' : Option (List ℕ)) (f f' s s' k k' : ℕ) where
  pub answered : (ended : Status) → Called words files rest now got got' f f' s s' k k' ended → CanRise f' → CanRise s' → Calm k k' →
      ended ≢ status.NoMemory →
      (a : Answer) × IsDue words files rest now (rose f f') (rose s s') a × Appends got got' a.text × (ended ≡ a.status)
  answered ended c fb sb calm enough =
      rw (rose-is c.shelf f f' c.shelf_count fb, rose-is c.source s s' c.source_count sb) (by ended c.wrote enough)
    where
      by : (it : Status) → Wrote it got got' k k' c.answer → it ≢ status.NoMemory →
          (a : Answer) × IsDue words files rest now c.shelf c.source a × Appends got got' a.text × (it ≡ a.status)
      by status.Output wrote enough = absurd (not-calm k k' wrote.1 calm)
      by status.NoMemory wrote enough = absurd (enough refl)
      by status.AllOk wrote enough = (c.answer, c.due, wrote.0, wrote.1)
      by status.SomeNot wrote enough = (c.answer, c.due, wrote.0, wrote.1)
      by status.Words wrote enough = (c.answer, c.due, wrote.0, wrote.1)
      by status.Options wrote enough = (c.answer, c.due, wrote.0, wrote.1)
      by status.Record wrote enough = (c.answer, c.due, wrote.0, wrote.1)
      by status.Input wrote enough = (c.answer, c.due, wrote.0, wrote.1)

  pub broken : (ended : Status) → Called words files rest now got got' f f' s s' k k' ended → CanRise f' → CanRise s' →
      IsBrokenOff words files rest now (rose f f') (rose s s') got got'
  broken ended c fb sb =
      rw (rose-is c.shelf f f' c.shelf_count fb, rose-is c.source s s' c.source_count sb)
      (record { answer = c.answer; due = c.due; bytes = by ended c.wrote })
    where
      by : (it : Status) → Wrote it got got' k k' c.answer → AppendsPrefix got got' c.answer.text
      by status.Output wrote = wrote.0
      by status.NoMemory wrote = wrote.0
      by status.AllOk wrote = prefix-whole got got' c.answer.text wrote.0
      by status.SomeNot wrote = prefix-whole got got' c.answer.text wrote.0
      by status.Words wrote = prefix-whole got got' c.answer.text wrote.0
      by status.Options wrote = prefix-whole got got' c.answer.text wrote.0
      by status.Record wrote = prefix-whole got got' c.answer.text wrote.0
      by status.Input wrote = prefix-whole got got' c.answer.text wrote.0

  pub input-cause : (ended : Status) → Called words files rest now got got' f f' s s' k k' ended → ended ≡ status.Input → Rose f f' ⊎ Rose s s'
  input-cause ended c e = by c.shelf c.source c.shelf_count c.source_count (c.input e)
    where
      by : (t u : Bool) → BearsOut t f f' → BearsOut u s s' → (t ≡ true) ⊎ (u ≡ true) → Rose f f' ⊎ Rose s s'
      by true u a b h = inl a
      by false true a b h = inr b
      by false false a b (inl h) = absurd cc
      by false false a b (inr h) = absurd cc

  pub output-cause : (ended : Status) → Called words files rest now got got' f f' s s' k k' ended → ended ≡ status.Output → Rose k k'
  output-cause ended c e = let wrote = rw e at c.wrote in wrote.1

  pub failed-cause : (ended : Status) → Called words files rest now got got' f f' s s' k k' ended → k' ≢ k →
      ended ≢ status.NoMemory → ended ≡ status.Output
  failed-cause ended c changed enough = by ended c.wrote enough
    where
      by : (it : Status) → Wrote it got got' k k' c.answer → it ≢ status.NoMemory → it ≡ status.Output
      by status.Output wrote enough = refl
      by status.NoMemory wrote enough = absurd (enough refl)
      by status.AllOk wrote enough = absurd (changed wrote.2)
      by status.SomeNot wrote enough = absurd (changed wrote.2)
      by status.Words wrote enough = absurd (changed wrote.2)
      by status.Options wrote enough = absurd (changed wrote.2)
      by status.Record wrote enough = absurd (changed wrote.2)
      by status.Input wrote enough = absurd (changed wrote.2)
