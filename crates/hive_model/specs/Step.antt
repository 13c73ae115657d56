-- One entry of the journal as a step of the scheduler: the state after it, or nothing where the entry may not come.
use Rattle.std.specs.Prelude.{ℕ, ◌+◌, ◌-◌, nat_eq, Bool, true, false, not, ◌&&◌, is_some, List, [], ◌∷◌, ◌++◌, length, Option, Some, None, slice_get, slice_set}
use Rattle.std.specs.List.{list_any, range_with_len}
use Rattle.std.specs.Option.{option_and_then}
use Rattle.hive_model.specs.Algorithm.{Algorithm}
use Rattle.hive_model.specs.Enabled.{is_enabled, inputs_in}
use Rattle.hive_model.specs.Event.{result_of}
use Rattle.hive_model.specs.EventRecord.{EventRecord}
use Rattle.hive_model.specs.Execution.{Execution, execution}
use Rattle.hive_model.specs.Job.{Job}
use Rattle.hive_model.specs.Lending.{is_free, has_units}
use Rattle.hive_model.specs.Machine.{Machine, Busy, Outstanding, begun, claim_at}
use Rattle.hive_model.specs.Results.{outcomes, kept}
use Rattle.hive_model.specs.Same.{same_outcome}
use Rattle.hive_model.specs.declared.entry.Entry.{Entry}
use Rattle.hive_model.specs.declared.entry.Entry.TheVariants.{Admit, Claim, Done, Back, Retire, Last}
use Rattle.hive_model.specs.declared.outcome.Outcome.{Outcome}
use Rattle.hive_model.specs.declared.product.Product.{Product}

abbrev pub when : {T : Type 0} → Bool → T → Option T
when true it = Some it
when false it = None

abbrev pub busy_at : Machine → ℕ → Option Busy
busy_at m slot = option_and_then (λ it. it) (slice_get m.slots slot)

abbrev pub with_slot : Machine → ℕ → Option Busy → Machine
with_slot m slot it = record m { slots = slice_set m.slots slot it }

-- Admit: the slot is empty, the place is the next one, and its record is there

abbrev pub admitting : Job → Machine → ℕ → ℕ → Option (Option Busy) → Option EventRecord → Option Machine
admitting job m slot place (Some None) (Some event) =
    when (not m.closed && nat_eq place (m.admitted + 1)) (record (with_slot m slot (Some (begun job place event))) { admitted = m.admitted + 1 })
admitting job m slot place it event = None

-- Claim: the algorithm is enabled in the event and not claimed there, and instance and units are free

unfoldable pub can_claim : Job → Busy → ℕ → Bool
can_claim job b number = is_enabled job (outcomes b.ran) b.store number && not (is_some (claim_at b number))

-- the algorithm is claimed over what the store holds
unfoldable pub claimed : Busy → ℕ → Algorithm → ℕ → Option ℕ → Busy
claimed b number a ticket clone =
    record b { claims = slice_set b.claims number (Some (record { ticket = ticket; clone = clone; inputs = inputs_in b.store a.inputs })) }

abbrev pub claiming : Job → ℕ → Machine → ℕ → ℕ → Option ℕ → Option Busy → Option Algorithm → Option Machine
claiming job ticket m slot number clone (Some b) (Some a) =
    when (can_claim job b number && (is_free m.slots number a clone && has_units job m.slots a))
    (with_slot m slot (Some (claimed b number a ticket clone)))
claiming job ticket m slot number clone b a = None

-- Done and Back: the ticket is that of a claim which is outstanding

pub record Found : Type 0 where
  pub slot : ℕ
  pub busy : Busy
  pub number : ℕ
  pub claim : Outstanding

-- the claim of an algorithm in a slot, if it has this ticket
abbrev pub found_claim : Machine → ℕ → ℕ → ℕ → Option Found
found_claim m ticket slot number =
    option_and_then (λ b. option_and_then (λ c. when (nat_eq c.ticket ticket) (record { slot = slot; busy = b; number = number; claim = c })) (claim_at b number))
    (busy_at m slot)

abbrev pub found_by : Machine → ℕ → Entry → Option Found
found_by m ticket (Claim slot number clone worker) = found_claim m ticket slot number
found_by m ticket entry = None

-- a ticket is the index of its Claim among the entries before
unfoldable pub found : List Entry → Machine → ℕ → Option Found
found past m ticket = option_and_then (found_by m ticket) (slice_get past ticket)

-- the places of a store from one on are those of the outputs that were left
abbrev pub written : ℕ → List Product → List (Option Product) → List (Option Product)
written handle [] places = places
written handle (p ∷ ps) places = written (handle + 1) ps (slice_set places handle (Some p))

-- the claim goes, and results and store get what the execution left
unfoldable pub completed : Busy → ℕ → Algorithm → Execution → Busy
completed b number a it = record b {
  ran = slice_set b.ran number (Some it);
  store = written a.first_output (kept (Some it)) b.store;
  claims = slice_set b.claims number None;
}

abbrev pub completing : Machine → Outcome → Found → Algorithm → Option Machine
completing m outcome f a =
    when (same_outcome outcome (execution a f.claim.inputs).outcome)
    (with_slot m f.slot (Some (completed f.busy f.number a (execution a f.claim.inputs))))

abbrev pub putting_back : Machine → Found → Machine
putting_back m f = with_slot m f.slot (Some (record f.busy { claims = slice_set f.busy.claims f.number None }))

-- Retire: nothing is outstanding in the event, and nothing is enabled

unfoldable pub is_settled : Job → Busy → Bool
is_settled job b =
    not (list_any is_some b.claims)
    && not (list_any (is_enabled job (outcomes b.ran) b.store) (range_with_len 0 (length job.algorithms)))

abbrev pub retiring : Job → Machine → ℕ → Busy → EventRecord → Option Machine
retiring job m slot b event =
    when (is_settled job b)
    (record (with_slot m slot None) { finished = m.finished ++ record { place = b.place; result = result_of job event b.ran } ∷ [] })

-- where these entries have come before
unfoldable pub step : Job → List EventRecord → List Entry → Machine → Entry → Option Machine
step job records past m (Admit slot place) = admitting job m slot place (slice_get m.slots slot) (slice_get records m.admitted)
step job records past m (Claim slot number clone worker) =
    claiming job (length past) m slot number clone (busy_at m slot) (slice_get job.algorithms number)
step job records past m (Done ticket outcome) =
    option_and_then (λ f. option_and_then (completing m outcome f) (slice_get job.algorithms f.number)) (found past m ticket)
step job records past m (Back ticket) = option_and_then (λ f. Some (putting_back m f)) (found past m ticket)
step job records past m (Retire slot) =
    option_and_then (λ b. option_and_then (retiring job m slot b) (slice_get records (b.place - 1))) (busy_at m slot)
step job records past m Last = when (not m.closed) (record m { closed = true })
