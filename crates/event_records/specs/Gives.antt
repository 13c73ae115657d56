-- What a call owes that reads a part of a line: what the definition says, seen by a view, or its refusal. Memory may run out at any
-- time, and that alone is free.
use Rattle.std.specs.Prelude.{◌≡◌, Result, Ok, Err}
use Rattle.text_model.specs.declared.record_refusal.RecordCause.{RecordCause}
use Rattle.event_records.specs.declared.stop.Stop.{Stop}
use Rattle.event_records.specs.declared.stop.Stop.TheVariants.{Refused, NoMemory}

abbrev pub Stops : {B : Type 0} → Stop → Result B RecordCause → Type 0
Stops (Refused why) meaning = meaning ≡ Err why
Stops NoMemory meaning = Unit {0}

abbrev pub Gives : {A B : Type 0} → (A → B) → Result A Stop → Result B RecordCause → Type 0
Gives view (Ok value) meaning = meaning ≡ Ok (view value)
Gives view (Err stop) meaning = Stops stop meaning
