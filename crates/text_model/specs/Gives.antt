-- What a call owes that answers what a definition says: its value, or its refusal. Memory may run out at any time, so the clause
-- names the refusal that tells it, and that one alone is free.
use Rattle.std.specs.Prelude.{◌≡◌, ◌≢◌, Result, Ok, Err}

abbrev pub Gives : {A E : Type 0} → E → Result A E → Result A E → Type 0
Gives no_memory (Ok value) meaning = meaning ≡ Ok value
Gives no_memory (Err refusal) meaning = refusal ≢ no_memory → meaning ≡ Err refusal
