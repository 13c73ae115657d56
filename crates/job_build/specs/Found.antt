-- What a check and a list of built things owe. Memory may run out at any time.
use Rattle.std.specs.Prelude.{◌≡◌, ◌≢◌, List, Option, Some, None, Result, Ok, Err}
use Rattle.std.specs.declared.alloc.Global.{Global}
use Rattle.std.specs.declared.vec.Vec.{Vec}
use Rattle.text_model.specs.declared.job_refusal.JobRefusal.{JobRefusal}
use Rattle.text_model.specs.declared.job_refusal.JobRefusal.TheVariants.{NoMemory}

-- nothing is found, or that refusal
abbrev pub Finds : {A : Type 0} → Result A JobRefusal → Option JobRefusal → Type 0
Finds (Ok x) found = found ≡ None
Finds (Err e) found = e ≢ NoMemory → found ≡ Some e

-- the list, or the refusal
abbrev pub GivesItems : {A : Type 0} → Result (Vec A Global) JobRefusal → Result (List A) JobRefusal → Type 0
GivesItems (Ok xs) meaning = meaning ≡ Ok xs.items
GivesItems (Err e) meaning = e ≢ NoMemory → meaning ≡ Err e
