-- What is read element by element: what was read stands before what is read of the rest.
use Rattle.std.proofs.Common.{List, ◌++◌, Result, Ok, Err}

abbrev pub onto_read : {A E : Type 0} → List A → Result (List A) E → Result (List A) E
onto_read front (Ok read) = Ok (front ++ read)
onto_read front (Err e) = Err e
