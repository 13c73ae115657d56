-- What was there before something was appended still begins the list.
use Rattle.std.proofs.Common.{◌≡◌, ◌≤◌, ℕ, List, ◌++◌, length, take, ap, sym, ◌∙◌, arith, length-append}
use Rattle.std.proofs.Math.Seq.{take-append_seam, take-length}
use Rattle.std.proofs.lemmas.List.{take-take}
use Rattle.timeline.specs.Begins.{Begins}

pub begins_itself : (old new : List ℕ) → new ≡ old → Begins old new
begins_itself old new e = rw e (take-length old)

pub begins_longer : (old text new : List ℕ) → new ≡ old ++ text → Begins old new
begins_longer old text new e = rw e (take-append_seam old text)

-- what was appended to begins the list as far as its longer form does
pub begins_before : (old text middle new : List ℕ) → middle ≡ old ++ text → Begins middle new → Begins old new
begins_before old text middle new e h =
    let within : length old ≤ length middle = rw e (rw length-append (omega arith)) in
    sym (take-take (length old) (length middle) new within) ∙ ap (take (length old)) h
    ∙ rw e (take-append_seam old text)
