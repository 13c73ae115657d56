-- The numbers so far and those of what is left are those of all.
use Rattle.std.proofs.Common.{◌≡◌, ℕ, List, drop, vec_len}
use Rattle.hive_model.specs.Same.{texts}
use Rattle.text_model.specs.Numerals.{signed}
use Rattle.text_model.specs.Steps.{collect, or_refuse}
use Rattle.text_model.specs.declared.record_refusal.RecordCause.TheVariants.{Number}
use Rattle.event_records.proofs.Collecting.{onto_read}
use Rattle.event_records.proofs.products.read_numbers.Given as goal

abbrev pub invariant-loop-part : goal.invariant-loop-part
invariant-loop-part l =
    (onto_read l.numbers.items (collect (λ (part : List ℕ). or_refuse Number (signed part)) (texts (drop l.part-index l.parts)))
    ≡ collect (λ (part : List ℕ). or_refuse Number (signed part)) (texts l.parts))
    × (vec_len l.numbers ≡ l.part-index)
