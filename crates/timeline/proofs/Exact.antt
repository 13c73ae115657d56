-- A text that is read is a timeline, and one that is refused is none.
use Rattle.std.proofs.Common.{◌≡◌, ◌≢◌, ℕ, List, Result, Ok, Err, IfOk, IfErr, ap, sym, ◌∙◌}
use Rattle.hive_model.specs.Many.{Many}
use Rattle.hive_model.specs.declared.entry.Entry.{Entry}
use Rattle.text_model.specs.TimelineRead.{entries_of}
use Rattle.text_model.specs.declared.timeline_refusal.TimelineRefusal.{TimelineRefusal}
use Rattle.text_model.specs.declared.timeline_refusal.TimelineRefusal.TheVariants.{NoMemory}
use Rattle.timeline.specs.Reads.{IsPrinted, Reads}
use Rattle.timeline.proofs.RoundTrip.{printed_read, read_printed}

pub read_exactly : (text : List ℕ) (read : Result (Many Entry) TimelineRefusal) →
    Reads read (entries_of text) →
    IfOk read (λ entries. IsPrinted text entries.items)
read_exactly text (Ok entries) h = read_printed text entries.items h
read_exactly text (Err refusal) h = tt

pub refused_exactly : (text : List ℕ) (read : Result (Many Entry) TimelineRefusal) →
    Reads read (entries_of text) →
    IfErr read (λ refusal. refusal ≢ NoMemory → (entries : List Entry) → IsPrinted text entries → ⊥)
refused_exactly text (Ok entries) h = tt
refused_exactly text (Err refusal) h = λ told entries it.
    let read : entries_of text ≡ Ok entries = ap entries_of (sym it.0) ∙ printed_read entries it.1 in
    let other : entries_of text ≡ Err refusal = h told in
    cc
