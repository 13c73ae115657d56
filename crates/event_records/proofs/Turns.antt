-- Reading line by line: what the next line says stands before what is read behind it.
use Rattle.std.proofs.Common.{◌≡◌, ◌≢◌, ℕ, ◌+◌, Bool, List, [], ◌∷◌, ◌++◌, drop, Some, Ok, Err, refl, ap, ◌∙◌}
use Rattle.std.proofs.lemmas.List.{drop-drop}
use Rattle.hive_model.specs.EventRecord.{EventRecord}
use Rattle.hive_model.specs.declared.algorithm.Raw.{Raw}
use Rattle.text_model.specs.Lines.{lines}
use Rattle.text_model.specs.Records.{Known, after_line, joined, line_of, read_lines}
use Rattle.text_model.specs.declared.line.Line.{Line}
use Rattle.text_model.specs.declared.line.Line.TheVariants.{Blank, Header, Record}
use Rattle.text_model.specs.declared.line.Progress.{Progress}
use Rattle.text_model.specs.declared.record_refusal.RecordCause.{RecordCause}
use Rattle.event_records.specs.Cutting.{Heads, Reaches, Reads, further}
use Rattle.event_records.specs.Gives.{Stops}
use Rattle.event_records.specs.declared.stop.Stop.{Stop}
use Rattle.event_records.specs.declared.stop.Stop.TheVariants.{Refused, NoMemory}
use Rattle.event_records.specs.Reading.{after, just}

-- the records of a line
abbrev pub of_line : Line → List EventRecord
of_line Blank = []
of_line Header = []
of_line (Record it) = it ∷ []

abbrev pub refused_with : Progress → RecordCause → Bool → List ℕ → Known
refused_with before why over more = just [] (Some (record { line = before.lines + 1; cause = why }))

joined-ok : (n : ℕ) (said : Line) (later : Known) → joined n (Ok said) later ≡ after (of_line said) later
unfolding joined
joined-ok n Blank later = refl
joined-ok n Header later = refl
joined-ok n (Record it) later = refl

read-line : (over : Bool) (raws : List Raw) (most : ℕ) (before : Progress) (line : List ℕ) (others : List (List ℕ)) (said : Line) → line_of raws most before line ≡ Ok said →
    read_lines over raws most before (line ∷ others) ≡ after (of_line said) (read_lines over raws most (after_line before line (Ok said)) others)
unfolding read_lines
read-line over raws most before line others said e = rw e (joined-ok (before.lines + 1) said (read_lines over raws most (after_line before line (Ok said)) others))

read-refused : (over : Bool) (raws : List Raw) (most : ℕ) (before : Progress) (line : List ℕ) (others : List (List ℕ)) (why : RecordCause) → line_of raws most before line ≡ Err why →
    read_lines over raws most before (line ∷ others) ≡ just [] (Some (record { line = before.lines + 1; cause = why }))
unfolding read_lines joined
read-refused over raws most before line others why e = rw e refl

-- nothing was read yet
pub reads-none : (raws : List Raw) (most : ℕ) (ended : Bool) (pending : List ℕ) (before : Progress) → Reads raws most ended pending before (further raws most [] before pending)
reads-none raws most ended pending before = record { read = λ more over future. refl }

-- one line more, after lines that gave no record
pub reads-line : (raws : List Raw) (most : ℕ) (ended : Bool) (pending : List ℕ) (before at : Progress) (rest line behind : List ℕ) (said : Line) →
    Reads raws most ended pending before (further raws most [] at rest) → Heads ended rest line behind → line_of raws most at line ≡ Ok said →
    Reads raws most ended pending before (further raws most (of_line said) (after_line at line (Ok said)) behind)
reads-line raws most ended pending before at rest line behind said reads heads e = record {
  read = λ more over future.
      reads.read more over future ∙ heads.read raws most at more over future ∙ read-line over raws most at line (lines over (behind ++ more)) said e;
}

pub reads-refused : (raws : List Raw) (most : ℕ) (ended : Bool) (pending : List ℕ) (before at : Progress) (rest line behind : List ℕ) (why : RecordCause) →
    Reads raws most ended pending before (further raws most [] at rest) → Heads ended rest line behind → line_of raws most at line ≡ Err why →
    Reads raws most ended pending before (refused_with at why)
reads-refused raws most ended pending before at rest line behind why reads heads e = record {
  read = λ more over future.
      reads.read more over future ∙ heads.read raws most at more over future ∙ read-refused over raws most at line (lines over (behind ++ more)) why e;
}

-- a line of a text by its place, behind lines that gave no record

pub reads-next : (raws : List Raw) (most : ℕ) (ended : Bool) (pending : List ℕ) (before at now : Progress) (n k : ℕ) (rest line : List ℕ) (said : Line) (given : List EventRecord) →
    Reads raws most ended pending before (further raws most [] at (drop n pending)) → rest ≡ drop n pending → Heads ended rest line (drop k rest) →
    line_of raws most at line ≡ Ok said → now ≡ after_line at line (Ok said) → given ≡ of_line said →
    Reads raws most ended pending before (further raws most given now (drop (n + k) pending))
reads-next raws most ended pending before at now n k rest line said given reads is heads e after_is given_is =
    let behind : drop k rest ≡ drop (n + k) pending = ap (drop k) is ∙ drop-drop k n pending in
    rw (after_is, given_is, ← behind) (reads-line raws most ended pending before at rest line (drop k rest) said (rw (← is) at reads) heads e)

pub stops-next : (raws : List Raw) (most : ℕ) (ended : Bool) (pending : List ℕ) (before at : Progress) (n : ℕ) (rest line behind : List ℕ) (why : RecordCause) →
    Reads raws most ended pending before (further raws most [] at (drop n pending)) → rest ≡ drop n pending → Heads ended rest line behind →
    line_of raws most at line ≡ Err why → Reads raws most ended pending before (refused_with at why)
stops-next raws most ended pending before at n rest line behind why reads is heads e =
    reads-refused raws most ended pending before at rest line behind why (rw (← is) at reads) heads e

pub stops-by : (raws : List Raw) (most : ℕ) (ended : Bool) (pending : List ℕ) (before at : Progress) (n : ℕ) (rest line behind : List ℕ) (stop : Stop) →
    Reads raws most ended pending before (further raws most [] at (drop n pending)) → rest ≡ drop n pending → Heads ended rest line behind →
    Stops stop (line_of raws most at line) → Reaches raws most ended pending before (Err stop) at (drop n pending)
stops-by raws most ended pending before at n rest line behind (Refused why) reads is heads e =
    stops-next raws most ended pending before at n rest line behind why reads is heads e
stops-by raws most ended pending before at n rest line behind NoMemory reads is heads e = tt

pub of_line-other : (said : Line) → ((it : EventRecord) → said ≢ Record it) → [] ≡ of_line said
of_line-other Blank other = refl
of_line-other Header other = refl
of_line-other (Record it) other = absurd (other it refl)
