-- A timeline is read as the entries that it was printed from, and what is read is a timeline.
use Rattle.std.proofs.Common.{◌≡◌, ℕ, ◌+◌, ◌≢◌, List, [], ◌∷◌, ◌++◌, Result, Ok, Err, subst, refl, ap, sym, ◌∙◌, append_assoc, arith}
use Rattle.std.specs.List.{AllByRecursion, flat_map}
use Rattle.hive_model.specs.declared.entry.Entry.{Entry}
use Rattle.hive_model.specs.declared.entry.Entry.TheVariants.{Admit, Claim, Done, Back, Retire, Last}
use Rattle.text_model.specs.Pieces.{cut}
use Rattle.text_model.specs.Report.{line}
use Rattle.text_model.specs.Timeline.{FitsFields, entry_text, entry_words, timeline}
use Rattle.text_model.specs.TimelineRead.{entries_in, entries_of, entry_of}
use Rattle.text_model.specs.declared.bytes.TheConstants.{LINE_FEED, SPACE}
use Rattle.text_model.specs.declared.timeline_refusal.TimelineCause.{TimelineCause}
use Rattle.timeline.specs.Reads.{IsPrinted}
use Rattle.timeline.proofs.Back.{entry_back}
use Rattle.timeline.proofs.Cuts.{AllLack, Lacks, cut-joined, cut_first, joined, joined-cut, joined_lacks}
use Rattle.timeline.proofs.Steps.{Read, after, line_first, line_first-is, line_read}
use Rattle.timeline.proofs.Words.{entry_read, words_lack}

-- a line is its words with spaces between, and a line feed
line-joined : (word : List ℕ) (words : List (List ℕ)) →
    line (word ∷ words) ≡ joined SPACE (word ∷ words) ++ LINE_FEED ∷ []
line-joined word [] = refl
line-joined word (next ∷ words) =
    ap (λ (it : List ℕ). word ++ SPACE ∷ it) (line-joined next words)
    ∙ sym (append_assoc word (SPACE ∷ joined SPACE (next ∷ words)) (LINE_FEED ∷ []))

-- the words of an entry are at least one

has_words : (entry : Entry) → entry_words entry ≢ []
has_words (Admit slot place) h = cc
has_words (Claim slot algorithm clone worker) h = cc
has_words (Done ticket outcome) h = cc
has_words (Back ticket) h = cc
has_words (Retire slot) h = cc
has_words Last h = cc

line-of : (words : List (List ℕ)) → words ≢ [] → line words ≡ joined SPACE words ++ LINE_FEED ∷ []
line-of [] some = absurd (some refl)
line-of (word ∷ words) some = line-joined word words

cut-of : (words : List (List ℕ)) → words ≢ [] → AllLack SPACE words → cut SPACE (joined SPACE words) ≡ words
cut-of [] some lacks = absurd (some refl)
cut-of (word ∷ words) some lacks = cut-joined SPACE word words lacks

entry_line : (entry : Entry) → entry_text entry ≡ joined SPACE (entry_words entry) ++ LINE_FEED ∷ []
unfolding entry_text
entry_line entry = line-of (entry_words entry) (has_words entry)

-- what is printed is read

first_line : (entry : Entry) (rest : List ℕ) → FitsFields entry →
    cut LINE_FEED (entry_text entry ++ rest) ≡ joined SPACE (entry_words entry) ∷ cut LINE_FEED rest
first_line entry rest fits =
    let body = joined SPACE (entry_words entry) in
    let lacks : Lacks LINE_FEED body =
    joined_lacks SPACE LINE_FEED (entry_words entry) (omega arith)
    (words_lack LINE_FEED entry (omega arith) fits) in
    let whole : entry_text entry ++ rest ≡ body ++ LINE_FEED ∷ rest =
    ap (λ (it : List ℕ). it ++ rest) (entry_line entry) ∙ append_assoc body (LINE_FEED ∷ []) rest in
    ap (cut LINE_FEED) whole ∙ cut_first LINE_FEED body rest lacks

said : (entry : Entry) → FitsFields entry → entry_of (cut SPACE (joined SPACE (entry_words entry))) ≡ Ok entry
said entry fits =
    ap entry_of (cut-of (entry_words entry) (has_words entry) (words_lack SPACE entry (omega arith) fits))
    ∙ entry_read entry fits

all_read : (number : ℕ) (entries : List Entry) → AllByRecursion FitsFields entries →
    entries_in number (cut LINE_FEED (flat_map entry_text entries)) ≡ Ok entries
unfolding cut entries_in
all_read number [] fits = refl
all_read number (entry ∷ entries) fits =
    let rest = flat_map entry_text entries in
    let later : Read = entries_in (number + 1) (cut LINE_FEED rest) in
    line_read number (entry_text entry ++ rest) (joined SPACE (entry_words entry)) rest
    (first_line entry rest fits.0)
    ∙ (ap (λ (it : Result Entry TimelineCause). line_first number it later) (said entry fits.0)
    ∙ ap (after (entry ∷ [])) (all_read (number + 1) entries fits.1))

pub printed_read : (entries : List Entry) → AllByRecursion FitsFields entries →
    entries_of (timeline entries) ≡ Ok entries
unfolding entries_of timeline
printed_read entries fits = all_read 1 entries fits

-- what is read was printed

abbrev Printed : List ℕ → List Entry → Type 0
Printed text entries = (flat_map entry_text entries ≡ text) × AllByRecursion FitsFields entries

said_all : (text : List ℕ) (other entries : List Entry) → ◌≡◌ {A = Read} (Ok other) (Ok entries) →
    Printed text other →
    Printed text entries
said_all text other entries e it = let same : other ≡ entries = cc in subst (Printed text) same it

last_written : (number : ℕ) (piece : List ℕ) (entries : List Entry) →
    entries_in number (piece ∷ []) ≡ Ok entries → Printed piece entries
unfolding entries_in
last_written number [] entries h = said_all [] [] entries h (refl, tt)
last_written number (b ∷ bs) entries h = absurd (cc)

line_written : (piece : List ℕ) (entry : Entry) → entry_of (cut SPACE piece) ≡ Ok entry →
    (entry_text entry ≡ piece ++ LINE_FEED ∷ []) × FitsFields entry
line_written piece entry h =
    let it = entry_back (cut SPACE piece) entry h in
    let body : joined SPACE (entry_words entry) ≡ piece = ap (joined SPACE) it.words
    ∙ joined-cut SPACE piece in
    (entry_line entry ∙ ap (λ (front : List ℕ). front ++ LINE_FEED ∷ []) body, it.fits)

all_written : (number : ℕ) (pieces : List (List ℕ)) (entries : List Entry) →
    entries_in number pieces ≡ Ok entries →
    Printed (joined LINE_FEED pieces) entries
unfolding entries_in
all_written number [] entries h = said_all [] [] entries h (refl, tt)
all_written number (piece ∷ []) entries h = last_written number piece entries h
all_written number (piece ∷ next ∷ pieces) entries h =
    by (entry_of (cut SPACE piece)) (entries_in (number + 1) (next ∷ pieces)) refl refl
    (sym (line_first-is number piece next pieces) ∙ h) (all_written (number + 1) (next ∷ pieces))
  where
    by : (first : Result Entry TimelineCause) (later : Read) → entry_of (cut SPACE piece) ≡ first →
        entries_in (number + 1) (next ∷ pieces) ≡ later → line_first number first later ≡ Ok entries →
        ((others : List Entry) → entries_in (number + 1) (next ∷ pieces) ≡ Ok others →
        Printed (joined LINE_FEED (next ∷ pieces)) others) →
        Printed (joined LINE_FEED (piece ∷ next ∷ pieces)) entries
    by (Ok entry) (Ok others) e f h further =
        let one = line_written piece entry e in
        let more = further others f in
        said_all _ (entry ∷ others) entries h (
          ap (λ (it : List ℕ). it ++ flat_map entry_text others) one.0
              ∙ (append_assoc piece (LINE_FEED ∷ []) (flat_map entry_text others)
              ∙ ap (λ (it : List ℕ). piece ++ LINE_FEED ∷ it) more.0),
          (one.1, more.1),
        )
    by (Ok entry) (Err refusal) e f h further = absurd (cc)
    by (Err why) later e f h further = absurd (cc)

pub read_printed : (text : List ℕ) (entries : List Entry) → entries_of text ≡ Ok entries →
    IsPrinted text entries
unfolding entries_of timeline
read_printed text entries h =
    let it = all_written 1 (cut LINE_FEED text) entries h in
    (it.0 ∙ joined-cut LINE_FEED text, it.1)
