-- Reading line by line: what the lines so far say stands before what those behind say.
use Rattle.std.proofs.Common.{◌≡◌, ℕ, ◌+◌, ◌==◌, true, false, List, [], ◌∷◌, ◌++◌, length, Result, Ok, Err, refl, ap, sym, ◌∙◌, append-nil, append_assoc, arith}
use Rattle.std.proofs.lemmas.Bool.Decides.{nat_tests}
use Rattle.hive_model.specs.declared.entry.Entry.{Entry}
use Rattle.text_model.specs.Pieces.{cut}
use Rattle.text_model.specs.Steps.{◌>>=◌, map_err}
use Rattle.text_model.specs.TimelineRead.{entries_in, entry_of}
use Rattle.text_model.specs.declared.bytes.TheConstants.{LINE_FEED, SPACE}
use Rattle.text_model.specs.declared.timeline_refusal.TimelineCause.{TimelineCause}
use Rattle.text_model.specs.declared.timeline_refusal.TimelineCause.TheVariants.{NoEnd}
use Rattle.text_model.specs.declared.timeline_refusal.TimelineRefusal.{TimelineRefusal}
use Rattle.text_model.specs.declared.timeline_refusal.TimelineRefusal.TheVariants.{Bad}
use Rattle.timeline.proofs.Cuts.{pieces_of}

abbrev pub Read : Type 0
Read = Result (List Entry) TimelineRefusal

-- these entries, and then what is read behind them
abbrev pub after : List Entry → Read → Read
after front (Ok entries) = Ok (front ++ entries)
after front (Err refusal) = Err refusal

pub after_both : (front more : List Entry) (read : Read) →
    after front (after more read) ≡ after (front ++ more) read
after_both front more (Ok entries) = rw append_assoc refl
after_both front more (Err refusal) = refl

pub after_nothing : (read : Read) → after [] read ≡ read
after_nothing (Ok entries) = refl
after_nothing (Err refusal) = refl

-- a line's entry before the entries of the lines behind it, or its refusal
abbrev pub line_first : ℕ → Result Entry TimelineCause → Read → Read
line_first number (Ok entry) read = after (entry ∷ []) read
line_first number (Err why) read = Err (Bad number why)

by : (number : ℕ) (entry : Result Entry TimelineCause) (read : Read) →
    (map_err (Bad number) entry >>= λ first. read >>= λ entries. Ok (first ∷ entries))
    ≡ line_first number entry read
by number (Ok entry) (Ok entries) = refl
by number (Ok entry) (Err refusal) = refl
by number (Err why) read = refl

pub line_first-is : (number : ℕ) (line next : List ℕ) (pieces : List (List ℕ)) →
    entries_in number (line ∷ next ∷ pieces)
    ≡ line_first number (entry_of (cut SPACE line)) (entries_in (number + 1) (next ∷ pieces))
unfolding entries_in
line_first-is number [] next pieces = by number (entry_of (cut SPACE []))
    (entries_in (number + 1) (next ∷ pieces))
line_first-is number (b ∷ bs) next pieces = by number (entry_of (cut SPACE (b ∷ bs)))
    (entries_in (number + 1) (next ∷ pieces))

pub line_read : (number : ℕ) (text line behind : List ℕ) → cut LINE_FEED text ≡ line ∷ cut LINE_FEED behind →
    entries_in number (cut LINE_FEED text)
    ≡ line_first number (entry_of (cut SPACE line)) (entries_in (number + 1) (cut LINE_FEED behind))
line_read number text line behind e =
    let p = pieces_of LINE_FEED behind in
    rw (e, p.is) (line_first-is number line p.head p.others)

-- the loop: an entry more, a refused line, and what stands behind the last line feed

pub one_more : (all : Read) (front : List Entry) (number : ℕ) (text line behind : List ℕ) (entry : Entry) →
    after front (entries_in number (cut LINE_FEED text)) ≡ all →
    cut LINE_FEED text ≡ line ∷ cut LINE_FEED behind →
    Ok entry ≡ entry_of (cut SPACE line) →
    after (front ++ entry ∷ []) (entries_in (number + 1) (cut LINE_FEED behind)) ≡ all
one_more all front number text line behind entry h e said =
    let later : Read = entries_in (number + 1) (cut LINE_FEED behind) in
    sym (after_both front (entry ∷ []) later)
    ∙ (ap (λ (it : Result Entry TimelineCause). after front (line_first number it later)) said
    ∙ (ap (after front) (sym (line_read number text line behind e)) ∙ h))

pub refused : (all : Read) (front : List Entry) (number : ℕ) (text line behind : List ℕ)
    (why : TimelineCause) →
    after front (entries_in number (cut LINE_FEED text)) ≡ all →
    cut LINE_FEED text ≡ line ∷ cut LINE_FEED behind →
    Err why ≡ entry_of (cut SPACE line) → all ≡ Err (Bad number why)
refused all front number text line behind why h e said =
    let later : Read = entries_in (number + 1) (cut LINE_FEED behind) in
    sym h ∙ (ap (after front) (line_read number text line behind e)
    ∙ ap (λ (it : Result Entry TimelineCause). after front (line_first number it later)) (sym said))

pub all_read : (all : Read) (front : List Entry) (number : ℕ) (text : List ℕ) →
    after front (entries_in number (cut LINE_FEED text)) ≡ all → cut LINE_FEED text ≡ text ∷ [] →
    true ≡ (length text == 0) →
    all ≡ Ok front
unfolding entries_in
all_read all front number [] h e none = sym h ∙ rw (e, append-nil) refl
all_read all front number (b ∷ bs) h e none = absurd (grind (arith, nat_tests))

pub left_open : (all : Read) (front : List Entry) (number : ℕ) (text : List ℕ) →
    after front (entries_in number (cut LINE_FEED text)) ≡ all → cut LINE_FEED text ≡ text ∷ [] →
    false ≡ (length text == 0) →
    all ≡ Err (Bad number NoEnd)
unfolding entries_in
left_open all front number [] h e some = absurd (cc)
left_open all front number (b ∷ bs) h e some = sym h ∙ rw e refl
