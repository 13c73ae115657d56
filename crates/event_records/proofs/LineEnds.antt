-- The first line of a text: up to its line feed, or what stands behind the last one.
use Rattle.std.proofs.Common.{◌≡◌, ℕ, ◌+◌, ◌-◌, ◌<◌, ◌≤◌, nat_eq, nat_lt, nat_le, Bool, true, false, List, [], ◌∷◌, ◌++◌, length, take, drop, slice_index, Result, Err, if◌then◌else◌, refl, ap, sym, ◌∙◌, arith, append_assoc, append-nil, length-append}
use Rattle.std.proofs.lemmas.Bool.Decides.{nat_tests}
use Rattle.std.proofs.lemmas.List.{length-take, length-take-le, take-append-drop}
use Rattle.std.proofs.Math.Seq.{drop-append-add, take-append_seam}
use Rattle.std.specs.List.{ends_with}
use Rattle.hive_model.specs.declared.algorithm.Raw.{Raw}
use Rattle.text_model.specs.Lines.{content, is_last_line, lines, lines_in}
use Rattle.text_model.specs.Pieces.{cut}
use Rattle.text_model.specs.Records.{joined, line_of, read_lines, refused_at}
use Rattle.text_model.specs.Steps.{◌>>=◌, refuse_if}
use Rattle.text_model.specs.declared.bytes.TheConstants.{CARRIAGE_RETURN, LINE_FEED}
use Rattle.text_model.specs.declared.limits.TheConstants.{MOST_LINES, MOST_LINE_BYTES, MOST_RECORDS_BYTES}
use Rattle.text_model.specs.declared.line.Line.{Line}
use Rattle.text_model.specs.declared.line.Progress.{Progress}
use Rattle.text_model.specs.declared.record_refusal.RecordCause.{RecordCause}
use Rattle.text_model.specs.declared.record_refusal.RecordCause.TheVariants.{LineTooLong, TooManyLines, TooMuch}
use Rattle.event_records.specs.Cutting.{HasNo, Heads}
use Rattle.event_records.specs.Held.{held_of}
use Rattle.event_records.proofs.Cuts.{HasNo-both, before_first, cut-found, cut-front, cut-whole, parted, pieces_of}

pub lines-found : (over : Bool) (front rest : List ℕ) → HasNo LINE_FEED front → lines over (front ++ LINE_FEED ∷ rest) ≡ front ∷ lines over rest
unfolding lines lines_in
lines-found over front rest h =
    let p = pieces_of LINE_FEED rest in
    let e : cut LINE_FEED (front ++ LINE_FEED ∷ rest) ≡ front ∷ p.head ∷ p.others = cut-found LINE_FEED front rest h ∙ ap (λ pieces. front ∷ pieces) p.is in
    rw (e, p.is) refl

pub heads-found : (ended : Bool) (front rest : List ℕ) → HasNo LINE_FEED front → Heads ended (front ++ LINE_FEED ∷ rest) front rest
heads-found ended front rest h = record {
  read = λ raws most before more over future.
      ap (λ text. read_lines over raws most before (lines over text)) (append_assoc front (LINE_FEED ∷ rest) more)
      ∙ ap (read_lines over raws most before) (lines-found over front (rest ++ more) h);
  some = λ e. let found = lines-found ended front rest h in cc;
}

-- a line that is too long has this cause, whatever else is wrong with it

unfoldable pub too_long : Progress → RecordCause
too_long before =
    if nat_lt MOST_LINES (before.lines + 1) then TooManyLines else (if nat_le MOST_RECORDS_BYTES before.bytes then TooMuch else LineTooLong)

content-long : (line : List ℕ) → MOST_LINE_BYTES + 1 < length line → nat_lt MOST_LINE_BYTES (length (content line)) ≡ true
unfolding content
content-long line h = by (ends_with nat_eq line (CARRIAGE_RETURN ∷ []))
  where
    by : (t : Bool) → nat_lt MOST_LINE_BYTES (length (if t then take (length line - 1) line else line)) ≡ true
    by true = let n = length-take (length line - 1) line in grind (arith, nat_tests)
    by false = grind (arith, nat_tests)

stopped : (t u : Bool) (rest : Unit {0} → Result Line RecordCause) →
    (refuse_if t TooManyLines >>= λ counted. refuse_if u TooMuch >>= λ begun. refuse_if true LineTooLong >>= rest)
    ≡ Err (if t then TooManyLines else (if u then TooMuch else LineTooLong))
stopped true u rest = refl
stopped false true rest = refl
stopped false false rest = refl

pub line_of-too_long : (raws : List Raw) (most : ℕ) (before : Progress) (line : List ℕ) → MOST_LINE_BYTES + 1 < length line →
    line_of raws most before line ≡ Err (too_long before)
unfolding line_of too_long
line_of-too_long raws most before line h =
    rw (content-long line h) (stopped (nat_lt MOST_LINES (before.lines + 1)) (nat_le MOST_RECORDS_BYTES before.bytes) (λ short. held_of raws most before (content line)))

-- so what stands behind a refused line doesn't matter
pub read-too_long : (over : Bool) (raws : List Raw) (most : ℕ) (before : Progress) (line : List ℕ) (others : List (List ℕ)) → MOST_LINE_BYTES + 1 < length line →
    read_lines over raws most before (line ∷ others) ≡ refused_at (before.lines + 1) (too_long before)
unfolding read_lines joined
read-too_long over raws most before line others h = rw (line_of-too_long raws most before line h) refl

-- the lines of pieces of which the first is too long begin with it
pub record Begins (over : Bool) (line : List ℕ) (pieces : List (List ℕ)) : Type 0 where
  pub others : List (List ℕ)
  pub is : lines_in over (line ∷ pieces) ≡ line ∷ others

pub begins : (over : Bool) (line : List ℕ) (pieces : List (List ℕ)) → MOST_LINE_BYTES + 1 < length line → Begins over line pieces
unfolding lines_in
begins true line [] h = let e : nat_lt 0 (length line) ≡ true = grind (arith, nat_tests) in record { others = []; is = rw e refl }
begins false line [] h = let e : nat_lt (MOST_LINE_BYTES + 1) (length line) ≡ true = grind (arith, nat_tests) in record { others = []; is = rw e refl }
begins over line (piece ∷ pieces) h = record { others = lines_in over (piece ∷ pieces); is = refl }

read-long_front : (over : Bool) (raws : List Raw) (most : ℕ) (before : Progress) (front more : List ℕ) → HasNo LINE_FEED front → MOST_LINE_BYTES + 1 < length front →
    read_lines over raws most before (lines over (front ++ more)) ≡ refused_at (before.lines + 1) (too_long before)
unfolding lines
read-long_front over raws most before front more none h =
    let p = pieces_of LINE_FEED more in
    let e : cut LINE_FEED (front ++ more) ≡ (front ++ p.head) ∷ p.others = cut-front LINE_FEED front more none ∙ ap (before_first front) p.is in
    let long : MOST_LINE_BYTES + 1 < length (front ++ p.head) = omega (arith, length-append front p.head) in
    let b = begins over (front ++ p.head) p.others long in
    rw (e, b.is) (read-too_long over raws most before (front ++ p.head) b.others long)

last_line-some : (ended : Bool) (line : List ℕ) → HasNo LINE_FEED line → is_last_line ended line ≡ true → lines ended line ≡ line ∷ []
unfolding lines lines_in
last_line-some ended line none last = rw (cut-whole LINE_FEED line none, last) refl

pub last_line-none : (ended : Bool) (line : List ℕ) → HasNo LINE_FEED line → is_last_line ended line ≡ false → lines ended line ≡ []
unfolding lines lines_in
last_line-none ended line none last = rw (cut-whole LINE_FEED line none, last) refl

no_lines : lines true [] ≡ []
unfolding lines lines_in cut
no_lines = refl

pub heads-last : (ended : Bool) (line : List ℕ) → HasNo LINE_FEED line → is_last_line ended line ≡ true → Heads ended line line []
heads-last true line none last = record {
  read = λ raws most before more over future.
      let over_is : over ≡ true = future.1 in
      let text : line ++ more ≡ line = rw future.0 (append-nil line) in
      rw (text, future.0, over_is, no_lines, last_line-some true line none last) refl;
  some = λ e. let found = last_line-some true line none last in cc;
}
heads-last false line none last =
    let long : MOST_LINE_BYTES + 1 < length line = grind (arith, nat_tests) in record {
      read = λ raws most before more over future.
          read-long_front over raws most before line more none long ∙ sym (read-too_long over raws most before line (lines over more) long);
      some = λ e. let found = last_line-some false line none last in cc;
    }

-- the same of a text by the place of its first line feed
heads-at : (ended : Bool) (k : ℕ) (bytes front rest : List ℕ) → bytes ≡ front ++ LINE_FEED ∷ rest → k ≡ length front → HasNo LINE_FEED front →
    Heads ended bytes (take k bytes) (drop (k + 1) bytes)
heads-at ended k bytes front rest e at none =
    rw (e, at, take-append_seam front (LINE_FEED ∷ rest), drop-append-add front (LINE_FEED ∷ rest) 1) (heads-found ended front rest none)

-- where the first bytes were searched before
pub heads-behind : (ended : Bool) (n i : ℕ) (bytes unseen : List ℕ) → n ≤ length bytes → HasNo LINE_FEED (take n bytes) → unseen ≡ drop n bytes → i < length unseen →
    slice_index unseen i ≡ LINE_FEED → HasNo LINE_FEED (take i unseen) → Heads ended bytes (take (n + i) bytes) (drop (n + i + 1) bytes)
heads-behind ended n i bytes unseen within none is low at more =
    let whole : bytes ≡ (take n bytes ++ take i unseen) ++ LINE_FEED ∷ drop (i + 1) unseen =
    sym (append_assoc (take n bytes) (take i unseen) (LINE_FEED ∷ drop (i + 1) unseen)
    ∙ ap (λ (behind : List ℕ). take n bytes ++ behind) (parted i unseen LINE_FEED low at ∙ is)
    ∙ take-append-drop n bytes) in
    let long : n + i ≡ length (take n bytes ++ take i unseen) =
    omega (arith, length-append (take n bytes) (take i unseen), length-take-le n bytes within, length-take-le i unseen (omega arith)) in
    heads-at ended (n + i) bytes (take n bytes ++ take i unseen) (drop (i + 1) unseen) whole long (HasNo-both LINE_FEED (take n bytes) (take i unseen) none more)

-- where none was found, neither before nor now
pub none-behind : (n : ℕ) (bytes unseen : List ℕ) → HasNo LINE_FEED (take n bytes) → unseen ≡ drop n bytes → HasNo LINE_FEED unseen → HasNo LINE_FEED bytes
none-behind n bytes unseen none is more =
    rw (take-append-drop n bytes) at (HasNo-both LINE_FEED (take n bytes) (drop n bytes) none (rw is at more))
