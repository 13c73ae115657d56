-- What is known of a text stays when more of it comes.
use Rattle.std.proofs.Common.{◌≡◌, ℕ, ◌+◌, ◌<◌, ◌==◌, Bool, true, false, List, [], ◌∷◌, ◌++◌, length, Some, None, Result, Ok, Err, refl, ap, sym, ◌∙◌, arith, length-append}
use Rattle.std.proofs.lemmas.Bool.Decides.{nat_tests}
use Rattle.hive_model.specs.declared.algorithm.Raw.{Raw}
use Rattle.text_model.specs.Lines.{is_last_line, lines, lines_in}
use Rattle.text_model.specs.Pieces.{cut, onto}
use Rattle.text_model.specs.Records.{Known, after_line, joined, known, line_of, opening, read_lines, refused_at}
use Rattle.text_model.specs.declared.bytes.TheConstants.{LINE_FEED}
use Rattle.text_model.specs.declared.limits.TheConstants.{MOST_LINE_BYTES}
use Rattle.text_model.specs.declared.line.Line.{Line}
use Rattle.text_model.specs.declared.line.Line.TheVariants.{Blank, Header, Record}
use Rattle.text_model.specs.declared.line.Progress.{Progress}
use Rattle.text_model.specs.declared.record_refusal.RecordCause.{RecordCause}
use Rattle.text_model.specs.declared.record_refusal.RecordRefusal.{RecordRefusal}
use Rattle.event_records.specs.Reading.{after, just}
use Rattle.event_records.proofs.Cuts.{Pieces, before_first, before_first-nothing, pieces_of}
use Rattle.event_records.proofs.LineEnds.{begins, read-too_long, too_long}

-- the pieces of two texts, one behind the other: the last piece of the first and the first piece of the second are one
abbrev pub seam : List (List ℕ) → List (List ℕ) → List (List ℕ)
seam [] later = later
seam (piece ∷ []) later = before_first piece later
seam (piece ∷ next ∷ pieces) later = piece ∷ seam (next ∷ pieces) later

onto-seam : (b : ℕ) (piece : List ℕ) (pieces later : List (List ℕ)) → onto b (seam (piece ∷ pieces) later) ≡ seam ((b ∷ piece) ∷ pieces) later
onto-seam b piece [] [] = refl
onto-seam b piece [] (next ∷ later) = refl
onto-seam b piece (next ∷ pieces) later = refl

cut-seam : (s : ℕ) (text more : List ℕ) → cut s (text ++ more) ≡ seam (cut s text) (cut s more)
unfolding cut
cut-seam s [] more = sym (before_first-nothing s more)
cut-seam s (b ∷ bs) more = by (b == s) refl (pieces_of s bs) (cut-seam s bs more)
  where
    by : (t : Bool) → (b == s) ≡ t → Pieces s bs → cut s (bs ++ more) ≡ seam (cut s bs) (cut s more) → cut s ((b ∷ bs) ++ more) ≡ seam (cut s (b ∷ bs)) (cut s more)
    by true e p shorter = rw (e, shorter, p.is) refl
    by false e p shorter = rw (e, shorter, p.is) (onto-seam b p.head p.others (cut s more))

-- a seam has a first piece
record Joint (pieces later : List (List ℕ)) : Type 0 where
  head : List ℕ
  others : List (List ℕ)
  is : seam pieces later ≡ head ∷ others

joint : (piece : List ℕ) (pieces later : List (List ℕ)) → Joint (piece ∷ pieces) later
joint piece [] [] = record { head = piece; others = []; is = refl }
joint piece [] (next ∷ later) = record { head = piece ++ next; others = later; is = refl }
joint piece (next ∷ pieces) later = record { head = piece; others = seam (next ∷ pieces) later; is = refl }

lines-joint : (over : Bool) (line piece : List ℕ) (pieces later : List (List ℕ)) →
    lines_in over (seam (line ∷ piece ∷ pieces) later) ≡ line ∷ lines_in over (seam (piece ∷ pieces) later)
unfolding lines_in
lines-joint over line piece pieces later = let j = joint piece pieces later in rw j.is refl

-- what is known goes on: what comes later stands behind its records, and nothing does behind its refusal
pub record GoesOn (now longer : Known) : Type 0 where
  pub later : Known
  pub is : longer ≡ after now.records later
  pub refused : (refusal : RecordRefusal) → now.refusal ≡ Some refusal → longer ≡ now

-- where no line is known, nothing is
from_nothing : (longer : Known) → GoesOn (just [] None) longer
from_nothing longer = record { later = longer; is = refl; refused = λ refusal e. absurd (differs refusal e) }
  where
    differs : (refusal : RecordRefusal) → None ≡ Some refusal → ⊥
    differs refusal e = cc

stopped : (now longer : Known) (number : ℕ) (why : RecordCause) → now ≡ refused_at number why → longer ≡ refused_at number why → GoesOn now longer
stopped now longer number why n l = record {
  later = longer;
  is = rw (n, l) refl;
  refused = λ refusal e. l ∙ sym n;
}

joined-on : (number : ℕ) (said : Result Line RecordCause) (now longer : Known) → GoesOn now longer → GoesOn (joined number said now) (joined number said longer)
unfolding joined
joined-on number (Ok Blank) now longer on = on
joined-on number (Ok Header) now longer on = on
joined-on number (Ok (Record it)) now longer on = record {
  later = on.later;
  is = ap (λ (k : Known). after (it ∷ []) k) on.is;
  refused = λ refusal e. ap (λ (k : Known). after (it ∷ []) k) (on.refused refusal e);
}
joined-on number (Err why) now longer on = stopped (refused_at number why) (refused_at number why) number why refl refl

-- a last piece, which is a line if it is longer than any line may be
read-last : (over : Bool) (raws : List Raw) (most : ℕ) (before : Progress) (piece : List ℕ) (later : List (List ℕ)) →
    GoesOn (read_lines false raws most before (lines_in false (piece ∷ []))) (read_lines over raws most before (lines_in over (before_first piece later)))
unfolding lines_in read_lines
read-last over raws most before piece later = by (is_last_line false piece) refl later
  where
    longer : List (List ℕ) → Known
    longer later = read_lines over raws most before (lines_in over (before_first piece later))

    long-front : MOST_LINE_BYTES + 1 < length piece → (later : List (List ℕ)) → longer later ≡ refused_at (before.lines + 1) (too_long before)
    long-front long [] = let b = begins over piece [] long in rw b.is (read-too_long over raws most before piece b.others long)
    long-front long (next ∷ later) =
        let more : MOST_LINE_BYTES + 1 < length (piece ++ next) = omega (arith, length-append piece next) in
        let b = begins over (piece ++ next) later more in
        rw b.is (read-too_long over raws most before (piece ++ next) b.others more)

    by : (t : Bool) → is_last_line false piece ≡ t → (later : List (List ℕ)) →
        GoesOn (read_lines false raws most before (lines_in false (piece ∷ []))) (longer later)
    by false e later = rw e (from_nothing (longer later))
    by true e later =
        let long : MOST_LINE_BYTES + 1 < length piece = grind (arith, nat_tests) in
        let b = begins false piece [] long in
        stopped (read_lines false raws most before (lines_in false (piece ∷ []))) (longer later) (before.lines + 1) (too_long before)
        (rw b.is (read-too_long false raws most before piece b.others long)) (long-front long later)

read-on : (over : Bool) (raws : List Raw) (most : ℕ) (before : Progress) (pieces later : List (List ℕ)) →
    GoesOn (read_lines false raws most before (lines_in false pieces)) (read_lines over raws most before (lines_in over (seam pieces later)))
unfolding lines_in read_lines
read-on over raws most before [] later = from_nothing (read_lines over raws most before (lines_in over later))
read-on over raws most before (piece ∷ []) later = read-last over raws most before piece later
read-on over raws most before (line ∷ piece ∷ pieces) later =
    rw (lines-joint over line piece pieces later)
    (joined-on (before.lines + 1) (line_of raws most before line)
    (read_lines false raws most (after_line before line (line_of raws most before line)) (lines_in false (piece ∷ pieces)))
    (read_lines over raws most (after_line before line (line_of raws most before line)) (lines_in over (seam (piece ∷ pieces) later)))
    (read-on over raws most (after_line before line (line_of raws most before line)) (piece ∷ pieces) later))

pub known-on : (over : Bool) (raws : List Raw) (most : ℕ) (text more : List ℕ) → GoesOn (known false raws most text) (known over raws most (text ++ more))
unfolding known lines
known-on over raws most text more = rw (cut-seam LINE_FEED text more) (read-on over raws most opening (cut LINE_FEED text) (cut LINE_FEED more))
