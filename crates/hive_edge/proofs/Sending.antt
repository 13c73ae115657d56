-- A piece that is written by several writes, of which each takes the front of what is left.
use Rattle.std.proofs.Common.{◌≡◌, ℕ, ◌+◌, ◌-◌, ◌≤◌, List, [], ◌++◌, Option, length, take, drop, refl, sym, ap, subst, ◌∙◌, append-nil, arith, length-drop}
use Rattle.std.proofs.Math.Seq.{take-add}
use Rattle.std.proofs.lemmas.List.{drop-drop, take_all, drop_all, take-append-drop}
use Rattle.std.specs.Io.KnownBytes.{Appends, Keeps}
use Rattle.std.proofs.KnownBytes.{Appends-nil, Appends-trans, Appends-kept}
use Rattle.hive_edge.specs.Sink.{BreaksOff}

-- the first bytes of the piece were taken since, and the rest of it may follow
pub record IsSent {K : Type 0} (got : K → Option (List ℕ)) (faults : K → ℕ) (admits : K → List ℕ → Type 0) (first now : K) (piece : List ℕ) (at : ℕ) : Type 0 where
  pub within : at ≤ length piece
  pub bytes : Appends (got first) (got now) (take at piece)
  pub room : (rest : List ℕ) → admits first (piece ++ rest) → admits now (drop at piece ++ rest)
  pub calm : faults now ≡ faults first

-- nothing was taken yet
pub sent_none : {K : Type 0} (got : K → Option (List ℕ)) (faults : K → ℕ) (admits : K → List ℕ → Type 0) (first : K) (piece : List ℕ)
    → IsSent got faults admits first first piece 0
sent_none got faults admits first piece =
    record { within = omega arith; bytes = Appends-nil (got first); room = λ rest h. h; calm = refl }

-- what is left of the piece may be written
pub sent_next : {K : Type 0} (got : K → Option (List ℕ)) (faults : K → ℕ) (admits : K → List ℕ → Type 0) (first now : K) (piece : List ℕ) (at : ℕ)
    → IsSent got faults admits first now piece at → admits first piece → admits now (drop at piece)
sent_next got faults admits first now piece at sent may =
    subst (admits now) (append-nil (drop at piece)) (sent.room [] (subst (admits first) (sym (append-nil piece)) may))

-- one more write took n bytes of what was left
pub sent_more : {K : Type 0} (got : K → Option (List ℕ)) (faults : K → ℕ) (admits : K → List ℕ → Type 0) (first now new : K) (piece part : List ℕ) (at n : ℕ)
    → IsSent got faults admits first now piece at → part ≡ drop at piece → n ≤ length part
    → Appends (got now) (got new) (take n part) → ((rest : List ℕ) → admits now (part ++ rest) → admits new (drop n part ++ rest)) → faults new ≡ faults now
    → IsSent got faults admits first new piece (at + n)
sent_more got faults admits first now new piece part at n sent is few bytes room calm =
    let long : length part ≡ length piece - at = ap length is ∙ length-drop at piece in
    let within : at ≤ length piece = sent.within in
    let taken : take at piece ++ take n part ≡ take (at + n) piece = ap (λ (l : List ℕ). take at piece ++ take n l) is ∙ sym (take-add at n piece) in
    let left : drop n part ≡ drop (at + n) piece = ap (drop n) is ∙ drop-drop n at piece in
    record {
      within = omega arith;
      bytes = subst (Appends (got first) (got new)) taken (Appends-trans _ _ _ _ _ sent.bytes bytes);
      room = λ rest h. subst (λ (l : List ℕ). admits new (l ++ rest)) left
          (room rest (subst (λ (l : List ℕ). admits now (l ++ rest)) (sym is) (sent.room rest h)));
      calm = calm ∙ sent.calm;
    }

-- a write that failed took nothing
pub sent_broken : {K : Type 0} (got : K → Option (List ℕ)) (faults : K → ℕ) (admits : K → List ℕ → Type 0) (first now new : K) (piece : List ℕ) (at : ℕ)
    → IsSent got faults admits first now piece at → Keeps (got now) (got new) → ((text : List ℕ) → admits now text → admits new text)
    → BreaksOff (got first) (got new) (admits first) (admits new) piece
sent_broken got faults admits first now new piece at sent bytes room =
    record {
      front = take at piece;
      back = drop at piece;
      whole = sym (take-append-drop at piece);
      bytes = Appends-kept _ _ _ _ sent.bytes bytes;
      room = λ rest h. room _ (sent.room rest h);
    }

-- all was taken
pub sent_bytes : {K : Type 0} (got : K → Option (List ℕ)) (faults : K → ℕ) (admits : K → List ℕ → Type 0) (first now : K) (piece : List ℕ) (at : ℕ)
    → IsSent got faults admits first now piece at → length piece ≤ at → Appends (got first) (got now) piece
sent_bytes got faults admits first now piece at sent end = subst (Appends (got first) (got now)) (take_all at piece end) sent.bytes

pub sent_room : {K : Type 0} (got : K → Option (List ℕ)) (faults : K → ℕ) (admits : K → List ℕ → Type 0) (first now : K) (piece : List ℕ) (at : ℕ)
    → IsSent got faults admits first now piece at → length piece ≤ at → (rest : List ℕ) → admits first (piece ++ rest) → admits now rest
sent_room got faults admits first now piece at sent end rest h =
    subst (λ (l : List ℕ). admits now (l ++ rest)) (drop_all at piece end) (sent.room rest h)
