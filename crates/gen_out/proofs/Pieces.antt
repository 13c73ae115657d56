-- A text that is written in pieces, of which each is generated when its turn comes.
use Rattle.std.proofs.Common.{◌≡◌, ℕ, List, [], ◌++◌, Option, refl, sym, ap, subst, ◌∙◌, append_assoc, append-nil}
use Rattle.std.proofs.KnownBytes.{Appends-nil, Appends-trans}
use Rattle.std.specs.Io.KnownBytes.{Appends}
use Rattle.hive_edge.specs.Sink.{BreaksOff}

-- the text up to what is left was written since, and the rest of it may follow
pub record IsWritten {K : Type 0} (got : K → Option (List ℕ)) (faults : K → ℕ) (admits : K → List ℕ → Type 0)
    (first now : K)
    (text left : List ℕ) : Type 0 where
  pub sent : List ℕ
  pub whole : text ≡ sent ++ left
  pub bytes : Appends (got first) (got now) sent
  pub room : (rest : List ℕ) → admits first (text ++ rest) → admits now (left ++ rest)
  pub calm : faults now ≡ faults first

pub written_none : {K : Type 0} (got : K → Option (List ℕ)) (faults : K → ℕ) (admits : K → List ℕ → Type 0)
    (first : K)
    (text left : List ℕ) → left ≡ text → IsWritten got faults admits first first text left
written_none got faults admits first text left is =
    record {
      sent = [];
      whole = sym is;
      bytes = Appends-nil (got first);
      room = λ rest h. subst (λ (l : List ℕ). admits first (l ++ rest)) (sym is) h;
      calm = refl;
    }

-- a piece is a front of what is left
pub piece_next : {K : Type 0} (got : K → Option (List ℕ)) (faults : K → ℕ) (admits : K → List ℕ → Type 0)
    (first now : K)
    (text left piece later : List ℕ) → ((front rest : List ℕ) → admits now (front ++ rest) →
    admits now front) →
    IsWritten got faults admits first now text left → admits first text → piece ++ later ≡ left →
    admits now piece
piece_next got faults admits first now text left piece later front it may is =
    let all : admits now (left ++ []) = it.room [] (subst (admits first) (sym (append-nil text)) may) in
    front piece later (subst (admits now) (append-nil left ∙ sym is) all)

pub piece_written : {K : Type 0} (got : K → Option (List ℕ)) (faults : K → ℕ) (admits : K → List ℕ → Type 0)
    (first now new : K)
    (text left piece later : List ℕ) → IsWritten got faults admits first now text left → piece ++ later
    ≡ left →
    Appends (got now) (got new) piece → ((rest : List ℕ) → admits now (piece ++ rest) → admits new rest) →
    faults new ≡ faults now →
    IsWritten got faults admits first new text later
piece_written got faults admits first now new text left piece later it is bytes room calm =
    record {
      sent = it.sent ++ piece;
      whole = it.whole ∙ (ap (λ (l : List ℕ). it.sent ++ l) (sym is)
          ∙ sym (append_assoc it.sent piece later));
      bytes = Appends-trans _ _ _ _ _ it.bytes bytes;
      room = λ rest h. room (later ++ rest)
          (subst (admits now) (ap (λ (l : List ℕ). l ++ rest) (sym is) ∙ append_assoc piece later rest)
          (it.room rest h));
      calm = calm ∙ it.calm;
    }

-- nothing more was written
pub written_broken : {K : Type 0} (got : K → Option (List ℕ)) (faults : K → ℕ) (admits : K → List ℕ → Type 0)
    (first now : K)
    (text left : List ℕ) → IsWritten got faults admits first now text left →
    BreaksOff (got first) (got now) (admits first) (admits now) text
written_broken got faults admits first now text left it =
    record { front = it.sent; back = left; whole = it.whole; bytes = it.bytes; room = it.room }

-- a piece broke off
pub piece_broken : {K : Type 0} (got : K → Option (List ℕ)) (faults : K → ℕ) (admits : K → List ℕ → Type 0)
    (first now new : K)
    (text left piece later : List ℕ) → IsWritten got faults admits first now text left → piece ++ later
    ≡ left →
    BreaksOff (got now) (got new) (admits now) (admits new) piece →
    BreaksOff (got first) (got new) (admits first) (admits new) text
piece_broken got faults admits first now new text left piece later it is broken =
    let parted : left ≡ broken.front ++ (broken.back ++ later) =
    sym is ∙ (ap (λ (l : List ℕ). l ++ later) broken.whole
    ∙ append_assoc broken.front broken.back later) in
    record {
      front = it.sent ++ broken.front;
      back = broken.back ++ later;
      whole = it.whole ∙ (ap (λ (l : List ℕ). it.sent ++ l) parted
          ∙ sym (append_assoc it.sent broken.front (broken.back ++ later)));
      bytes = Appends-trans _ _ _ _ _ it.bytes broken.bytes;
      room = λ rest h. subst (admits new) (sym (append_assoc broken.back later rest))
          (broken.room (later ++ rest)
          (subst (admits now) (ap (λ (l : List ℕ). l ++ rest) (sym is) ∙ append_assoc piece later rest)
          (it.room rest h)));
    }

-- all was written
pub all_written : {K : Type 0} (got : K → Option (List ℕ)) (faults : K → ℕ) (admits : K → List ℕ → Type 0)
    (first now : K)
    (text left : List ℕ) → IsWritten got faults admits first now text left → left ≡ [] →
    Appends (got first) (got now) text
all_written got faults admits first now text left it none =
    subst (Appends (got first) (got now)) (sym (it.whole
    ∙ (ap (λ (l : List ℕ). it.sent ++ l) none ∙ append-nil it.sent))) it.bytes

-- what the generator left, behind the piece that was appended to an empty buffer
pub piece-is : (cleared buffer piece left later : List ℕ) → cleared ≡ [] → piece ≡ buffer → buffer ++ later
    ≡ cleared ++ left →
    piece ++ later ≡ left
piece-is cleared buffer piece left later none same text =
    ap (λ (l : List ℕ). l ++ later) same ∙ (text ∙ ap (λ (l : List ℕ). l ++ left) none)
