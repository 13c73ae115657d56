-- One more record was read of the input, or one more piece.
use Rattle.std.proofs.Common.{◌≡◌, ◌⊎◌, inl, inr, ℕ, ◌+◌, ◌<◌, ◌≤◌, Bool, true, false, List, [], ◌∷◌, ◌++◌, Option, None, length, vec_len, refl, sym, ap, ◌∙◌, arith, length-append}
use Rattle.std.proofs.KnownBytes.{Consumes-nil, Consumes-trans}
use Rattle.event_records.proofs.Bounds.{so_far-short, told-few}
use Rattle.event_records.specs.Reading.{HasRead, Reading, ahead, just}
use Rattle.hive_model.specs.EventRecord.{EventRecord}
use Rattle.hive_model.specs.Job.{Job}
use Rattle.text_model.specs.Records.{Known, so_far}
use Rattle.text_model.specs.declared.limits.TheConstants.{MOST_LINES}
use Rattle.hive_pump.proofs.Texts.{told-now}
use Rattle.hive_pump.specs.Input.{IsFed, IsInput, IsReadOn, IsUnread, left_to_read, most_read}
use Rattle.hive_pump.specs.declared.input.Input.{Input}

few-records : (job : Job) (fed : List ℕ) (given : List EventRecord) (it : EventRecord) (r : Reading) →
    HasRead job fed (given ++ it ∷ []) r → length given < MOST_LINES
few-records job fed given it r has =
    let later = ahead r [] r.ended in
    let known = ap (λ (k : Known). length k.records) (told-now job fed (given ++ it ∷ []) r has) in
    let few = told-few r.ended job fed in
    let n = length-append (given ++ it ∷ []) later.records in
    let m = length-append given (it ∷ []) in
    omega (arith, known, few, n, m)

record-less : (taken taken' n m : ℕ) (e e' : Bool) → e' ≡ e → taken' ≡ taken → m ≡ n + 1 → n < MOST_LINES →
    left_to_read taken' m e' < left_to_read taken n e
record-less taken taken' n m true e' s total more few = rw (s, total) (omega (arith, few, more))
record-less taken taken' n m false e' s total more few = rw (s, total) (omega (arith, few, more))

piece-less : (taken taken' n size : ℕ) (e e' : Bool) → taken' ≡ taken + size → (0 < size) ⊎ (e' ≡ true) → e ≡ false →
    taken ≤ most_read → left_to_read taken' n e' < left_to_read taken n e
piece-less taken taken' n size e true total goes s few = rw s (omega (arith, total, few))
piece-less taken taken' n size e false total (inl some) s few = rw s (omega (arith, total, few, some))
piece-less taken taken' n size e false total (inr x) s few = absurd cc

module _ {S : Type 0} (rest : S → Option (List ℕ)) (faults : S → ℕ) (job : Job) (s₀ : S) where
  pub nothing-read : (it : Input) → IsUnread job it → IsInput rest faults job s₀ s₀ [] it
  nothing-read it u = record {
    fed = [];
    reads = u.reads;
    bytes = Consumes-nil (rest s₀);
    at_end = λ e. absurd (let open_ = u.goes_on in cc);
    calm = refl;
    total = u.none;
    room = u.room;
  }

  module _ (s : S) (given : List EventRecord) (old : Input) (u : IsInput rest faults job s₀ s given old) where
    -- a text that goes on is short enough to be counted
    pub few-bytes : so_far job u.fed ≡ just given None → old.taken ≤ most_read
    few-bytes known =
        let short = so_far-short job u.fed (ap (λ (k : Known). k.refusal) known) in
        omega (arith, short, u.total)

    pub reads-record : (it : EventRecord) (new : Input) → HasRead job u.fed (given ++ it ∷ []) new.reader →
        new.reader.ended ≡ old.reader.ended → new.taken ≡ old.taken → vec_len new.buffer ≡ vec_len old.buffer →
        IsReadOn rest faults job s₀ s given (given ++ it ∷ []) old new
    reads-record it new has same total room = record {
      input = record {
        fed = u.fed;
        reads = has;
        bytes = u.bytes;
        at_end = λ e. u.at_end (sym same ∙ e);
        calm = u.calm;
        total = total ∙ u.total;
        room = room ∙ u.room;
      };
      less = record-less old.taken new.taken (length given) (length (given ++ it ∷ [])) old.reader.ended new.reader.ended
          same total (length-append given (it ∷ [])) (few-records job u.fed given it new.reader has);
    }

    pub reads-piece : (s' : S) (asked : Reading) (new : Input) → HasRead job u.fed given asked →
        IsFed rest faults s s' asked new.reader old.taken new.taken → old.reader.ended ≡ false →
        so_far job u.fed ≡ just given None → vec_len new.buffer ≡ vec_len old.buffer →
        IsReadOn rest faults job s₀ s' given given old new
    reads-piece s' asked new has f open_ known room = record {
      input = record {
        fed = u.fed ++ f.piece;
        reads = f.reads job u.fed given has;
        bytes = Consumes-trans (rest s₀) (rest s) (rest s') u.fed f.piece u.bytes f.bytes;
        at_end = f.at_end;
        calm = f.calm ∙ u.calm;
        total = omega (arith, u.total, f.total, length-append u.fed f.piece);
        room = room ∙ u.room;
      };
      less = piece-less old.taken new.taken (length given) (length f.piece) old.reader.ended new.reader.ended f.total
          f.goes_on open_ (few-bytes known);
    }
