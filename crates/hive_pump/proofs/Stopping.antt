-- How reading stops: what was read of the input by then, and what was written.
use Rattle.std.proofs.Common.{◌≡◌, inl, ℕ, Bool, true, false, List, [], ◌∷◌, ◌++◌, Option, Some, None, OnErr, OnOk, Result, Ok, Err, is_err, refl, sym, ap, subst, ◌∙◌, append_assoc, append-nil}
use Rattle.std.proofs.KnownBytes.{Consumes-kept, Consumes-nil, Consumes-trans}
use Rattle.std.proofs.lemmas.Option.{same_Some}
use Rattle.std.specs.Io.KnownBytes.{Consumes, IsAtEnd}
use Rattle.event_records.specs.Reading.{HasRead, IsRefused, Reading, ahead, just, told}
use Rattle.hive_model.specs.EventRecord.{EventRecord}
use Rattle.hive_model.specs.Job.{Job}
use Rattle.text_model.specs.Records.{Known, records_of, so_far}
use Rattle.text_model.specs.Whole.{Ending as Last, ReadToEnd, RefusedAt, SourceFailed}
use Rattle.text_model.specs.declared.record_refusal.RecordRefusal.{RecordRefusal}
use Rattle.hive_pump.proofs.Courses.{broken-shown, given-shown, prefix-so-far}
use Rattle.hive_pump.proofs.Texts.{may-end, no-more}
use Rattle.hive_pump.specs.Course.{Course, HasStopped, IsShown, IsUnderWay, WrittenBy, text_so_far}
use Rattle.hive_pump.specs.Input.{EndsInput, FeedsOn, HasEnded, IsInput}
use Rattle.hive_pump.specs.Pumped.{EndsBy}
use Rattle.hive_pump.specs.Reading.{IsRead}
use Rattle.hive_pump.specs.Steps.{IsBroken, IsSent}
use Rattle.hive_pump.specs.Written.{MayWrite, written}
use Rattle.hive_pump.specs.declared.ending.Ending.{Ending}
use Rattle.hive_pump.specs.declared.ending.Ending.TheVariants as ending
use Rattle.hive_pump.specs.declared.input.Input.{Input}

-- the first records of what was read, while the input goes on
pub read-on : (job : Job) (before now : Option (List ℕ)) (fed : List ℕ) (given : List EventRecord) (r : Reading) →
    HasRead job fed given r → Consumes before now fed → (r.ended ≡ true → IsAtEnd now) → IsRead job before now given None
read-on job before now fed given r has taken end = record {
  text = fed;
  ended = r.ended;
  taken = taken;
  at_end = end;
  says = λ more over future. ((ahead r more over).records, ap (λ (k : Known). k.records) (has.rest more over future));
}

-- a refused line is known from what was read
refused-now : (job : Job) (fed : List ℕ) (given : List EventRecord) (ended : Bool) (refusal : RecordRefusal) →
    IsRefused job fed given ended refusal → told ended job fed ≡ just given (Some refusal)
refused-now job fed given ended refusal h =
    ap (told ended job) (sym (append-nil fed)) ∙ h [] ended (no-more ended)

-- nothing was read yet
pub read-nothing : (job : Job) (now : Option (List ℕ)) → IsRead job now now [] None
read-nothing job now = record {
  text = [];
  ended = false;
  taken = Consumes-nil now;
  at_end = λ e. cc;
  says = λ more over future. ((told over job more).records, refl);
}

-- a piece was taken for which memory ran out
read-lost : (job : Job) (before mid now : Option (List ℕ)) (fed piece : List ℕ) (given : List EventRecord)
    (r : Reading) → HasRead job fed given r → r.ended ≡ false → Consumes before mid fed → Consumes mid now piece →
    IsRead job before now given None
read-lost job before mid now fed piece given r has open_ taken more_taken = record {
  text = fed ++ piece;
  ended = false;
  taken = Consumes-trans before mid now fed piece taken more_taken;
  at_end = λ e. cc;
  says = λ more over future.
      let whole = ap (λ text. (told over job text).records) (append_assoc fed piece more) in
      let known = ap (λ (k : Known). k.records) (has.rest (piece ++ more) over (rw open_ tt)) in
      ((ahead r (piece ++ more) over).records, whole ∙ known);
}

-- without the last one
read-fewer : (job : Job) (before now : Option (List ℕ)) (given : List EventRecord) (it : EventRecord) →
    IsRead job before now (given ++ it ∷ []) None → IsRead job before now given None
read-fewer job before now given it r = record {
  text = r.text;
  ended = r.ended;
  taken = r.taken;
  at_end = r.at_end;
  says = λ more over future.
      let begins = r.says more over future in (it ∷ begins.0, begins.1 ∙ append_assoc given (it ∷ []) begins.0);
}

pub went-wrong : {X E : Type 0} (r : Result X E) (P : Type 0) → OnErr r P → is_err r ≡ true → P
went-wrong (Ok x) P h e = absurd (cc)
went-wrong (Err x) P h e = h

pub went-well : {X E : Type 0} (r : Result X E) (P : Type 0) → OnOk r P → is_err r ≡ false → P
went-well (Ok x) P h e = h
went-well (Err x) P h e = absurd (cc)

may-as : (job : Job) (brief : Bool) (before : Option (List ℕ)) (given : List EventRecord) (line last : Last) →
    Some last ≡ Some line → MayWrite job brief before (written job brief given (Some last)) →
    MayWrite job brief before (written job brief given (Some line))
may-as job brief before given line last e may =
    subst (λ l. MayWrite job brief before (written job brief given (Some l))) (same_Some last line e) may

module _ {S : Type 0} (rest : S → Option (List ℕ)) (faults : S → ℕ) (job : Job) (s₀ s : S) (given : List EventRecord)
    (old : Input) (u : IsInput rest faults job s₀ s given old) where
  abbrev pub Ends : S → Ending → Type 0
  Ends s' ended = HasEnded rest faults job s₀ s' given ended

  -- reading stopped, and the input may go on
  off : (s' : S) (ended : Ending) → IsRead job (rest s₀) (rest s') given None → faults s' ≡ faults s₀ → EndsBy ended None →
      Ends s' ended
  off s' ended read calm ends =
      record { last = None; read = read; ends = ends; count = calm; may = λ brief line e. absurd (cc) }

  -- for another cause than the input's
  pub leaves-off : (ended : Ending) → EndsBy ended None → Ends s ended
  leaves-off ended ends =
      off s ended (read-on job (rest s₀) (rest s) u.fed given old.reader u.reads u.bytes u.at_end) u.calm ends

  -- the source failed, or memory ran out
  pub ends-reading : (s' : S) (asked now : Reading) (taken taken' : ℕ) (ended : Ending) →
      HasRead job u.fed given asked → asked.ended ≡ false → so_far job u.fed ≡ just given None →
      FeedsOn rest faults s s' asked now taken taken' (Err ended) →
      EndsInput rest faults job s₀ s' given ended
  ends-reading s' asked now taken taken' ending.Source has open_ known (keeps, rose) = record {
    last = Some SourceFailed;
    read = record {
      text = u.fed;
      ended = false;
      taken = Consumes-kept (rest s₀) (rest s) (rest s') u.fed u.bytes keeps;
      at_end = λ e. cc;
      says = (refl, known);
    };
    ends = refl;
    count = rw (← u.calm) rose;
    may = λ brief line e.
        may-as job brief (rest s₀) given line SourceFailed e
        (may-end job brief false (rest s₀) (rest s) u.fed given None u.bytes (λ x. cc) known);
  }
  ends-reading s' asked now taken taken' ending.NoMemory has open_ known lost =
      off s' ending.NoMemory
      (read-lost job (rest s₀) (rest s) (rest s') u.fed lost.piece given asked has open_ u.bytes lost.bytes)
      (lost.calm ∙ u.calm) tt
  ends-reading s' asked now taken taken' ending.All has open_ known fed = absurd fed
  ends-reading s' asked now taken taken' ending.Sink has open_ known fed = absurd fed
  ends-reading s' asked now taken taken' (ending.Refused refusal) has open_ known fed = absurd fed

  -- the input was read to its end
  pub ends-read : old.reader.ended ≡ true → records_of job u.fed ≡ just given None → Ends s ending.All
  ends-read over known = record {
    last = Some ReadToEnd;
    read = record {
      text = u.fed;
      ended = true;
      taken = u.bytes;
      at_end = λ e. u.at_end over;
      says = (refl, known);
    };
    ends = refl;
    count = u.calm;
    may = λ brief line e.
        may-as job brief (rest s₀) given line ReadToEnd e
        (may-end job brief true (rest s₀) (rest s) u.fed given None u.bytes (λ x. u.at_end over) known);
  }

  -- a line was refused
  pub ends-refused : (refusal : RecordRefusal) → IsRefused job u.fed given old.reader.ended refusal →
      Ends s (ending.Refused refusal)
  ends-refused refusal refused = record {
    last = Some (RefusedAt refusal);
    read = record {
      text = u.fed;
      ended = old.reader.ended;
      taken = u.bytes;
      at_end = u.at_end;
      says = refused;
    };
    ends = refl;
    count = u.calm;
    may = λ brief line e.
        may-as job brief (rest s₀) given line (RefusedAt refusal) e
        (may-end job brief old.reader.ended (rest s₀) (rest s) u.fed given (Some refusal) u.bytes u.at_end
        (refused-now job u.fed given old.reader.ended refusal refused));
  }

module _ {S K : Type 0} (rest : S → Option (List ℕ)) (source_faults : S → ℕ) (got : K → Option (List ℕ)) (faults : K → ℕ)
    (admits : K → List ℕ → Type 0) (job : Job) (brief : Bool) (s₀ s : S) (k₀ k : K) where
  abbrev pub Stopped : S → K → Course → Ending → Type 0
  Stopped s' k' at ended = HasStopped rest source_faults got faults admits job brief s₀ s' k₀ k' at ended

  -- the input ended so
  pub stops-ended : (s' : S) (at : Course) (ended : Ending) →
      IsSent got faults admits k₀ k (text_so_far job brief at) →
      EndsInput rest source_faults job s₀ s' at.given ended → Stopped s' k at ended
  stops-ended s' at ending.All sent h = record { input = h; bytes = sent }
  stops-ended s' at (ending.Refused refusal) sent h = record { input = h; bytes = sent }
  stops-ended s' at ending.Source sent h = record { input = h; bytes = sent }
  stops-ended s' at ending.NoMemory sent h = record {
    input = h;
    bytes = (prefix-so-far got faults admits job brief at k₀ k sent, inl sent.calm);
  }
  stops-ended s' at ending.Sink sent h = absurd h

  -- memory ran out for the event of the record that was read
  pub stops-unadmitted : (s' : S) (new : Input) (at next : Course) (it : EventRecord) →
      IsSent got faults admits k₀ k (text_so_far job brief at) →
      IsInput rest source_faults job s₀ s' (at.given ++ it ∷ []) new → next.given ≡ at.given →
      Stopped s' k next ending.NoMemory
  stops-unadmitted s' new at next it sent u same = record {
    input = subst (λ l. HasEnded rest source_faults job s₀ s' l ending.NoMemory) (sym same)
        (record {
          last = None;
          read = read-fewer job (rest s₀) (rest s') at.given it
              (read-on job (rest s₀) (rest s') u.fed (at.given ++ it ∷ []) new.reader u.reads u.bytes u.at_end);
          ends = tt;
          count = u.calm;
          may = λ brief line e. absurd (cc);
        });
    bytes = subst (λ l. WrittenBy got faults admits job brief (record at { given = l }) k₀ k ending.NoMemory) (sym same)
        (prefix-so-far got faults admits job brief at k₀ k sent, inl sent.calm);
  }

  module _ (input : Input) (at : Course)
      (u : IsUnderWay rest source_faults got faults admits job brief s₀ s k₀ k input at) where
    input-left : (next : Course) (ended : Ending) → next.given ≡ at.given → EndsBy ended None →
        HasEnded rest source_faults job s₀ s next.given ended
    input-left next ended same ends =
        subst (λ l. HasEnded rest source_faults job s₀ s l ended) (sym same)
        (leaves-off rest source_faults job s₀ s at.given input u.read ended ends)

    -- memory ran out
    pub stops-memory : (k' : K) (next : Course) → next.given ≡ at.given → k' ≡ k → Stopped s k' next ending.NoMemory
    stops-memory k' next same still = record {
      input = input-left next ending.NoMemory same tt;
      bytes =
          subst (λ x. WrittenBy got faults admits job brief next k₀ x ending.NoMemory) (sym still)
          (subst (λ l. WrittenBy got faults admits job brief (record at { given = l }) k₀ k ending.NoMemory) (sym same)
          (prefix-so-far got faults admits job brief at k₀ k u.sent, inl u.sent.calm));
    }

    -- the sink failed at a report
    pub stops-broken : (k' : K) (next : Course) → IsShown job brief at next (IsBroken got faults k k') →
        Stopped s k' next ending.Sink
    stops-broken k' next w = record {
      input = input-left next ending.Sink (given-shown job brief at next (IsBroken got faults k k') w) tt;
      bytes = broken-shown got faults admits job brief at next k₀ k k' u.sent w;
    }
