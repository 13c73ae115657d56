-- What the run of a job came to, by its run and its last flush.
use Rattle.std.proofs.Common.{◌≡◌, ◌⊎◌, inl, inr, ℕ, nat_eq, Bool, true, false, List, [], Option, Some, None, if◌then◌else◌, length, refl, sym, subst, ◌∙◌, append-nil}
use Rattle.std.proofs.KnownBytes.{Appends-kept}
use Rattle.std.specs.Io.KnownBytes.{Appends, Keeps}
use Rattle.std.specs.Prelude.{IsSomeAnd}
use Rattle.hive_edge.specs.Fault.{Rose}
use Rattle.hive_model.specs.EventRecord.{EventRecord}
use Rattle.hive_model.specs.Job.{Job}
use Rattle.hive_model.specs.Machine.{Machine, opening}
use Rattle.hive_model.specs.Replay.{IsAtEnd, IsCompleteRun, IsWholeRun, replay, replay_from}
use Rattle.hive_model.specs.declared.entry.Entry.{Entry}
use Rattle.hive_pump.specs.Pumped.{IsPumped}
use Rattle.hive_pump.specs.Written.{AppendsPrefix, results, written}
use Rattle.hive_pump.specs.declared.ending.Ending.{Ending}
use Rattle.hive_pump.specs.declared.ending.Ending.TheVariants as ending
use Rattle.report_text.specs.Tallied.{CountsAll}
use Rattle.report_text.specs.declared.counts.Counts.{Counts}
use Rattle.text_model.specs.Whole.{Ending as Last, ReadToEnd, RefusedAt, SourceFailed}
use Rattle.hive_top.specs.Answer.{status_of}
use Rattle.hive_top.specs.RunsTo.{Flushes, JournalBy, RunsTo, WroteRun, status_by}
use Rattle.hive_top.specs.declared.status.Status.{Status}
use Rattle.hive_top.specs.declared.status.Status.TheVariants as status

-- memory ran out before anything was read
led-none : (job : Job) (slots : ℕ) → replay job slots [] [] ≡ Some (opening slots)
unfolding replay replay_from
led-none job slots = refl

-- an empty journal is a run over no records
pub empty-run : (job : Job) (slots : ℕ) (journal : List Entry) → journal ≡ [] → IsWholeRun job slots [] journal
empty-run job slots journal e =
    subst (λ l. IsWholeRun job slots [] l) (sym e)
    (subst (λ o. IsSomeAnd o (λ (m : Machine). m.admitted ≡ 0)) (sym (led-none job slots)) refl)

-- the prefix stays where nothing more is written
prefix-same : (old mid new : Option (List ℕ)) (text : List ℕ) → AppendsPrefix old mid text → new ≡ mid → AppendsPrefix old new text
prefix-same old mid new text p e = rw e p

prefix-kept : (old mid new : Option (List ℕ)) (text : List ℕ) → Appends old mid text → Keeps mid new → AppendsPrefix old new text
prefix-kept old mid new text appends keeps =
    record { front = text; back = []; whole = sym (append-nil text); bytes = Appends-kept old mid new text appends keeps }

-- a flush that may fail, after all was written
abbrev FlushedSo : Option (List ℕ) → Option (List ℕ) → ℕ → ℕ → Status → Status → Type 0
FlushedSo got got' k k' before after = Keeps got got' × (((after ≡ before) × (k' ≡ k)) ⊎ ((after ≡ status.Output) × Rose k k'))

module _ (job : Job) (brief : Bool) (given : List EventRecord) (last : Option Last) (end : Last) (is : last ≡ Some end) (old mid new : Option (List ℕ))
    (k k₁ k₂ : ℕ) (bytes : Appends old mid (written job brief given last)) (calm : k₁ ≡ k) where
  abbrev Whole : Status → Type 0
  Whole it = (e : Last) × (last ≡ Some e) × (it ≡ status_of (results job given) e) × Appends old new (written job brief given last) × (k₂ ≡ k)

  flushed : (before after : Status) → before ≡ status_of (results job given) end → (Whole before → WroteRun before old new k k₂ job brief given last) →
      FlushedSo mid new k₁ k₂ before after → WroteRun after old new k k₂ job brief given last
  flushed before after st whole (keeps, inl (e, same)) =
      rw e (whole (end, is, st, Appends-kept old mid new (written job brief given last) bytes keeps, same ∙ calm))
  flushed before after st whole (keeps, inr (e, rose)) =
      rw e (prefix-kept old mid new (written job brief given last) bytes keeps, rw (← calm) rose)

  pub after-flush : (before after : Status) → before ≡ status_of (results job given) end → (before ≡ status.Output → ⊥) →
      (before ≡ status.NoMemory → ⊥) → Flushes mid new k₁ k₂ before after → WroteRun after old new k k₂ job brief given last
  after-flush status.Output after st a b f = absurd (a refl)
  after-flush status.NoMemory after st a b f = absurd (b refl)
  after-flush status.AllOk after st a b f = flushed status.AllOk after st (λ w. w) f
  after-flush status.SomeNot after st a b f = flushed status.SomeNot after st (λ w. w) f
  after-flush status.Words after st a b f = flushed status.Words after st (λ w. w) f
  after-flush status.Options after st a b f = flushed status.Options after st (λ w. w) f
  after-flush status.Record after st a b f = flushed status.Record after st (λ w. w) f
  after-flush status.Input after st a b f = flushed status.Input after st (λ w. w) f

-- the counts tell whether all are ok
pub by-counts : (job : Job) (given : List EventRecord) (counts : Counts) → CountsAll (results job given) counts →
    status_by ending.All counts ≡ status_of (results job given) ReadToEnd
by-counts job given counts c = rw (c.ok, c.events) refl

pub not-output : (counts : Counts) → status_by ending.All counts ≡ status.Output → ⊥
not-output counts = by (nat_eq counts.ok counts.events)
  where
    by : (t : Bool) → (if t then status.AllOk else status.SomeNot) ≡ status.Output → ⊥
    by true e = cc
    by false e = cc

pub not-memory : (counts : Counts) → status_by ending.All counts ≡ status.NoMemory → ⊥
not-memory counts = by (nat_eq counts.ok counts.events)
  where
    by : (t : Bool) → (if t then status.AllOk else status.SomeNot) ≡ status.NoMemory → ⊥
    by true e = cc
    by false e = cc

-- a complete run is a run over all its records
pub whole : (job : Job) (slots : ℕ) (given : List EventRecord) (journal : List Entry) → IsCompleteRun job slots given journal →
    IsWholeRun job slots given journal
whole job slots given journal h = by (replay job slots given journal) h
  where
    by : (o : Option Machine) → IsSomeAnd o (IsAtEnd given) → IsSomeAnd o (λ (m : Machine). m.admitted ≡ length given)
    by (Some m) it = it.all
    by None it = absurd it

-- so it serves each status
pub completed : (job : Job) (slots : ℕ) (given : List EventRecord) (journal : List Entry) (after : Status) →
    IsCompleteRun job slots given journal → JournalBy after job slots given journal
completed job slots given journal status.NoMemory h = whole job slots given journal h
completed job slots given journal status.Output h = h
completed job slots given journal status.AllOk h = h
completed job slots given journal status.SomeNot h = h
completed job slots given journal status.Words h = h
completed job slots given journal status.Options h = h
completed job slots given journal status.Record h = h
completed job slots given journal status.Input h = h

-- a run, and its flush
pub run-of : (job : Job) (slots : ℕ) (brief : Bool) (rest now old mid new : Option (List ℕ)) (s s' k k₁ k₂ : ℕ) (ended : Ending)
    (counts : Counts) (journal : List Entry) (after : Status) →
    IsPumped job slots brief rest now old mid s s' k k₁ ended counts journal →
    Flushes mid new k₁ k₂ (status_by ended counts) after → RunsTo job slots brief rest now old new s s' k k₂ after journal
run-of job slots brief rest now old mid new s s' k k₁ k₂ ending.Sink counts journal after p (e, same, still) = record {
  given = p.given;
  last = p.last;
  read = p.read;
  source_count = p.source_count;
  wrote = rw (e, still) (prefix-same old mid new (written job brief p.given p.last) p.bytes same, p.sink_count);
  run = completed job slots p.given journal after p.run;
}
run-of job slots brief rest now old mid new s s' k k₁ k₂ ending.NoMemory counts journal after p (e, same, still) = record {
  given = p.given;
  last = p.last;
  read = p.read;
  source_count = p.source_count;
  wrote = rw e (
    prefix-same old mid new (written job brief p.given p.last) p.bytes same,
    subst (λ n. (n ≡ k) ⊎ Rose k n) (sym still) p.sink_count,
  );
  run = rw e p.run;
}
run-of job slots brief rest now old mid new s s' k k₁ k₂ ending.All counts journal after p f = record {
  given = p.given;
  last = p.last;
  read = p.read;
  source_count = p.source_count;
  wrote = after-flush job brief p.given p.last ReadToEnd p.ends old mid new k k₁ k₂ p.bytes p.sink_count (status_by ending.All counts) after
      (by-counts job p.given counts p.counted) (not-output counts) (not-memory counts) f;
  run = completed job slots p.given journal after p.run;
}
run-of job slots brief rest now old mid new s s' k k₁ k₂ (ending.Refused refusal) counts journal after p f = record {
  given = p.given;
  last = p.last;
  read = p.read;
  source_count = p.source_count;
  wrote = after-flush job brief p.given p.last (RefusedAt refusal) p.ends old mid new k k₁ k₂ p.bytes p.sink_count status.Record after
      refl (λ e. cc) (λ e. cc) f;
  run = completed job slots p.given journal after p.run;
}
run-of job slots brief rest now old mid new s s' k k₁ k₂ ending.Source counts journal after p f = record {
  given = p.given;
  last = p.last;
  read = p.read;
  source_count = p.source_count;
  wrote = after-flush job brief p.given p.last SourceFailed p.ends old mid new k k₁ k₂ p.bytes p.sink_count status.Input after
      refl (λ e. cc) (λ e. cc) f;
  run = completed job slots p.given journal after p.run;
}
