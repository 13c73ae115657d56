-- What a call came to in the end, by what it came to before its journal was written.
use Rattle.std.proofs.Common.{◌≡◌, ◌≢◌, ◌⊎◌, ℕ, true, false, List, [], Option, sym, ap, subst, ◌∙◌}
use Rattle.hive_edge.specs.Shelf.{Files}
use Rattle.hive_model.specs.declared.entry.Entry.{Entry}
use Rattle.text_model.specs.Timeline.{timeline}
use Rattle.hive_top.proofs.DueLaws.{broken}
use Rattle.hive_top.proofs.Tracing.{answered-after, failed-after, input-after, journal-final, may-trace, output-after, words-after}
use Rattle.hive_top.specs.Ran.{HasTraceRoom, IsCalled, IsRan}
use Rattle.hive_top.specs.Status.{IsWhole}
use Rattle.hive_top.specs.Traces.{Follows, IsTraced}
use Rattle.hive_top.specs.Words.{calls_trace, command_of}
use Rattle.hive_top.specs.declared.commands.Command.{Command}
use Rattle.hive_top.specs.declared.status.Status.{Status}
use Rattle.hive_top.specs.declared.status.Status.TheVariants as status

module _ {F S K : Type 0} (files_of : F → Option Files) (shelf_faults : F → ℕ) (rest_of : S → Option (List ℕ)) (source_faults : S → ℕ)
    (got_of : K → Option (List ℕ)) (sink_faults : K → ℕ) (words : List (List ℕ)) (shelf shelf' : F) (source source' : S) (sink sink' : K)
    (asked : Option Command) (e : asked ≡ command_of words) (before : Status) (entries : List Entry)
    (called : IsCalled files_of shelf_faults rest_of source_faults got_of sink_faults words shelf shelf' source source' sink sink'
    before entries) where
  -- the trace has room for the journal
  pub trace-room : (admits : List ℕ → Type 0) → HasTraceRoom words (files_of shelf) (rest_of source) admits →
      calls_trace asked ≡ true → IsWhole before → entries ≢ [] → admits (timeline entries)
  trace-room admits room wanted is_whole some =
      room entries
      (may-trace words (files_of shelf) (rest_of source) (rest_of source') (got_of sink) (got_of sink') (shelf_faults shelf)
      (shelf_faults shelf') (sink_faults sink) (sink_faults sink') before entries is_whole some (ap calls_trace (sym e) ∙ wanted)
      called.journal)

  pub is-ran : {T : Type 0} (traced : T → Option (List ℕ)) (trace_faults : T → ℕ) (trace trace' : T) (after : Status)
      (entries' : List Entry) → Follows before after (trace_faults trace) (trace_faults trace') →
      (calls_trace asked ≡ true → IsTraced after (traced trace) (traced trace') entries) →
      (calls_trace asked ≡ false → after ≡ before) → (calls_trace asked ≡ false → trace' ≡ trace) → entries' ≡ entries →
      IsRan files_of shelf_faults rest_of source_faults got_of sink_faults traced trace_faults words shelf shelf' source source'
      sink sink' trace trace' after entries'
  is-ran traced trace_faults trace trace' after entries' follows writes unasked untouched same = record {
    answer = answered-after words (files_of shelf) (rest_of source) (rest_of source') (got_of sink) (got_of sink') f f' s s' k k' t t'
        before after called.came follows;
    prefix = λ fb sb. broken words (files_of shelf) (rest_of source) (rest_of source') (got_of sink) (got_of sink') f f' s s' k k'
        before called.came fb sb;
    words = words-after words (files_of shelf) (rest_of source) (rest_of source') (got_of sink) (got_of sink') f f' s s' k k' t t'
        before after called.came follows called.words;
    wrong_words = λ none. subst (λ x. (x ≡ status.Words) ⊎ (x ≡ status.Output)) (sym (unasked (ap calls_trace (e ∙ none))))
        (called.wrong_words none);
    input = input-after words (files_of shelf) (rest_of source) (rest_of source') (got_of sink) (got_of sink') f f' s s' k k' t t'
        before after called.came follows;
    output = output-after words (files_of shelf) (rest_of source) (rest_of source') (got_of sink) (got_of sink') f f' s s' k k' t t'
        before after called.came follows;
    failed = failed-after words (files_of shelf) (rest_of source) (rest_of source') (got_of sink) (got_of sink') f f' s s' k k' t t'
        before after called.came follows;
    untouched_files = called.untouched_files;
    untouched_source = called.untouched_source;
    untouched_trace = λ h. untouched (ap calls_trace e ∙ h);
    timeline = λ h. subst (λ l. IsTraced after (traced trace) (traced trace') l) (sym same) (writes (ap calls_trace e ∙ h));
    journal = journal-final words (files_of shelf) (rest_of source) (rest_of source') (got_of sink) (got_of sink') f f' k k' t t'
        before after follows entries entries' same called.journal;
  }
    where
      f : ℕ
      f = shelf_faults shelf

      f' : ℕ
      f' = shelf_faults shelf'

      s : ℕ
      s = source_faults source

      s' : ℕ
      s' = source_faults source'

      k : ℕ
      k = sink_faults sink

      k' : ℕ
      k' = sink_faults sink'

      t : ℕ
      t = trace_faults trace

      t' : ℕ
      t' = trace_faults trace'
