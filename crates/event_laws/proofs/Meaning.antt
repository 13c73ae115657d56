-- Results mean what their executions at each number mean, however long their lists are: with the same executions they have the
-- same decisions, reach the same, and come to the same result.
use Rattle.std.proofs.Common.{◌≡◌, ℕ, zero, suc, not, ◌&&◌, ◌++◌, List, length, map, slice_get, Option, refl, sym, ap, ◌∙◌}
use mathlib.Core.Path.{fun_ext}
use Rattle.std.specs.List.{enumerate_from, flat_map, list_any, range_with_len}
use Rattle.std.specs.Option.{option_map_or}
use Rattle.event_laws.proofs.Staying.{outcome_at-outcomes}
use Rattle.event_laws.specs.Rest.{HaveSameExecutions}
use Rattle.hive_model.specs.Algorithm.{Algorithm}
use Rattle.hive_model.specs.Below.{is_algorithm_below}
use Rattle.hive_model.specs.Decision.{leaf_decision, is_undecided, node_decision, decision_within, decision}
use Rattle.hive_model.specs.Event.{end_by, end_of, ends_of, status_of, result_of}
use Rattle.hive_model.specs.EventRecord.{EventRecord}
use Rattle.hive_model.specs.Job.{Job}
use Rattle.hive_model.specs.Live.{is_live}
use Rattle.hive_model.specs.Reached.{reached_within, reached, is_reached}
use Rattle.hive_model.specs.Results.{Results, outcomes, outcome_of, outcome_at, fitted, left, store}
use Rattle.hive_model.specs.Sequence.{Sequence}
use Rattle.hive_model.specs.declared.limits.TheConstants.{MOST_DEPTH}
use Rattle.hive_model.specs.declared.decision.Decision.TheVariants.{Undecided}
use Rattle.hive_model.specs.declared.outcome.Outcome.{Outcome}
use Rattle.hive_model.specs.declared.sequence.Member.{Member}
use Rattle.hive_model.specs.declared.sequence.Member.TheVariants.{Alg, Seq}

abbrev pub HaveSameOutcomes : List (Option Outcome) → List (Option Outcome) → Type 0
HaveSameOutcomes ran others = (number : ℕ) → outcome_at ran number ≡ outcome_at others number

same-outcomes : (ran others : Results) → HaveSameExecutions ran others → HaveSameOutcomes (outcomes ran) (outcomes others)
same-outcomes ran others h number = outcome_at-outcomes ran number ∙ ap outcome_of (h number) ∙ sym (outcome_at-outcomes others number)

decision_within-same : (depth : ℕ) (sequences : List Sequence) (ran others : List (Option Outcome)) (m : Member) → HaveSameOutcomes ran others →
    decision_within depth sequences ran m ≡ decision_within depth sequences others m
unfolding decision_within
decision_within-same zero sequences ran others (Alg a) h = ap leaf_decision (h a)
decision_within-same (suc depth) sequences ran others (Alg a) h = ap leaf_decision (h a)
decision_within-same zero sequences ran others (Seq s) h = refl
decision_within-same (suc depth) sequences ran others (Seq s) h =
    ap (λ decide. option_map_or (λ q. node_decision q (map decide q.members)) (slice_get sequences s) Undecided)
    (fun_ext (λ m. decision_within-same depth sequences ran others m h))

decision-same : (job : Job) (ran others : List (Option Outcome)) → HaveSameOutcomes ran others → decision job ran ≡ decision job others
unfolding decision
decision-same job ran others h = fun_ext (λ m. decision_within-same _ job.sequences ran others m h)

reached-same : (job : Job) (ran others : List (Option Outcome)) → HaveSameOutcomes ran others → reached job ran ≡ reached job others
unfolding reached
reached-same job ran others h = ap (λ decide. reached_within MOST_DEPTH job.sequences decide (Seq job.top)) (decision-same job ran others h)

live-same : (job : Job) (ran others : List (Option Outcome)) (number : ℕ) → HaveSameOutcomes ran others → is_live job ran number ≡ is_live job others number
unfolding is_live
live-same job ran others number h =
    ap (λ cuts. not (list_any cuts (enumerate_from 0 job.sequences)))
    (fun_ext (λ (x : ℕ × Sequence).
    ap (λ decide. (x.1.cut && not (is_undecided (decide (Seq x.0)))) && is_algorithm_below job x.0 number) (decision-same job ran others h)))

end-same : (job : Job) (ran others : List (Option Outcome)) (number : ℕ) → HaveSameOutcomes ran others → end_of job ran number ≡ end_of job others number
end-same job ran others number h =
    λ i. end_by (is_reached (reached-same job ran others h i) number) (live-same job ran others number h i) (h number i)

ends-same : (job : Job) (ran others : List (Option Outcome)) → HaveSameOutcomes ran others → ends_of job ran ≡ ends_of job others
unfolding ends_of
ends-same job ran others h =
    ap (λ ends. map ends (range_with_len 0 (length job.algorithms))) (fun_ext (λ number. end-same job ran others number h))

store-same : (job : Job) (event : EventRecord) (ran others : Results) → HaveSameExecutions ran others → store job event ran ≡ store job event others
unfolding store
store-same job event ran others h =
    ap (λ places. fitted (length job.raws) event.cells ++ flat_map places (enumerate_from 0 job.algorithms))
    (fun_ext (λ (x : ℕ × Algorithm). ap (left x.1) (h x.0)))

pub result-same : (job : Job) (event : EventRecord) (ran others : Results) → HaveSameExecutions ran others → result_of job event ran ≡ result_of job event others
unfolding result_of
result-same job event ran others h =
    let same = same-outcomes ran others h in
    let decide = decision-same job (outcomes ran) (outcomes others) same in
    let ends = ends-same job (outcomes ran) (outcomes others) same in
    let places = store-same job event ran others h in
    λ i. record {
      event = event.event;
      status = status_of (ends i);
      decisions = map (λ s. decide i (Seq s)) (range_with_len 0 (length job.sequences));
      ends = ends i;
      store = places i;
    }
