use Rattle.std.proofs.Common.{◌≡◌, sym, ap, ◌∙◌}
use Rattle.hive_model.specs.Reached.{reached}
use Rattle.hive_model.specs.Results.{outcomes, store}
use Rattle.serial_meaning.proofs.Rounds.{round-turns}
use Rattle.serial_meaning.proofs.round.run_round.Goals as goal

pub returns-clause-ran : goal.returns-clause-ran
returns-clause-ran c =
    let job = c.args.job.now in
    let event = c.args.event.now in
    let ran = c.args.ran.now.items in
    let members : c.as_slice-4.result.now ≡ reached job (outcomes ran) =
    c.as_slice-4.ensures.value ∙ c.in_ok-members.ensures
    ∙ ap (reached job) (c.as_slice-2.ensures.value ∙ c.in_ok-outcomes.ensures ∙ ap outcomes c.as_slice.ensures.value)
    in
    let places : c.in_ok-store.store ≡ store job event ran =
    c.in_ok-store.ensures ∙ ap (store job event) c.as_slice-3.ensures.value
    in
    c.in_ok-run_all.ensures.ran ∙ rw (members, places, c.algorithms.ensures) (sym (round-turns job event ran))
