use Rattle.std.proofs.Common.{◌≡◌, Some, set, sym, ap, ◌∙◌}
use Rattle.hive_model.specs.Enabled.{is_ready}
use Rattle.hive_model.specs.Results.{outcome_of}
use Rattle.serial_meaning.proofs.Turns.{turns-kept, turns-added, turns-all}
use Rattle.serial_meaning.proofs.round.run_all.Goals as goal
use Rattle.serial_meaning.proofs.round.run_all.Goals.{then-is_ready+in_ok-execute_in, else-is_ready}

pub loop-number-preserved : goal.loop-number-preserved
loop-number-preserved c =
    let members = c.args.members.now in
    let places = c.args.store.now in
    let number = c.loop-number.number in
    let now = c.loop-number.ran.items in
    let a = c.index-algorithms-number.result in
    let it = c.index.result.now in
    let ready : c.is_ready.result ≡ is_ready members places number a (outcome_of it) =
    c.is_ready.ensures ∙ ap (is_ready members places number a) c.outcome_of-outcome.ensures
    in
    elim c.if-is_ready.branch [
      | then-is_ready+in_ok-execute_in w ↦
          rw w.added-is
          (turns-added members places c.args.algorithms.now c.args.ran.now.items now c.if-is_ready.ran.items number c.loop-number.added a it
          c.loop-number-test.true c.index-algorithms-number.is c.index.ensures (sym ready ∙ w.if-is_ready.true)
          (ap (λ them. them.items) w.ran-is ∙ ap (λ x. set now number (Some x)) w.in_ok-execute_in.ensures)
          c.loop-number.invariant)
      | else-is_ready w ↦
          rw (w.ran-is, w.added-is)
          (turns-kept members places c.args.algorithms.now c.args.ran.now.items now number c.loop-number.added a it
          c.loop-number-test.true c.index-algorithms-number.is c.index.ensures (sym ready ∙ w.if-is_ready.false)
          c.loop-number.invariant)
    ]

pub returns-clause-ran : goal.returns-clause-ran
returns-clause-ran c =
    turns-all c.args.members.now c.args.store.now c.args.algorithms.now c.args.ran.now.items c.loop-number.ran.items
    c.loop-number.number c.loop-number.added
    c.loop-number-test.false c.loop-number.invariant
