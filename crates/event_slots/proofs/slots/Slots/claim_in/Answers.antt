use Rattle.std.proofs.Common.{sym, subst, ◌∙◌, arith}
use Rattle.event_slots.specs.Slots.{AreSlotsOf}
use Rattle.event_slots.proofs.Claims.{more-refused}
use Rattle.event_slots.proofs.slots.Slots.claim_in.Goals as goal

pub claim_number-requires-clause-known : goal.claim_number-requires-clause-known
claim_number-requires-clause-known c =
    let job = c.args.job.now in
    let slots = c.requires.known.0 in
    let here : AreSlotsOf job slots c.loop-number.self = subst (AreSlotsOf job slots) (sym
    c.loop-number.invariant.same) c.requires.known.1 in
    let next = c.in-Some.ensures job slots here in
    (slots, here, next.1, next.2)

pub returns-in-Job : goal.returns-in-Job
returns-in-Job c = λ slots given.
    let job = c.args.job.now in
    let here : AreSlotsOf job slots c.loop-number.self = subst (AreSlotsOf job slots) (sym
    c.loop-number.invariant.same) given in
    let next = c.in-Some.ensures job slots here in
    c.in-Job.ensures slots here next.2

pub overflow_add-from : goal.overflow_add-from
overflow_add-from c =
    let job = c.args.job.now in
    let slots = c.requires.known.0 in
    let here : AreSlotsOf job slots c.loop-number.self = subst (AreSlotsOf job slots) (sym
    c.loop-number.invariant.same) c.requires.known.1 in
    let next = c.in-Some.ensures job slots here in
    omega (arith, next.1, c.requires.valid.limits.algorithms)

pub loop-number-smaller : goal.loop-number-smaller
loop-number-smaller c =
    let job = c.args.job.now in
    let slots = c.requires.known.0 in
    let here : AreSlotsOf job slots c.loop-number.self = subst (AreSlotsOf job slots) (sym
    c.loop-number.invariant.same) c.requires.known.1 in
    let next = c.in-Some.ensures job slots here in
    omega (arith, next.0, next.1)

pub loop-number-preserved : goal.loop-number-preserved
loop-number-preserved c =
    let job = c.args.job.now in
    let known = c.requires.known.0 in
    let there : AreSlotsOf job known c.loop-number.self = subst (AreSlotsOf job known) (sym
    c.loop-number.invariant.same) c.requires.known.1 in
    let first = c.in-Some.ensures job known there in
    record {
      same = (c.in-Nothing.ensures known there first.2).0 ∙ c.loop-number.invariant.same;
      within = omega (arith, first.1);
      refused = λ slots given.
          let here : AreSlotsOf job slots c.loop-number.self = subst (AreSlotsOf job slots) (sym
          c.loop-number.invariant.same) given in
          let next = c.in-Some.ensures job slots here in
          more-refused job slots c.args.slot c.loop-number.from c.in-Some.number
          (c.loop-number.invariant.refused slots given)
          (λ b n busy above below. next.3 b n busy above below) (c.in-Nothing.ensures slots here next.2).1;
    }

pub returns-in-NoMemory : goal.returns-in-NoMemory
returns-in-NoMemory c = λ slots given.
    let job = c.args.job.now in
    let here : AreSlotsOf job slots c.loop-number.self = subst (AreSlotsOf job slots) (sym
    c.loop-number.invariant.same) given in
    let next = c.in-Some.ensures job slots here in
    let said = c.in-NoMemory.ensures slots here next.2 in
    (said.0 ∙ c.loop-number.invariant.same, said.1)
