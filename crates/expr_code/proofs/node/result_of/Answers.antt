use Rattle.expr_code.specs.Frame.{products}
use Rattle.expr_code.proofs.node.result_of.Goals as goal

pub returns-in-Negate-clause-sound : goal.returns-in-Negate-clause-sound
returns-in-Negate-clause-sound c = c.made.ensures.sound (products c.args.frame.now)

pub returns-in-Binary-clause-sound : goal.returns-in-Binary-clause-sound
returns-in-Binary-clause-sound c = c.made-in-Binary.ensures.sound (products c.args.frame.now)

pub returns-in-Call-default-default-None-clause-sound :
    goal.returns-in-Call-default-default-None-clause-sound
returns-in-Call-default-default-None-clause-sound c =
    c.made-in-Call-default-default-None.ensures.sound (products c.args.frame.now)

pub returns-in_ok-call_both-in-Call-default-default-Some-clause-sound :
    goal.returns-in_ok-call_both-in-Call-default-default-Some-clause-sound
returns-in_ok-call_both-in-Call-default-default-Some-clause-sound c =
    c.made-in-Call-default-default-Some.ensures.sound (products c.args.frame.now)
