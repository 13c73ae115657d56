use Rattle.parts_rows.proofs.Rooms.{kept-giving, may-come}
use Rattle.parts_rows.proofs.pools.give_back.Goals as goal

pub give_back-requires-clause-made_for : goal.give_back-requires-clause-made_for
give_back-requires-clause-made_for c =
    may-come c.args.job.now c.args.pools.now c.args.lent c.requires.pools c.requires.made_for

pub returns : goal.returns
returns c =
    kept-giving c.args.job.now c.args.pools.now c.give_back.new.self c.args.lent
    c.give_back.ensures.back c.requires.pools
