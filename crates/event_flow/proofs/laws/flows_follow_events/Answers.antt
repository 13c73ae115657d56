use Rattle.event_flow.proofs.Following.{begun-follows, claimed-follows, completed-follows, put_back-follows}
use Rattle.event_flow.proofs.laws.flows_follow_events.Goals as goal

pub returns-clause-begun : goal.returns-clause-begun
returns-clause-begun c = begun-follows

pub returns-clause-claimed : goal.returns-clause-claimed
returns-clause-claimed c = claimed-follows

pub returns-clause-put_back : goal.returns-clause-put_back
returns-clause-put_back c = put_back-follows

pub returns-clause-completed : goal.returns-clause-completed
returns-clause-completed c = completed-follows
