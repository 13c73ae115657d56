use Rattle.event_laws.proofs.Trees.{tree_of-nodes_of}
use Rattle.event_laws.proofs.valid_jobs.nodes_keep_the_tree.Goals as goal

pub returns : goal.returns
returns c = tree_of-nodes_of
