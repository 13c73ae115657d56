-- What a table keeps: the forest with its places, what each node was told, and the marks, all right for the
-- outcomes.
use Rattle.std.specs.Prelude.{◌≡◌, ℕ, ◌<◌, Bool, true, List, [], length, Option}
use Rattle.hive_model.specs.declared.outcome.Outcome.{Outcome}
use Rattle.hive_model.specs.declared.sequence.Member.{Member}
use Rattle.hive_model.specs.declared.sequence.Member.TheVariants.{Alg, Seq}
use Rattle.decision_nodes.specs.Index.{IsForest, StandsAt, IsAmong, places_at}
use Rattle.decision_nodes.specs.Marks.{sequences_of}
use Rattle.decision_nodes.specs.Standing.{Standing}
use Rattle.decision_nodes.specs.Telling.{IsUnderWay}
use Rattle.decision_nodes.specs.declared.edge.Edge.{Edge}

pub record IsTable (nodes : List Standing) (leaves parents : List (List Edge))
    (outcomes : List (Option Outcome)) (top : ℕ) (marks : Member → Bool) : Type 0 where
  pub forest : IsForest (sequences_of nodes) (length outcomes) parents
  pub leaves_cover : (e : Edge) (a : ℕ) → StandsAt (sequences_of nodes) e (Alg a)
      → IsAmong e (places_at leaves a)
  pub leaves_right : (e : Edge) (a : ℕ) → IsAmong e (places_at leaves a)
      → StandsAt (sequences_of nodes) e (Alg a)
  pub all_leaves : length leaves ≡ length outcomes
  pub top_there : top < length nodes
  pub under_way : IsUnderWay nodes outcomes [] top marks
  pub top_marked : marks (Seq top) ≡ true
