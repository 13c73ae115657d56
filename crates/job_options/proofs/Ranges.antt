-- The numbers of a table in which nothing is refused are within their ranges.
use Rattle.std.proofs.Common.{codes, ◌≡◌, ℕ, ◌≤◌, List, None, lit≤}
use Rattle.toml.specs.Data.{Members, get_member}
use Rattle.hive_model.specs.declared.limits.TheConstants.{MOST_INSTANCES, MOST_UNITS}
use Rattle.text_model.specs.Keys.{refusal_of_key, visit}
use Rattle.text_model.specs.TableValues.{number_at}
use Rattle.text_model.specs.Tables.{algorithm_keys, cardinality_key, resource_keys, units_key}
use Rattle.text_model.specs.ValuePaths.{below}
use Rattle.job_options.proofs.Checks.{in_range, visit-each}

pub units-within : (path : List ℕ) (t : Members) → refusal_of_key path t units_key ≡ None → (1 ≤ number_at units_key t) × (number_at units_key t ≤ MOST_UNITS)
unfolding refusal_of_key
units-within path t e = in_range 1 MOST_UNITS 1 (below path (codes "units")) (get_member (codes "units") t) e (lit≤ tt) (lit≤ tt)

pub units_fit : (path : List ℕ) (t : Members) → visit resource_keys path t ≡ None → number_at units_key t ≤ MOST_UNITS
units_fit path t e = (units-within path t (visit-each resource_keys path t e).1.0).1

pub cardinality-within : (path : List ℕ) (t : Members) → refusal_of_key path t cardinality_key ≡ None → number_at cardinality_key t ≤ MOST_INSTANCES
unfolding refusal_of_key
cardinality-within path t e = (in_range 0 MOST_INSTANCES 1 (below path (codes "cardinality")) (get_member (codes "cardinality") t) e (lit≤ tt) (lit≤ tt)).1

pub cardinality_fits : (path : List ℕ) (t : Members) → visit algorithm_keys path t ≡ None → number_at cardinality_key t ≤ MOST_INSTANCES
cardinality_fits path t e = cardinality-within path t (visit-each algorithm_keys path t e).1.0
