use Rattle.std.proofs.Common.{◌≡◌, ℕ, ◌+◌, drop, map}
use Rattle.std.specs.List.{enumerate_from}
use Rattle.toml.specs.Data.{Data}
use Rattle.toml.specs.View.{view}
use Rattle.text_model.specs.Rules.{first_in}
use Rattle.text_model.specs.Steps.{find_map}
use Rattle.text_model.specs.ValuePaths.{numbered}
use Rattle.job_options.proofs.arrays.check_items.Given as goal

abbrev pub invariant-loop-index : goal.invariant-loop-index
invariant-loop-index g l =
    find_map (λ (it : ℕ × Data). g.R.Rule.told l.element (numbered l.path it.0) it.1) (enumerate_from (l.index + 1) (map view (drop l.index l.items)))
    ≡ first_in (g.R.Rule.told l.element) l.path (map view l.items)
