use Rattle.toml.specs.View.{view}
use Rattle.job_options.proofs.Items.{listed-found}
use Rattle.job_options.proofs.arrays.items_if.Goals as goal

pub returns : goal.returns
returns c =
    listed-found (view c.args.value.now) c.in_ok-items.items.now.items c.as_slice.result.now c.in_ok-items.ensures c.as_slice.ensures.value
