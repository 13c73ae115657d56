use Rattle.std.proofs.Common.{◌++◌, ◌-◌, length, take, drop, vec_len, vec_capacity, refl, ap, ◌∙◌}
use Rattle.hive_model.specs.Many.{Many}
use Rattle.hive_model.specs.ManyLent.{with_items}
use Rattle.hive_model.proofs.many.Many.as_mut_slice.Goals as goal

pub returns : goal.returns
returns g c = (
  (
    refl,
    λ w.
        ap (λ n. record { items = take n (w ++ drop (length w) c.self.inside.0.items); spare = vec_capacity c.self.inside.0 - vec_len c.self.inside.0 }) c.self.inside.0.ok.0
        ∙ ap (λ (m : Many g.row.T.Denot). with_items m w) c.self.view_is,
  ),
  record { writes_back = tt; value = c.as_mut_slice.ensures.value ∙ ap (λ (m : Many g.row.T.Denot). m.items) c.self.view_is },
)
