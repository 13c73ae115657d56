use Rattle.std.proofs.Common.{◌≡◌, ℕ, List, ap, ◌∙◌, sym, length, map}
use Rattle.std.proofs.lemmas.List.{length-map}
use Rattle.hive_model.specs.Job.{Job}
use Rattle.hive_model.specs.declared.algorithm.Resource.{Resource}
use Rattle.clone_pools.specs.Loans.{Pool, Pools, opening_pool}
use Rattle.clone_pools.proofs.Totals.{few-units, opening-counted}
use Rattle.clone_pools.proofs.pools.Pools.new.Goals as goal

abbrev units_in : List Resource → List ℕ
units_in resources = map (λ (r : Resource). r.units) resources

pub invariant_of-result : goal.invariant_of-result
invariant_of-result c =
    let job = c.args.job.now in
    let first : c.as_slice.result.now ≡ job.resources = c.as_slice.ensures ∙ ap (λ (j : Job). j.resources) c.job.view_is in
    let second : c.as_slice-2.result.now ≡ job.resources = c.as_slice-2.ensures ∙ ap (λ (j : Job). j.resources) c.job.view_is in
    opening-counted job.algorithms c.in_ok-pools.pools.items c.in_ok-units.units.items c.in_ok-left.left.items (length job.resources)
    c.requires.resources c.requires.resources_differ (c.in_ok-pools.ensures ∙ ap (map opening_pool) c.algorithms.ensures)
    (ap length c.in_ok-units.ensures ∙ length-map c.as_slice.result.now (λ (r : Resource). r.units) ∙ ap length first)
    (λ r. rw (c.in_ok-units.ensures, first) (few-units job.resources c.requires.limits.units r))
    (c.in_ok-left.ensures ∙ ap units_in (second ∙ sym first) ∙ sym c.in_ok-units.ensures)

abbrev shown : List Pool → List ℕ → Pools
shown pools units = record { pools = pools; units = units }

pub returns : goal.returns
returns c =
    let job = c.args.job.now in
    let first : c.as_slice.result.now ≡ job.resources = c.as_slice.ensures ∙ ap (λ (j : Job). j.resources) c.job.view_is in
    ap (λ (pools : List Pool). shown pools c.in_ok-units.units.items) (c.in_ok-pools.ensures ∙ ap (map opening_pool) c.algorithms.ensures)
    ∙ ap (shown (map opening_pool job.algorithms)) (c.in_ok-units.ensures ∙ ap units_in first)
