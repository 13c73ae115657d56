use Rattle.std.proofs.Common.{rules, arith, vec_len, ◌≡◌, ℕ, false, None, length, replicate, ap, sym, ◌∙◌}
use Rattle.std.proofs.lemmas.List.{length-map}
use Rattle.hive_model.specs.Many.{Many}
use Rattle.algo_states.specs.Table.{lists_of}
use Rattle.algo_states.proofs.Founded.{table-opened}
use Rattle.algo_states.proofs.table.StateTable.clear.Goals as goal

pub invariant_of-self : goal.invariant_of-self
invariant_of-self c =
    let it = c.self.inside in
    let sizes = c.self.invariant.sizes in
    let needs = lists_of it.needs.items in
    let reach : vec_len it.reached ≡ length needs = omega (arith, sizes.reach) in
    let schedule : vec_len it.scheduled ≡ length needs = omega (arith, sizes.schedule) in
    let outcome : vec_len it.outcomes ≡ length needs = omega (arith, sizes.outcome) in
    let indexed : vec_len it.arrived ≡ length (lists_of it.consumers.items) = omega (arith, sizes.indexed) in
    table-opened needs (lists_of it.consumers.items) c.count_needs.new.missing.items c.fill.new.self.items c.fill-2.new.self.items c.fill-3.new.self.items
    c.fill-4.new.self.items c.new-self-inside.result sizes.few c.self.invariant.index
    (c.count_needs.ensures.length ∙ ap length c.as_slice.ensures.value ∙ sym (length-map it.needs.items (λ (x : Many ℕ). x.items)))
    (c.fill.ensures.items (λ _ e. e) ∙ ap (λ (n : ℕ). replicate n false) reach) (c.fill-2.ensures.items (λ _ e. e) ∙ ap (λ (n : ℕ). replicate n false) schedule)
    (c.fill-3.ensures.items (search rules) ∙ ap (λ (n : ℕ). replicate n None) outcome)
    (c.fill-4.ensures.items (λ _ e. e) ∙ ap (λ (n : ℕ). replicate n false) indexed)
    (rw (← c.as_slice.ensures.value) c.count_needs.ensures.counts) c.new-self-inside.ensures
