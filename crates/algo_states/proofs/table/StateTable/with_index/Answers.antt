use Rattle.std.proofs.Common.{arith, ◌≡◌, ℕ, false, None, length, replicate, ap, sym, ◌∙◌}
use Rattle.std.proofs.lemmas.List.{length-map}
use Rattle.hive_model.specs.Many.{Many}
use Rattle.algo_states.specs.Table.{lists_of}
use Rattle.algo_states.proofs.Founded.{table-opened}
use Rattle.algo_states.proofs.table.StateTable.with_index.Goals as goal

pub invariant_of-result : goal.invariant_of-result
invariant_of-result c =
    let needs = length-map c.args.needs.items (λ (x : Many ℕ). x.items) in
    let consumers = length-map c.args.consumers.items (λ (x : Many ℕ). x.items) in
    let size-1 : c.len.result ≡ length c.args.needs.items = omega arith in
    let size-2 : c.len-2.result ≡ length c.args.needs.items = omega arith in
    let size-3 : c.len-3.result ≡ length c.args.needs.items = omega arith in
    let size-4 : c.len-4.result ≡ length c.args.consumers.items = omega arith in
    table-opened (lists_of c.args.needs.items) (lists_of c.args.consumers.items) c.in_ok-missing.missing.items c.in_ok-reached.reached.items
    c.in_ok-scheduled.scheduled.items c.in_ok-outcomes.outcomes.items c.in_ok-arrived.arrived.items c.new.result
    (rw (length-map c.args.needs.items (λ (x : Many ℕ). x.items)) c.requires.few) c.requires.index
    (c.in_ok-missing.ensures.length ∙ ap length c.as_slice.ensures.value ∙ sym needs)
    (c.in_ok-reached.ensures ∙ ap (λ (n : ℕ). replicate n false) (size-1 ∙ sym needs)) (c.in_ok-scheduled.ensures ∙ ap (λ (n : ℕ). replicate n false) (size-2 ∙ sym needs))
    (c.in_ok-outcomes.ensures ∙ ap (λ (n : ℕ). replicate n None) (size-3 ∙ sym needs)) (c.in_ok-arrived.ensures ∙ ap (λ (n : ℕ). replicate n false) (size-4 ∙ sym consumers))
    (rw (← c.as_slice.ensures.value) c.in_ok-missing.ensures.counts) c.new.ensures
