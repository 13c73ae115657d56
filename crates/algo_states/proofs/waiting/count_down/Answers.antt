use Rattle.std.proofs.Common.{◌≡◌, ◌&&◌, false, is_some, None, ◌-◌, ℕ, nat_eq, cond, arith, get_or, set, length-set, refl, ap, sym, subst, ◌∙◌, get_or-set_other}
use Rattle.number_set.specs.Numbers.{has}
use Rattle.algo_states.specs.Table.{waits}
use Rattle.algo_states.proofs.ReadySets.{counted-down, missing-there, ready-changed, taken-value, value-read, within-list, within-missing}
use Rattle.algo_states.proofs.waiting.count_down.Goals as goal

pub index_mut-requires : goal.index_mut-requires
index_mut-requires c =
    let some = missing-there c.args.consumers.now c.loop-consumer.missing.items c.args.missing.now.items c.loop-consumer.consumer-index c.from-number.result
    c.loop-consumer-test.true c.from-number.ensures c.loop-consumer.invariant.counts c.requires.there in
    let within = within-missing c.loop-consumer.missing.items c.from-number.result some in
    omega (arith, within)

pub overflow_sub-index_mut : goal.overflow_sub-index_mut
overflow_sub-index_mut c =
    let some = missing-there c.args.consumers.now c.loop-consumer.missing.items c.args.missing.now.items c.loop-consumer.consumer-index c.from-number.result
    c.loop-consumer-test.true c.from-number.ensures c.loop-consumer.invariant.counts c.requires.there in
    let within = within-missing c.loop-consumer.missing.items c.from-number.result some in
    taken-value c.loop-consumer.missing.items c.from-number.result c.index_mut.result.now within c.index_mut.ensures.value some

pub bounds-reached-number : goal.bounds-reached-number
bounds-reached-number c =
    let some = missing-there c.args.consumers.now c.loop-consumer.missing.items c.args.missing.now.items c.loop-consumer.consumer-index c.from-number.result
    c.loop-consumer-test.true c.from-number.ensures c.loop-consumer.invariant.counts c.requires.there in
    let within = within-missing c.loop-consumer.missing.items c.from-number.result some in
    within-list c.args.reached.now c.loop-consumer.missing.items c.args.missing.now.items c.from-number.result c.requires.reach c.loop-consumer.invariant.lengths within

pub bounds-scheduled-number : goal.bounds-scheduled-number
bounds-scheduled-number c =
    let some = missing-there c.args.consumers.now c.loop-consumer.missing.items c.args.missing.now.items c.loop-consumer.consumer-index c.from-number.result
    c.loop-consumer-test.true c.from-number.ensures c.loop-consumer.invariant.counts c.requires.there in
    let within = within-missing c.loop-consumer.missing.items c.from-number.result some in
    within-list c.args.scheduled.now c.loop-consumer.missing.items c.args.missing.now.items c.from-number.result c.requires.schedule c.loop-consumer.invariant.lengths within

pub bounds-outcomes-number : goal.bounds-outcomes-number
bounds-outcomes-number c =
    let some = missing-there c.args.consumers.now c.loop-consumer.missing.items c.args.missing.now.items c.loop-consumer.consumer-index c.from-number.result
    c.loop-consumer-test.true c.from-number.ensures c.loop-consumer.invariant.counts c.requires.there in
    let within = within-missing c.loop-consumer.missing.items c.from-number.result some in
    within-list c.args.outcomes.now c.loop-consumer.missing.items c.args.missing.now.items c.from-number.result c.requires.outcome c.loop-consumer.invariant.lengths within

pub index-requires : goal.index-requires
index-requires c =
    let some = missing-there c.args.consumers.now c.loop-consumer.missing.items c.args.missing.now.items c.loop-consumer.consumer-index c.from-number.result
    c.loop-consumer-test.true c.from-number.ensures c.loop-consumer.invariant.counts c.requires.there in
    let within = within-missing c.loop-consumer.missing.items c.from-number.result some in
    omega (arith, within)

pub loop-consumer-preserved : goal.loop-consumer-preserved
loop-consumer-preserved c =
    let some = missing-there c.args.consumers.now c.loop-consumer.missing.items c.args.missing.now.items c.loop-consumer.consumer-index c.from-number.result
    c.loop-consumer-test.true c.from-number.ensures c.loop-consumer.invariant.counts c.requires.there in
    let within = within-missing c.loop-consumer.missing.items c.from-number.result some in
    record {
      lengths = length-set c.loop-consumer.missing.items c.from-number.result (c.index_mut.result.now - 1) ∙ c.loop-consumer.invariant.lengths;
      counts = counted-down c.args.consumers.now c.loop-consumer.missing.items c.args.missing.now.items c.loop-consumer.consumer-index c.from-number.result
          c.index_mut.result.now c.loop-consumer-test.true c.from-number.ensures within c.index_mut.ensures.value some c.loop-consumer.invariant.counts;
      set = ready-changed c.args.reached.now c.args.reached.now c.args.scheduled.now c.args.scheduled.now c.args.outcomes.now c.args.outcomes.now
          c.loop-consumer.missing.items (set c.loop-consumer.missing.items c.from-number.result (c.index_mut.result.now - 1)) c.loop-consumer.ready c.put.new.ready
          c.from-number.result c.can_run-is_in.result c.loop-consumer.invariant.set
          (subst (λ (k : ℕ). (n : ℕ) → has c.put.new.ready n ≡ cond (nat_eq n k) c.can_run-is_in.result (has c.loop-consumer.ready n)) (sym c.from-number.ensures)
          c.put.ensures)
          (c.can_run-is_in.ensures
          ∙ ap (λ (m : ℕ). get_or c.args.reached.now c.from-number.result false
          && waits (get_or c.args.scheduled.now c.from-number.result false) (is_some (get_or c.args.outcomes.now c.from-number.result None)) m)
          (value-read (set c.loop-consumer.missing.items c.from-number.result (c.index_mut.result.now - 1)) c.from-number.result c.index.result.now
          (rw (length-set c.loop-consumer.missing.items c.from-number.result (c.index_mut.result.now - 1)) within) c.index.ensures)) (λ n other. refl) (λ n other. refl) (λ n other. refl)
          (λ n other. get_or-set_other c.loop-consumer.missing.items c.from-number.result n (c.index_mut.result.now - 1) 0 other);
    }
