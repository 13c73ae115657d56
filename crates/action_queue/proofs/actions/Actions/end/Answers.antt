use Rattle.std.proofs.Common.{◌++◌, length, sym, ap, ◌∙◌, subst, arith}
use Rattle.std.specs.List.{flat_map}
use Rattle.std.specs.List.Sorted.{IsPermutation}
use Rattle.crossbeam_queue.specs.Passes.{view}
use Rattle.action_queue.specs.Passes.{IsPassOf, put_of, took_of}
use Rattle.action_queue.specs.declared.view.Tally.{Tally}
use Rattle.action_queue.proofs.Ends.{all_off, one_less, first_off, next_off, only_first, settled}
use Rattle.action_queue.proofs.Joins.{merges}
use Rattle.action_queue.proofs.Keeps.{settles}
use Rattle.action_queue.proofs.actions.Actions.end.Goals as goal

pub loop-pass-init : goal.loop-pass-init
loop-pass-init c =
    let split = c.in-Some.ensures.some in
    let apart = all_off _ _ _ split (IsPassOf c.args.self) c.requires.passes in
    let mine = apart.1 in
    let one = c.in-Some.first.one in
    let all = c.requires.all in
    let less = one_less _ _ _ split in (
      mine.0,
      mine.1,
      mine.2,
      omega arith,
      omega arith,
      apart.0,
      first_off _ _ _ split put_of,
      first_off _ _ _ split took_of,
      (λ lone. only_first put_of took_of _ _ _ _ split (all ∙ lone) (c.in-Some.first.in_order (mine.2 ∙ lone))),
    )

pub absorb-requires-clause-queue : goal.absorb-requires-clause-queue
absorb-requires-clause-queue c =
    let theirs = (all_off _ _ _ c.in-Some-pop.ensures.some (IsPassOf c.args.self) c.loop-pass.invariant.5).1 in
    (c.loop-pass.invariant.0, theirs.0)

pub absorb-requires-clause-rule : goal.absorb-requires-clause-rule
absorb-requires-clause-rule c =
    let one = c.in-Some-pop.pass.one in
    merges _ _ _ _ _ c.loop-pass.invariant.3 (omega arith) c.loop-pass.invariant.1

pub loop-pass-preserved : goal.loop-pass-preserved
loop-pass-preserved c =
    let before = c.loop-pass.invariant in
    let split = c.in-Some-pop.ensures.some in
    let apart = all_off _ _ _ split (IsPassOf c.args.self) before.5 in
    let same = c.absorb.ensures.queue in
    let is = c.absorb.ensures.rule in
    let one = c.in-Some-pop.pass.one in
    let less = one_less _ _ _ split in
    let parts = ap (λ (u : Tally). u.parts) is in
    let some = before.3 in
    let count = before.4 in (
      (same.0 ∙ before.0.0, same.2 ∙ before.0.1),
      ap (λ (u : Tally). u.job) is ∙ before.1,
      ap (λ (u : Tally). u.made) is ∙ before.2,
      omega arith,
      omega arith,
      apart.0,
      subst (λ (u : Tally). IsPermutation (flat_map put_of c.args.passes.items) (flat_map put_of c.pop-in-loop-pass.new.self.items ++ u.put)) (sym is)
          (next_off _ _ _ split put_of _ _ before.6),
      subst (λ (u : Tally). IsPermutation (flat_map took_of c.args.passes.items) (flat_map took_of c.pop-in-loop-pass.new.self.items ++ u.took)) (sym is)
          (next_off _ _ _ split took_of _ _ before.7),
      (λ lone. absurd (omega arith)),
    )

pub learn_as-requires-clause-rule : goal.learn_as-requires-clause-rule
learn_as-requires-clause-rule c =
    let inv = c.loop-pass.invariant in
    let made = inv.2 in
    let count = inv.4 in
    let none = ap length c.in_default-pop.ensures.none in
    settles _ _ inv.3 (omega arith)

pub returns-clause-conserved : goal.returns-clause-conserved
returns-clause-conserved c =
    let inv = c.loop-pass.invariant in
    let known = view c.loop-pass.seat in
    let rest = (view c.learn_as.new.pass).rest in
    let is = c.learn_as.ensures.queue.1 in
    let knows = c.learn_as.ensures.rule.1 in
    let balance : IsPermutation known.put (known.took ++ rest) =
    subst (λ l. IsPermutation known.put (known.took ++ l)) (sym knows.0 ∙ sym (ap (λ (u : Tally). u.rest) is)) knows.1 in
    settled put_of took_of c.args.passes.items c.loop-pass.passes.items known.put known.took rest
    c.in_default-pop.ensures.none inv.6 inv.7 balance
