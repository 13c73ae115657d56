use Rattle.std.proofs.Common.{◌≡◌, List, [], ◌∷◌, ◌++◌, drop, map, refl, sym, ap, ◌∙◌}
use Rattle.std.specs.Arc.{arc_value}
use Rattle.std.specs.List.{zip}
use Rattle.std.proofs.lemmas.List.{at_drop_all}
use Rattle.serial_meaning.specs.Evaluation.{bound}
use Rattle.std.proofs.lemmas.List.{append-nil}
use Rattle.serial_meaning.proofs.executing.bind.Goals as goal

zip-nil : {X Y : Type 0} (xs : List X) → let none : List Y = [] in zip xs none ≡ []
zip-nil [] = refl
zip-nil (x ∷ xs) = refl

pub returns-in_default : goal.returns-in_default
returns-in_default c =
    let handles = drop c.loop-number.number c.args.handles.now in
    let front = map bound c.loop-number.held.items in
    sym (append-nil front)
    ∙ ap (λ them. front ++ them)
    (sym (at_drop_all (λ them. zip handles (map arc_value them)) c.args.inputs.now c.loop-number.number c.in_default.ensures.lookup.3 ∙ zip-nil handles))
    ∙ c.loop-number.invariant
