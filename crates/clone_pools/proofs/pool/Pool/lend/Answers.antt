use Rattle.std.proofs.Common.{◌≡◌, ℕ, List, Option, Some, ap, ◌∙◌, refl, subst, sym, slice_get, map}
use Rattle.std.specs.Prelude.{slice_set}
use Rattle.clone_pools.specs.Instances.{place_of}
use Rattle.clone_pools.specs.Loans.{Pool}
use Rattle.clone_pools.specs.Room.{HasRoom}
use Rattle.clone_pools.specs.declared.room.Room.{Room}
use Rattle.clone_pools.proofs.Places.{same-count}
use Rattle.clone_pools.proofs.Rooms.{serves-all}
use Rattle.clone_pools.proofs.pool.Pool.lend.Goals as goal

abbrev shown : List ℕ → Room → List (Option ℕ) → ℕ → Pool
shown resources room lent running = record { resources = resources; room = room; lent = lent; running = running }

pub invariant_of-self : goal.invariant_of-self
invariant_of-self c =
    let taken = c.take_scratch-scratch.ensures.kept c.self.inside.room c.self.invariant.1 in
    let same = same-count c.self.inside.instances.items c.take_scratch-scratch.new.instances.items c.in-Some.clone (Some c.args.place)
    c.take_scratch-scratch.ensures.places in
    (rw same c.self.invariant.0, taken.2)

pub returns-in-Some : goal.returns-in-Some
returns-in-Some c =
    let taken = c.take_scratch-scratch.ensures.kept c.self.inside.room c.self.invariant.1 in
    let seen : map place_of c.as_slice.result.now ≡ c.args.self.now.lent =
    ap (map place_of) c.as_slice.ensures.value ∙ ap (λ (p : Pool). p.lent) c.self.view_is in (
      record {
        algorithm = refl;
        free = ap (λ (places : List (Option ℕ)). slice_get places c.in-Some.clone) (sym seen) ∙ c.in-Some.ensures.some;
        made_for = serves-all c.args.self.now c.take_scratch-scratch.result
            (subst (λ (p : Pool). HasRoom p.room c.take_scratch-scratch.result) c.self.view_is taken.0);
        inputs = taken.1;
      },
      ap (λ (places : List (Option ℕ)). shown c.self.inside.resources.items c.self.inside.room places c.self.inside.running) c.take_scratch-scratch.ensures.places
          ∙ ap (λ (p : Pool). record p { lent = slice_set p.lent c.in-Some.clone (Some c.args.place) }) c.self.view_is,
    )
