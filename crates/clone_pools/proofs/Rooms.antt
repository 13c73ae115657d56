-- A scratch has an algorithm's room exactly where it is made for it.
use Rattle.std.proofs.Common.{ℕ, ◌≤◌, List, [], ◌∷◌, length, Option, Some, None, subst, sym, arith}
use Rattle.std.specs.Prelude.{MatchOption}
use Rattle.std.specs.List.{AllByRecursion}
use Rattle.hive_model.specs.Algorithm.{Algorithm}
use Rattle.hive_model.specs.Scratch.{Scratch, IsMadeFor}
use Rattle.hive_model.specs.declared.algorithm.Output.{Output}
use Rattle.hive_model.specs.declared.expr.Node.{Node}
use Rattle.clone_pools.specs.Lending.{ServesAll, ServesOne}
use Rattle.clone_pools.specs.Loans.{Pool}
use Rattle.clone_pools.specs.Room.{HasRoom, filter_nodes, most_nodes, room_of}
use Rattle.clone_pools.specs.declared.room.Room.{Room}

outputs-fit : (outputs : List Output) (room : ℕ) → most_nodes outputs ≤ room → AllByRecursion (λ (o : Output). length o.value ≤ room) outputs
outputs-fit [] room le = tt
outputs-fit (o ∷ outputs) room le = (omega arith, outputs-fit outputs room (omega arith))

outputs-most : (outputs : List Output) (room : ℕ) → AllByRecursion (λ (o : Output). length o.value ≤ room) outputs → most_nodes outputs ≤ room
outputs-most [] room all = omega arith
outputs-most (o ∷ outputs) room all = let rest = outputs-most outputs room all.1 in let first = all.0 in omega arith

filter-fits : (filter : Option (List Node)) (room : ℕ) → filter_nodes filter ≤ room → MatchOption filter (Unit {0}) (λ x. length x ≤ room)
filter-fits None room le = tt
filter-fits (Some x) room le = le

filter-most : (filter : Option (List Node)) (room : ℕ) → MatchOption filter (Unit {0}) (λ x. length x ≤ room) → filter_nodes filter ≤ room
filter-most None room fits = omega arith
filter-most (Some x) room fits = fits

made-from-room : (a : Algorithm) (s : Scratch) → HasRoom (room_of a) s → IsMadeFor a s
made-from-room a s h = record {
  inputs = h.0;
  outputs = outputs-fit a.outputs s.stack_room (let most = h.1 in omega arith);
  filter = filter-fits a.filter s.stack_room (let most = h.1 in omega arith);
}

room-from-made : (a : Algorithm) (s : Scratch) → IsMadeFor a s → HasRoom (room_of a) s
room-from-made a s h =
    let outputs = outputs-most a.outputs s.stack_room h.outputs in
    let filter = filter-most a.filter s.stack_room h.filter in
    (h.inputs, omega arith)

pub serves-all : (p : Pool) (s : Scratch) → HasRoom p.room s → ServesAll p s
serves-all p s h a same = made-from-room a s (subst (λ (room : Room). HasRoom room s) same h)

pub serves-room : (p : Pool) (s : Scratch) → ServesOne p s → HasRoom p.room s
serves-room p s h = subst (λ (room : Room). HasRoom room s) (sym h.1) (room-from-made h.0 s h.2)
