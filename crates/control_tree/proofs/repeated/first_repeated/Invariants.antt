use Rattle.std.proofs.Common.{◌≡◌, ◌<◌, ℕ, false, nat_eq, length, take, drop, get_or}
use Rattle.std.specs.List.{list_any}
use Rattle.text_model.specs.Names.{first_repeated, repeated_behind}
use Rattle.control_tree.proofs.repeated.first_repeated.Given as goal

abbrev pub invariant-loop-number : goal.invariant-loop-number
invariant-loop-number l = record {
  rest : repeated_behind nat_eq (take l.number-index l.numbers) (drop l.number-index l.numbers) ≡ first_repeated nat_eq l.numbers;
  size : length l.seen.items ≡ l.count;
  flags : (n : ℕ) → n < l.count → get_or l.seen.items n false ≡ list_any (nat_eq n) (take l.number-index l.numbers);
}
