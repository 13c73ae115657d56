-- The number of leaves, one sequence further.
use Rattle.std.proofs.Common.{◌≡◌, ℕ, zero, suc, ◌+◌, ◌-◌, ◌^◌, ◌<◌, min, List, [], ◌∷◌, ◌++◌, length, get_or, take, refl, ap, sym, ◌∙◌, length-append, add-one, arith}
use Rattle.std.proofs.lemmas.List.Elements.{filter_map-append}
use Rattle.hive_model.specs.ControlFlow.{algorithm_number}
use Rattle.hive_model.specs.Many.{Many}
use Rattle.hive_model.specs.declared.sequence.Member.{Member}
use Rattle.text_model.specs.Forest.{all_of, leaves_in}
use Rattle.control_tree.specs.Members.{lists}

leaves-cons : (x : Many Member) (all : List (Many Member)) →
    length (leaves_in (all_of (lists (x ∷ all)))) ≡ length (leaves_in x.items) + length (leaves_in (all_of (lists all)))
leaves-cons x all =
    ap length (filter_map-append algorithm_number x.items (all_of (lists all))) ∙ length-append (leaves_in x.items) (leaves_in (all_of (lists all)))

leaves-suc : (all : List (Many Member)) (i : ℕ) (x : Many Member) → i < length all → x ≡ get_or all i x →
    length (leaves_in (all_of (lists (take (suc i) all)))) ≡ length (leaves_in (all_of (lists (take i all)))) + length (leaves_in x.items)
leaves-suc [] i x h e = absurd (omega arith)
leaves-suc (y ∷ all) zero x h e = leaves-cons y [] ∙ rw e (omega arith)
leaves-suc (y ∷ all) (suc i) x h e =
    let a = leaves-cons y (take (suc i) all) in
    let b = leaves-cons y (take i all) in
    let c = leaves-suc all i x (omega arith) e in
    omega (arith, a, b, c)

pub leaves-more : (all : List (Many Member)) (i : ℕ) (x : Many Member) → i < length all → x ≡ get_or all i x →
    length (leaves_in (all_of (lists (take (i + 1) all)))) ≡ length (leaves_in (all_of (lists (take i all)))) + length (leaves_in x.items)
leaves-more all i x h e = rw add-one (leaves-suc all i x h e)
