use Rattle.std.proofs.Common.{◌≡◌, ◌<◌, ℕ, List, All, length, map, nat_lt, subst, sym, ap, ◌∙◌, Global}
use Rattle.std.proofs.lemmas.List.{length-map}
use Rattle.std.specs.List.{flat_map}
use Rattle.std.specs.declared.vec.Vec.{Vec}
use Rattle.hive_model.specs.Many.{Many}
use Rattle.hive_model.specs.declared.limits.TheConstants.{MOST_LEAVES}
use Rattle.hive_model.specs.declared.sequence.Member.{Member}
use Rattle.graph_parts.specs.Links.{AreWithin, links}
use Rattle.text_model.specs.Forest.{all_of, branch_names, forest_over, leaves_in, sequences_in}
use Rattle.control_tree.proofs.Checks.{checked-err, checked-ok, forest-shape}
use Rattle.control_tree.proofs.Inside.{all-within, as-many, below-within}
use Rattle.control_tree.specs.Below.{items}
use Rattle.control_tree.specs.Members.{lists}
use Rattle.control_tree.specs.Shape.{has_shape}
use Rattle.control_tree.proofs.shape.check_shape.Goals as goal

pub check_sequences-requires-clause-below : goal.check_sequences-requires-clause-below
check_sequences-requires-clause-below c =
    let size : length c.args.branches.now ≡ length c.in_ok-below.below.items =
    sym c.requires.size ∙ sym (length-map c.args.members.now (λ (it : Many Member). it.items))
    ∙ sym (as-many c.in_ok-below.below.items (lists c.args.members.now) c.in_ok-below.ensures) in
    subst (λ (it : List (Vec ℕ Global)). AreWithin it) (sym c.as_slice-2.ensures.value)
    (subst (λ (n : ℕ). All (λ (v : Vec ℕ Global). All (λ t. t < n) v.items) c.in_ok-below.below.items) size
    (below-within (length c.args.branches.now) c.in_ok-below.below.items (lists c.args.members.now) c.in_ok-below.ensures c.requires.within))

pub check_sequences-requires-clause-all : goal.check_sequences-requires-clause-all
check_sequences-requires-clause-all c =
    subst (λ (it : List ℕ). All (λ s. s < length c.args.branches.now) it)
    (sym (c.as_slice-3.ensures.value ∙ c.in_ok-all.ensures ∙ ap (flat_map (λ (v : Vec ℕ Global). v.items)) c.as_slice.ensures.value))
    (all-within (length c.args.branches.now) c.in_ok-below.below.items
    (below-within (length c.args.branches.now) c.in_ok-below.below.items (lists c.args.members.now) c.in_ok-below.ensures c.requires.within))

pub returns-clause-ok : goal.returns-clause-ok
returns-clause-ok c =
    checked-ok c.check_sequences.result
    (has_shape (branch_names c.args.branches.now) (links c.as_slice-2.result.now) (length c.as_slice-2.result.now) c.as_slice-3.result.now c.args.top c.has_too_many_leaves-many.result)
    (forest_over (branch_names c.args.branches.now) (lists c.args.members.now) c.args.top)
    (record { members = lists c.args.members.now; top = c.args.top }) c.check_sequences.ensures
    (forest-shape (branch_names c.args.branches.now) c.as_slice-2.result.now (lists c.args.members.now) c.as_slice-3.result.now c.args.top c.has_too_many_leaves-many.result
    (ap items c.as_slice-2.ensures.value ∙ c.in_ok-below.ensures)
    (c.as_slice-3.ensures.value ∙ c.in_ok-all.ensures ∙ ap (flat_map (λ (v : Vec ℕ Global). v.items)) (c.as_slice.ensures.value ∙ sym c.as_slice-2.ensures.value))
    c.has_too_many_leaves-many.ensures)

pub returns-clause-err : goal.returns-clause-err
returns-clause-err c =
    checked-err c.check_sequences.result
    (has_shape (branch_names c.args.branches.now) (links c.as_slice-2.result.now) (length c.as_slice-2.result.now) c.as_slice-3.result.now c.args.top c.has_too_many_leaves-many.result)
    (forest_over (branch_names c.args.branches.now) (lists c.args.members.now) c.args.top)
    (record { members = lists c.args.members.now; top = c.args.top }) c.check_sequences.ensures
    (forest-shape (branch_names c.args.branches.now) c.as_slice-2.result.now (lists c.args.members.now) c.as_slice-3.result.now c.args.top c.has_too_many_leaves-many.result
    (ap items c.as_slice-2.ensures.value ∙ c.in_ok-below.ensures)
    (c.as_slice-3.ensures.value ∙ c.in_ok-all.ensures ∙ ap (flat_map (λ (v : Vec ℕ Global). v.items)) (c.as_slice.ensures.value ∙ sym c.as_slice-2.ensures.value))
    c.has_too_many_leaves-many.ensures)
