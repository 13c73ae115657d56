-- The checks of a forest, over the vectors that hold the sequences below each, are those of the definition.
use Rattle.std.proofs.Common.{◌≡◌, ◌≢◌, ℕ, ◌<◌, nat_eq, nat_lt, Bool, List, length, map, Result, Ok, Err, Some, None, OnOk, IfErr, refl, ap, sym, subst, ◌∙◌, Global}
use Rattle.std.specs.List.{flat_map, list_any}
use Rattle.std.specs.declared.vec.Vec.{Vec}
use Rattle.hive_model.specs.declared.limits.TheConstants.{MOST_LEAVES}
use Rattle.hive_model.specs.declared.sequence.Member.{Member}
use Rattle.graph_parts.specs.Links.{links}
use Rattle.text_model.specs.Forest.{Branch, Forest, all_of, branch_names, forest_of, forest_over, leaves_in, sequences_below, sequences_in}
use Rattle.text_model.specs.Gives.{Gives}
use Rattle.text_model.specs.Names.{number_of}
use Rattle.text_model.specs.Steps.{◌>>=◌, or_refuse, refuse_if}
use Rattle.text_model.specs.declared.tree_refusal.TreeRefusal.{TreeRefusal}
use Rattle.text_model.specs.declared.tree_refusal.TreeRefusal.TheVariants.{NoMemory, TooManyLeaves, TopIsMember, UnknownTop}
use Rattle.control_tree.proofs.Inside.{as-many, same-all, same-links}
use Rattle.control_tree.specs.Below.{items}
use Rattle.control_tree.specs.Members.{numbered, unknown_among}
use Rattle.control_tree.specs.Shape.{has_shape, no_sequence_is_below_itself, no_sequence_is_shared, no_sequence_is_too_deep}

after : (a b c d e : Result (Unit {0}) TreeRefusal) (it : Forest) →
    (a >>= λ x. b >>= λ y. c >>= λ z. d >>= λ v. e >>= λ w. Ok it) ≡ ((a >>= λ x. b >>= λ y. c >>= λ z. d >>= λ v. e) >>= λ w. Ok it)
after (Err x) b c d e it = refl
after (Ok u) (Err x) c d e it = refl
after (Ok u) (Ok v) (Err x) d e it = refl
after (Ok u) (Ok v) (Ok w) (Err x) e it = refl
after (Ok u) (Ok v) (Ok w) (Ok y) (Err x) it = refl
after (Ok u) (Ok v) (Ok w) (Ok y) (Ok z) it = refl

shape-of : (names : List (List ℕ)) (members : List (List Member)) (top : ℕ) →
    forest_over names members top
    ≡ (has_shape names (sequences_below members) (length members) (sequences_in (all_of members)) top (nat_lt MOST_LEAVES (length (leaves_in (all_of members))))
    >>= λ u. Ok (record { members = members; top = top }))
unfolding forest_over has_shape
shape-of names members top =
    after (no_sequence_is_shared names (sequences_in (all_of members)))
    (no_sequence_is_below_itself names (sequences_below members) (length members))
    (refuse_if (list_any (nat_eq top) (sequences_in (all_of members))) TopIsMember)
    (no_sequence_is_too_deep names (sequences_below members) (length members))
    (refuse_if (nat_lt MOST_LEAVES (length (leaves_in (all_of members)))) TooManyLeaves) (record { members = members; top = top })

pub forest-shape : (names : List (List ℕ)) (below : List (Vec ℕ Global)) (members : List (List Member)) (all : List ℕ) (top : ℕ) (many : Bool) →
    items below ≡ map sequences_in members → all ≡ flat_map (λ (v : Vec ℕ Global). v.items) below →
    many ≡ nat_lt MOST_LEAVES (length (leaves_in (all_of members))) →
    forest_over names members top ≡ (has_shape names (links below) (length below) all top many >>= λ u. Ok (record { members = members; top = top }))
forest-shape names below members all top many e joined leaves =
    let same : links below ≡ sequences_below members = λ i n. same-links below members n e i in
    let flat : all ≡ sequences_in (all_of members) = joined ∙ same-all below members e in
    rw (same, as-many below members e, flat, leaves) (shape-of names members top)

pub checked-ok : (r meaning : Result (Unit {0}) TreeRefusal) (whole : Result Forest TreeRefusal) (it : Forest) → Gives NoMemory r meaning →
    whole ≡ (meaning >>= λ u. Ok it) → OnOk r (whole ≡ Ok it)
checked-ok (Ok u) meaning whole it g e = e ∙ ap (λ (m : Result (Unit {0}) TreeRefusal). m >>= λ u. Ok it) g
checked-ok (Err x) meaning whole it g e = tt

pub checked-err : (r meaning : Result (Unit {0}) TreeRefusal) (whole : Result Forest TreeRefusal) (it : Forest) → Gives NoMemory r meaning →
    whole ≡ (meaning >>= λ u. Ok it) → IfErr r (λ x. x ≢ NoMemory → whole ≡ Err x)
checked-err (Ok u) meaning whole it g e = tt
checked-err (Err x) meaning whole it g e = λ other. e ∙ ap (λ (m : Result (Unit {0}) TreeRefusal). m >>= λ u. Ok it) (g other)

-- the steps before these checks

pub forest-refused : (algorithms known sequences : List (List ℕ)) (branches : List Branch) (top : List ℕ) (n : ℕ) (e : TreeRefusal) (r : Result Forest TreeRefusal) →
    r ≡ Err e → known ≡ algorithms → sequences ≡ branch_names branches → or_refuse (UnknownTop top) (number_of sequences top) ≡ Ok n →
    (e ≢ NoMemory → unknown_among known sequences branches ≡ Some e) → Gives NoMemory r (forest_of algorithms branches top)
unfolding forest_of
forest-refused algorithms known sequences branches top n e r is same names found unknown =
    subst (λ (it : Result Forest TreeRefusal). Gives NoMemory it (forest_of algorithms branches top)) (sym is) (λ other. rw (told, refused other) refl)
  where
    told : or_refuse (UnknownTop top) (number_of (branch_names branches) top) ≡ Ok n
    told = rw names at found

    refused : e ≢ NoMemory → unknown_among algorithms (branch_names branches) branches ≡ Some e
    refused other = rw (same, names) at (unknown other)

pub forest-known : (algorithms known sequences : List (List ℕ)) (branches : List Branch) (members : List (List Member)) (top : List ℕ) (n : ℕ)
    (r : Result Forest TreeRefusal) → known ≡ algorithms → sequences ≡ branch_names branches → or_refuse (UnknownTop top) (number_of sequences top) ≡ Ok n →
    unknown_among known sequences branches ≡ None → members ≡ numbered known sequences branches →
    Gives NoMemory r (forest_over (branch_names branches) members n) → Gives NoMemory r (forest_of algorithms branches top)
unfolding forest_of
forest-known algorithms known sequences branches members top n r same names found none read g =
    subst (λ (m : Result Forest TreeRefusal). Gives NoMemory r m) (sym whole) g
  where
    told : or_refuse (UnknownTop top) (number_of (branch_names branches) top) ≡ Ok n
    told = rw names at found

    all : unknown_among algorithms (branch_names branches) branches ≡ None
    all = rw (same, names) at none

    those : members ≡ numbered algorithms (branch_names branches) branches
    those = rw (same, names) at read

    whole : forest_of algorithms branches top ≡ forest_over (branch_names branches) members n
    whole = rw (told, all, those) refl
