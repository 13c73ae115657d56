-- Members that are sequences are sequences of the list, and the vectors that hold them say the same.
use Rattle.std.proofs.Common.{◌≡◌, ℕ, zero, suc, ◌<◌, Bool, true, cond, ltb, List, [], ◌∷◌, ◌++◌, length, get_or, map, Option, Some, None, All, refl, ap, sym, ◌∙◌, subst, option_map, filter_map, Global, arith}
use Rattle.std.proofs.lemmas.Bool.{ltb-true}
use Rattle.std.proofs.lemmas.List.{length-map}
use Rattle.std.proofs.lemmas.List.Elements.{All-nil, All-cons, All-head, All-tail, All-append, All-map, filter_map-append}
use Rattle.std.proofs.lemmas.Option.{cond_some}
use Rattle.std.specs.List.{cons_option, flat_map, position_or_len}
use Rattle.std.specs.Option.{option_or}
use Rattle.std.specs.declared.vec.Vec.{Vec}
use Rattle.hive_model.specs.ControlFlow.{sequence_number}
use Rattle.hive_model.specs.Same.{same_text}
use Rattle.hive_model.specs.declared.sequence.Member.{Member}
use Rattle.hive_model.specs.declared.sequence.Member.TheVariants.{Alg, Seq}
use Rattle.graph_parts.specs.Links.{links}
use Rattle.text_model.specs.Forest.{Branch, all_of, member_named, sequences_below, sequences_in}
use Rattle.text_model.specs.Names.{number_of}
use Rattle.control_tree.specs.Below.{items}
use Rattle.control_tree.specs.Members.{members_in, numbered}
use Rattle.control_tree.specs.Shape.{AreMembersWithin}

number-within : (names : List (List ℕ)) (name : List ℕ) (n : ℕ) → number_of names name ≡ Some n → n < length names
unfolding number_of
number-within names name n e =
    let parts = cond_some (ltb (position_or_len (same_text name) names) (length names)) (position_or_len (same_text name) names) n e in
    let less = ltb-true (position_or_len (same_text name) names) (length names) parts.0 in
    let same = parts.1 in
    omega (arith, less, same)

sequences-within : (algorithms sequences names : List (List ℕ)) →
    All (λ s. s < length sequences) (sequences_in (filter_map (member_named algorithms sequences) names))
sequences-within algorithms sequences [] = All-nil (λ s. s < length sequences)
sequences-within algorithms sequences (name ∷ names) =
    by (number_of algorithms name) (number_of sequences name) refl (filter_map (member_named algorithms sequences) names) (sequences-within algorithms sequences names)
  where
    by : (o other : Option ℕ) → number_of sequences name ≡ other → (rest : List Member) → All (λ s. s < length sequences) (sequences_in rest) →
        All (λ s. s < length sequences) (sequences_in (cons_option (option_or (option_map Alg o) (option_map Seq other)) rest))
    by (Some a) other e rest all = all
    by None (Some s) e rest all = All-cons (λ s. s < length sequences) s (sequences_in rest) (number-within sequences name s e) all
    by None None e rest all = all

pub numbered-within : (algorithms sequences : List (List ℕ)) (branches : List Branch) →
    AreMembersWithin (length sequences) (numbered algorithms sequences branches)
numbered-within algorithms sequences branches =
    All-map (λ of_one. All (λ s. s < length sequences) (sequences_in of_one)) (members_in algorithms sequences) branches
    (λ k d h. sequences-within algorithms sequences ((get_or branches k d).members))

-- the vectors

pub below-within : (count : ℕ) (below : List (Vec ℕ Global)) (members : List (List Member)) → items below ≡ map sequences_in members →
    AreMembersWithin count members → All (λ (v : Vec ℕ Global). All (λ t. t < count) v.items) below
below-within count [] members e all = All-nil (λ (v : Vec ℕ Global). All (λ t. t < count) v.items)
below-within count (v ∷ below) [] e all = cc
below-within count (v ∷ below) (m ∷ members) e all =
    let here : v.items ≡ sequences_in m = cc in
    let later : items below ≡ map sequences_in members = cc in
    All-cons (λ (v : Vec ℕ Global). All (λ t. t < count) v.items) v below
    (subst (λ (ns : List ℕ). All (λ t. t < count) ns) (sym here) (All-head (λ of_one. All (λ s. s < count) (sequences_in of_one)) m members all))
    (below-within count below members later (All-tail (λ of_one. All (λ s. s < count) (sequences_in of_one)) m members all))

pub all-within : (count : ℕ) (below : List (Vec ℕ Global)) → All (λ (v : Vec ℕ Global). All (λ t. t < count) v.items) below →
    All (λ t. t < count) (flat_map (λ (v : Vec ℕ Global). v.items) below)
all-within count [] all = All-nil (λ t. t < count)
all-within count (v ∷ below) all =
    All-append (λ t. t < count) v.items (flat_map (λ (w : Vec ℕ Global). w.items) below)
    (All-head (λ (v : Vec ℕ Global). All (λ t. t < count) v.items) v below all)
    (all-within count below (All-tail (λ (v : Vec ℕ Global). All (λ t. t < count) v.items) v below all))

pub as-many : (below : List (Vec ℕ Global)) (members : List (List Member)) → items below ≡ map sequences_in members → length below ≡ length members
as-many below members e = sym (length-map below (λ (v : Vec ℕ Global). v.items)) ∙ ap length e ∙ length-map members sequences_in

pub same-links : (below : List (Vec ℕ Global)) (members : List (List Member)) (n : ℕ) → items below ≡ map sequences_in members →
    links below n ≡ sequences_below members n
same-links [] [] n e = refl
same-links [] (m ∷ members) n e = cc
same-links (v ∷ below) [] n e = cc
same-links (v ∷ below) (m ∷ members) zero e = cc
same-links (v ∷ below) (m ∷ members) (suc n) e = let later : items below ≡ map sequences_in members = cc in same-links below members n later

pub same-all : (below : List (Vec ℕ Global)) (members : List (List Member)) → items below ≡ map sequences_in members →
    flat_map (λ (v : Vec ℕ Global). v.items) below ≡ sequences_in (all_of members)
same-all [] [] e = refl
same-all [] (m ∷ members) e = cc
same-all (v ∷ below) [] e = cc
same-all (v ∷ below) (m ∷ members) e =
    let here : v.items ≡ sequences_in m = cc in
    let later : items below ≡ map sequences_in members = cc in
    rw (here, same-all below members later) (sym (filter_map-append sequence_number m (all_of members)))
