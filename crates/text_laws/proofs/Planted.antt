-- The forest of a job's sequences, where it was not refused: who is a member is there, no sequence is one twice, and none is too deep.
use Rattle.std.proofs.Common.{◌≡◌, ℕ, zero, suc, ◌<◌, ◌≤◌, nat_eq, nat_lt, false, List, [], ◌∷◌, length, map, filter_map, Option, Some, None, Ok, MatchOption, option_map, refl, ap, sym, subst, ◌∙◌, arith}
use Rattle.std.proofs.lemmas.Cmp.{nat_eq_equiv}
use Rattle.std.proofs.lemmas.Map.Views.{list_any-from_Contains}
use Rattle.std.proofs.lemmas.Option.{slice_get-map}
use Rattle.std.specs.List.{AllByRecursion, Contains, flat_map, list_any, range_with_len, zip}
use Rattle.std.specs.Option.{option_map_or, option_or}
use Rattle.hive_model.specs.ControlFlow.{IsNestedWithin}
use Rattle.hive_model.specs.Sequence.{Sequence}
use Rattle.hive_model.specs.Valid.{AreDistinctNumbers}
use Rattle.hive_model.specs.declared.limits.TheConstants.{MOST_DEPTH, MOST_LEAVES}
use Rattle.hive_model.specs.declared.sequence.Member.{Member}
use Rattle.hive_model.specs.declared.sequence.Member.TheVariants.{Alg, Seq}
use Rattle.text_model.specs.Forest.{Branch, Forest, all_of, branch_names, forest_of, forest_over, leaves_in, member_named, members_by_number, on_cycle, sequences_below, sequences_in, too_deep, unknown_member}
use Rattle.text_model.specs.Jobs.{sequence_with}
use Rattle.text_model.specs.Names.{first_repeated, name_at, number_of}
use Rattle.text_model.specs.RawOptions.{RawSequence}
use Rattle.text_model.specs.Steps.{◌>>=◌, or_refuse, refuse_found}
use Rattle.text_model.specs.Walks.{is_deeper_than}
use Rattle.text_model.specs.declared.tree_refusal.TreeRefusal.TheVariants.{SequenceCycle, SharedSequence, TooDeep, TooManyLeaves, TopIsMember, UnknownTop}
use Rattle.text_laws.proofs.Distinct.{distinct_numbers}
use Rattle.text_laws.proofs.Lists.{all-get, all-given, get-range, got, unfound}
use Rattle.text_laws.proofs.Numbers.{number-within}
use Rattle.text_laws.proofs.Steps.{at-most, bound, either-false, let-through, passed, same-ok, unrefused}

-- a forest that was not refused
pub record IsPlanted (algorithms : List (List ℕ)) (branches : List Branch) (f : Forest) : Type 0 where
  pub members : f.members ≡ members_by_number algorithms branches
  pub top : f.top < length (branch_names branches)
  pub once : AreDistinctNumbers (sequences_in (all_of f.members))
  pub top_is_no_member : Contains (sequences_in (all_of f.members)) f.top → ⊥
  pub shallow : too_deep f.members ≡ None
  pub few : length (leaves_in (all_of f.members)) ≤ MOST_LEAVES

not-among : (numbers : List ℕ) (n : ℕ) → list_any (nat_eq n) numbers ≡ false → Contains numbers n → ⊥
not-among numbers n e there = let found = list_any-from_Contains nat_eq_equiv n numbers there in cc

planted-over : (algorithms : List (List ℕ)) (branches : List Branch) (names : List (List ℕ)) (top : ℕ) (f : Forest) → top < length (branch_names branches) →
    forest_over names (members_by_number algorithms branches) top ≡ Ok f → IsPlanted algorithms branches f
unfolding forest_over
planted-over algorithms branches names top f inside e =
    let members = members_by_number algorithms branches in
    let (once, one) = let-through (λ s. SharedSequence (name_at names s)) (first_repeated nat_eq (sequences_in (all_of members))) _ f e in
    let (acyclic, two) = let-through (λ s. SequenceCycle (name_at names s)) (on_cycle members) _ f one in
    let (topmost, three) = passed (list_any (nat_eq top) (sequences_in (all_of members))) TopIsMember _ f two in
    let (shallow, four) = let-through (λ s. TooDeep (name_at names s)) (too_deep members) _ f three in
    let (few, five) = passed (nat_lt MOST_LEAVES (length (leaves_in (all_of members)))) TooManyLeaves _ f four in
    let same : record { members = members; top = top } ≡ f = same-ok (record { members = members; top = top }) f five in
    subst (λ (it : Forest). IsPlanted algorithms branches it) same (record {
      members = refl;
      top = inside;
      once = distinct_numbers (sequences_in (all_of members)) once;
      top_is_no_member = not-among (sequences_in (all_of members)) top topmost;
      shallow = shallow;
      few = at-most (length (leaves_in (all_of members))) MOST_LEAVES few;
    })

pub planted : (algorithms : List (List ℕ)) (branches : List Branch) (top : List ℕ) (f : Forest) → forest_of algorithms branches top ≡ Ok f →
    IsPlanted algorithms branches f
unfolding forest_of
planted algorithms branches top f e =
    let (number, found, known) = bound (or_refuse (UnknownTop top) (number_of (branch_names branches) top))
    (λ number. refuse_found (unknown_member algorithms branches) >>= λ _. forest_over (branch_names branches) (members_by_number algorithms branches) number) f e in
    let (unit, none, over) = bound (refuse_found (unknown_member algorithms branches))
    (λ _. forest_over (branch_names branches) (members_by_number algorithms branches) number) f known in
    planted-over algorithms branches (branch_names branches) number f
    (number-within (branch_names branches) top number (unrefused (UnknownTop top) (number_of (branch_names branches) top) number found)) over

-- members are there

-- the member is one of so many algorithms or sequences
abbrev pub IsAmong : ℕ → ℕ → Member → Type 0
IsAmong algorithms sequences (Alg a) = a < algorithms
IsAmong algorithms sequences (Seq s) = s < sequences

member-among : (algorithms sequences : List (List ℕ)) (name : List ℕ) (m : Member) → member_named algorithms sequences name ≡ Some m →
    IsAmong (length algorithms) (length sequences) m
member-among algorithms sequences name m e = by (number_of algorithms name) (number_of sequences name) refl refl e
  where
    by : (o p : Option ℕ) → number_of algorithms name ≡ o → number_of sequences name ≡ p → option_or (option_map Alg o) (option_map Seq p) ≡ Some m →
        IsAmong (length algorithms) (length sequences) m
    by (Some a) p one other h =
        let same : Alg a ≡ m = cc in
        subst (λ (it : Member). IsAmong (length algorithms) (length sequences) it) same (number-within algorithms name a one)
    by None (Some s) one other h =
        let same : Seq s ≡ m = cc in
        subst (λ (it : Member). IsAmong (length algorithms) (length sequences) it) same (number-within sequences name s other)
    by None None one other h = cc

pub members-among : (algorithms : List (List ℕ)) (sequences : List (List ℕ)) (branches : List Branch) →
    AllByRecursion (AllByRecursion (IsAmong (length algorithms) (length sequences)))
    (map (λ (b : Branch). filter_map (member_named algorithms sequences) b.members) branches)
members-among algorithms sequences [] = tt
members-among algorithms sequences (b ∷ branches) = (
  all-given (IsAmong (length algorithms) (length sequences)) (member_named algorithms sequences) b.members (member-among algorithms sequences),
  members-among algorithms sequences branches,
)

-- the sequences with their members

pub members-of_sequences : (raws : List RawSequence) (members : List (List Member)) → length members ≡ length raws →
    map (λ (q : Sequence). q.members) (map sequence_with (zip raws members)) ≡ members
members-of_sequences [] [] e = refl
members-of_sequences [] (ms ∷ members) e = absurd (omega (arith, e))
members-of_sequences (q ∷ raws) [] e = absurd (omega (arith, e))
members-of_sequences (q ∷ raws) (ms ∷ members) e = ap (λ them. ms ∷ them) (members-of_sequences raws members (omega (arith, e)))

pub names-of_sequences : (raws : List RawSequence) (members : List (List Member)) → length members ≡ length raws →
    map (λ (q : Sequence). q.name) (map sequence_with (zip raws members)) ≡ map (λ (q : RawSequence). q.name) raws
names-of_sequences [] members e = refl
names-of_sequences (q ∷ raws) [] e = absurd (omega (arith, e))
names-of_sequences (q ∷ raws) (ms ∷ members) e =
    ap (λ names. q.name ∷ names) (names-of_sequences raws members (omega (arith, e)))

pub all-members : (sequences : List Sequence) → flat_map (λ (q : Sequence). q.members) sequences ≡ all_of (map (λ (q : Sequence). q.members) sequences)
all-members [] = refl
all-members (q ∷ sequences) = rw (all-members sequences) refl

-- depth

pub not-deep : (members : List (List Member)) → too_deep members ≡ None → (s : ℕ) → s < length members →
    is_deeper_than (sequences_below members) MOST_DEPTH s ≡ false
not-deep members e s h =
    unfound (is_deeper_than (sequences_below members) MOST_DEPTH) (range_with_len 0 (length members)) s s e
    (get-range 0 (length members) s h ∙ ap Some (omega arith))

each-nested : (depth : ℕ) (sequences : List Sequence) (next : ℕ → List ℕ) (count : ℕ) (ms : List Member) → AllByRecursion (IsAmong count (length sequences)) ms →
    list_any (is_deeper_than next depth) (sequences_in ms) ≡ false →
    ((t : ℕ) → t < length sequences → is_deeper_than next depth t ≡ false → IsNestedWithin depth sequences (Seq t)) →
    AllByRecursion (IsNestedWithin depth sequences) ms
each-nested depth sequences next count [] all e below = tt
each-nested zero sequences next count (Alg a ∷ ms) (h, hs) e below = (tt, each-nested zero sequences next count ms hs e below)
each-nested (suc depth) sequences next count (Alg a ∷ ms) (h, hs) e below = (tt, each-nested (suc depth) sequences next count ms hs e below)
each-nested depth sequences next count (Seq t ∷ ms) (h, hs) e below =
    let (one, others) = either-false (is_deeper_than next depth t) (list_any (is_deeper_than next depth) (sequences_in ms)) e in
    (below t h one, each-nested depth sequences next count ms hs others below)

pub deep-nested : (depth : ℕ) (sequences : List Sequence) (count : ℕ) →
    AllByRecursion (λ (q : Sequence). AllByRecursion (IsAmong count (length sequences)) q.members) sequences → (s : ℕ) → s < length sequences →
    is_deeper_than (sequences_below (map (λ (q : Sequence). q.members) sequences)) depth s ≡ false → IsNestedWithin depth sequences (Seq s)
unfolding is_deeper_than
deep-nested zero sequences count all s h e = cc
deep-nested (suc depth) sequences count all s h e =
    let next = sequences_below (map (λ (q : Sequence). q.members) sequences) in
    let (q, there) = got sequences s h in
    let members : sequences_below (map (λ (q : Sequence). q.members) sequences) s ≡ sequences_in q.members =
    ap (λ (o : Option (List Member)). option_map_or sequences_in o [])
    (slice_get-map (λ (q : Sequence). q.members) sequences s ∙ ap (option_map (λ (q : Sequence). q.members)) there) in
    subst (λ (o : Option Sequence). MatchOption o ⊥ (λ q. AllByRecursion (IsNestedWithin depth sequences) q.members)) (sym there)
    (each-nested depth sequences next count q.members (all-get (λ (q : Sequence). AllByRecursion (IsAmong count (length sequences)) q.members) sequences s q all there)
    (ap (list_any (is_deeper_than next depth)) (sym members) ∙ e) (λ t lt f. deep-nested depth sequences count all t lt f))
