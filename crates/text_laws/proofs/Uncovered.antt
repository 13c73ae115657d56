-- Where nothing of a job's cut nodes is refused, what they cut off is missed by nothing outside.
use Rattle.std.proofs.Common.{◌≡◌, ℕ, zero, suc, ◌+◌, ◌<◌, ◌≤◌, nat_eq, nat_le, nat_lt, Bool, true, false, not, ◌&&◌, ◌||◌, cond, List, [], ◌∷◌, ◌++◌, length, find, position, filter_map, slice_get, Option, Some, None, option_map, ◌⊎◌, inl, inr, ⊎_elim, refl, ap, sym, subst, ◌∙◌, arith}
use Rattle.std.proofs.lemmas.Bool.{eq-eqb, eqb-true, or_left, or_right, or_cases}
use Rattle.std.proofs.lemmas.Bool.Decides.{nat_tests}
use Rattle.std.proofs.lemmas.Iterator.Adapters.{position_from-zero}
use Rattle.std.proofs.lemmas.List.Sums.{sum_by-cons}
use Rattle.std.proofs.lemmas.Option.{slice_get-get_or}
use Rattle.std.specs.List.{AllByRecursion, Contains, count_by, enumerate_from, flat_map, list_any, position_from}
use Rattle.std.specs.Option.{option_map_or}
use Rattle.hive_model.specs.Algorithm.{Algorithm}
use Rattle.hive_model.specs.Below.{below, below_within, is_algorithm_below}
use Rattle.hive_model.specs.ControlFlow.{IsMemberOf, algorithm_number, all_members, leaves}
use Rattle.hive_model.specs.Cut.{AreCutsClosed, IsCutBy}
use Rattle.hive_model.specs.DataFlow.{AreNumberedFrom, Takes, TakesFrom}
use Rattle.hive_model.specs.Job.{Job}
use Rattle.hive_model.specs.Reached.{is_leaf_of}
use Rattle.hive_model.specs.Sequence.{Sequence}
use Rattle.hive_model.specs.Valid.{handle_names}
use Rattle.hive_model.specs.declared.limits.TheConstants.{MOST_DEPTH}
use Rattle.hive_model.specs.declared.sequence.Member.{Member}
use Rattle.hive_model.specs.declared.sequence.Member.TheVariants.{Alg, Seq}
use Rattle.text_model.specs.CutNodes.{any_cut, cut_refusal, input_cut_off, is_cut_off, is_of_wrong_kind, is_shared, may_lack, produces, shared, wrong_kind}
use Rattle.text_model.specs.Names.{name_at}
use Rattle.text_model.specs.Steps.{find_map}
use Rattle.text_model.specs.declared.cut_refusal.CutRefusal.TheVariants.{Input, Kind, Shared}
use Rattle.text_laws.proofs.Lists.{all-from_get, any-at, get-enumerated, got, opened, unfound}
use Rattle.text_laws.proofs.Steps.{at-most, neither, unmapped}

-- what stands below a sequence is a member of some sequence

any-append : {X : Type 0} (p : X → Bool) (xs ys : List X) → list_any p (xs ++ ys) ≡ true → (list_any p xs ≡ true) ⊎ (list_any p ys ≡ true)
any-append p [] ys e = inr e
any-append p (x ∷ xs) ys e =
    ⊎_elim (λ here. inl (or_left (p x) (list_any p xs) here))
    (λ later. ⊎_elim (λ one. inl (or_right (p x) (list_any p xs) one)) (λ other. inr other) (any-append p xs ys later))
    (or_cases (p x) (list_any p (xs ++ ys)) e)

any-left : {X : Type 0} (p : X → Bool) (xs ys : List X) → list_any p xs ≡ true → list_any p (xs ++ ys) ≡ true
any-left p [] ys e = cc
any-left p (x ∷ xs) ys e =
    ⊎_elim (λ here. or_left (p x) (list_any p (xs ++ ys)) here) (λ later. or_right (p x) (list_any p (xs ++ ys)) (any-left p xs ys later))
    (or_cases (p x) (list_any p xs) e)

any-right : {X : Type 0} (p : X → Bool) (xs ys : List X) → list_any p ys ≡ true → list_any p (xs ++ ys) ≡ true
any-right p [] ys e = e
any-right p (x ∷ xs) ys e = or_right (p x) (list_any p (xs ++ ys)) (any-right p xs ys e)

member-listed : (p : Member → Bool) (sequences : List Sequence) (s : ℕ) (q : Sequence) → slice_get sequences s ≡ Some q → list_any p q.members ≡ true →
    list_any p (all_members sequences) ≡ true
member-listed p [] s q e h = cc
member-listed p (r ∷ sequences) zero q e h = let same : r ≡ q = cc in any-left p r.members (all_members sequences) (rw same h)
member-listed p (r ∷ sequences) (suc s) q e h = any-right p r.members (all_members sequences) (member-listed p sequences s q e h)

flat-listed : (p : Member → Bool) (further : Member → List Member) (Listed : Type 0) (ms : List Member) → ((m : Member) → list_any p (further m) ≡ true → Listed) →
    (list_any p ms ≡ true → Listed) → list_any p (flat_map (λ m. m ∷ further m) ms) ≡ true → Listed
flat-listed p further Listed [] deeper here e = cc
flat-listed p further Listed (m ∷ ms) deeper here e =
    ⊎_elim (λ own. here (or_left (p m) (list_any p ms) own))
    (λ later. ⊎_elim (deeper m)
    (λ others. flat-listed p further Listed ms deeper (λ one. here (or_right (p m) (list_any p ms) one)) others)
    (any-append p (further m) (flat_map (λ m. m ∷ further m) ms) later))
    (or_cases (p m) (list_any p (further m ++ flat_map (λ m. m ∷ further m) ms)) e)

below-listed : (p : Member → Bool) (depth : ℕ) (sequences : List Sequence) (m : Member) → list_any p (below_within depth sequences m) ≡ true →
    list_any p (all_members sequences) ≡ true
unfolding below_within
below-listed p zero sequences (Alg a) e = cc
below-listed p zero sequences (Seq s) e = cc
below-listed p (suc depth) sequences (Alg a) e = cc
below-listed p (suc depth) sequences (Seq s) e = by (slice_get sequences s) refl e (λ m h. below-listed p depth sequences m h)
  where
    by : (o : Option Sequence) → slice_get sequences s ≡ o →
        list_any p (option_map_or (λ (q : Sequence). flat_map (λ m. m ∷ below_within depth sequences m) q.members) o []) ≡ true →
        ((m : Member) → list_any p (below_within depth sequences m) ≡ true → list_any p (all_members sequences) ≡ true) →
        list_any p (all_members sequences) ≡ true
    by None there h deeper = cc
    by (Some q) there h deeper =
        flat-listed p (below_within depth sequences) (list_any p (all_members sequences) ≡ true) q.members deeper (member-listed p sequences s q there) h

leaf-below : (job : Job) (s number : ℕ) → is_algorithm_below job s number ≡ true → list_any (is_leaf_of number) (all_members job.sequences) ≡ true
unfolding below
leaf-below job s number e = below-listed (is_leaf_of number) MOST_DEPTH job.sequences (Seq s) e

leaf-inside : (job : Job) (number : ℕ) (ms : List Member) → AllByRecursion (IsMemberOf job) ms → list_any (is_leaf_of number) ms ≡ true →
    number < length job.algorithms
leaf-inside job number [] all e = cc
leaf-inside job number (Alg a ∷ ms) (h, hs) e =
    ⊎_elim (λ here. let same : a ≡ number = eqb-true a number here in subst (λ (k : ℕ). k < length job.algorithms) same h) (λ later. leaf-inside job number ms hs later)
    (or_cases (nat_eq a number) (list_any (is_leaf_of number) ms) e)
leaf-inside job number (Seq s ∷ ms) (h, hs) e = leaf-inside job number ms hs e

count-first : (number a : ℕ) (rest : List ℕ) → count_by (nat_eq number) (a ∷ rest) ≡ cond (nat_eq number a) 1 0 + count_by (nat_eq number) rest
count-first number a rest = sum_by-cons (λ x. cond (nat_eq number x) 1 0) a rest

count-here : (number a : ℕ) (rest : List ℕ) → nat_eq number a ≡ true → 1 ≤ count_by (nat_eq number) (a ∷ rest)
count-here number a rest e =
    let both = count-first number a rest in
    let one : cond {A = ℕ} (nat_eq number a) 1 0 ≡ 1 = rw e refl in omega (arith, both, one)

count-later : (number a : ℕ) (rest : List ℕ) → 1 ≤ count_by (nat_eq number) rest → 1 ≤ count_by (nat_eq number) (a ∷ rest)
count-later number a rest e = let both = count-first number a rest in omega (arith, both, e)

leaf-counted : (number : ℕ) (ms : List Member) → list_any (is_leaf_of number) ms ≡ true → 1 ≤ count_by (nat_eq number) (filter_map algorithm_number ms)
leaf-counted number [] e = cc
leaf-counted number (Alg a ∷ ms) e = by (nat_eq a number) refl e (λ h. leaf-counted number ms h)
  where
    by : (t : Bool) → nat_eq a number ≡ t → (t || list_any (is_leaf_of number) ms) ≡ true →
        (list_any (is_leaf_of number) ms ≡ true → 1 ≤ count_by (nat_eq number) (filter_map algorithm_number ms)) →
        1 ≤ count_by (nat_eq number) (filter_map algorithm_number (Alg a ∷ ms))
    by true test h later =
        let same : number ≡ a = sym (eqb-true a number test) in
        count-here number a (filter_map algorithm_number ms) (eq-eqb number a same)
    by false test h later = let more = later h in count-later number a (filter_map algorithm_number ms) more
leaf-counted number (Seq s ∷ ms) e = leaf-counted number ms e

-- who produces a handle

numbered-above : (next : ℕ) (all : List Algorithm) (n : ℕ) (b : Algorithm) → AreNumberedFrom next all → slice_get all n ≡ Some b → next ≤ b.first_output
numbered-above next [] n b numbered e = cc
numbered-above next (a ∷ all) zero b (first, rest) e =
    let same : a ≡ b = cc in let begins : b.first_output ≡ next = rw (← same) first in omega (arith, begins)
numbered-above next (a ∷ all) (suc n) b (first, rest) e =
    let later = numbered-above (next + length a.outputs) all n b rest e in omega (arith, later)

produced : (h : ℕ) (b : Algorithm) → b.first_output ≤ h → h < b.first_output + length b.outputs → produces h b ≡ true
produced h b low high =
    let one : nat_le b.first_output h ≡ true = grind (arith, nat_tests) in
    let two : nat_lt h (b.first_output + length b.outputs) ≡ true = grind (arith, nat_tests) in rw (one, two) refl

not-produced : (h : ℕ) (a : Algorithm) → a.first_output + length a.outputs ≤ h → produces h a ≡ false
not-produced h a past =
    let two : nat_lt h (a.first_output + length a.outputs) ≡ false = grind (arith, nat_tests) in rw two (and-false (nat_le a.first_output h))
  where
    and-false : (b : Bool) → (b && false) ≡ false
    and-false true = refl
    and-false false = refl

producer-from : (h from next : ℕ) (all : List Algorithm) (n : ℕ) (b : Algorithm) → AreNumberedFrom next all → slice_get all n ≡ Some b →
    b.first_output ≤ h → h < b.first_output + length b.outputs → position_from (produces h) from all ≡ Some (from + n)
producer-from h from next [] n b numbered e low high = cc
producer-from h from next (a ∷ all) zero b (first, rest) e low high =
    let same : a ≡ b = cc in
    let here : produces h a ≡ true = rw same (produced h b low high) in
    rw here (ap Some (omega arith))
producer-from h from next (a ∷ all) (suc n) b (first, rest) e low high =
    let above = numbered-above (next + length a.outputs) all n b rest e in
    let here : produces h a ≡ false = not-produced h a (omega (arith, above, first, low)) in
    rw here (producer-from h (from + 1) (next + length a.outputs) all n b rest e low high ∙ ap Some (omega arith))

-- cut nodes

right-kind : (cut sequential short_circuit : Bool) → (cut && (sequential || not short_circuit)) ≡ false → cut ≡ true →
    (sequential ≡ false) × (short_circuit ≡ true)
right-kind true true k e h = cc
right-kind true false true e h = (refl, refl)
right-kind true false false e h = cc
right-kind false s k e h = cc

any-cut : (job : Job) (test : ℕ → Bool) (s : ℕ) (q : Sequence) → slice_get job.sequences s ≡ Some q → q.cut ≡ true → test s ≡ true → any_cut job test ≡ true
any-cut job test s q there cut passes =
    any-at (λ (it : ℕ × Sequence). it.1.cut && test it.0) (enumerate_from 0 job.sequences) s (s, q)
    (get-enumerated 0 job.sequences s q there ∙ ap (λ (k : ℕ). Some (k, q)) (omega arith)) (rw (cut, passes) refl)

both-false : (a b : Bool) → (a && b) ≡ false → a ≡ true → b ≡ false
both-false true b e h = e
both-false false b e h = cc

one-leaf : (job : Job) → AllByRecursion (IsMemberOf job) (all_members job.sequences) → shared job ≡ None → (s number : ℕ) → IsCutBy job s number →
    count_by (nat_eq number) (leaves job) ≡ 1
one-leaf job members e s number c =
    let leaf = leaf-below job s number c.below in
    let (a, there) = got job.algorithms number (leaf-inside job number (all_members job.sequences) members leaf) in
    let none = unmapped (λ (it : ℕ × Algorithm). Shared it.1.name) (find (λ (it : ℕ × Algorithm). is_shared job it.0) (enumerate_from 0 job.algorithms)) e in
    let unshared : is_shared job number ≡ false =
    unfound (λ (it : ℕ × Algorithm). is_shared job it.0) (enumerate_from 0 job.algorithms) number (number, a) none
    (get-enumerated 0 job.algorithms number a there ∙ ap (λ (k : ℕ). Some (k, a)) (omega arith)) in
    let few = both-false (any_cut job (λ t. is_algorithm_below job t number)) (nat_lt 1 (count_by (nat_eq number) (leaves job))) unshared
    (any-cut job (λ t. is_algorithm_below job t number) s c.node c.there c.cut c.below) in
    let most = at-most (count_by (nat_eq number) (leaves job)) 1 few in
    let least = leaf-counted number (all_members job.sequences) leaf in omega (arith, most, least)

unfound_map : {X B : Type 0} (f : X → Option B) (xs : List X) (n : ℕ) (x : X) → find_map f xs ≡ None → slice_get xs n ≡ Some x → f x ≡ None
unfound_map f [] n x none e = cc
unfound_map f (y ∷ xs) zero x none e = let same : y ≡ x = cc in rw (← same) ((neither (f y) (find_map f xs) none).0)
unfound_map f (y ∷ xs) (suc n) x none e = unfound_map f xs n x ((neither (f y) (find_map f xs) none).1) e

not-lacked : (job : Job) → input_cut_off job ≡ None → (m : ℕ) (a : Algorithm) (h : ℕ) → slice_get job.algorithms m ≡ Some a → Contains a.inputs h →
    may_lack job m h ≡ false
not-lacked job e m a h there listed =
    let none =
    unfound_map (λ (it : ℕ × Algorithm). option_map (λ handle. Input it.1.name (name_at (handle_names job) handle)) (find (may_lack job it.0) it.1.inputs))
    (enumerate_from 0 job.algorithms) m (m, a) e (get-enumerated 0 job.algorithms m a there ∙ ap (λ (k : ℕ). Some (k, a)) (omega arith)) in
    unfound (may_lack job m) a.inputs listed.0 h (unmapped (λ handle. Input a.name (name_at (handle_names job) handle)) (find (may_lack job m) a.inputs) none)
    (slice_get-get_or a.inputs listed.0 h listed.1 ∙ ap Some listed.2)

takers : (job : Job) → AreNumberedFrom (length job.raws) job.algorithms → input_cut_off job ≡ None → (s m n : ℕ) → IsCutBy job s n → Takes job m n →
    is_algorithm_below job s m ≡ true
takers job numbered e s m n c taken =
    let from = opened (slice_get job.algorithms m) _ taken in
    let to = opened (slice_get job.algorithms n) (TakesFrom from.it) from.holds in
    let h = to.holds.0 in
    let position_is : position (produces h) job.algorithms ≡ Some n =
    position_from-zero (produces h) job.algorithms
    ∙ producer-from h 0 (length job.raws) job.algorithms n to.it numbered to.is to.holds.2 to.holds.3 ∙ ap Some (omega arith) in
    let lacks = not-lacked job e m from.it h from.is to.holds.1 in
    let kept : is_cut_off job m n ≡ false = ap (λ (o : Option ℕ). option_map_or (is_cut_off job m) o false) (sym position_is) ∙ lacks in
    by (is_algorithm_below job s m) refl kept
  where
    by : (t : Bool) → is_algorithm_below job s m ≡ t → is_cut_off job m n ≡ false → is_algorithm_below job s m ≡ true
    by true test kept = test
    by false test kept =
        let found = any-cut job (λ t. is_algorithm_below job t n && not (is_algorithm_below job t m)) s c.node c.there c.cut
        (rw (c.below, test) refl) in cc

pub cuts-closed : (job : Job) → AllByRecursion (IsMemberOf job) (all_members job.sequences) → AreNumberedFrom (length job.raws) job.algorithms →
    cut_refusal job ≡ None → AreCutsClosed job
unfolding cut_refusal
cuts-closed job members numbered e =
    let (kind, one) = neither (wrong_kind job) _ e in
    let (leaf, two) = neither (shared job) _ one in
    let (input, three) = neither (input_cut_off job) _ two in
    let right = unmapped (λ (q : Sequence). Kind q.name) (find is_of_wrong_kind job.sequences) kind in
    record {
      kind = all-from_get (λ (q : Sequence). q.cut ≡ true → (q.sequential ≡ false) × (q.short_circuit ≡ true)) job.sequences
          (λ n q there. right-kind q.cut q.sequential q.short_circuit (unfound is_of_wrong_kind job.sequences n q right there));
      one_leaf = one-leaf job members leaf;
      takers = takers job numbered input;
    }
