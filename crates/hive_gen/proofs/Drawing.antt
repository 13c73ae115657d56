-- The first of some draws, and the further ones: what they give, and what is written of them.
use Rattle.std.proofs.Common.{◌≡◌, ◌≢◌, ℕ, suc, zero, ◌+◌, ◌-◌, ◌%◌, ◌<◌, false, List, [], ◌∷◌, ◌++◌, refl, sym, ap, ◌∙◌, arith, append_assoc, append-nil}
use Rattle.std.proofs.lemmas.Bool.Decides.{nat_tests}
use Rattle.std.specs.Fmt.{signed_decimal}
use Rattle.std.specs.List.{flat_map}
use Rattle.hive_gen.specs.Draws.{drawn, next_state, state_after}
use Rattle.hive_gen.specs.Events.{hit, hits_count, hits_from, lacks_hits, state_behind}
use Rattle.text_model.specs.Report.{numbers_text, spaced}
use Rattle.text_model.specs.declared.bytes.TheConstants.{SPACE}

pub state_after-first : (count state : ℕ) → 0 < count → state_after count state
    ≡ state_after (count - 1) (next_state state)
unfolding state_after
state_after-first zero state some = absurd (omega arith)
state_after-first (suc count) state some = let e : suc count - 1 ≡ count = omega arith in rw e refl

pub state_after-none : (count state : ℕ) → count ≡ 0 → state_after count state ≡ state
unfolding state_after
state_after-none zero state none = refl
state_after-none (suc count) state none = absurd (omega arith)

-- one draw comes before those that are counted
pub state_after-more : (count state : ℕ) → state_after (1 + count) state
    ≡ state_after count (next_state state)
state_after-more count state =
    let e : (1 + count) - 1 ≡ count = omega arith in
    state_after-first (1 + count) state (omega arith) ∙ ap (λ n. state_after n (next_state state)) e

hits_from-first : (count state : ℕ) → 0 < count →
    hits_from count state ≡ hit (drawn (next_state state)) ∷ hits_from (count - 1) (next_state state)
unfolding hits_from
hits_from-first zero state some = absurd (omega arith)
hits_from-first (suc count) state some = let e : suc count - 1 ≡ count = omega arith in rw e refl

hits_from-none : (count state : ℕ) → count ≡ 0 → hits_from count state ≡ []
unfolding hits_from
hits_from-none zero state none = refl
hits_from-none (suc count) state none = absurd (omega arith)

-- the state and the draw that the code has

one_more : (count state moved : ℕ) → 0 < count → moved ≡ next_state state →
    hits_from count state ≡ hit (drawn moved) ∷ hits_from (count - 1) moved
one_more count state moved some m =
    hits_from-first count state some ∙ ap (λ s. hit (drawn s) ∷ hits_from (count - 1) s) (sym m)

pub moved_on : (count state moved : ℕ) → 0 < count → moved ≡ next_state state → state_after (count - 1) moved
    ≡ state_after count state
moved_on count state moved some m = ap (state_after (count - 1)) m ∙ sym (state_after-first count state some)

pub written_first : (count state moved draw : ℕ) (old new last : List ℕ) → 0 < count →
    moved ≡ next_state state → draw ≡ drawn moved →
    new ≡ old ++ signed_decimal (hit draw) → last ≡ new ++ flat_map spaced (hits_from (count - 1) moved) →
    last ≡ old ++ numbers_text (hits_from count state)
written_first count state moved draw old new last some m d p q =
    q ∙ (ap (λ xs. xs ++ later) p ∙ (append_assoc old (signed_decimal (hit draw)) later
    ∙ (ap (λ n. old ++ (signed_decimal (hit n) ++ later)) d
    ∙ ap (λ hs. old ++ numbers_text hs) (sym (one_more count state moved some m)))))
  where
    later : List ℕ
    later = flat_map spaced (hits_from (count - 1) moved)

pub written_further : (count state moved draw : ℕ) (old space new all : List ℕ) → 0 < count →
    moved ≡ next_state state → draw ≡ drawn moved →
    space ≡ old ++ SPACE ∷ [] → new ≡ space ++ signed_decimal (hit draw) →
    old ++ flat_map spaced (hits_from count state) ≡ all →
    new ++ flat_map spaced (hits_from (count - 1) moved) ≡ all
unfolding spaced
written_further count state moved draw old space new all some m d p q is =
    ap (λ xs. xs ++ later) (q ∙ ap (λ xs. xs ++ text) p)
    ∙ (append_assoc (old ++ SPACE ∷ []) text later ∙ (append_assoc old (SPACE ∷ []) (text ++ later)
    ∙ (ap (λ n. old ++ SPACE ∷ (signed_decimal (hit n) ++ later)) d
    ∙ (ap (λ hs. old ++ flat_map spaced hs) (sym (one_more count state moved some m)) ∙ is))))
  where
    text : List ℕ
    text = signed_decimal (hit draw)

    later : List ℕ
    later = flat_map spaced (hits_from (count - 1) moved)

pub written_all : (count state : ℕ) (out all : List ℕ) → count ≡ 0 →
    out ++ flat_map spaced (hits_from count state) ≡ all → out ≡ all
written_all count state out all none is =
    sym (append-nil out) ∙ (ap (λ hs. out ++ flat_map spaced hs) (sym (hits_from-none count state none)) ∙ is)

pub drawn_behind : (number state moved draw behind : ℕ) → number % 10 ≢ 0 → moved ≡ next_state state → draw
    ≡ drawn moved →
    behind ≡ state_after (hits_count draw) moved → behind ≡ state_behind number state
unfolding state_behind
drawn_behind number state moved draw behind has m d is =
    let e : lacks_hits number ≡ false = grind (arith, nat_tests) in
    let after : state_after (hits_count draw) moved
    ≡ state_after (hits_count (drawn (next_state state))) (next_state state) =
    ap (λ n. state_after (hits_count n) moved) d ∙ ap (λ s. state_after (hits_count (drawn s)) s) m in
    rw e (is ∙ (after ∙ sym (state_after-more (hits_count (drawn (next_state state))) state)))
