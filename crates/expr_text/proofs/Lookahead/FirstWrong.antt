-- Tokens stop at one place at most, so where they stop they are refused.
use Rattle.std.proofs.Common.{◌≡◌, ◌⊎◌, inl, inr, ℕ, suc, List, [], ◌∷◌, ◌++◌, Result, Ok, Err, refl, sym, ap, ◌∙◌, subst}
use Rattle.std.proofs.lemmas.List.{append_assoc, append-nil}
use Rattle.text_model.specs.Grammar.{written_of}
use Rattle.text_model.specs.GrammarRules.{IsExpr}
use Rattle.text_model.specs.Written.{Written}
use Rattle.text_model.specs.declared.expr_refusal.ExprRefusal.{ExprRefusal}
use Rattle.text_model.specs.declared.expr_refusal.ExprRefusal.TheVariants.{Unexpected, TooDeep}
use Rattle.text_model.specs.declared.token.Token.{Token}
use Rattle.expr_text.specs.Stops.{Begins, StopsAt, IsUnexpectedAt, IsTooDeepAt, IsUnfinished}
use Rattle.expr_text.proofs.Parsing.Sound.{read-rules}
use Rattle.expr_text.proofs.Lookahead.Refusals.{refused-unexpected, refused-deep, refused-only}

-- the front of a beginning is a beginning
begins-front : (depth : ℕ) (front back : List Token) → Begins depth (front ++ back) → Begins depth front
begins-front depth front back b = (back ++ b.0, b.1, subst (λ ts. IsExpr depth ts b.1 []) (append_assoc front back b.0) b.2)

-- tokens cut in two ways: the cut is the same, or one front goes on behind the other's first token
abbrev Compared : List Token → List Token → Token → Token → Type 0
Compared f g t u =
    ((f ≡ g) × (t ≡ u)) ⊎ (((back : List Token) × (g ≡ (f ++ t ∷ []) ++ back)) ⊎ ((back : List Token) × (f ≡ (g ++ u ∷ []) ++ back)))

heads : (t u : Token) (r s : List Token) → t ∷ r ≡ u ∷ s → t ≡ u
heads t u r s e = cc

tails : (t u : Token) (r s : List Token) → t ∷ r ≡ u ∷ s → r ≡ s
tails t u r s e = cc

one_more : (v w : Token) (f g : List Token) (t u : Token) → v ≡ w → Compared f g t u → Compared (v ∷ f) (w ∷ g) t u
one_more v w f g t u e (inl p) = inl (ap (λ x. x ∷ f) e ∙ ap (λ xs. w ∷ xs) p.0, p.1)
one_more v w f g t u e (inr (inl p)) = inr (inl (p.0, ap (λ x. x ∷ g) (sym e) ∙ ap (λ xs. v ∷ xs) p.1))
one_more v w f g t u e (inr (inr p)) = inr (inr (p.0, ap (λ x. x ∷ f) e ∙ ap (λ xs. w ∷ xs) p.1))

compared : (f g : List Token) (t u : Token) (r s : List Token) → f ++ t ∷ r ≡ g ++ u ∷ s → Compared f g t u
compared [] [] t u r s e = inl (refl, heads t u r s e)
compared [] (w ∷ g) t u r s e = inr (inl (g, ap (λ x. x ∷ g) (sym (heads t w r (g ++ u ∷ s) e))))
compared (v ∷ f) [] t u r s e = inr (inr (f, ap (λ x. x ∷ f) (heads v u (f ++ t ∷ r) s e)))
compared (v ∷ f) (w ∷ g) t u r s e =
    one_more v w f g t u (heads v w (f ++ t ∷ r) (g ++ u ∷ s) e) (compared f g t u r s (tails v w (f ++ t ∷ r) (g ++ u ∷ s) e))

goes_past : (depth at : ℕ) (tokens : List Token) (a : StopsAt depth tokens at) (front back : List Token) →
    front ≡ (a.front ++ a.first ∷ []) ++ back → Begins depth front → ⊥
goes_past depth at tokens a front back e b = a.ends (begins-front depth (a.front ++ a.first ∷ []) back (subst (Begins depth) e b))

-- the tokens stop at one place
same_stop : (depth at other : ℕ) (tokens : List Token) (a : StopsAt depth tokens at) (b : StopsAt depth tokens other) →
    (a.front ≡ b.front) × (a.first ≡ b.first)
same_stop depth at other tokens a b =
    by (compared a.front b.front a.first b.first a.rest b.rest (sym a.tokens_are ∙ b.tokens_are))
  where
    by : Compared a.front b.front a.first b.first → (a.front ≡ b.front) × (a.first ≡ b.first)
    by (inl p) = p
    by (inr (inl p)) = absurd (goes_past depth at tokens a b.front p.0 p.1 b.begins)
    by (inr (inr p)) = absurd (goes_past depth other tokens b a.front p.0 p.1 a.begins)

same_place : (depth at other : ℕ) (tokens : List Token) → StopsAt depth tokens at → StopsAt depth tokens other → at ≡ other
same_place depth at other tokens a b = sym a.place ∙ (ap (λ t. t.at) (same_stop depth at other tokens a b).1 ∙ b.place)

same_beginning : (depth at other : ℕ) (tokens : List Token) (a : StopsAt depth tokens at) (b : StopsAt depth tokens other) →
    a.front ++ a.first ∷ [] ≡ b.front ++ b.first ∷ []
same_beginning depth at other tokens a b =
    let same = same_stop depth at other tokens a b in
    ap (λ ts. ts ++ a.first ∷ []) same.0 ∙ ap (λ t. b.front ++ t ∷ []) same.1

-- tokens that stop begin no expression
no_whole : (depth at : ℕ) (tokens : List Token) → StopsAt depth tokens at → Begins depth tokens → ⊥
no_whole depth at tokens a =
    goes_past depth at tokens a tokens a.rest (a.tokens_are ∙ sym (append_assoc a.front (a.first ∷ []) a.rest))

whole : (stop depth : ℕ) (tokens : List Token) (w : Written) → written_of stop depth tokens ≡ Ok w → Begins depth tokens
whole stop depth tokens w h =
    ([], w, subst (λ ts. IsExpr depth ts w []) (sym (append-nil tokens)) (read-rules stop depth tokens w h))

unexpected_by : (stop depth at : ℕ) (tokens : List Token) → IsUnexpectedAt depth tokens at → (o : Result Written ExprRefusal) →
    written_of stop depth tokens ≡ o → o ≡ Err (Unexpected at)
unexpected_by stop depth at tokens a (Ok w) h = absurd (no_whole depth at tokens a.stops (whole stop depth tokens w h))
unexpected_by stop depth at tokens a (Err (Unexpected x)) h = by (refused-unexpected stop depth x tokens h)
  where
    by : IsUnexpectedAt depth tokens x ⊎ ((x ≡ stop) × IsUnfinished depth tokens) → ◌≡◌ {A = Result Written ExprRefusal} (Err (Unexpected x)) (Err (Unexpected at))
    by (inl b) = ap (λ p. Err (Unexpected p)) (same_place depth x at tokens b.stops a.stops)
    by (inr b) = absurd (no_whole depth at tokens a.stops b.1.begins)
unexpected_by stop depth at tokens a (Err (TooDeep x)) h =
    let b = refused-deep stop depth x tokens h in
    absurd (a.never (suc depth) (subst (Begins (suc depth)) (same_beginning depth x at tokens b.stops a.stops) b.deeper))
unexpected_by stop depth at tokens a (Err e) h = absurd (refused-only stop depth tokens e h)

pub unexpected-refused : (stop depth at : ℕ) (tokens : List Token) → IsUnexpectedAt depth tokens at →
    written_of stop depth tokens ≡ Err (Unexpected at)
unexpected-refused stop depth at tokens a = unexpected_by stop depth at tokens a (written_of stop depth tokens) refl

deep_by : (stop depth at : ℕ) (tokens : List Token) → IsTooDeepAt depth tokens at → (o : Result Written ExprRefusal) →
    written_of stop depth tokens ≡ o → o ≡ Err (TooDeep at)
deep_by stop depth at tokens a (Ok w) h = absurd (no_whole depth at tokens a.stops (whole stop depth tokens w h))
deep_by stop depth at tokens a (Err (Unexpected x)) h = absurd (by (refused-unexpected stop depth x tokens h))
  where
    by : IsUnexpectedAt depth tokens x ⊎ ((x ≡ stop) × IsUnfinished depth tokens) → ⊥
    by (inl b) = b.never (suc depth) (subst (Begins (suc depth)) (same_beginning depth at x tokens a.stops b.stops) a.deeper)
    by (inr b) = no_whole depth at tokens a.stops b.1.begins
deep_by stop depth at tokens a (Err (TooDeep x)) h =
    ap (λ p. Err (TooDeep p)) (same_place depth x at tokens (refused-deep stop depth x tokens h).stops a.stops)
deep_by stop depth at tokens a (Err e) h = absurd (refused-only stop depth tokens e h)

pub deep-refused : (stop depth at : ℕ) (tokens : List Token) → IsTooDeepAt depth tokens at →
    written_of stop depth tokens ≡ Err (TooDeep at)
deep-refused stop depth at tokens a = deep_by stop depth at tokens a (written_of stop depth tokens) refl

unfinished_by : (stop depth : ℕ) (tokens : List Token) → IsUnfinished depth tokens → (o : Result Written ExprRefusal) →
    written_of stop depth tokens ≡ o → o ≡ Err (Unexpected stop)
unfinished_by stop depth tokens a (Ok w) h = absurd (a.never depth w (read-rules stop depth tokens w h))
unfinished_by stop depth tokens a (Err (Unexpected x)) h = by (refused-unexpected stop depth x tokens h)
  where
    by : IsUnexpectedAt depth tokens x ⊎ ((x ≡ stop) × IsUnfinished depth tokens) → ◌≡◌ {A = Result Written ExprRefusal} (Err (Unexpected x)) (Err (Unexpected stop))
    by (inl b) = absurd (no_whole depth x tokens b.stops a.begins)
    by (inr b) = ap (λ p. Err (Unexpected p)) b.0
unfinished_by stop depth tokens a (Err (TooDeep x)) h =
    absurd (no_whole depth x tokens (refused-deep stop depth x tokens h).stops a.begins)
unfinished_by stop depth tokens a (Err e) h = absurd (refused-only stop depth tokens e h)

pub unfinished-refused : (stop depth : ℕ) (tokens : List Token) → IsUnfinished depth tokens →
    written_of stop depth tokens ≡ Err (Unexpected stop)
unfinished-refused stop depth tokens a = unfinished_by stop depth tokens a (written_of stop depth tokens) refl
