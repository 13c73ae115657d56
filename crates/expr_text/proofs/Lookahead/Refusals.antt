-- A refusal stands at the first token with which no expression goes on.
use Rattle.std.proofs.Common.{◌≡◌, ◌⊎◌, inl, inr, ℕ, zero, suc, List, [], ◌∷◌, ◌++◌, Result, Ok, Err, refl, sym, ap, ◌∙◌, subst}
use Rattle.std.proofs.lemmas.List.{append_assoc, append-nil}
use Rattle.text_model.specs.Grammar.{expr, factor, if_end, written_of}
use Rattle.text_model.specs.GrammarRules.{IsExpr}
use Rattle.text_model.specs.Steps.{◌>>=◌}
use Rattle.text_model.specs.Written.{Written}
use Rattle.text_model.specs.declared.expr_refusal.ExprRefusal.{ExprRefusal}
use Rattle.text_model.specs.declared.expr_refusal.ExprRefusal.TheVariants.{Unexpected, TooDeep}
use Rattle.text_model.specs.declared.token.Token.{Token}
use Rattle.expr_text.specs.Stops.{Begins, IsUnexpectedAt, IsTooDeepAt, IsUnfinished, IsOfGrammar}
use Rattle.expr_text.proofs.Lookahead.Depths.{never-read}
use Rattle.expr_text.proofs.Parsing.Complete.{rules-read}
use Rattle.expr_text.proofs.Lookahead.Steady.{Answers, Completes, IsDeep, Points, again}
use Rattle.expr_text.proofs.Lookahead.SteadyRows.{expr_steady}
use Rattle.expr_text.proofs.Lookahead.SteadyFactors.{factor_steady, wider}

wider-none : (depth : ℕ) → wider 0 depth ≡ depth
wider-none zero = refl
wider-none (suc depth) = ap suc (wider-none depth)

wider-one : (depth : ℕ) → wider 1 depth ≡ suc depth
wider-one zero = refl
wider-one (suc depth) = ap suc (wider-one depth)

-- tokens that can be completed are a beginning
begins_of : (depth : ℕ) (front : List Token) → Completes (IsExpr depth) front → Begins depth front
begins_of depth front c = (c.0, c.1, subst (λ ts. IsExpr depth (front ++ ts) c.1 []) (append-nil c.0) (c.2 []))

begins_within : (depth other : ℕ) (front : List Token) → depth ≡ other → Completes (IsExpr depth) front → Begins other front
begins_within depth other front e c = subst (λ d. Begins d front) e (begins_of depth front c)

-- The whole is refused at a token, or where the tokens end, with anything behind it. What stands before it is a beginning.
record Refused (stop depth : ℕ) (tokens : List Token) (e : ExprRefusal) : Type 0 where
  front : List Token
  suffix : List Token
  tokens_are : tokens ≡ front ++ suffix
  points : Points stop e suffix
  same : (more : List Token) → written_of stop depth (front ++ again suffix more) ≡ Err e
  begins : Begins depth front
  deeper : IsDeep e → Begins (suc depth) (front ++ again suffix [])

err_same : (x e : ExprRefusal) → ◌≡◌ {A = Result Written ExprRefusal} (Err x) (Err e) → x ≡ e
err_same x e h = cc

abbrev Whole : ℕ → ℕ → List Token → Result (Written × List Token) ExprRefusal → Type 0
Whole stop depth tokens o = Answers stop (λ k. IsExpr (wider k depth)) (expr (factor stop depth)) tokens o

at_end : (stop depth : ℕ) (tokens rest : List Token) (w : Written) (e : ExprRefusal) → Whole stop depth tokens (Ok (w, rest)) →
    if_end w rest ≡ Err e → Refused stop depth tokens e
unfolding written_of
at_end stop depth tokens [] w e p h = absurd cc
at_end stop depth tokens (t ∷ rest) w e p h =
    subst (Refused stop depth tokens) (err_same (Unexpected t.at) e h)
    (record {
      front = p.front;
      suffix = t ∷ rest;
      tokens_are = p.tokens_are;
      points = refl;
      same = λ more. ap (λ r. r >>= λ it. if_end it.0 it.1) (p.same more);
      begins = begins_within (wider 0 depth) depth p.front (wider-none depth) ([], w, p.follows 0);
      deeper = λ deep. absurd deep;
    })

refused_by : (stop depth : ℕ) (tokens : List Token) (e : ExprRefusal) (o : Result (Written × List Token) ExprRefusal) →
    Whole stop depth tokens o → (o >>= λ it. if_end it.0 it.1) ≡ Err e → Refused stop depth tokens e
unfolding written_of
refused_by stop depth tokens e (Ok it) p h = at_end stop depth tokens it.1 it.0 e p h
refused_by stop depth tokens e (Err r) p h =
    subst (Refused stop depth tokens) (err_same r e h)
    (record {
      front = p.front;
      suffix = p.suffix;
      tokens_are = p.tokens_are;
      points = p.points;
      same = λ more. ap (λ o. o >>= λ it. if_end it.0 it.1) (p.same more);
      begins = begins_within (wider 0 depth) depth p.front (wider-none depth) (p.completes 0);
      deeper = λ deep. begins_within (wider 1 depth) (suc depth) (p.front ++ again p.suffix []) (wider-one depth) (p.deeper deep 0);
    })

refused_whole : (stop depth : ℕ) (tokens : List Token) (e : ExprRefusal) → written_of stop depth tokens ≡ Err e →
    Refused stop depth tokens e
unfolding written_of
refused_whole stop depth tokens e h =
    refused_by stop depth tokens e (expr (factor stop depth) tokens) (expr_steady stop (λ k. wider k depth) (factor stop depth) (factor_steady stop depth) tokens) h

-- what is refused is no expression

no_expr : (stop depth : ℕ) (tokens : List Token) (e : ExprRefusal) → written_of stop depth tokens ≡ Err e → (w : Written) →
    IsExpr depth tokens w [] → ⊥
no_expr stop depth tokens e h w is =
    let wrong : ◌≡◌ {A = Result Written ExprRefusal} (Ok w) (Err e) = sym (rules-read stop depth tokens w is) ∙ h in absurd cc

never_expr : (stop depth at : ℕ) (tokens : List Token) → written_of stop depth tokens ≡ Err (Unexpected at) →
    (any : ℕ) (w : Written) → IsExpr any tokens w [] → ⊥
never_expr stop depth at tokens h any w is = never-read stop depth any at tokens w h (rules-read stop any tokens w is)

-- so what is refused with anything behind it is no beginning
no_beginning : (depth : ℕ) (front : List Token) (t : Token) →
    ((more : List Token) (w : Written) → IsExpr depth (front ++ t ∷ more) w [] → ⊥) → Begins depth (front ++ t ∷ []) → ⊥
no_beginning depth front t none b = none b.0 b.1 (subst (λ ts. IsExpr depth ts b.1 []) (append_assoc front (t ∷ []) b.0) b.2)

unexpected_by : (stop depth : ℕ) (tokens : List Token) (at : ℕ) (front suffix : List Token) → tokens ≡ front ++ suffix →
    Points stop (Unexpected at) suffix →
    ((more : List Token) → written_of stop depth (front ++ again suffix more) ≡ Err (Unexpected at)) → Begins depth front →
    written_of stop depth tokens ≡ Err (Unexpected at) →
    IsUnexpectedAt depth tokens at ⊎ ((at ≡ stop) × IsUnfinished depth tokens)
unexpected_by stop depth tokens at front [] are points same begins h =
    inr (sym points, record { begins = subst (Begins depth) (sym (are ∙ append-nil front)) begins; never = never_expr stop depth at tokens h })
unexpected_by stop depth tokens at front (t ∷ rest) are points same begins h =
    let never : (any : ℕ) → Begins any (front ++ t ∷ []) → ⊥ = λ any. no_beginning any front t (λ more. never_expr stop depth at (front ++ t ∷ more) (same more) any) in
    inl (record { stops = record { front = front; first = t; rest = rest; tokens_are = are; place = points; begins = begins; ends = never depth }; never = never })

pub refused-unexpected : (stop depth at : ℕ) (tokens : List Token) → written_of stop depth tokens ≡ Err (Unexpected at) →
    IsUnexpectedAt depth tokens at ⊎ ((at ≡ stop) × IsUnfinished depth tokens)
refused-unexpected stop depth at tokens h =
    let p = refused_whole stop depth tokens (Unexpected at) h in
    unexpected_by stop depth tokens at p.front p.suffix p.tokens_are p.points p.same p.begins h

deep_by : (stop depth : ℕ) (tokens : List Token) (at : ℕ) (front suffix : List Token) → tokens ≡ front ++ suffix →
    Points stop (TooDeep at) suffix →
    ((more : List Token) → written_of stop depth (front ++ again suffix more) ≡ Err (TooDeep at)) → Begins depth front →
    Begins (suc depth) (front ++ again suffix []) → IsTooDeepAt depth tokens at
deep_by stop depth tokens at front [] are points same begins deeper = absurd points
deep_by stop depth tokens at front (t ∷ rest) are points same begins deeper = record {
  stops = record { front = front; first = t; rest = rest; tokens_are = are; place = points.0; begins = begins; ends = no_beginning depth front t (λ more. no_expr stop depth (front ++ t ∷ more) (TooDeep at) (same more)) };
  opens = points.1;
  deeper = deeper;
}

pub refused-deep : (stop depth at : ℕ) (tokens : List Token) → written_of stop depth tokens ≡ Err (TooDeep at) →
    IsTooDeepAt depth tokens at
refused-deep stop depth at tokens h =
    let p = refused_whole stop depth tokens (TooDeep at) h in
    deep_by stop depth tokens at p.front p.suffix p.tokens_are p.points p.same p.begins (p.deeper tt)

-- the grammar has no other refusals

only_by : (stop depth : ℕ) (tokens : List Token) (e : ExprRefusal) (suffix : List Token) → Points stop e suffix → IsOfGrammar e
only_by stop depth tokens (Unexpected at) suffix points = tt
only_by stop depth tokens (TooDeep at) suffix points = tt
only_by stop depth tokens e suffix points = absurd points

pub refused-only : (stop depth : ℕ) (tokens : List Token) (e : ExprRefusal) → written_of stop depth tokens ≡ Err e → IsOfGrammar e
refused-only stop depth tokens e h =
    let p = refused_whole stop depth tokens e h in
    only_by stop depth tokens e p.suffix p.points
