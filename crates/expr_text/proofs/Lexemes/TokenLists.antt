-- Tokens of the rest of a text.
use Rattle.std.proofs.Common.{◌≡◌, ℕ, zero, suc, ◌+◌, ◌<◌, ◌≤◌, Bool, true, false, List, [], ◌∷◌, ◌++◌, length, take, drop, get_or, get_or-take, ◌-◌, ◌==◌, Result, Ok, Err, refl, sym, ap, subst, ◌∙◌, arith}
use Rattle.std.specs.Char.{is_ascii_alphabetic}
use Rattle.std.specs.List.{AllPass, prefix_len}
use Rattle.std.proofs.lemmas.Bool.Decides.{nat_tests}
use Rattle.std.proofs.lemmas.List.{at_drop_more, append_assoc, append-nil, drop-drop, drop_all}
use Rattle.std.proofs.lemmas.List.Sums.{prefix_len_passes}
use Rattle.std.proofs.Math.Seq.{drop-cons}
use Rattle.text_model.specs.Steps.{◌>>=◌}
use Rattle.std.proofs.lemmas.List.Folds.{length-prefix_len}
use Rattle.text_model.specs.Tokens.{is_word, symbol_at, tokens_from}
use Rattle.text_model.specs.declared.expr_refusal.ExprRefusal.{ExprRefusal}
use Rattle.text_model.specs.declared.token.Symbol.{Symbol}
use Rattle.text_model.specs.declared.token.Token.{Token}

-- the tokens that were read before these
abbrev pub with_front : List Token → Result (List Token) ExprRefusal → Result (List Token) ExprRefusal
with_front front (Ok rest) = Ok (front ++ rest)
with_front front (Err e) = Err e

-- bytes inside a token are passed over
pub tokens_from-inside : (at n : ℕ) (text : List ℕ) → n ≤ length text →
    tokens_from at n text ≡ tokens_from (at + n) 0 (drop n text)
unfolding tokens_from
tokens_from-inside at zero text h = ap (λ a. tokens_from a 0 text) (omega arith)
tokens_from-inside at (suc n) [] h = absurd (omega arith)
tokens_from-inside at (suc n) (b ∷ rest) h =
    tokens_from-inside (suc at) n rest (omega arith) ∙ ap (λ a. tokens_from a 0 (drop n rest)) (omega arith)

get_or_at : (p : ℕ → Bool) {a b : ℕ} → a ≡ b → p b ≡ true → p a ≡ true
get_or_at p e h = ap p e ∙ h

-- the front of a list that passes a test passes it
pub AllPass-front : (p : ℕ → Bool) (xs : List ℕ) → AllPass p (take (prefix_len p xs) xs)
AllPass-front p xs = λ k d h.
    let k_in : k < prefix_len p xs = omega (arith, length-prefix_len p xs) in
    get_or_at p (get_or-take _ xs k d k_in) (prefix_len_passes p xs k d k_in)

-- a front is no longer than the list, and not empty where the first element passes
pub prefix_len-some : (p : ℕ → Bool) (xs : List ℕ) → 0 < length xs → p (get_or xs 0 0) ≡ true → 0 < prefix_len p xs
prefix_len-some p [] h e = absurd (omega arith)
prefix_len-some p (x ∷ xs) h e = rw e (omega arith)

pub is_word-letter : (b : ℕ) → is_ascii_alphabetic b ≡ true → is_word b ≡ true
is_word-letter b h = grind (arith, nat_tests)

pub ruleset fronts = (AllPass-front, prefix_len-some, is_word-letter)

-- the tokens behind a space
pub tokens_from-space : (text : List ℕ) (at : ℕ) → at < length text → get_or text at 0 ≡ 32 →
    tokens_from at 0 (drop at text) ≡ tokens_from (at + 1) 0 (drop (at + 1) text)
unfolding tokens_from
tokens_from-space text at h e =
    at_drop_more (tokens_from at 0) text at 0 h ∙ rw e (ap (λ n. tokens_from n 0 (drop (at + 1) text)) (omega arith))

pub one_more : (t : Token) (r : Result (List Token) ExprRefusal) → (r >>= λ others. Ok (t ∷ others)) ≡ with_front (t ∷ []) r
one_more t (Ok rest) = refl
one_more t (Err e) = refl

pub with_front-both : (front : List Token) (t : Token) (r : Result (List Token) ExprRefusal) →
    with_front front (with_front (t ∷ []) r) ≡ with_front (front ++ t ∷ []) r
with_front-both front t (Ok rest) = ap Ok (sym (append_assoc front (t ∷ []) rest))
with_front-both front t (Err e) = refl

pub token_first : (at b : ℕ) (rest : List ℕ) (s : Symbol) (n : ℕ) → (b == 32) ≡ false → symbol_at at (b ∷ rest) ≡ Ok (s, n) →
    0 < n → n ≤ length rest + 1 →
    tokens_from at 0 (b ∷ rest) ≡ with_front (record { at = at; symbol = s } ∷ []) (tokens_from (at + n) 0 (drop n (b ∷ rest)))
unfolding tokens_from
token_first at b rest s zero ne e h k = absurd (omega arith)
token_first at b rest s (suc m) ne e h k =
    let less : suc m - 1 ≡ m = omega arith in
    let place : suc at + m ≡ at + suc m = omega arith in
    rw ne (rw e (rw less (
    ap (λ r. r >>= λ others. Ok (record { at = at; symbol = s } ∷ others)) (tokens_from-inside (suc at) m rest (omega arith))
    ∙ (one_more (record { at = at; symbol = s }) (tokens_from (suc at + m) 0 (drop m rest))
    ∙ ap (λ a. with_front (record { at = at; symbol = s } ∷ []) (tokens_from a 0 (drop m rest))) place))))

-- a token, and the tokens behind it
pub tokens_from-symbol : (text : List ℕ) (at : ℕ) (s : Symbol) (n : ℕ) → at < length text → (get_or text at 0 == 32) ≡ false →
    symbol_at at (drop at text) ≡ Ok (s, n) → 0 < n → n ≤ length (drop at text) →
    tokens_from at 0 (drop at text) ≡ with_front (record { at = at; symbol = s } ∷ []) (tokens_from (at + n) 0 (drop (at + n) text))
tokens_from-symbol text at s n h ne e some few =
    let P : List ℕ → Type 0 = λ xs. symbol_at at xs ≡ Ok (s, n) → n ≤ length xs → tokens_from at 0 xs ≡ with_front (record { at = at; symbol = s } ∷ []) (tokens_from (at + n) 0 (drop n xs)) in
    let first : P (get_or text at 0 ∷ drop (suc at) text) = λ e' k. token_first at (get_or text at 0) (drop (suc at) text) s n ne e' some (omega arith) in
    subst P (sym (drop-cons text at 0 h)) first e few
    ∙ ap (λ xs. with_front (record { at = at; symbol = s } ∷ []) (tokens_from (at + n) 0 xs)) (drop-drop n at text)

-- the refusal of a token is that of the text
pub tokens_from-refused : (text : List ℕ) (at : ℕ) (e : ExprRefusal) → at < length text → (get_or text at 0 == 32) ≡ false →
    symbol_at at (drop at text) ≡ Err e → tokens_from at 0 (drop at text) ≡ Err e
unfolding tokens_from
tokens_from-refused text at e h ne r =
    let is = at_drop_more (symbol_at at) text at 0 h in
    at_drop_more (tokens_from at 0) text at 0 h ∙ rw ne (rw (sym is ∙ r) refl)

pub with_front-nothing : (r : Result (List Token) ExprRefusal) → with_front [] r ≡ r
with_front-nothing (Ok rest) = refl
with_front-nothing (Err e) = refl

-- no token is behind the end
pub tokens_from-end : (text : List ℕ) (at : ℕ) → length text ≤ at → tokens_from at 0 (drop at text) ≡ Ok []
unfolding tokens_from
tokens_from-end text at h = rw (drop_all at text h) refl

pub with_front-all : (front : List Token) → with_front front (Ok []) ≡ Ok front
with_front-all front = ap Ok (append-nil front)
