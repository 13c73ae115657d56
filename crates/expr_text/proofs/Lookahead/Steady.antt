-- A reading looks at no more than the one token behind what it takes. So what it gives, and where it refuses, stays the same
-- whatever stands behind that token; and what it took before a refusal can be completed.
use Rattle.std.proofs.Common.{◌≡◌, ℕ, suc, ◌≤◌, List, [], ◌∷◌, ◌++◌, length, Result, Ok, Err, refl, sym, ap, ◌∙◌, subst, arith}
use Rattle.std.proofs.lemmas.List.{append_assoc, length-append}
use Rattle.text_model.specs.Grammar.{place_at}
use Rattle.text_model.specs.Steps.{◌>>=◌}
use Rattle.text_model.specs.declared.expr_refusal.ExprRefusal.{ExprRefusal}
use Rattle.text_model.specs.declared.expr_refusal.ExprRefusal.TheVariants.{Unexpected, TooDeep}
use Rattle.text_model.specs.declared.token.Token.{Token}
use Rattle.expr_text.specs.Stops.{Opens}

-- a reading that gives an A and the tokens behind it
abbrev pub Takes : Type 0 → Type 0
Takes A = List Token → Result (A × List Token) ExprRefusal

-- rules of the grammar for such a reading: the tokens are those of the A and then the rest
abbrev pub Rules : Type 0 → Type 1
Rules A = List Token → A → List Token → Type 0

-- the first token, and others behind it
abbrev pub again : List Token → List Token → List Token
again [] more = []
again (t ∷ rest) more = t ∷ more

-- a refusal is at the first of the tokens, or where they end
abbrev pub Points : ℕ → ExprRefusal → List Token → Type 0
Points stop (Unexpected at) suffix = place_at stop suffix ≡ at
Points stop (TooDeep at) [] = ⊥
Points stop (TooDeep at) (t ∷ rest) = (t.at ≡ at) × Opens t.symbol
Points stop e suffix = ⊥

abbrev pub IsDeep : ExprRefusal → Type 0
IsDeep (TooDeep at) = Unit {0}
IsDeep e = ⊥

-- tokens that follow the rules as far as they go, and what makes a whole of them
abbrev pub Completes : {A : Type 0} → Rules A → List Token → Type 0
Completes {A} is front = (more : List Token) × (x : A) × ((rest : List Token) → is (front ++ (more ++ rest)) x rest)

-- What is read of the front is read with anything behind the first token that is left. It follows the rules, of which there are some
-- for each number of further brackets and signs.
pub record Reads {A : Type 0} (is : ℕ → Rules A) (read : Takes A) (tokens : List Token) (x : A) (rest : List Token) : Type 0 where
  pub front : List Token
  pub tokens_are : tokens ≡ front ++ rest
  pub same : (more : List Token) → read (front ++ again rest more) ≡ Ok (x, again rest more)
  pub follows : (k : ℕ) (others : List Token) → is k (front ++ others) x others

-- What is refused at a token is refused with anything behind it. What stands before it can be completed, and where it is a bracket
-- or sign too many, that one too, with one more open.
pub record Refuses {A : Type 0} (stop : ℕ) (is : ℕ → Rules A) (read : Takes A) (tokens : List Token) (e : ExprRefusal) : Type 0 where
  pub front : List Token
  pub suffix : List Token
  pub tokens_are : tokens ≡ front ++ suffix
  pub points : Points stop e suffix
  pub same : (more : List Token) → read (front ++ again suffix more) ≡ Err e
  pub completes : (k : ℕ) → Completes (is k) front
  pub deeper : IsDeep e → (k : ℕ) → Completes (is (suc k)) (front ++ again suffix [])

abbrev pub Answers : {A : Type 0} → ℕ → (ℕ → Rules A) → Takes A → List Token → Result (A × List Token) ExprRefusal → Type 0
Answers stop is read tokens (Ok it) = Reads is read tokens it.0 it.1
Answers stop is read tokens (Err e) = Refuses stop is read tokens e

abbrev pub Steady : {A : Type 0} → ℕ → (ℕ → Rules A) → Takes A → List Token → Type 0
Steady stop is read tokens = Answers stop is read tokens (read tokens)

abbrev pub Steadies : {A : Type 0} → ℕ → (ℕ → Rules A) → Takes A → Type 0
Steadies stop is read = (tokens : List Token) → Steady stop is read tokens

-- one reading after the other

seam : (front suffix more : List Token) → (others : List Token) × (front ++ again suffix more ≡ again (front ++ suffix) others)
seam [] suffix more = (more, refl)
seam (t ∷ front) suffix more = (front ++ again suffix more, refl)

handed : {A : Type 0} (is : ℕ → Rules A) (first : Takes A) (tokens : List Token) (x : A) (rest : List Token) (p : Reads is first tokens x rest) (front left more : List Token) →
    rest ≡ front ++ left → first ((p.front ++ front) ++ again left more) ≡ Ok (x, front ++ again left more)
handed is first tokens x rest p front left more e =
    let s = seam front left more in
    let same : front ++ again left more ≡ again rest s.0 = s.1 ∙ ap (λ ts. again ts s.0) (sym e) in
    ap first (append_assoc p.front front (again left more))
    ∙ (ap (λ ts. first (p.front ++ ts)) same ∙ (p.same s.0 ∙ ap (λ ts. Ok (x, ts)) (sym same)))

joined_are : (tokens rest front next left : List Token) → tokens ≡ front ++ rest → rest ≡ next ++ left →
    tokens ≡ (front ++ next) ++ left
joined_are tokens rest front next left h k = h ∙ (ap (λ ts. front ++ ts) k ∙ sym (append_assoc front next left))

-- what completes the tokens behind a front completes it with them
completes_behind : {A : Type 0} (is : Rules A) (front next : List Token) → Completes (λ ts. is (front ++ ts)) next →
    Completes is (front ++ next)
completes_behind is front next c =
    (c.0, c.1, λ rest. subst (λ ts. is ts c.1 rest) (sym (append_assoc front next (c.0 ++ rest))) (c.2 rest))

completes_further : {A : Type 0} (is : Rules A) (front next last : List Token) →
    Completes (λ ts. is (front ++ ts)) (next ++ last) → Completes is ((front ++ next) ++ last)
completes_further is front next last c =
    subst (Completes is) (sym (append_assoc front next last)) (completes_behind is front (next ++ last) c)

second : {A B : Type 0} (stop : ℕ) (part : ℕ → Rules A) (is : ℕ → Rules B) (first : Takes A) (next : A → Takes B) (tokens : List Token) (x : A) (rest : List Token) (p : Reads part first tokens x rest) (o : Result (B × List Token) ExprRefusal) →
    Answers stop (λ k ts. is k (p.front ++ ts)) (next x) rest o →
    Answers stop is (λ ts. first ts >>= λ it. next it.0 it.1) tokens o
second stop part is first next tokens x rest p (Ok it) q = record {
  front = p.front ++ q.front;
  tokens_are = joined_are tokens rest p.front q.front it.1 p.tokens_are q.tokens_are;
  same = λ more. ap (λ r. r >>= λ it. next it.0 it.1) (handed part first tokens x rest p q.front it.1 more q.tokens_are)
      ∙ q.same more;
  follows = λ k others. subst (λ ts. is k ts it.0 others) (sym (append_assoc p.front q.front others)) (q.follows k others);
}
second stop part is first next tokens x rest p (Err e) q = record {
  front = p.front ++ q.front;
  suffix = q.suffix;
  tokens_are = joined_are tokens rest p.front q.front q.suffix p.tokens_are q.tokens_are;
  points = q.points;
  same = λ more. ap (λ r. r >>= λ it. next it.0 it.1) (handed part first tokens x rest p q.front q.suffix more q.tokens_are)
      ∙ q.same more;
  completes = λ k. completes_behind (is k) p.front q.front (q.completes k);
  deeper = λ deep k. completes_further (is (suc k)) p.front q.front (again q.suffix []) (q.deeper deep k);
}

-- what completes a part makes the whole complete
abbrev pub Lifts : {A B : Type 0} → (ℕ → Rules A) → (ℕ → Rules B) → Type 0
Lifts part is = (k : ℕ) (front : List Token) → Completes (part k) front → Completes (is k) front

by_first : {A B : Type 0} (stop : ℕ) (part : ℕ → Rules A) (is : ℕ → Rules B) (first : Takes A) (next : A → Takes B) (tokens : List Token) →
    Lifts part is → (o : Result (A × List Token) ExprRefusal) → Answers stop part first tokens o →
    ((x : A) (rest : List Token) (p : Reads part first tokens x rest) → Steady stop (λ k ts. is k (p.front ++ ts)) (next x) rest) →
    Answers stop is (λ ts. first ts >>= λ it. next it.0 it.1) tokens (o >>= λ it. next it.0 it.1)
by_first stop part is first next tokens lift (Ok it) p two =
    second stop part is first next tokens it.0 it.1 p (next it.0 it.1) (two it.0 it.1 p)
by_first stop part is first next tokens lift (Err e) p two = record {
  front = p.front;
  suffix = p.suffix;
  tokens_are = p.tokens_are;
  points = p.points;
  same = λ more. ap (λ r. r >>= λ it. next it.0 it.1) (p.same more);
  completes = λ k. lift k p.front (p.completes k);
  deeper = λ deep k. lift (suc k) (p.front ++ again p.suffix []) (p.deeper deep k);
}

pub in_turn : {A B : Type 0} (stop : ℕ) (part : ℕ → Rules A) (is : ℕ → Rules B) (first : Takes A) (next : A → Takes B) (tokens : List Token) →
    Lifts part is → Steady stop part first tokens →
    ((x : A) (rest : List Token) (p : Reads part first tokens x rest) → Steady stop (λ k ts. is k (p.front ++ ts)) (next x) rest) →
    Steady stop is (λ ts. first ts >>= λ it. next it.0 it.1) tokens
in_turn stop part is first next tokens lift one two = by_first stop part is first next tokens lift (first tokens) one two

-- tokens in front that are taken in any case

prefixed_by : {A : Type 0} (stop : ℕ) (is : ℕ → Rules A) (front : List Token) (read whole : Takes A) (tokens : List Token) →
    ((ts : List Token) → whole (front ++ ts) ≡ read ts) → (o : Result (A × List Token) ExprRefusal) →
    Answers stop (λ k ts. is k (front ++ ts)) read tokens o → Answers stop is whole (front ++ tokens) o
prefixed_by stop is front read whole tokens e (Ok it) p = record {
  front = front ++ p.front;
  tokens_are = joined_are (front ++ tokens) tokens front p.front it.1 refl p.tokens_are;
  same = λ more. ap whole (append_assoc front p.front (again it.1 more)) ∙ (e (p.front ++ again it.1 more) ∙ p.same more);
  follows = λ k others. subst (λ ts. is k ts it.0 others) (sym (append_assoc front p.front others)) (p.follows k others);
}
prefixed_by stop is front read whole tokens e (Err r) p = record {
  front = front ++ p.front;
  suffix = p.suffix;
  tokens_are = joined_are (front ++ tokens) tokens front p.front p.suffix refl p.tokens_are;
  points = p.points;
  same = λ more. ap whole (append_assoc front p.front (again p.suffix more)) ∙ (e (p.front ++ again p.suffix more) ∙ p.same more);
  completes = λ k. completes_behind (is k) front p.front (p.completes k);
  deeper = λ deep k. completes_further (is (suc k)) front p.front (again p.suffix []) (p.deeper deep k);
}

pub prefixed : {A : Type 0} (stop : ℕ) (is : ℕ → Rules A) (front : List Token) (read whole : Takes A) (tokens : List Token) →
    ((ts : List Token) → whole (front ++ ts) ≡ read ts) → Steady stop (λ k ts. is k (front ++ ts)) read tokens →
    Steady stop is whole (front ++ tokens)
prefixed stop is front read whole tokens e p =
    subst (Answers stop is whole (front ++ tokens)) (sym (e tokens)) (prefixed_by stop is front read whole tokens e (read tokens) p)

-- the x follows the rules already, whatever is behind it
abbrev pub Ready : {A : Type 0} → (ℕ → Rules A) → A → Type 0
Ready is x = (k : ℕ) (others : List Token) → is k others x others

-- nothing is taken
pub untouched : {A : Type 0} (stop : ℕ) (is : ℕ → Rules A) (read : Takes A) (x : A) (tokens : List Token) → Ready is x →
    read tokens ≡ Ok (x, tokens) → ((more : List Token) → read (again tokens more) ≡ Ok (x, again tokens more)) →
    Steady stop is read tokens
untouched stop is read x tokens ready e same =
    subst (Answers stop is read tokens) (sym e) (record { front = []; tokens_are = refl; same = same; follows = ready })

-- a refusal at the first token
pub refused : {A : Type 0} (stop : ℕ) (is : ℕ → Rules A) (read : Takes A) (tokens : List Token) (e : ExprRefusal) →
    ((k : ℕ) → Completes (is k) []) → (IsDeep e → (k : ℕ) → Completes (is (suc k)) (again tokens [])) → read tokens ≡ Err e →
    Points stop e tokens → ((more : List Token) → read (again tokens more) ≡ Err e) → Steady stop is read tokens
refused stop is read tokens e completes deeper h points same =
    subst (Answers stop is read tokens) (sym h) (record { front = []; suffix = tokens; tokens_are = refl; points = points; same = same; completes = completes; deeper = deeper })

-- what is left is no longer than what there was

pub bind_where : {A B : Type 0} (r : Result A ExprRefusal) (f g : A → Result B ExprRefusal) → ((x : A) → r ≡ Ok x → f x ≡ g x) →
    (r >>= f) ≡ (r >>= g)
bind_where (Ok x) f g h = h x refl
bind_where (Err e) f g h = refl

abbrev pub NoLonger : {A : Type 0} → Takes A → Type 0
NoLonger {A} read = (tokens rest : List Token) (x : A) → read tokens ≡ Ok (x, rest) → length rest ≤ length tokens

pub length-left : (tokens front rest : List Token) → tokens ≡ front ++ rest → length rest ≤ length tokens
length-left tokens front rest h = omega (arith, ap length h, length-append front rest)

shorter_by : {A : Type 0} (stop : ℕ) (is : ℕ → Rules A) (read : Takes A) (tokens rest : List Token) (x : A) →
    Answers stop is read tokens (Ok (x, rest)) → length rest ≤ length tokens
shorter_by stop is read tokens rest x p = length-left tokens p.front rest p.tokens_are

pub no_longer : {A : Type 0} (stop : ℕ) (is : ℕ → Rules A) (read : Takes A) → Steadies stop is read → NoLonger read
no_longer stop is read steady tokens rest x h =
    shorter_by stop is read tokens rest x (subst (Answers stop is read tokens) h (steady tokens))
