-- Steps of a reading that went through: what each of them gave, and that a test found nothing.
use Rattle.std.proofs.Common.{◌≡◌, ℕ, ◌≤◌, nat_lt, Bool, true, false, ◌||◌, Option, Some, None, Result, Ok, Err, option_map, refl, arith}
use Rattle.std.proofs.lemmas.Bool.Decides.{nat_tests}
use Rattle.std.specs.Option.{option_or}
use Rattle.text_model.specs.Steps.{◌>>=◌, map_err, or_refuse, refuse_if, refuse_some}

pub bound : {A B E : Type 0} (m : Result A E) (next : A → Result B E) (y : B) → (m >>= next) ≡ Ok y → (x : A) × (m ≡ Ok x) × (next x ≡ Ok y)
bound (Ok x) next y e = (x, refl, e)
bound (Err r) next y e = cc

pub same-ok : {A E : Type 0} (x y : A) → ◌≡◌ {A = Result A E} (Ok x) (Ok y) → x ≡ y
same-ok x y e = cc

pub untold : {A E F : Type 0} (told : E → F) (r : Result A E) (y : A) → map_err told r ≡ Ok y → r ≡ Ok y
untold told (Ok x) y e = cc
untold told (Err r) y e = cc

-- a value that was there
pub unrefused : {A E : Type 0} (e : E) (o : Option A) (x : A) → or_refuse e o ≡ Ok x → o ≡ Some x
unrefused e (Some z) x h = cc
unrefused e None x h = absurd cc

pub let-through : {A B E : Type 0} (refusal : A → E) (found : Option A) (next : Unit {0} → Result B E) (y : B) → (refuse_some refusal found >>= next) ≡ Ok y →
    (found ≡ None) × (next tt ≡ Ok y)
let-through refusal None next y e = (refl, e)
let-through refusal (Some x) next y e = cc

pub passed : {B E : Type 0} (test : Bool) (refusal : E) (next : Unit {0} → Result B E) (y : B) → (refuse_if test refusal >>= next) ≡ Ok y →
    (test ≡ false) × (next tt ≡ Ok y)
passed false refusal next y e = (refl, e)
passed true refusal next y e = cc

-- nothing was found

pub unmapped : {A B : Type 0} (f : A → B) (o : Option A) → option_map f o ≡ None → o ≡ None
unmapped f None e = refl
unmapped f (Some x) e = cc

pub neither : {B : Type 0} (o p : Option B) → option_or o p ≡ None → (o ≡ None) × (p ≡ None)
neither None p e = (refl, e)
neither (Some x) p e = cc

pub either-false : (a b : Bool) → (a || b) ≡ false → (a ≡ false) × (b ≡ false)
either-false true b e = cc
either-false false b e = (refl, e)

pub at-most : (a b : ℕ) → nat_lt b a ≡ false → a ≤ b
at-most a b test = grind (arith, nat_tests)
