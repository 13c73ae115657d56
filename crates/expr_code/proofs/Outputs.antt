-- An execution over the frame of what is computed so far.
use Rattle.std.proofs.Common.{◌≡◌, ℕ, ◌+◌, ◌<◌, List, [], ◌∷◌, ◌++◌, Some, Result, Ok, Err, IfOk, length, get_or, refl, sym, ap, subst, ◌∙◌}
use Rattle.event_laws.proofs.Executions.{IsComputed, computed-more, seen_more, filtered-ok, filtered-err}
use Rattle.hive_model.specs.Algorithm.{Algorithm}
use Rattle.hive_model.specs.Execution.{execution, failed, filtered, passed, seen}
use Rattle.hive_model.specs.Number.{Worth}
use Rattle.hive_model.specs.Value.{value_of}
use Rattle.hive_model.specs.declared.algorithm.Output.{Output}
use Rattle.hive_model.specs.declared.expr.Node.{Node}
use Rattle.hive_model.specs.declared.outcome.Fault.{Fault}
use Rattle.hive_model.specs.declared.outcome.Outcome.{Outcome}
use Rattle.hive_model.specs.declared.outcome.Place.TheVariants as place
use Rattle.hive_model.specs.declared.product.Product.{Product}
use Rattle.expr_code.specs.Stack.{verdict}

pub computed-start : (a : Algorithm) (inputs above : List Product) → above ≡ [] →
    IsComputed a inputs (seen a inputs above) above 0
unfolding execution
computed-start a inputs above e = rw e (record { held_is = refl; count = refl; rest = refl })

pub computed-next : (a : Algorithm) (inputs above outputs : List Product) (number : ℕ) (o : Output) (p : Product) →
    number < length a.outputs → o ≡ get_or a.outputs number o → value_of (seen a inputs above) o.value ≡ Ok p →
    outputs ≡ above ++ p ∷ [] → IsComputed a inputs (seen a inputs above) above number →
    IsComputed a inputs (seen a inputs outputs) outputs (number + 1)
computed-next a inputs above outputs number o p h e v is c =
    computed-more a inputs (seen a inputs above) (seen a inputs outputs) above outputs number o p h e v
    (ap (seen a inputs) is ∙ seen_more a inputs above p ∙ ap (λ n. seen a inputs above ++ (a.first_output + n, p) ∷ []) c.count)
    is c

pub filtered-ruled : (a : Algorithm) (inputs outputs : List Product) (x : List Node) (w : Worth) (o : Outcome) →
    a.filter ≡ Some x → w ≡ value_of (seen a inputs outputs) x → verdict w ≡ Ok o →
    record { outcome = o; outputs = outputs } ≡ filtered a inputs outputs
filtered-ruled a inputs outputs x (Ok p) o e v h =
    let same : record { outcome = o; outputs = outputs } ≡ passed outputs p = cc in
    same ∙ filtered-ok a inputs outputs (seen a inputs outputs) x p e refl (sym v)
filtered-ruled a inputs outputs x (Err f) o e v h = cc

pub filtered-fault : (a : Algorithm) (inputs outputs : List Product) (x : List Node) (w : Worth) (f : Fault) →
    a.filter ≡ Some x → w ≡ value_of (seen a inputs outputs) x → verdict w ≡ Err f →
    failed place.Filter f ≡ filtered a inputs outputs
filtered-fault a inputs outputs x (Ok p) f e v h = cc
filtered-fault a inputs outputs x (Err g) f e v h =
    let same : g ≡ f = cc in
    ap (failed place.Filter) (sym same) ∙ filtered-err a inputs outputs (seen a inputs outputs) x g e refl (sym v)

-- what holds of each value holds of this one
pub if_ok : {X E : Type 0} (P : X → Type 0) (r : Result X E) (x : X) → IfOk r P → r ≡ Ok x → P x
if_ok P (Ok y) x h e = let same : y ≡ x = cc in subst P same h
if_ok P (Err f) x h e = cc
