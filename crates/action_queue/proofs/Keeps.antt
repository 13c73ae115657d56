-- The rule begins, and puts, takes and new passes keep it. Who has all parts knows what waits.
use Rattle.std.proofs.Common.{◌≡◌, ◌≢◌, ℕ, ◌+◌, ◌<◌, List, [], ◌∷◌, ◌++◌, All, length, set, Option, Some, None, refl, sym, ap, ◌∙◌, subst, arith, append_assoc}
use Rattle.std.specs.List.Sorted.{IsPermutation}
use Rattle.std.proofs.lemmas.List.Elements.{All-head, All-tail, All-push}
use Rattle.std.proofs.lemmas.List.Sorted.{IsPermutation-sym, IsPermutation-trans, IsPermutation-append_left}
use mathlib.Core.Logic.{dite}
use mathlib.Core.Option.{some, some-injective}
use native.Mathlib.Decide.{ℕ_discrete}
use lib.ListN.{get_elem?}
use Rattle.crossbeam_queue.specs.Fifo.{Pushes, Pops, Learns}
use Rattle.expr_code.specs.Claim.{Done, IsOfJob}
use Rattle.hive_model.specs.Job.{Job}
use Rattle.action_queue.specs.declared.limits.TheConstants.{MOST_WAITING}
use Rattle.action_queue.specs.declared.view.Tally.{Tally}
use Rattle.action_queue.specs.View.{tally}
use Rattle.action_queue.specs.Rule.{IsMade, parts_held, all_put, all_took, Fits, Ruled}
use Rattle.action_queue.specs.Steps.{IsWhole, Put, Took, Knows, Settled}
use Rattle.action_queue.proofs.Lists.{set_there, each_set, flat_same, flat_more, flat_lone}
use Rattle.action_queue.proofs.Parts.{sum_set, others_none}

-- who has all parts knows what waits
pub whole : (items : List Done) (views : List Tally) (port : ℕ) (v : Tally) → Ruled items views
    → get_elem? views port ≡ some v → 0 < v.parts → IsWhole v → v.rest ≡ items
whole items views port v r at some_part all =
    let f = r.each port v at in
    let parts = r.all_parts in
    let made : v.made ≡ r.made = (f.named some_part).1 in
    let mine : parts_held views ≡ v.parts = omega arith in
    let last = r.latest in
    let g = r.each last.0 last.1 last.2 in
    let time = last.3 in
    dite (ℕ_discrete last.0 port)
    (λ same.
    let is : last.1 ≡ v = some-injective last.1 v (sym last.2 ∙ (ap (get_elem? views) same ∙ at)) in
    f.knows (ap (λ (u : Tally). u.time) (sym is) ∙ time))
    (λ apart.
    let none : last.1.parts ≡ 0 = others_none (λ (u : Tally). u.parts) views port v at mine last.0 last.1 apart last.2 in
    let still : last.1.time ≡ 0 = (g.idle none).2 in
    let before = f.before in
    f.knows (omega arith))

-- a step of one pass, from `before` to `after`
step : (before after : List Done) (views : List Tally) (port : ℕ) (v w : Tally) (r : Ruled before views)
    → get_elem? views port ≡ some v → 0 < v.parts → r.job ≢ None
    → w.job ≡ v.job → w.made ≡ v.made → w.parts ≡ v.parts → w.time ≡ r.now + 1 → w.rest ≡ after
    → All (IsMade r.job) after → IsPermutation (all_put (set views port w)) (all_took (set views port w) ++ after)
    → Ruled after (set views port w)
step before after views port v w r at some_part told job made parts time rest of_job balance =
    let f = r.each port v at in
    let mine = f.named some_part in
    let sum = sum_set (λ (u : Tally). u.parts) views port v w at in
    let all = r.all_parts in record {
      job = r.job;
      made = r.made;
      now = r.now + 1;
      each = each_set (Fits r.job r.made (r.now + 1) after) views port w
          (record {
            named = λ _. (job ∙ mine.0, made ∙ mine.1);
            before = omega arith;
            knows = λ _. rest;
            idle = λ none. absurd (omega arith);
          })
          (λ j u apart there.
          let g = r.each j u there in
          let earlier = g.before in record {
            named = g.named;
            before = omega arith;
            knows = λ now. absurd (omega arith);
            idle = g.idle;
          });
      fresh = λ none. absurd (told none);
      start = λ none. absurd (omega arith);
      latest = (port, w, set_there views port v w at, time);
      all_parts = omega arith;
      of_job = of_job;
      balance = balance;
    }

-- the job was told, since this pass knows it
told_by : (items : List Done) (views : List Tally) (port : ℕ) (v : Tally) (job : Job) (r : Ruled items views)
    → get_elem? views port ≡ some v → 0 < v.parts → v.job ≡ Some job → r.job ≢ None
told_by items views port v job r at some_part is none =
    let same = ((r.each port v at).named some_part).0 in absurd (cc)

pub puts : (n port : ℕ) (v : Tally) (x : Done) (job : Job) → n ≡ MOST_WAITING → 0 < v.parts → v.job ≡ Some job → IsOfJob job x.claim
    → Pushes Ruled n port v x (Put v x)
puts n port v x job size some_part is of_job items views room r at =
    let after : List Done = items ++ x ∷ [] in
    let w : Tally = tally v.job v.made v.parts (v.put ++ x ∷ []) v.took (r.now + 1) after in
    let told = told_by items views port v job r at some_part is in
    let same_job = ((r.each port v at).named some_part).0 in
    let fits : IsMade r.job x = λ j e. subst (λ (k : Job). IsOfJob k x.claim) (some_job job j (sym is ∙ (same_job ∙ e))) of_job in
    let put = flat_more (λ (u : Tally). u.put) views port v w x at refl in
    let took : all_took (set views port w) ≡ all_took views = flat_same (λ (u : Tally). u.took) views port v w at refl in
    let more = IsPermutation-append_left (x ∷ []) (all_put views) (all_took views ++ items) r.balance in
    let balance : IsPermutation (all_put (set views port w)) (all_took (set views port w) ++ after) =
    subst (IsPermutation (all_put (set views port w))) (append_assoc (all_took views) items (x ∷ []) ∙ ap (λ l. l ++ after) (sym took))
    (IsPermutation-trans (all_put (set views port w)) (all_put views ++ x ∷ []) ((all_took views ++ items) ++ x ∷ []) put more) in (
      w,
      step items after views port v w r at some_part told refl refl refl refl refl (All-push (IsMade r.job) items x r.of_job fits) balance,
      (
        (refl, refl, refl),
        refl,
        refl,
        λ all. let is_all = whole items views port v r at some_part all in (subst (λ (y : List Done × ℕ). length y.0 < y.1) (λ i. (sym is_all i, size i)) room, ap (λ l. l ++ x ∷ []) (sym is_all)),
      ),
    )
  where
    some_job : (a b : Job) → Some a ≡ Some b → a ≡ b
    some_job a b e = cc

-- a result that was taken no longer waits
taken : (put took items before : List Done) (x : Done) → put ≡ before → IsPermutation took (items ++ x ∷ [])
    → (rest : List Done) → IsPermutation before (items ++ x ∷ rest) → IsPermutation put (took ++ rest)
taken put took items before x same more rest balance =
    let back : IsPermutation ((items ++ x ∷ []) ++ rest) (took ++ rest) =
    IsPermutation-append_left rest (items ++ x ∷ []) took (IsPermutation-sym took (items ++ x ∷ []) more) in
    let moved : IsPermutation before ((items ++ x ∷ []) ++ rest) =
    subst (IsPermutation before) (sym (append_assoc items (x ∷ []) rest)) balance in
    subst (λ l. IsPermutation l (took ++ rest)) (sym same)
    (IsPermutation-trans before ((items ++ x ∷ []) ++ rest) (took ++ rest) moved back)

pub takes : (port : ℕ) (v : Tally) → 0 < v.parts → Pops Ruled port v (Took v)
takes port v some_part x items views r at =
    let w : Tally = tally v.job v.made v.parts v.put (v.took ++ x ∷ []) (r.now + 1) items in
    let told : r.job ≢ None = λ none. let empty = (r.fresh none).1 in absurd (cc) in
    let same_job = ((r.each port v at).named some_part).0 in
    let made : IsMade r.job x = All-head (IsMade r.job) x items r.of_job in
    let put : all_put (set views port w) ≡ all_put views = flat_same (λ (u : Tally). u.put) views port v w at refl in
    let took = flat_more (λ (u : Tally). u.took) views port v w x at refl in
    let balance : IsPermutation (all_put (set views port w)) (all_took (set views port w) ++ items) = taken (all_put (set views port w)) (all_took (set views port w)) (all_took views) (all_put views) x put took items r.balance in (
      w,
      step (x ∷ items) items views port v w r at some_part told refl refl refl refl refl (All-tail (IsMade r.job) x items r.of_job) balance,
      (
        (refl, refl, refl),
        refl,
        refl,
        (λ all. whole (x ∷ items) views port v r at some_part all),
        λ j e. made j (sym same_job ∙ e),
      ),
    )

pub knows : (port : ℕ) (v : Tally) → 0 < v.parts → Learns Ruled port v (Knows v)
knows port v some_part items views r at = λ all. whole items views port v r at some_part all

-- who has all parts knows all that was put and taken
pub settles : (port : ℕ) (v : Tally) → 0 < v.parts → IsWhole v → Learns Ruled port v (Settled v)
settles port v some_part all items views r at =
    let f = r.each port v at in
    let parts = r.all_parts in
    let mine = f.named some_part in
    let made : v.made ≡ r.made = mine.1 in
    let sum : parts_held views ≡ v.parts = omega arith in
    let idle = λ (j : ℕ) (u : Tally) (apart : j ≢ port) (there : get_elem? views j ≡ some u). (r.each j u there).idle (others_none (λ (y : Tally). y.parts) views port v at sum j u apart there) in
    let put : all_put views ≡ v.put = flat_lone (λ (u : Tally). u.put) views port v at (λ j u apart there. (idle j u apart there).0) in
    let took : all_took views ≡ v.took = flat_lone (λ (u : Tally). u.took) views port v at (λ j u apart there. (idle j u apart there).1) in (
      whole items views port v r at some_part all,
      subst (λ (y : List Done × List Done). IsPermutation y.0 (y.1 ++ items)) (λ i. (put i, took i)) r.balance,
      subst (λ (job : Option Job). All (IsMade job) items) (sym mine.0) r.of_job,
    )
