-- The rule begins with one pass, which is then told the job. A new pass keeps the rule, and so do two that are joined.
use Rattle.std.proofs.Common.{◌≡◌, ℕ, zero, suc, ◌≤◌, ◌<◌, Bool, true, false, nat_lt, cond, List, [], ◌∷◌, ◌++◌, set, Option, Some, None, refl, sym, ap, ◌∙◌, subst, arith, append-nil, ltb-true, ltb-false}
use Rattle.std.specs.List.Sorted.{IsPermutation}
use Rattle.std.proofs.lemmas.List.Elements.{All-nil}
use Rattle.std.proofs.lemmas.List.Sorted.{IsPermutation-refl, IsPermutation-sym, IsPermutation-trans, IsPermutation-append_left}
use Rattle.std.proofs.lemmas.List.Concat.{flat_map-append}
use Rattle.std.proofs.lemmas.List.Sums.{sum_by_push}
use mathlib.Core.Logic.{dite}
use mathlib.Core.Option.{some, some-injective, some-ne-none}
use native.Mathlib.Decide.{ℕ_discrete}
use lib.ListN.{get_elem?}
use Rattle.crossbeam_queue.proofs.Lists.{at_longer, set_else}
use Rattle.crossbeam_queue.specs.Fifo.{Forks, Merges}
use Rattle.expr_code.specs.Claim.{Done}
use Rattle.hive_model.specs.Job.{Job}
use Rattle.action_queue.specs.declared.view.Tally.{Tally}
use Rattle.action_queue.specs.View.{tally, first, spent, kept, dealt, both}
use Rattle.action_queue.specs.Rule.{IsMade, parts_held, all_put, all_took, Fits, Ruled}
use Rattle.action_queue.proofs.Lists.{set_there, each_set, each_snoc, flat_same, flat_join}
use Rattle.action_queue.proofs.Parts.{sum_set}

-- the first pass alone, which has what both numbers say
alone : (job : Option Job) (made : ℕ) (others : List Tally) → 0 < made
    → (job ≡ None → tally job made made [] [] 0 [] ∷ others ≡ first ∷ [])
    → ((j : ℕ) (u : Tally) → get_elem? others j ≡ some u → u ≡ spent)
    → parts_held (tally job made made [] [] 0 [] ∷ others) ≡ made
    → IsPermutation (all_put (tally job made made [] [] 0 [] ∷ others)) (all_took (tally job made made [] [] 0 [] ∷ others) ++ [])
    → Ruled [] (tally job made made [] [] 0 [] ∷ others)
alone job made others some_made untold idle sum balance = record {
  job = job;
  made = made;
  now = 0;
  each = each;
  fresh = λ none. (untold none, refl);
  start = λ _. refl;
  latest = (0, tally job made made [] [] 0 [], refl, refl);
  all_parts = sum;
  of_job = All-nil (IsMade job);
  balance = balance;
}
  where
    spent_fits : Fits job made 0 [] spent
    spent_fits = record { named = λ no. absurd (omega arith); before = omega arith; knows = λ _. refl; idle = λ _. (refl, refl, refl) }

    each : (j : ℕ) (u : Tally) → get_elem? (tally job made made [] [] 0 [] ∷ others) j ≡ some u → Fits job made 0 [] u
    each zero u at = subst (Fits job made 0 []) (some-injective (tally job made made [] [] 0 []) u at)
        (record { named = λ _. (refl, refl); before = omega arith; knows = λ _. refl; idle = λ none. absurd (omega arith) })
    each (suc j) u at = subst (Fits job made 0 []) (sym (idle j u at)) spent_fits

pub begins : Ruled [] (first ∷ [])
begins = alone None 1 [] (omega arith) (λ _. refl) (λ j u at. absurd (some-ne-none u (sym at))) refl (IsPermutation-refl [])

-- the first pass is told the job, and beside it stands one with no part
pub names : (port : ℕ) (v : Tally) (told : Option Job) (job : Job) (made : ℕ) → v ≡ first → told ≡ Some job → 0 < made
    → Forks Ruled port v (tally told made made [] [] 0 []) spent
names port v told job made is told_is some_made items views r at =
    let some_part : 0 < v.parts = subst (λ (u : Tally). 0 < u.parts) (sym is) (omega arith) in
    let mine = ((r.each port v at).named some_part).0 in
    let untold : r.job ≡ None = sym mine ∙ ap (λ (u : Tally). u.job) is in
    let only = r.fresh untold in
    let left : Tally = tally told made made [] [] 0 [] in
    subst (λ (y : List Done × List Tally). Ruled y.0 (set y.1 port left ++ spent ∷ [])) (λ i. (sym only.1 i, sym only.0 i))
    (at_port port (subst (λ (y : List Tally × Tally). get_elem? y.0 port ≡ some y.1) (λ i. (only.0 i, is i)) at))
  where
    at_port : (j : ℕ) → get_elem? (first ∷ []) j ≡ some first → Ruled [] (set (first ∷ []) j (tally told made made [] [] 0 []) ++ spent ∷ [])
    at_port zero there = alone told made (spent ∷ []) some_made (λ none. absurd (cc)) idle (sum made) (IsPermutation-refl [])
      where
        idle : (k : ℕ) (u : Tally) → get_elem? (spent ∷ []) k ≡ some u → u ≡ spent
        idle zero u e = sym (some-injective spent u e)
        idle (suc k) u e = absurd (some-ne-none u (sym e))

        sum : (n : ℕ) → parts_held (tally told n n [] [] 0 [] ∷ spent ∷ []) ≡ n
        sum n = omega arith
    at_port (suc j) there = absurd (some-ne-none first (sym there))

-- who has two parts gives one to a new pass
pub deals : (port : ℕ) (v : Tally) (job : Job) → 1 < v.parts → v.job ≡ Some job → Forks Ruled port v (kept v) (dealt v)
deals port v job two is items views r at =
    let left : Tally = kept v in
    let right : Tally = dealt v in
    let vs : List Tally = set views port left in
    let f = r.each port v at in
    let mine = f.named (omega arith) in
    let sum_left = sum_set (λ (u : Tally). u.parts) views port v left at in
    let sum_both = sum_by_push (λ (u : Tally). u.parts) vs right in
    let all = r.all_parts in
    let put : all_put (vs ++ right ∷ []) ≡ all_put views =
    flat_map-append (λ (u : Tally). u.put) vs (right ∷ []) ∙ (append-nil (all_put vs) ∙ flat_same (λ (u : Tally). u.put) views port v left at refl) in
    let took : all_took (vs ++ right ∷ []) ≡ all_took views =
    flat_map-append (λ (u : Tally). u.took) vs (right ∷ []) ∙ (append-nil (all_took vs) ∙ flat_same (λ (u : Tally). u.took) views port v left at refl) in
    let last = r.latest in record {
      job = r.job;
      made = r.made;
      now = r.now;
      each = each_snoc (Fits r.job r.made r.now items) vs right
          (record { named = λ _. mine; before = omega arith; knows = λ now. sym (r.start (sym now)); idle = λ none. absurd (omega arith) })
          (each_set (Fits r.job r.made r.now items) views port left
          (record { named = λ _. mine; before = f.before; knows = f.knows; idle = λ none. absurd (omega arith) })
          (λ j u apart there. r.each j u there));
      fresh = λ none. let same = mine.0 in absurd (cc);
      start = r.start;
      latest = dite (ℕ_discrete last.0 port)
          (λ same.
          let is_v : last.1 ≡ v = some-injective last.1 v (sym last.2 ∙ (ap (get_elem? views) same ∙ at)) in
          (port, left, at_longer vs (right ∷ []) port left (set_there views port v left at), ap (λ (u : Tally). u.time) (sym is_v) ∙ last.3))
          (λ apart. (last.0, last.1, at_longer vs (right ∷ []) last.0 last.1 (set_else views port last.0 left apart ∙ last.2), last.3));
      all_parts = omega arith;
      of_job = r.of_job;
      balance = subst (λ (y : List Done × List Done). IsPermutation y.0 (y.1 ++ items)) (λ i. (sym put i, sym took i)) r.balance;
    }

-- of two numbers not above n, the greater isn't either; where either is n it is n, and the list beside it is the known one
later_fits : (t u now : ℕ) (xs ys items : List Done) (less : Bool) → nat_lt t u ≡ less → t ≤ now → u ≤ now
    → (t ≡ now → xs ≡ items) → (u ≡ now → ys ≡ items)
    → (cond less u t ≤ now) × (cond less u t ≡ now → cond less ys xs ≡ items) × (t ≡ now → cond less u t ≡ now) × (u ≡ now → cond less u t ≡ now)
later_fits t u now xs ys items true e below above left right =
    let less : t < u = ltb-true t u e in
    (above, right, (λ h. omega arith), λ h. h)
later_fits t u now xs ys items false e below above left right =
    let least : u ≤ t = ltb-false t u e in
    (below, left, (λ h. h), λ h. omega arith)

-- a pass takes in another, which is spent
pub merges : (port : ℕ) (v : Tally) (other : ℕ) (w : Tally) (job : Job) → 0 < v.parts → 0 < w.parts → v.job ≡ Some job
    → Merges Ruled port v other w (both v w) spent
merges port v other w job some_part other_part is items views r at apart there =
    let joined : Tally = both v w in
    let vs : List Tally = set views port joined in
    let was : get_elem? views other ≡ some w = sym (set_else views port other joined apart) ∙ there in
    let still : get_elem? (set views other spent) port ≡ some v = set_else views other port spent (λ same. apart (sym same)) ∙ at in
    let f = r.each port v at in
    let g = r.each other w was in
    let mine = f.named some_part in
    let sum_joined = sum_set (λ (u : Tally). u.parts) views port v joined at in
    let sum_spent = sum_set (λ (u : Tally). u.parts) vs other w spent there in
    let all = r.all_parts in
    let put = flat_join (λ (u : Tally). u.put) views port other v w joined spent at was apart still refl refl in
    let took = flat_join (λ (u : Tally). u.took) views port other v w joined spent at was apart still refl refl in
    let later = later_fits v.time w.time r.now v.rest w.rest items (nat_lt v.time w.time) refl f.before g.before f.knows g.knows in
    let last = r.latest in
    let here : get_elem? (set vs other spent) port ≡ some joined =
    set_else vs other port spent (λ same. apart (sym same)) ∙ set_there views port v joined at in record {
      job = r.job;
      made = r.made;
      now = r.now;
      each = each_set (Fits r.job r.made r.now items) vs other spent
          (record {
            named = λ none. absurd (omega arith);
            before = omega arith;
            knows = λ now. sym (r.start (sym now));
            idle = λ _. (refl, refl, refl);
          })
          (λ j u _ now. each_set (Fits r.job r.made r.now items) views port joined
          (record { named = λ _. mine; before = later.0; knows = later.1; idle = λ none. absurd (omega arith) })
          (λ k y _ before. r.each k y before) j u now);
      fresh = λ none. let same = mine.0 in absurd (cc);
      start = r.start;
      latest = dite (ℕ_discrete last.0 port)
          (λ same.
          let is_v : last.1 ≡ v = some-injective last.1 v (sym last.2 ∙ (ap (get_elem? views) same ∙ at)) in
          (port, joined, here, later.2 (ap (λ (u : Tally). u.time) (sym is_v) ∙ last.3)))
          (λ not_port. dite (ℕ_discrete last.0 other)
          (λ same.
          let is_w : last.1 ≡ w = some-injective last.1 w (sym last.2 ∙ (ap (get_elem? views) same ∙ was)) in
          (port, joined, here, later.3 (ap (λ (u : Tally). u.time) (sym is_w) ∙ last.3)))
          (λ not_other. (last.0, last.1, set_else vs other last.0 spent not_other ∙ (set_else views port last.0 joined not_port ∙ last.2), last.3)));
      all_parts = omega arith;
      of_job = r.of_job;
      balance = IsPermutation-trans (all_put (set vs other spent)) (all_put views) (all_took (set vs other spent) ++ items) put
          (IsPermutation-trans (all_put views) (all_took views ++ items) (all_took (set vs other spent) ++ items) r.balance
          (IsPermutation-append_left items (all_took views) (all_took (set vs other spent)) (IsPermutation-sym (all_took (set vs other spent)) (all_took views) took)));
    }
