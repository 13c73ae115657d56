-- What a pass has done only grows, and grows with each item that it adds and each result that it takes.
use Rattle.std.proofs.Common.{◌≡◌, ℕ, ◌+◌, ◌-◌, ◌≤◌, Bool, true, false, cond, not, List, [], ◌∷◌, ◌++◌, length, length-append, Option, Some, None, sym, ap, ◌∙◌, subst, arith}
use Rattle.std.proofs.lemmas.List.FromFn.{length-range_with_len}
use Rattle.expr_code.specs.Claim.{Claim as Work}
use Rattle.hall_loop.specs.Beside.{HasDone, deeds}
use Rattle.hall_loop.specs.declared.step.Step.{Step}
use Rattle.hall_loop.specs.declared.step.Step.TheVariants.{Result as Came, Went, Idle, Over, NoMemory, Lost}
use Rattle.hive_hall.specs.Calls.{BookSays, Calls, is_empty}
use Rattle.hive_hall.specs.Pass.{job_of, number_of, own, seen, slots_of, took}
use Rattle.hive_hall.specs.Says.{ClaimHere, Histories, RetireHere}
use Rattle.hive_hall.specs.declared.answers.Ask.TheVariants.{Told}
use Rattle.hive_hall.specs.declared.answers.Book.{Book}
use Rattle.hive_hall.specs.declared.answers.Book.TheVariants as book
use Rattle.hive_hall.specs.declared.hall.Hall.{Hall}
use Rattle.hive_hall.specs.declared.pass.Pass.{Pass}
use Rattle.hive_model.specs.History.{positions_added}
use Rattle.hive_model.specs.declared.item.Item.{Item}
use Rattle.scheduler_core.specs.declared.answers.Claim.{Claim}
use Rattle.scheduler_core.specs.declared.answers.Claim.TheVariants.{Job as Working}
use Rattle.scheduler_core.specs.declared.answers.Finished.{Finished}

-- as many positions as items
adds-one : (found left : List Item) (item : Item) → left ≡ found ++ item ∷ [] →
    length (positions_added found left) ≡ 1
adds-one found left item is =
    let long : length left ≡ length found + 1 = ap length is ∙ length-append found (item ∷ []) in
    let many = length-range_with_len (length found) (length left - length found) in
    omega (arith, long, many)

module _ (p q : Pass) where
  pub call-grows : {happened : Histories} → Calls happened p q → took q ≡ took p → deeds p ≤ deeds q
  call-grows it same =
      omega (arith, ap length it.own_more, length-append (own p) (positions_added it.found (seen q)), ap length same)

  more : {happened : Histories} (it : Calls happened p q) (item : Item) → seen q ≡ it.found ++ item ∷ [] →
      took q ≡ took p → 1 + deeds p ≤ deeds q
  more it item added same =
      omega (
        arith,
        ap length it.own_more,
        length-append (own p) (positions_added it.found (seen q)),
        ap length same,
        adds-one it.found (seen q) item added,
      )

  pub claim-done : (hall : Hall) (answer : Claim) (v : Work) → answer ≡ Working v →
      Calls (ClaimHere (job_of hall) (slots_of hall) (number_of p) (Told answer)) p q → took q ≡ took p →
      1 + deeds p ≤ deeds q
  claim-done hall answer v is call same =
      let it : Calls (ClaimHere (job_of hall) (slots_of hall) (number_of p) (Told (Working v))) p q =
      subst (λ (a : Claim). Calls (ClaimHere (job_of hall) (slots_of hall) (number_of p) (Told a)) p q) is call in
      more it _ it.step.1.added.1 same

  pub retire-done : (hall : Hall) (f : Finished) →
      Calls (RetireHere (job_of hall) (slots_of hall) (Some f)) p q → took q ≡ took p → 1 + deeds p ≤ deeds q
  retire-done hall f it same = more it _ it.step.added.1 same

  pub book-done : (hall : Hall) (answer : Book) → BookSays hall answer p q →
      cond (not (is_empty answer)) 1 0 + deeds p ≤ deeds q
  book-done hall book.Booked it =
      omega (
        arith,
        ap length it.call.own_more,
        length-append (own p) (positions_added it.call.found (seen q)),
        ap length it.took_more,
        length-append (took p) (it.value ∷ []),
      )
  book-done hall (book.NotOutstanding back) it =
      omega (
        arith,
        ap length it.call.own_more,
        length-append (own p) (positions_added it.call.found (seen q)),
        ap length it.took_more,
        length-append (took p) (it.value ∷ []),
      )
  book-done hall book.Empty it = omega (arith, ap length it.0.own_same, ap length it.1.1)

-- what was done before counts, too
pub done-before : (s : Step) (p m q : Pass) → 1 + deeds p ≤ deeds m → HasDone 0 s m q → HasDone 1 s p q
done-before (Came r) p m q before h = h
done-before Went p m q before h = omega (arith, before, h)
done-before Idle p m q before h = h
done-before Over p m q before h = h
done-before NoMemory p m q before h = h
done-before Lost p m q before h = h

pub grown-before : (s : Step) (p m q : Pass) → deeds p ≤ deeds m → HasDone 1 s m q → HasDone 1 s p q
grown-before (Came r) p m q before h = h
grown-before Went p m q before h = omega (arith, before, h)
grown-before Idle p m q before h = h
grown-before Over p m q before h = h
grown-before NoMemory p m q before h = h
grown-before Lost p m q before h = h
