-- What a run has come to, as its pass sees more and adds entries.
use Rattle.std.proofs.Common.{◌≡◌, ℕ, ◌+◌, ◌<◌, ◌≤◌, true, cond, List, [], ◌∷◌, ◌++◌, length, Some, sym, ap, ◌∙◌, subst, arith, append_assoc, length-append}
use Rattle.std.proofs.lemmas.List.Elements.{All-push}
use Rattle.std.proofs.lemmas.List.Sums.{sum_by-append}
use Rattle.std.specs.List.{All, count_by}
use Rattle.expr_code.specs.Claim.{Claim as Work}
use Rattle.hive_hall.proofs.Items.{journal-parts}
use Rattle.hive_hall.specs.Pass.{IsPassOf, number_of, own, seen}
use Rattle.hive_hall.specs.declared.hall.Hall.{Hall}
use Rattle.hive_hall.specs.declared.pass.Pass.{Pass}
use Rattle.hive_model.specs.History.{BeginsWith, journal_of}
use Rattle.hive_model.specs.Machine.{Machine, Outstanding}
use Rattle.hive_model.specs.declared.entry.Entry.{Entry}
use Rattle.hive_model.specs.declared.item.Item.{Item}
use Rattle.hive_model.specs.declared.item.Item.TheVariants.{Entered}
use Rattle.hive_workers.proofs.Accounts.{fewer-works, later-accounts, more-works}
use Rattle.hive_workers.proofs.Moves.{SeesMore, SeesOwn, has-led}
use Rattle.hive_workers.proofs.Standing.{count-front, count-last, stands-front, stands-last, ticket-last}
use Rattle.hive_workers.specs.Items.{count_at, is_back, is_claim, is_done, is_work, stands_at, ticket_at}
use Rattle.hive_workers.specs.Outstanding.{AreAccounted, IsAccounted, IsOutAt, IsWorkFor, state_after}

-- entries of a worker's kind stand at the positions, so many of each kind
pub record Stand (claims backs dones : ℕ) (items : List Item) (positions : List ℕ) : Type 0 where
  pub within : All (λ n. n < length items) positions
  pub only : All (λ n. stands_at is_work items n ≡ true) positions
  pub claims_are : count_at is_claim items positions ≡ claims
  pub backs_are : count_at is_back items positions ≡ backs
  pub dones_are : count_at is_done items positions ≡ dones

stand-more : (claims backs dones : ℕ) (items rest : List Item) (positions : List ℕ) →
    Stand claims backs dones items positions → Stand claims backs dones (items ++ rest) positions
stand-more claims backs dones items rest positions it = record {
  within = λ k d h. let less = it.within k d h in let longer = length-append items rest in omega arith;
  only = λ k d h. stands-front is_work items rest _ (it.within k d h) ∙ it.only k d h;
  claims_are = count-front is_claim items rest positions it.within ∙ it.claims_are;
  backs_are = count-front is_back items rest positions it.within ∙ it.backs_are;
  dones_are = count-front is_done items rest positions it.within ∙ it.dones_are;
}

stand-own : (claims backs dones : ℕ) (found : List Item) (e : Entry) (positions : List ℕ) → is_work e ≡ true →
    Stand claims backs dones found positions →
    Stand (claims + cond (is_claim e) 1 0) (backs + cond (is_back e) 1 0) (dones + cond (is_done e) 1 0)
    (found ++ Entered e ∷ []) (positions ++ length found ∷ [])
stand-own claims backs dones found e positions works it =
    let more = stand-more claims backs dones found (Entered e ∷ []) positions it in
    let items = found ++ Entered e ∷ [] in
    let longer = length-append found (Entered e ∷ []) in
    record {
      within = All-push (λ (n : ℕ). n < length items) positions (length found) more.within (omega arith);
      only = All-push (λ (n : ℕ). stands_at is_work items n ≡ true) positions (length found) more.only
          (stands-last is_work found e ∙ works);
      claims_are = count-last is_claim found e positions it.within
          ∙ ap (λ (n : ℕ). n + cond (is_claim e) 1 0) it.claims_are;
      backs_are = count-last is_back found e positions it.within
          ∙ ap (λ (n : ℕ). n + cond (is_back e) 1 0) it.backs_are;
      dones_are = count-last is_done found e positions it.within
          ∙ ap (λ (n : ℕ). n + cond (is_done e) 1 0) it.dones_are;
    }

-- What a run added to the history, and that its claims are accounted for by this work.
pub record HasEntered (hall : Hall) (p : Pass) (claims backs dones : ℕ) (works : List Work) (added : List ℕ)
    (q : Pass) :
    Type 0 where
  pub begins : BeginsWith (seen q) (seen p)
  pub number_same : number_of q ≡ number_of p
  pub own_more : own q ≡ own p ++ added
  pub new : All (λ n. length (seen p) ≤ n) added
  pub stand : Stand claims backs dones (seen q) added
  pub few : claims ≤ count_by is_claim (journal_of (seen q))
  pub accounted : (m : Machine) → state_after hall (seen q) ≡ Some m → AreAccounted (seen q) added works m

begins-later : (first mid last : List Item) → BeginsWith mid first → BeginsWith last mid → BeginsWith last first
begins-later first mid last a b =
    (a.0 ++ b.0, b.1 ∙ (ap (λ (l : List Item). l ++ b.0) a.1 ∙ append_assoc first a.0 b.0))

-- the journal of a longer history has as many claims, or more
claims-grow : (items rest : List Item) →
    count_by is_claim (journal_of items) ≤ count_by is_claim (journal_of (items ++ rest))
claims-grow items rest =
    let f : Entry → ℕ = λ e. cond (is_claim e) 1 0 in
    let whole = ap (count_by is_claim) (journal-parts items rest)
    ∙ sum_by-append f (journal_of items) (journal_of rest) in
    omega (arith, whole)

module _ (hall : Hall) (p q r : Pass) (claims backs dones : ℕ) (works : List Work) (added : List ℕ) where
  pub entered-more : (found : List Item) → IsPassOf hall q → SeesMore q r found →
      HasEntered hall p claims backs dones works added q → HasEntered hall p claims backs dones works added r
  entered-more found pass more it =
      let rest = more.begins.0 in
      let seen_is : seen r ≡ seen q ++ rest = more.seen_is ∙ more.begins.1 in
      let led = has-led hall q pass in
      record {
        begins = begins-later (seen p) (seen q) (seen r) it.begins (rest, seen_is);
        number_same = more.number_same ∙ it.number_same;
        own_more = more.own_same ∙ it.own_more;
        new = it.new;
        stand = subst (λ (l : List Item). Stand claims backs dones l added) (sym seen_is)
            (stand-more claims backs dones (seen q) rest added it.stand);
        few =
            let grown = claims-grow (seen q) rest in
            let same = ap (λ (l : List Item). count_by is_claim (journal_of l)) seen_is in
            let before = it.few in omega (arith, grown, same, before);
        accounted = λ m h. subst (λ (l : List Item). AreAccounted l added works m) (sym seen_is)
            (later-accounts hall (seen q) rest led.state m added works led.led
            (ap (state_after hall) (sym seen_is) ∙ h) it.stand.within (it.accounted led.state led.led));
      }

  pub entered-own : (found : List Item) (e : Entry) → IsPassOf hall q → SeesOwn q r found e → is_work e ≡ true →
      ((m : Machine) → state_after hall (seen r) ≡ Some m → is_claim e ≡ true →
      IsAccounted m works (length (journal_of found))) →
      HasEntered hall p claims backs dones works added q →
      HasEntered hall p (claims + cond (is_claim e) 1 0) (backs + cond (is_back e) 1 0) (dones + cond (is_done e) 1 0)
      works (added ++ length found ∷ []) r
  entered-own found e pass more is account it =
      let rest = more.begins.0 in
      let items = found ++ Entered e ∷ [] in
      let found_is : found ≡ seen q ++ rest = more.begins.1 in
      let seen_is : seen r ≡ seen q ++ (rest ++ Entered e ∷ []) =
      more.seen_is ∙ (ap (λ (l : List Item). l ++ Entered e ∷ []) found_is
      ∙ append_assoc (seen q) rest (Entered e ∷ [])) in
      let led = has-led hall q pass in
      let lengths = length-append (seen q) rest in
      let found_long = ap (λ (l : List Item). length l) found_is in
      let first_long = ap (λ (l : List Item). length l) it.begins.1 in
      let parts_long = length-append (seen p) it.begins.0 in
      record {
        begins = begins-later (seen p) (seen q) (seen r) it.begins (rest ++ Entered e ∷ [], seen_is);
        number_same = more.number_same ∙ it.number_same;
        own_more = more.own_more ∙ (ap (λ (l : List ℕ). l ++ length found ∷ []) it.own_more
            ∙ append_assoc (own p) added (length found ∷ []));
        new = All-push (λ (n : ℕ). length (seen p) ≤ n) added (length found) it.new
            (omega (arith, lengths, found_long, first_long, parts_long));
        stand = subst (λ (l : List Item). Stand (claims + cond (is_claim e) 1 0) (backs + cond (is_back e) 1 0)
            (dones + cond (is_done e) 1 0) l (added ++ length found ∷ [])) (sym more.seen_is)
            (stand-own claims backs dones found e added is
            (subst (λ (l : List Item). Stand claims backs dones l added) (sym found_is)
            (stand-more claims backs dones (seen q) rest added it.stand)));
        few =
            let grown = claims-grow (seen q) rest in
            let f : Entry → ℕ = λ x. cond (is_claim x) 1 0 in
            let whole = ap (λ (l : List Item). count_by is_claim (journal_of l)) more.seen_is
            ∙ (ap (count_by is_claim) (journal-parts found (Entered e ∷ []))
            ∙ sum_by-append f (journal_of found) (e ∷ [])) in
            let same = ap (λ (l : List Item). count_by is_claim (journal_of l)) found_is in
            let before = it.few in
            omega (arith, grown, whole, same, before);
        accounted = λ m h.
            All-push (λ (n : ℕ). stands_at is_claim (seen r) n ≡ true → IsAccounted m works (ticket_at (seen r) n))
            added (length found)
            (subst (λ (l : List Item). AreAccounted l added works m) (sym seen_is)
            (later-accounts hall (seen q) (rest ++ Entered e ∷ []) led.state m added works led.led
            (ap (state_after hall) (sym seen_is) ∙ h) it.stand.within (it.accounted led.state led.led)))
            (λ stands. subst (IsAccounted m works)
            (sym (ap (λ (l : List Item). ticket_at l (length found)) more.seen_is ∙ ticket-last found (Entered e ∷ [])))
            (account m h (sym (ap (λ (l : List Item). stands_at is_claim l (length found)) more.seen_is
            ∙ stands-last is_claim found e) ∙ stands)));
      }

module _ (hall : Hall) (p q : Pass) (claims backs dones : ℕ) (works : List Work) (added : List ℕ) where
  pub entered-works : (more : List Work) → HasEntered hall p claims backs dones works added q →
      HasEntered hall p claims backs dones (works ++ more) added q
  entered-works more it = record {
    begins = it.begins;
    number_same = it.number_same;
    own_more = it.own_more;
    new = it.new;
    stand = it.stand;
    few = it.few;
    accounted = λ m h. more-works (seen q) added works more m (it.accounted m h);
  }

  pub entered-gone : (v : Work) → ((m : Machine) → state_after hall (seen q) ≡ Some m → (slot number : ℕ)
      (c : Outstanding) → IsOutAt m slot number c → IsWorkFor v number c → ⊥) →
      HasEntered hall p claims backs dones (works ++ v ∷ []) added q →
      HasEntered hall p claims backs dones works added q
  entered-gone v gone it = record {
    begins = it.begins;
    number_same = it.number_same;
    own_more = it.own_more;
    new = it.new;
    stand = it.stand;
    few = it.few;
    accounted = λ m h. fewer-works (seen q) added works v m (gone m h) (it.accounted m h);
  }
