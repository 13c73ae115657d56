-- The oldest claim of several events, and settled events.
use Rattle.std.proofs.Common.{◌≡◌, inl, inr, ℕ, ◌+◌, ◌<◌, ◌≤◌, nat_lt, Bool, true, false, if◌then◌else◌, List, length, slice_get, Option, Some, None, IsSomeAnd, MatchOption, refl, sym, ap, subst, ◌∙◌, arith}
use Rattle.std.proofs.lemmas.Bool.{cases_lt}
use Rattle.std.proofs.lemmas.Bool.Decides.{nat_tests}
use Rattle.std.proofs.lemmas.Option.{none-some, slice_get_within}
use Rattle.std.specs.Option.{option_map_or}
use Rattle.hive_model.specs.Job.{Job}
use Rattle.hive_model.specs.Machine.{Busy, Outstanding, claim_at}
use Rattle.hive_model.specs.Step.{is_settled}
use Rattle.event_slots.specs.Slots.{AreSlotsOf, Slots, busy_in}
use Rattle.event_slots.specs.Standings.{IsFirstAmong, IsFirstOf, IsLeastOf, IsStanding, older}
use Rattle.event_slots.specs.declared.standing.Standing.{Standing}
use Rattle.event_slots.proofs.Found.{same-value}

abbrev Stands : List (Option Busy) → Option Standing → Type 0
Stands slots it = MatchOption it (Unit {0}) (IsStanding slots)

abbrev chosen : Bool → Standing → Standing → Option Standing
chosen t it them = if t then Some them else Some it

older-stands : (slots : List (Option Busy)) (one other : Option Standing) → Stands slots one →
    Stands slots other → Stands slots (older one other)
older-stands slots None other s o = o
older-stands slots (Some it) None s o = s
older-stands slots (Some it) (Some them) s o = by (nat_lt them.ticket it.ticket)
  where
    by : (t : Bool) → Stands slots (chosen t it them)
    by true = o
    by false = s

no-claim : (b : Busy) (number : ℕ) (c : Outstanding) → claim_at b number ≡ None →
    claim_at b number ≡ Some c → ⊥
no-claim b number c none some = none-some c (sym none ∙ some)

least-left : (slots : List (Option Busy)) (slot : ℕ) (one other : Option Standing) →
    IsLeastOf slots slot one → IsLeastOf slots slot (older one other)
least-left slots slot None None least = least
least-left slots slot None (Some them) least = λ number b c busy some. absurd (no-claim b number c (least
    number b busy) some)
least-left slots slot (Some it) None least = least
least-left slots slot (Some it) (Some them) least = by (nat_lt them.ticket it.ticket) refl
  where
    by : (t : Bool) → nat_lt them.ticket it.ticket ≡ t → IsLeastOf slots slot (chosen t it them)
    by true e = λ number b c busy some.
        let less : them.ticket < it.ticket = grind (arith, nat_tests) in
        omega (arith, less, least number b c busy some)
    by false e = least

least-right : (slots : List (Option Busy)) (slot : ℕ) (one other : Option Standing) →
    IsLeastOf slots slot other →
    IsLeastOf slots slot (older one other)
least-right slots slot None other least = least
least-right slots slot (Some it) None least = λ number b c busy some. absurd (no-claim b number c (least
    number b busy) some)
least-right slots slot (Some it) (Some them) least = by (nat_lt them.ticket it.ticket) refl
  where
    by : (t : Bool) → nat_lt them.ticket it.ticket ≡ t → IsLeastOf slots slot (chosen t it them)
    by true e = least
    by false e = λ number b c busy some.
        let not_less : it.ticket ≤ them.ticket = grind (arith, nat_tests) in
        omega (arith, not_less, least number b c busy some)

pub one-more : (slots : List (Option Busy)) (order : List ℕ) (at slot : ℕ) (first next : Option Standing) →
    IsFirstAmong slots order at first → IsFirstOf slots slot next → slice_get order at ≡ Some slot →
    IsFirstAmong slots order (at + 1) (older first next)
one-more slots order at slot first next among of read = (
  older-stands slots first next among.0 of.0,
  λ i s below stands.
      elim (cases_lt i at) [
        | inl less ↦ least-left slots s first next (among.1 i s less stands)
        | inr not_less ↦
            let here : i ≡ at = omega (arith, below, not_less) in
            let is = same-value (slice_get order at) slot s read (ap (slice_get order) (sym here) ∙ stands) in
            subst (λ other. IsLeastOf slots other (older first next)) is (least-right slots slot first next
            of.1)
      ],
)

pub first-of-all : (job : Job) (slots : List (Option Busy)) (it : Slots) (count : ℕ)
    (first : Option Standing) → AreSlotsOf job slots it →
    length it.order ≤ count → IsFirstAmong slots it.order count first →
    MatchOption first ((slot number : ℕ) (b : Busy) → busy_in slots slot ≡ Some b → claim_at b number ≡ None)
    (λ one. IsStanding slots one × ((slot number : ℕ) (b : Busy) (c : Outstanding) → busy_in slots slot ≡
    Some b →
    claim_at b number ≡ Some c → one.ticket ≤ c.ticket))
first-of-all job slots it count None are all among = λ slot number b busy.
    let stands = are.order.all slot b busy in
    among.1 stands.0 slot (omega (arith, slice_get_within it.order stands.0 slot stands.1)) stands.1 number b
    busy
first-of-all job slots it count (Some one) are all among = (
  among.0,
  λ slot number b c busy some.
      let stands = are.order.all slot b busy in
      among.1 stands.0 slot (omega (arith, slice_get_within it.order stands.0 slot stands.1)) stands.1 number
      b c busy some,
)

-- settled events

pub settled-there : (job : Job) (o : Option Busy) → option_map_or (is_settled job) o false ≡ true →
    IsSomeAnd o (λ b. is_settled job b ≡ true)
settled-there job None e = absurd (cc)
settled-there job (Some b) e = e
