-- What is still to come, line by line.
use Rattle.std.proofs.Common.{◌≡◌, ℕ, suc, zero, ◌+◌, ◌-◌, ◌<◌, ◌==◌, nat_eq, Bool, true, false, List, [], ◌∷◌, ◌++◌, length, decimal, refl, sym, ap, subst, ◌∙◌, arith, append_assoc, length-append}
use Rattle.std.proofs.lemmas.Bool.Decides.{nat_tests}
use Rattle.std.specs.List.{flat_map}
use Rattle.hive_gen.specs.EventTexts.{event_line, further_cell, header}
use Rattle.hive_gen.specs.Events.{event_of, events_from, state_behind}
use Rattle.hive_gen.specs.Rest.{rest_of}
use Rattle.hive_gen.specs.declared.generator.Position.{Position}
use Rattle.hive_model.specs.EventRecord.{EventRecord}
use Rattle.text_model.specs.declared.bytes.TheConstants.{LINE_FEED}

abbrev place : Bool → ℕ → ℕ → ℕ → Position
place headed left number state = record { headed = headed; left = left; number = number; state = state }

abbrev behind : ℕ → ℕ → ℕ → Position
behind left number state = place true (left - 1) (number + 1) (state_behind number state)

rest-none : (left number state : ℕ) → left ≡ 0 → rest_of (place true left number state) ≡ []
unfolding rest_of events_from
rest-none zero number state none = refl
rest-none (suc left) number state none = absurd (omega arith)

rest-header : (left number state : ℕ) → rest_of (place false left number state)
    ≡ header ++ rest_of (place true left number state)
unfolding rest_of
rest-header left number state = refl

rest-event : (left number state : ℕ) → 0 < left →
    rest_of (place true left number state) ≡ event_line (event_of number state) ++ rest_of
    (behind left number state)
unfolding rest_of events_from
rest-event zero number state some = absurd (omega arith)
rest-event (suc left) number state some = let e : suc left - 1 ≡ left = omega arith in rw e refl

-- a line has a byte
line-some : (it : EventRecord) → 0 < length (event_line it)
unfolding event_line
line-some it =
    let front = decimal it.event ++ flat_map further_cell it.cells in
    let all : length (event_line it) ≡ length front + 1 = length-append front (LINE_FEED ∷ []) in
    omega (arith, all)

header-some : (left number state : ℕ) → 0 < length (rest_of (place false left number state))
header-some left number state =
    let is : length (rest_of (place false left number state))
    ≡ length header + length (rest_of (place true left number state)) =
    ap length (rest-header left number state) ∙ length-append header
    (rest_of (place true left number state)) in
    let head : length header ≡ 15 = refl in
    omega (arith, is, head)

event-some : (left number state : ℕ) → 0 < left → 0 < length (rest_of (place true left number state))
event-some left number state some =
    let is : length (rest_of (place true left number state)) ≡
    length (event_line (event_of number state)) + length (rest_of (behind left number state)) =
    ap length (rest-event left number state some)
    ∙ length-append (event_line (event_of number state)) (rest_of (behind left number state)) in
    let line = line-some (event_of number state) in
    omega (arith, is, line)

-- whether nothing is left

end-left : (left number state : ℕ) → nat_eq left 0 ≡ (length (rest_of (place true left number state)) == 0)
end-left left number state = by (nat_eq left 0) refl
  where
    by : (t : Bool) → nat_eq left 0 ≡ t → t ≡ (length (rest_of (place true left number state)) == 0)
    by true e = let none : left ≡ 0 = grind (arith, nat_tests) in rw (rest-none left number state none) refl
    by false e =
        let some : 0 < left = grind (arith, nat_tests) in
        let long = event-some left number state some in
        grind (arith, nat_tests)

end-headed : (left number state : ℕ) → false ≡ (length (rest_of (place false left number state)) == 0)
end-headed left number state = let long = header-some left number state in grind (arith, nat_tests)

pub end_behind : (at : Position) → at.headed ≡ true → nat_eq at.left 0 ≡ (length (rest_of at) == 0)
end_behind at h =
    subst (λ (headed : Bool). nat_eq at.left 0 ≡ (length
    (rest_of (place headed at.left at.number at.state)) == 0)) (sym h)
    (end-left at.left at.number at.state)

pub end_before : (at : Position) → at.headed ≡ false → at.headed ≡ (length (rest_of at) == 0)
end_before at h =
    subst (λ (headed : Bool). headed ≡ (length (rest_of (place headed at.left at.number at.state)) == 0))
    (sym h)
    (end-headed at.left at.number at.state)

-- what a line leaves

pub header_pushed : (at : Position) (old new : List ℕ) → at.headed ≡ false → new ≡ old ++ header →
    new ++ rest_of (record at { headed = true }) ≡ old ++ rest_of at
header_pushed at old new h p =
    ap (λ xs. xs ++ rest_of (place true at.left at.number at.state)) p
    ∙ (append_assoc old header (rest_of (place true at.left at.number at.state))
    ∙ ap (λ xs. old ++ xs) (sym (rest-header at.left at.number at.state)
    ∙ ap (λ headed. rest_of (place headed at.left at.number at.state)) (sym h)))

pub event_pushed : (at : Position) (old new : List ℕ) (state : ℕ) → at.headed ≡ true → 0 < at.left →
    new ≡ old ++ event_line (event_of at.number at.state) → state ≡ state_behind at.number at.state →
    new ++ rest_of (record { headed = at.headed; left = at.left - 1; number = at.number + 1; state = state })
    ≡ old ++ rest_of at
event_pushed at old new state h some p s =
    let line = event_line (event_of at.number at.state) in
    let left = rest_of (behind at.left at.number at.state) in
    let is : rest_of (place at.headed (at.left - 1) (at.number + 1) state) ≡ left =
    ap (λ headed. rest_of (place headed (at.left - 1) (at.number + 1) state)) h
    ∙ ap (λ n. rest_of (place true (at.left - 1) (at.number + 1) n)) s in
    ap (λ xs. xs ++ rest_of (place at.headed (at.left - 1) (at.number + 1) state)) p
    ∙ (append_assoc old line (rest_of (place at.headed (at.left - 1) (at.number + 1) state))
    ∙ (ap (λ xs. old ++ (line ++ xs)) is
    ∙ ap (λ xs. old ++ xs) (sym (rest-event at.left at.number at.state some)
    ∙ ap (λ headed. rest_of (place headed at.left at.number at.state)) (sym h))))

pub none_left : (at : Position) → at.headed ≡ true → at.left ≡ 0 → rest_of at ≡ []
none_left at h none =
    ap (λ headed. rest_of (place headed at.left at.number at.state)) h
    ∙ rest-none at.left at.number at.state none

pub event_onward : (at : Position) (old new : List ℕ) → new
    ≡ old ++ event_line (event_of at.number at.state) → length old < length new
event_onward at old new p =
    let is : length new ≡ length old + length (event_line (event_of at.number at.state)) = ap length p
    ∙ length-append old (event_line (event_of at.number at.state)) in
    let line = line-some (event_of at.number at.state) in
    omega (arith, is, line)

-- what was appended isn't still to come
pub less_left : (old new before now : List ℕ) → new ++ now ≡ old ++ before →
    (0 < length before → length old < length new) →
    0 < length before → length now < length before
less_left old new before now text onward some =
    let is : length new + length now ≡ length old + length before =
    sym (length-append new now) ∙ (ap length text ∙ length-append old before) in
    let more = onward some in
    omega (arith, is, more)

-- the test whether something is still to come
pub some_left : (rest : List ℕ) (t : Bool) → t ≡ (length rest == 0) → t ≡ false → 0 < length rest
some_left rest t is e = let n : (length rest == 0) ≡ false = sym is ∙ e in grind (arith, nat_tests)

pub none_ahead : (rest : List ℕ) (t : Bool) → t ≡ (length rest == 0) → t ≡ true → rest ≡ []
none_ahead [] t is e = refl
none_ahead (b ∷ rest) t is e = let n : (length (b ∷ rest) == 0) ≡ true = sym is
    ∙ e in grind (arith, nat_tests)
