-- What is counted over the seats is so over the slots.
use Rattle.std.proofs.Common.{◌≡◌, ℕ, zero, suc, Bool, ◌&&◌, is_none, is_some, if◌then◌else◌, List, [], ◌∷◌, length, slice_get, Option, Some, None, count_by, refl, ap, ap₂, ◌∙◌, arith}
use Rattle.std.proofs.lemmas.List.Sums.{sum_by-cons}
use Rattle.std.specs.List.{list_all, sum_by}
use Rattle.event_flow.proofs.Agreeing.{count-same}
use Rattle.event_flow.specs.Flow.{Flow}
use Rattle.hive_model.specs.Job.{Job}
use Rattle.hive_model.specs.Machine.{Busy}
use Rattle.event_slots.specs.Seats.{is_seated, seated_claims}
use Rattle.event_slots.specs.Slots.{AreSlotsOf, IsSeatOf, Seat, Slots, claims_of, claims_out}

-- seat by seat
abbrev Agree : {Y : Type 0} → (Seat → Y) → (Option Busy → Y) → List Seat → List (Option Busy) → Type 0
Agree f g seats slots = (i : ℕ) (o : Option Busy) (x : Seat) → slice_get slots i ≡ Some o → slice_get seats i
    ≡ Some x → f x ≡ g o

agree-all : (p : Seat → Bool) (q : Option Busy → Bool) (seats : List Seat) (slots : List (Option Busy)) →
    length seats ≡ length slots →
    Agree p q seats slots → list_all p seats ≡ list_all q slots
agree-all p q [] [] e same = refl
agree-all p q [] (o ∷ slots) e same = absurd (omega (arith, e))
agree-all p q (x ∷ seats) [] e same = absurd (omega (arith, e))
agree-all p q (x ∷ seats) (o ∷ slots) e same =
    ap₂ ◌&&◌ (same zero o x refl refl) (agree-all p q seats slots (omega (arith, e)) (λ i o' x' there at.
    same (suc i) o' x' there at))

agree-sum : (f : Seat → ℕ) (g : Option Busy → ℕ) (seats : List Seat) (slots : List (Option Busy)) →
    length seats ≡ length slots →
    Agree f g seats slots → sum_by f seats ≡ sum_by g slots
agree-sum f g [] [] e same = refl
agree-sum f g [] (o ∷ slots) e same = absurd (omega (arith, e))
agree-sum f g (x ∷ seats) [] e same = absurd (omega (arith, e))
agree-sum f g (x ∷ seats) (o ∷ slots) e same =
    let here = same zero o x refl refl in
    let rest = agree-sum f g seats slots (omega (arith, e)) (λ i o' x' there at. same (suc i) o' x' there at)
    in
    omega (arith, here, rest, sum_by-cons f x seats, sum_by-cons g o slots)

-- one seat

seat-some : (job : Job) (o : Option Busy) (seat : Seat) → IsSeatOf job o seat → is_seated seat ≡ is_some o
seat-some job None seat is = ap is_some is.0
seat-some job (Some b) seat is = ap is_some is.0

seat-none : (job : Job) (o : Option Busy) (seat : Seat) → IsSeatOf job o seat → is_none seat.place ≡ is_none o
seat-none job None seat is = ap is_none is.0
seat-none job (Some b) seat is = ap is_none is.0

seat-claims : (job : Job) (o : Option Busy) (seat : Seat) → IsSeatOf job o seat →
    seated_claims seat ≡ claims_of o
seat-claims job None seat is = ap (λ (p : Option ℕ). if is_some p then count_by is_some seat.flow.claims else
    0) is.0
seat-claims job (Some b) seat is =
    ap (λ (p : Option ℕ). if is_some p then count_by is_some seat.flow.claims else 0) is.0
    ∙ ap (λ (f : Flow). count_by is_some f.claims) is.1 ∙ count-same job b

-- all seats

pub all-seated : (job : Job) (slots : List (Option Busy)) (it : Slots) → AreSlotsOf job slots it →
    list_all is_seated it.seats ≡ list_all is_some slots
all-seated job slots it are =
    agree-all is_seated is_some it.seats slots are.as_many (λ i o x there at. seat-some job o x (are.seats i
    o x there at))

pub none-seated : (job : Job) (slots : List (Option Busy)) (it : Slots) → AreSlotsOf job slots it →
    list_all (λ (seat : Seat). is_none seat.place) it.seats ≡ list_all is_none slots
none-seated job slots it are =
    agree-all (λ (seat : Seat). is_none seat.place) is_none it.seats slots are.as_many
    (λ i o x there at. seat-none job o x (are.seats i o x there at))

pub claims-same : (job : Job) (slots : List (Option Busy)) (it : Slots) → AreSlotsOf job slots it →
    sum_by seated_claims it.seats ≡ claims_out slots
claims-same job slots it are =
    agree-sum seated_claims claims_of it.seats slots are.as_many (λ i o x there at. seat-claims job o x
    (are.seats i o x there at))
