-- What a run books. A Done books the execution of the algorithm that its ticket's claim names, for the
-- event in that claim's slot.
use Rattle.std.specs.Prelude.{ℕ, ◌+◌, nat_eq, Bool, false, ◌&&◌, cond, List, [], ◌∷◌, ◌++◌}
use Rattle.std.specs.Option.{option_map_or}
use Rattle.hive_model.specs.EventRecord.{EventRecord}
use Rattle.hive_model.specs.Job.{Job}
use Rattle.hive_model.specs.Machine.{Machine, opening}
use Rattle.hive_model.specs.Step.{Found, found, step}
use Rattle.hive_model.specs.declared.entry.Entry.{Entry}
use Rattle.hive_model.specs.declared.entry.Entry.TheVariants.{Admit, Claim, Done, Back, Retire, Last}

-- the claim is of that algorithm, for the event at that place
abbrev pub is_of : ℕ → ℕ → Found → Bool
is_of place number f = nat_eq f.busy.place place && nat_eq f.number number

-- the entry, which comes in this state after those, books that algorithm for that event
abbrev pub books : ℕ → ℕ → List Entry → Machine → Entry → Bool
books place number past m (Admit slot event) = false
books place number past m (Claim slot algorithm clone worker) = false
books place number past m (Done ticket outcome) = option_map_or (is_of place number)
    (found past m ticket) false
books place number past m (Back ticket) = false
books place number past m (Retire slot) = false
books place number past m Last = false

-- how many of these entries do, from a state to which the past ones have led
unfoldable pub bookings_from : Job → List EventRecord → ℕ → ℕ → List Entry → Machine → List Entry → ℕ
bookings_from job records place number past m [] = 0
bookings_from job records place number past m (entry ∷ entries) =
    cond (books place number past m entry) 1 0
    + option_map_or (λ next. bookings_from job records place number (past ++ entry ∷ []) next entries)
    (step job records past m entry) 0

unfoldable pub bookings : Job → ℕ → List EventRecord → ℕ → ℕ → List Entry → ℕ
bookings job slots records place number journal =
    bookings_from job records place number [] (opening slots) journal
