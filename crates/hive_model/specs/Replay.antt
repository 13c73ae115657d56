-- A journal is replayed by its entries in order from the opening state. It is a run where each entry may come, and complete where
-- in the end Last was said, every slot is empty, and all the records were admitted.
use Rattle.std.specs.Prelude.{◌≡◌, ℕ, zero, suc, ◌+◌, nat_eq, true, is_none, find, List, [], ◌∷◌, ◌++◌, length, Option, Some, IsSome, IsSomeAnd}
use Rattle.std.specs.List.{list_all}
use Rattle.std.specs.Option.{option_and_then, option_map_or}
use Rattle.hive_model.specs.EventRecord.{EventRecord}
use Rattle.hive_model.specs.EventResult.{EventResult}
use Rattle.hive_model.specs.Job.{Job}
use Rattle.hive_model.specs.Machine.{Machine, Busy, Finished, opening}
use Rattle.hive_model.specs.Step.{step}
use Rattle.hive_model.specs.declared.entry.Entry.{Entry}

-- from a state to which these entries have led
unfoldable pub replay_from : Job → List EventRecord → List Entry → Machine → List Entry → Option Machine
replay_from job records past m [] = Some m
replay_from job records past m (e ∷ entries) =
    option_and_then (λ next. replay_from job records (past ++ e ∷ []) next entries) (step job records past m e)

unfoldable pub replay : Job → ℕ → List EventRecord → List Entry → Option Machine
replay job slots records journal = replay_from job records [] (opening slots) journal

abbrev pub IsRun : Job → ℕ → List EventRecord → List Entry → Type 0
IsRun job slots records journal = IsSome (replay job slots records journal)

-- a run that admits all the records, which need not be complete
abbrev pub IsWholeRun : Job → ℕ → List EventRecord → List Entry → Type 0
IsWholeRun job slots records journal = IsSomeAnd (replay job slots records journal) (λ m. m.admitted ≡ length records)

pub record IsAtEnd (records : List EventRecord) (m : Machine) : Type 0 where
  pub closed : m.closed ≡ true
  pub empty : list_all (λ (slot : Option Busy). is_none slot) m.slots ≡ true
  pub all : m.admitted ≡ length records

abbrev pub IsCompleteRun : Job → ℕ → List EventRecord → List Entry → Type 0
IsCompleteRun job slots records journal = IsSomeAnd (replay job slots records journal) (IsAtEnd records)

-- the results of the finished events in the order of their places, from one on, up to the first that isn't finished
abbrev pub results_from : ℕ → ℕ → List Finished → List EventResult
results_from zero place finished = []
results_from (suc n) place finished =
    option_map_or (λ (f : Finished). f.result ∷ results_from n (place + 1) finished) (find (λ (f : Finished). nat_eq f.place place) finished) []

unfoldable pub results_in_order : Machine → List EventResult
results_in_order m = results_from m.admitted 1 m.finished
