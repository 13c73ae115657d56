-- What a pass knows of its queue, how it is shared out to the passes, and how it comes together again. The first pass has all
-- parts of the right to know the whole, and each pass is dealt one.
use Rattle.std.specs.Prelude.{ℕ, ◌+◌, ◌-◌, List, [], ◌++◌, Option, None, nat_lt, if◌then◌else◌}
use Rattle.crossbeam_queue.specs.declared.array_queue.Doing.{Doing}
use Rattle.crossbeam_queue.specs.declared.array_queue.Slotted.{Slotted}
use Rattle.crossbeam_queue.specs.Passes.{Pass, IsPassOf}
use Rattle.expr_code.specs.Claim.{Done}
use Rattle.hive_model.specs.Job.{Job}
use Rattle.action_queue.specs.declared.view.Tally.{Tally}

-- by this seat a pass takes part in that queue
abbrev pub IsSeatOf : {Q A : Type 0} → Slotted (Option Done) (Doing Done Tally) Q A → Pass Done Tally → Type 0
IsSeatOf queue seat = IsPassOf queue seat

abbrev pub tally : Option Job → ℕ → ℕ → List Done → List Done → ℕ → List Done → Tally
tally job made parts put took time rest =
    record { job = job; made = made; parts = parts; put = put; took = took; time = time; rest = rest }

-- the very first pass, before it is told the queue's job
abbrev pub first : Tally
first = tally None 1 1 [] [] 0 []

-- a pass that gave all to another, and so has no part
abbrev pub spent : Tally
spent = tally None 0 0 [] [] 0 []

-- one part less
abbrev pub kept : Tally → Tally
kept v = tally v.job v.made (v.parts - 1) v.put v.took v.time v.rest

-- a new pass with that part, which has put and taken nothing
abbrev pub dealt : Tally → Tally
dealt v = tally v.job v.made 1 [] [] 0 []

-- of two passes, the number of the later step, and what the queue held after it
abbrev pub later_time : Tally → Tally → ℕ
later_time v w = if nat_lt v.time w.time then w.time else v.time

abbrev pub later_rest : Tally → Tally → List Done
later_rest v w = if nat_lt v.time w.time then w.rest else v.rest

-- what two passes know together
abbrev pub both : Tally → Tally → Tally
both v w = tally v.job v.made (v.parts + w.parts) (v.put ++ w.put) (v.took ++ w.took) (later_time v w) (later_rest v w)
