-- What is due where nothing is refused and nothing fails.
use Rattle.std.specs.Prelude.{◌≡◌, ◌⊎◌, ℕ, ◌-◌, ◌/◌, nat_eq, if◌then◌else◌}
use Rattle.text_model.specs.Whole.{done_line}
use Rattle.hive_top.specs.Answer.{Answer}
use Rattle.hive_top.specs.declared.status.Status.{Status}
use Rattle.hive_top.specs.declared.status.Status.TheVariants as status

-- how many of so many generated events fail, are stalled and are ok

abbrev pub failed_of : ℕ → ℕ
failed_of events = events / 25

abbrev pub stalled_of : ℕ → ℕ
stalled_of events = events / 10 - events / 50

abbrev pub ok_of : ℕ → ℕ
ok_of events = events - events / 25 - (events / 10 - events / 50)

-- the answer of `bulk` for so many events, whatever they are drawn from
abbrev pub counted_answer : ℕ → Answer
counted_answer events = record {
  text = done_line events (ok_of events) (failed_of events) (stalled_of events);
  status = if nat_eq (ok_of events) events then status.AllOk else status.SomeNot;
}

-- the input was read to its end
abbrev pub IsEnd : Status → Type 0
IsEnd it = (it ≡ status.AllOk) ⊎ (it ≡ status.SomeNot)
