-- A desk at its opening: nothing is in flight, and Last alone is owed.
use Rattle.std.proofs.Common.{◌≡◌, ℕ, ◌≤◌, false, List, [], length, replicate, Option, Some, None, refl, sym, ◌∙◌, subst, arith}
use Rattle.std.proofs.lemmas.List.{length-replicate}
use Rattle.event_slots.specs.Slots.{AreSlotsOf, Slots}
use Rattle.hive_model.specs.EventRecord.{EventRecord}
use Rattle.hive_model.specs.Job.{Job}
use Rattle.hive_model.specs.Machine.{Busy, opening}
use Rattle.hive_model.specs.Replay.{replay, replay_from}
use Rattle.hive_model.specs.Valid.{IsValidJob}
use Rattle.hive_model.specs.declared.entry.Entry.{Entry}
use Rattle.scheduler_core.proofs.Owing.{opening-owes}
use Rattle.scheduler_core.specs.State.{IsKept}

led-none : (job : Job) (slots : ℕ) → replay job slots [] [] ≡ Some (opening slots)
unfolding replay replay_from
led-none job slots = refl

at-opening : (job : Job) (slots spare : ℕ) (it : Slots) → IsValidJob job → 1 ≤ slots →
    AreSlotsOf job (replicate slots None) it → 1 ≤ spare → IsKept job [] [] it false 1 spare
at-opening job slots spare it valid some stands room =
    let many : length it.seats ≡ slots = stands.as_many ∙ length-replicate slots None in
    record {
      valid = valid;
      some = omega (arith, some, many);
      fitting = tt;
      machine = opening (length it.seats);
      led = led-none job (length it.seats);
      all = refl;
      last = refl;
      slots = subst (λ n. AreSlotsOf job (replicate n None) it) (sym many) stands;
      owes = sym (opening-owes (length it.seats));
      room = room;
    }

pub opened : (job seen : Job) (records : List EventRecord) (journal : List Entry) (slots spare : ℕ) (it : Slots) →
    IsValidJob job → 1 ≤ slots → seen ≡ job → records ≡ [] → journal ≡ [] →
    AreSlotsOf seen (replicate slots None) it → 1 ≤ spare → IsKept job records journal it false 1 spare
opened job seen records journal slots spare it valid some same none empty stands room =
    subst (λ r. IsKept job r journal it false 1 spare) (sym none)
    (subst (λ l. IsKept job [] l it false 1 spare) (sym empty)
    (at-opening job slots spare it valid some
    (subst (λ j. AreSlotsOf j (replicate slots None) it) same stands) room))
