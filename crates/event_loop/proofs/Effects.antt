-- How many claims are outstanding after an entry, and how much is still to do.
use Rattle.std.proofs.Common.{◌≡◌, ℕ, ◌+◌, ◌<◌, true, not, is_some, is_none, List, length, length-set, count_by, set, Option, Some, None, refl, subst, arith}
use Rattle.std.proofs.lemmas.Bool.{and_parts}
use Rattle.std.proofs.lemmas.Option.{slice_get_within}
use Rattle.event_laws.proofs.Additions.{length-additions}
use Rattle.event_laws.proofs.Rounds.{can_run-parts}
use Rattle.core_laws.proofs.Lending.{changed}
use Rattle.core_laws.specs.Sound.{IsSound}
use Rattle.event_slots.specs.Slots.{claims_of, claims_out}
use Rattle.hive_model.specs.Enabled.{inputs_in, is_enabled}
use Rattle.hive_model.specs.EventRecord.{EventRecord}
use Rattle.hive_model.specs.Execution.{Execution, execution}
use Rattle.hive_model.specs.Job.{Job}
use Rattle.hive_model.specs.Machine.{Busy, Machine, Outstanding, claim_at}
use Rattle.hive_model.specs.Results.{outcomes}
use Rattle.hive_model.specs.Step.{busy_at, can_claim, claimed, completed, with_slot}
use Rattle.hive_model.specs.declared.entry.Entry.{Entry}
use Rattle.event_loop.proofs.Counting.{count-set, there-none, there-some}
use Rattle.event_loop.proofs.Entries.{BackStep, ClaimStep, DoneStep}
use Rattle.event_loop.specs.Loop.{work_in, work_of}

-- what each entry of a claim leaves as it was
pub record IsAlike (m next : Machine) : Type 0 where
  pub slots : length next.slots ≡ length m.slots
  pub finished : next.finished ≡ m.finished
  pub closed : next.closed ≡ m.closed

-- one slot has another event, with so many claims more or less and so much work
pub record Effect (m next : Machine) (claims_more claims_less work_less : ℕ) : Type 0 where
  pub alike : IsAlike m next
  pub claims : claims_out next.slots + claims_less ≡ claims_out m.slots + claims_more
  pub work : work_in next + work_less ≡ work_in m

effect : (m : Machine) (slot : ℕ) (old new : Busy) (more less work : ℕ) → busy_at m slot ≡ Some old →
    count_by is_some new.claims + less ≡ count_by is_some old.claims + more →
    count_by is_none new.ran + work ≡ count_by is_none old.ran →
    Effect m (with_slot m slot (Some new)) more less work
effect m slot old new more less work there claims left =
    let c : claims_out (set m.slots slot (Some new)) + count_by is_some old.claims
    ≡ claims_out m.slots + count_by is_some new.claims = changed claims_of m slot old (Some new) there in
    let w : work_in (with_slot m slot (Some new)) + (1 + count_by is_none old.ran)
    ≡ work_in m + (1 + count_by is_none new.ran) = changed work_of m slot old (Some new) there in
    record {
      alike = record { slots = length-set m.slots slot (Some new); finished = refl; closed = refl };
      claims = omega (arith, c, claims);
      work = omega (arith, w, left);
    }

not-some : {X : Type 0} (o : Option X) → not (is_some o) ≡ true → o ≡ None
not-some None h = refl
not-some (Some x) h = absurd (cc)

pub claim-effect : (job : Job) (records : List EventRecord) (past : List Entry) (m next : Machine)
    (slot number : ℕ)
    (clone : Option ℕ) → IsSound job records m → ClaimStep job past m slot number clone next →
    Effect m next 1 0 0
unfolding claimed can_claim
claim-effect job records past m next slot number clone sound it =
    let b = it.busy in
    let free = not-some (claim_at b number)
    (and_parts (is_enabled job (outcomes b.ran) b.store number) (not (is_some (claim_at b number))) it.can).1
    in
    let low = slice_get_within job.algorithms number it.algorithm it.of_job in
    let within : number < length b.claims = omega (arith, low, (sound.busy slot b it.there).sound.as_many) in
    let new : Outstanding =
    record { ticket = length past; clone = clone; inputs = inputs_in b.store it.algorithm.inputs } in
    let one : count_by is_some (set b.claims number (Some new)) + 0 ≡ count_by is_some b.claims + 1 =
    count-set is_some b.claims number None (Some new) (there-none b.claims number free within) in
    subst (λ n. Effect m n 1 0 0) it.is
    (effect m slot b (record b { claims = set b.claims number (Some new) }) 1 0 0 it.there one (omega arith))

taken-out : (b : Busy) (number : ℕ) (c : Outstanding) → claim_at b number ≡ Some c →
    count_by is_some (set b.claims number None) + 1 ≡ count_by is_some b.claims + 0
taken-out b number c mine = count-set is_some b.claims number (Some c) None
    (there-some b.claims number c mine)

pub done-effect : (job : Job) (records : List EventRecord) (m next : Machine) → IsSound job records m →
    DoneStep job m next → Effect m next 0 1 1
unfolding completed
done-effect job records m next sound it =
    let f = it.out in
    let b = f.busy in
    let own = sound.busy f.slot b it.out_is.busy in
    let mine = own.sound.claims f.number f.claim it.out_is.claim in
    let unrun = (can_run-parts job own.event b.ran f.number mine.runs).unrun in
    let low = slice_get_within job.algorithms f.number it.algorithm it.of_job in
    let size : length b.ran ≡ length job.algorithms = length-additions job own.event b.ran own.sound.made in
    let within : f.number < length b.ran = omega (arith, low, size) in
    let x : Execution = execution it.algorithm f.claim.inputs in
    let ran : count_by is_none (set b.ran f.number (Some x)) + 1 ≡ count_by is_none b.ran + 0 =
    count-set is_none b.ran f.number None (Some x) (there-none b.ran f.number unrun within) in
    subst (λ n. Effect m n 0 1 1) it.is
    (effect m f.slot b (completed b f.number it.algorithm x) 0 1 1 it.out_is.busy
    (taken-out b f.number f.claim it.out_is.claim) (omega (arith, ran)))

pub back-effect : (m next : Machine) → BackStep m next → Effect m next 0 1 0
back-effect m next it =
    let f = it.out in
    let b = f.busy in
    subst (λ n. Effect m n 0 1 0) it.is
    (effect m f.slot b (record b { claims = set b.claims f.number None }) 0 1 0 it.out_is.busy
    (taken-out b f.number f.claim it.out_is.claim) (omega arith))
