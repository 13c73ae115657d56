-- When the hall is closed, all that was known where the others only work is known of its desk.
use Rattle.std.proofs.Common.{◌≡◌, ℕ, zero, suc, Bool, List, [], ◌∷◌, ◌++◌, length, length-append, take, refl, sym, ap, ◌∙◌, subst, arith}
use Rattle.std.proofs.lemmas.List.Elements.{All-push, All-weaker}
use Rattle.std.specs.Prelude.{All, IsSomeAnd}
use Rattle.event_loop.specs.Loop.{LoopState, results_of}
use Rattle.event_loop.specs.Running.{IsGoing, IsTallied}
use Rattle.event_loop.specs.Waiting.{Waits}
use Rattle.event_slots.specs.Slots.{claims_out}
use Rattle.expr_code.specs.Claim.{Done}
use Rattle.hall_loop.proofs.Given.{still-first}
use Rattle.hall_loop.proofs.Others.{closed-others}
use Rattle.hall_loop.proofs.Recalls.{works-back, works-done}
use Rattle.hall_loop.proofs.Telling.{told-on}
use Rattle.hall_loop.proofs.Works.{works-enter, works-tell}
use Rattle.hall_loop.specs.Beside.{IsBeside, IsToldBy, Keeps, first_of, given_of}
use Rattle.hall_loop.specs.Others.{HasOnlyWorked, OthersWork}
use Rattle.hall_loop.specs.Settled.{AreWorkersOf, BooksAll, BooksLeft, Enters, IsSettled, IsUnsettled}
use Rattle.hall_loop.specs.declared.hall_loop.HallLoop.{HallLoop}
use Rattle.hive_hall.specs.Closing.{AreAllOf, IsConserved, IsLast}
use Rattle.hive_hall.specs.Legal.{IsHistoryOf}
use Rattle.hive_hall.specs.Pass.{IsPassOf, job_of, seen, slots_of}
use Rattle.hive_hall.specs.declared.hall.Hall.{Hall}
use Rattle.hive_hall.specs.declared.pass.Pass.{Pass}
use Rattle.hive_model.specs.EventRecord.{EventRecord}
use Rattle.hive_model.specs.History.{BeginsWith, DeskState}
use Rattle.hive_model.specs.Job.{Job}
use Rattle.hive_model.specs.Many.{Many}
use Rattle.hive_model.specs.Replay.{IsWholeRun, replay}
use Rattle.hive_model.specs.declared.entry.Entry.{Entry}
use Rattle.hive_model.specs.declared.item.Item.{Item}
use Rattle.hive_workers.specs.Items.{is_back, is_work}
use Rattle.report_text.specs.Tallied.{CountsAll}
use Rattle.report_text.specs.declared.counts.Counts.{Counts}
use Rattle.scheduler_core.proofs.Claims.{told}
use Rattle.scheduler_core.proofs.Keeping.{in-state}
use Rattle.scheduler_core.specs.State.{InState, IsDesk}

-- the desk of a hall that was closed
pub record IsClosed (hall : Hall) (p : Pass) (waiting : Waits) (counts : Counts) (admitted handed : ℕ) (closed : Bool)
    (d : DeskState) : Type 0 where
  pub others : OthersWork hall p
  pub job_is : d.job ≡ job_of hall
  pub slots_are : d.slots ≡ slots_of hall
  pub records : d.admitted ≡ first_of p admitted
  pub told_is : IsToldBy waiting counts admitted handed closed d
  pub desk : IsDesk d

all-taken : (xs : List EventRecord) (n : ℕ) → length xs ≡ n → take n xs ≡ xs
all-taken [] zero h = refl
all-taken [] (suc n) h = refl
all-taken (x ∷ xs) zero h = absurd (omega (arith, h))
all-taken (x ∷ xs) (suc n) h = ap (λ (l : List EventRecord). x ∷ l) (all-taken xs n (omega (arith, h)))

pub closes : (hall : Hall) (workers : List Pass) (p : Pass) (waiting : Waits) (counts : Counts)
    (slots admitted handed : ℕ) (closed : Bool) (d : DeskState) →
    Keeps hall p waiting counts slots admitted handed closed → All (HasOnlyWorked hall) workers →
    AreAllOf hall (workers ++ p ∷ []) → IsLast hall (workers ++ p ∷ []) d →
    IsClosed hall p waiting counts admitted handed closed d
closes hall workers p waiting counts slots admitted handed closed d k worked all last =
    let o = closed-others hall (workers ++ p ∷ []) workers p d refl last all worked in
    let was = k.pass.knows.told in
    let before = k.told o.others was k.pass.knows.legal in
    let legal = last.legal in
    let now = told-on waiting counts admitted handed closed was d before
    (works-tell (job_of hall) (slots_of hall) (seen p) o.rest was d before.tally.machine k.pass.knows.legal
    (subst (λ (l : List Item). IsHistoryOf (job_of hall) (slots_of hall) l d) o.final_is legal) o.work
    before.tally.led)
    legal.desk in
    let begins : BeginsWith last.final (seen p) = (o.rest, o.final_is) in
    let still = still-first admitted (seen p) last.final begins k.known in
    record {
      others = o.others;
      job_is = legal.job;
      slots_are = legal.slots;
      records = sym (all-taken d.admitted admitted now.all)
          ∙ (ap (take admitted) legal.records ∙ still.same);
      told_is = now;
      desk = legal.desk;
    }

pub closed-on : (hall : Hall) (p : Pass) (waiting : Waits) (counts : Counts) (admitted handed : ℕ) (closed : Bool)
    (d after : DeskState) → IsClosed hall p waiting counts admitted handed closed d → Enters is_work d after →
    IsDesk after → IsClosed hall p waiting counts admitted handed closed after
closed-on hall p waiting counts admitted handed closed d after c e desk = record {
  others = c.others;
  job_is = ap (λ (x : DeskState). x.job) e.appended ∙ c.job_is;
  slots_are = ap (λ (x : DeskState). x.slots) e.appended ∙ c.slots_are;
  records = ap (λ (x : DeskState). x.admitted) e.appended ∙ c.records;
  told_is = told-on waiting counts admitted handed closed d after c.told_is
      (works-enter d after e.entries c.told_is.tally.machine e.appended e.only desk c.told_is.tally.led) desk;
  desk = desk;
}

-- a loop goes on where nothing is outstanding
pub goes-on : (hall : Hall) (p : Pass) (waiting : Waits) (counts : Counts) (admitted handed : ℕ) (closed : Bool)
    (d : DeskState) → IsClosed hall p waiting counts admitted handed closed d →
    InState d (λ m. claims_out m.slots ≡ 0) → IsGoing d waiting handed counts closed
goes-on hall p waiting counts admitted handed closed d c quiet =
    let t = c.told_is.tally in
    record {
      running = record {
        tally = t;
        quiet = told (replay d.job d.slots d.admitted d.journal) (λ m. claims_out m.slots ≡ 0) t.machine t.led quiet;
      };
      last = c.told_is.last;
    }

-- or memory ran out
pub record IsLeft (job : Job) (slots : ℕ) (given : List EventRecord) (journal : List Entry) (counts : Counts) :
    Type 0 where
  pub run : IsWholeRun job slots given journal
  pub counted : IsSomeAnd (replay job slots given journal) (λ m. CountsAll (results_of m.finished) counts)

pub leaves : (d : DeskState) (job : Job) (slots : ℕ) (given : List EventRecord) (journal : List Entry)
    (waiting : Waits) (handed : ℕ) (counts : Counts) → IsTallied d waiting handed counts → d.job ≡ job →
    d.slots ≡ slots → d.admitted ≡ given → journal ≡ d.journal → IsLeft job slots given journal counts
leaves d job slots given journal waiting handed counts t job_is slots_are records journal_is =
    subst (λ j. IsLeft j slots given journal counts) job_is
    (subst (λ (n : ℕ). IsLeft d.job n given journal counts) slots_are
    (subst (λ (l : List EventRecord). IsLeft d.job d.slots l journal counts) records
    (subst (λ (l : List Entry). IsLeft d.job d.slots d.admitted l counts) (sym journal_is)
    (record {
      run = t.desk.legal;
      counted = in-state d t.machine (λ m. CountsAll (results_of m.finished) counts) t.led t.counted;
    }))))

-- the hall's passes together
pub all-of : (hall : Hall) (workers : Many Pass) (p : Pass) → AreWorkersOf hall workers → IsPassOf hall p →
    AreAllOf hall (workers.items ++ p ∷ [])
all-of hall workers p them own = (
  length-append workers.items (p ∷ []) ∙ them.all,
  All-push (IsPassOf hall) workers.items p
      (All-weaker (HasOnlyWorked hall) (IsPassOf hall) (λ q it. it.pass) workers.items them.worked) own,
)

module _ (hall : Hall) (workers : Many Pass) (it : HallLoop) (d booked last : DeskState) (beside : IsBeside hall it)
    (them : AreWorkersOf hall workers) (closed : IsLast hall (workers.items ++ it.pass ∷ []) d)
    (left : List Done) (first : BooksAll d left booked) (first_desk : IsDesk booked)
    (second : Enters is_back booked last) (second_desk : IsDesk last) where
  pub settles : IsClosed hall it.pass it.waiting it.counts it.admitted it.handed it.closed last
  settles =
      closed-on hall it.pass it.waiting it.counts it.admitted it.handed it.closed booked last
      (closed-on hall it.pass it.waiting it.counts it.admitted it.handed it.closed d booked
      (closes hall workers.items it.pass it.waiting it.counts it.slots it.admitted it.handed it.closed d beside
      them.worked (all-of hall workers it.pass them beside.pass) closed)
      (works-done d booked first.results) first_desk)
      (works-back booked last second) second_desk

  pub settled : (now : LoopState) →
      now ≡ record { desk = last; handed = it.handed; counts = it.counts } → IsSettled hall it now
  settled now is = subst (IsSettled hall it) (sym is) (record {
    job_is = settles.job_is;
    slots_are = settles.slots_are;
    records = settles.records;
    handed = refl;
  })

  pub unsettled : (journal : List Entry) → journal ≡ last.journal → IsUnsettled hall it it.counts journal
  unsettled journal is =
      let left = leaves last (job_of hall) (slots_of hall) (given_of it) journal it.waiting it.handed it.counts
      settles.told_is.tally settles.job_is settles.slots_are settles.records is in
      record { run = left.run; counted = left.counted }

  pub leaves-none : IsConserved hall (workers.items ++ it.pass ∷ []) left → (journal : List Entry) →
      journal ≡ last.journal → BooksLeft hall (workers.items ++ it.pass ∷ []) journal
  leaves-none conserved journal is = record {
    closed = d;
    last = closed;
    left = left;
    conserved = conserved;
    booked = booked;
    books = first;
    recalled = second.entries;
    backs = second.only;
    journal_is = is ∙ ap (λ (x : DeskState). x.journal) second.appended;
  }
