-- A pass before, inside and after a call.
use Rattle.std.proofs.Common.{◌≡◌, ℕ, List, [], ◌∷◌, ◌++◌, sym, ap, ◌∙◌, subst, ⊎_elim, append_assoc, append-nil}
use mathlib.Core.List.{IsPrefix}
use Rattle.action_queue.specs.declared.actions.Actions.{Actions}
use Rattle.action_queue.specs.declared.pass.QueuePass.{QueuePass}
use Rattle.action_queue.specs.Passes.{IsPassOf as IsQueuePassOf, job_of as job_of_queue, put_of, took_of}
use Rattle.hive_model.specs.History.{BeginsWith, positions_added}
use Rattle.hive_model.specs.Job.{Job}
use Rattle.hive_model.specs.declared.item.Item.{Item}
use Rattle.expr_code.specs.Claim.{IsOfJob}
use Rattle.scheduler_core.specs.State.{IsDesk}
use Rattle.scheduler_core.specs.declared.answers.Claim.TheVariants.{Job as Working, Idle, Over, NoMemory as NoneToWork}
use Rattle.turn_lock.specs.History.{MayFollow}
use Rattle.turn_lock.specs.Pass.{IsHolding, IsIdle, held, rights_of}
use Rattle.turn_lock.specs.Turn.{IsPassOf as IsTurnPassOf}
use Rattle.hive_hall.specs.Calls.{Calls, QueuesNone, WorkIsOf}
use Rattle.hive_hall.specs.Hold.{IsBack, IsOut, IsTaken}
use Rattle.hive_hall.specs.Legal.{IsHistoryOf}
use Rattle.hive_hall.specs.Pass.{IsPassOf, Knows, Lock, history_of, job_of, opening_in, own, participant, seen, slots_in, slots_of}
use Rattle.hive_hall.specs.Says.{ClaimHere, Histories}
use Rattle.hive_hall.specs.declared.answers.Ask.{Ask}
use Rattle.hive_hall.specs.declared.answers.Ask.TheVariants.{Told, Stopped}
use Rattle.hive_hall.specs.declared.board.Board.{Board}
use Rattle.hive_hall.specs.declared.hall.Hall.{Hall}
use Rattle.hive_hall.specs.declared.pass.Pass.{Pass}
use Rattle.hive_hall.proofs.Histories.{is-history, one-core}
use Rattle.hive_hall.proofs.Positions.{grown-participant, same-participant}

follows-prefix : (xs ys : List Item) → MayFollow xs ys → IsPrefix xs ys
follows-prefix xs ys = ⊎_elim
    (λ (same : ys ≡ xs). ([], append-nil xs ∙ sym same))
    (λ (more : (x : Item) × (ys ≡ xs ++ x ∷ [])). (more.0 ∷ [], sym more.1))

pub prefix-trans : (xs ys zs : List Item) → IsPrefix xs ys → IsPrefix ys zs → IsPrefix xs zs
prefix-trans xs ys zs a b = (a.0 ++ b.0, sym (append_assoc xs a.0 b.0) ∙ (ap (λ l. l ++ b.0) a.1 ∙ b.1))

pub begins-with : (xs ys : List Item) → IsPrefix xs ys → BeginsWith ys xs
begins-with xs ys a = (a.0, sym a.1)

pub prefix-of : (xs ys : List Item) → BeginsWith ys xs → IsPrefix xs ys
prefix-of xs ys a = (a.0, sym a.1)

-- nothing has changed but who holds the board
pub knows-same : (lock : Lock) (line : Actions) (p q : Pass) → Knows lock line p → IsTurnPassOf lock q.turn →
    rights_of q.turn ≡ rights_of p.turn → seen q ≡ seen p → own q ≡ own p → q.queue ≡ p.queue → Knows lock line q
knows-same lock line p q it turn rights seen_same own_same queue = record {
  turn = turn;
  right = rights ∙ it.right;
  queue = subst (IsQueuePassOf line) (sym queue) it.queue;
  begins = subst (λ l. BeginsWith l (opening_in lock)) (sym seen_same) it.begins;
  told = it.told;
  legal = subst (λ l. IsHistoryOf (job_of_queue line) (slots_in (opening_in lock)) l it.told) (sym seen_same) it.legal;
  in_order = same-participant (participant p) (participant q) seen_same own_same it.in_order;
}

-- it has seen what the board keeps now
pub knows-more : (lock : Lock) (line : Actions) (p q : Pass) (board : Board) (before : List Item) →
    Knows lock line p → IsTurnPassOf lock q.turn → rights_of q.turn ≡ rights_of p.turn →
    IsPrefix (seen p) before → MayFollow before (history_of board) → IsDesk board.desk →
    seen q ≡ history_of board → own q ≡ own p ++ positions_added before (history_of board) → q.queue ≡ p.queue →
    Knows lock line q
knows-more lock line p q board before it turn rights prefix follows desk seen_now own_now queue =
    let job : Job = job_of_queue line in
    let slots : ℕ = slots_in (opening_in lock) in
    let longer = follows-prefix before (history_of board) follows in
    let whole = prefix-trans (seen p) before (history_of board) prefix longer in
    let opened = prefix-trans (opening_in lock) (seen p) (history_of board)
    (prefix-of (opening_in lock) (seen p) it.begins) whole in
    let core = one-core job slots (seen p) it.told board.desk board.stop it.legal whole in
    let legal = is-history job slots board.desk board.stop core.job_is core.slots_are desk in
    record {
      turn = turn;
      right = rights ∙ it.right;
      queue = subst (IsQueuePassOf line) (sym queue) it.queue;
      begins = subst (λ l. BeginsWith l (opening_in lock)) (sym seen_now)
          (begins-with (opening_in lock) (history_of board) opened);
      told = board.desk;
      legal = subst (λ l. IsHistoryOf job slots l board.desk) (sym seen_now) legal;
      in_order = grown-participant (participant p) (participant q) before prefix
          (subst (MayFollow before) (sym seen_now) follows)
          (own_now ∙ ap (λ l. own p ++ positions_added before l) (sym seen_now)) it.in_order;
    }

pub takes : (hall : Hall) (p q : Pass) (board : Board) → IsPassOf hall p → IsTurnPassOf hall.turn q.turn →
    IsHolding q.turn → held q.turn ≡ history_of board → IsPrefix (seen p) (history_of board) →
    rights_of q.turn ≡ rights_of p.turn → seen q ≡ seen p → own q ≡ own p → q.queue ≡ p.queue →
    q.number ≡ p.number → IsDesk board.desk → IsTaken hall p board q
takes hall p q board it turn holding has prefix rights seen_same own_same queue number desk =
    let core = one-core (job_of hall) (slots_of hall) (seen p) it.knows.told board.desk board.stop it.knows.legal
    prefix in
    record {
      inside = record {
        knows = knows-same hall.turn hall.queue p q it.knows turn rights seen_same own_same queue;
        holding = holding;
      };
      desk = desk;
      job = core.job_is;
      slots = core.slots_are;
      has = has;
      seen_before = seen_same;
      own_before = own_same;
      queue = queue;
      number = number;
    }

pub gives : (hall : Hall) (p q : Pass) (board : Board) → IsOut hall p board → IsTurnPassOf hall.turn q.turn →
    IsIdle q.turn → rights_of q.turn ≡ rights_of p.turn → seen q ≡ history_of board →
    own q ≡ own p ++ positions_added (held p.turn) (history_of board) → q.queue ≡ p.queue →
    q.number ≡ p.number → IsDesk board.desk → IsBack hall p board q
gives hall p q board it turn idle rights seen_now own_now queue number desk = record {
  outside = record {
    knows = knows-more hall.turn hall.queue p q board (held p.turn) it.inside.knows turn rights
        it.inside.holding.seen it.follows desk seen_now own_now queue;
    idle = idle;
  };
  seen_now = seen_now;
  own_now = own_now;
  queue = queue;
  number = number;
}

-- a call: the board was taken, changed by one step, and given back
pub called : (hall : Hall) (happened : Job → ℕ → Histories) (p mid q : Pass) (board after : Board) →
    IsPassOf hall p → IsTaken hall p board mid → happened board.desk.job board.desk.slots (history_of board)
    (history_of after) →
    IsBack hall mid after q → Calls (happened (job_of hall) (slots_of hall)) p q
called hall happened p mid q board after it taken step back = record {
  found = history_of board;
  begins = begins-with (seen p) (history_of board)
      (subst (λ l. IsPrefix l (history_of board)) taken.seen_before
      (subst (IsPrefix (seen mid)) taken.has taken.inside.holding.seen));
  step = subst (λ l. happened (job_of hall) (slots_of hall) (history_of board) l) (sym back.seen_now)
      (subst (λ n. happened (job_of hall) n (history_of board) (history_of after)) taken.slots
      (subst (λ j. happened j board.desk.slots (history_of board) (history_of after)) taken.job step));
  own_more = back.own_now
      ∙ (ap (λ l. l ++ positions_added (held mid.turn) (history_of after)) taken.own_before
      ∙ (ap (λ l. own p ++ positions_added l (history_of after)) taken.has
      ∙ ap (λ l. own p ++ positions_added (history_of board) l) (sym back.seen_now)));
  number_same = back.number ∙ taken.number;
}

pub queues-none : (hall : Hall) (p mid q : Pass) (board after : Board) → IsTaken hall p board mid →
    IsBack hall mid after q → QueuesNone p q
queues-none hall p mid q board after taken back =
    let same : q.queue ≡ p.queue = back.queue ∙ taken.queue in
    (ap (λ (x : QueuePass). put_of x) same, ap (λ (x : QueuePass). took_of x) same)

-- the board may go back
pub out : (hall : Hall) (p mid : Pass) (board after : Board) → IsTaken hall p board mid →
    MayFollow (history_of board) (history_of after) → IsOut hall mid after
out hall p mid board after taken follows = record {
  inside = taken.inside;
  follows = subst (λ l. MayFollow l (history_of after)) (sym taken.has) follows;
}

-- what is handed out is the hall's job's

work-of-step : (job : Job) (slots worker : ℕ) (answer : Ask) (found left : List Item) →
    ClaimHere job slots worker answer found left → WorkIsOf job answer
work-of-step job slots worker (Told (Working v)) found left step =
    subst (λ j. IsOfJob j v) step.1.legal.job step.1.said.of_job
work-of-step job slots worker (Told (Idle running)) found left step = tt
work-of-step job slots worker (Told Over) found left step = tt
work-of-step job slots worker (Told NoneToWork) found left step = tt
work-of-step job slots worker Stopped found left step = tt

pub work-of-job : (hall : Hall) (p mid : Pass) (board : Board) (worker : ℕ) (answer : Ask) (left : List Item) →
    IsTaken hall p board mid →
    ClaimHere board.desk.job board.desk.slots worker answer (history_of board) left → WorkIsOf (job_of hall) answer
work-of-job hall p mid board worker answer left taken step =
    subst (λ j. WorkIsOf j answer) taken.job
    (work-of-step board.desk.job board.desk.slots worker answer (history_of board) left step)
