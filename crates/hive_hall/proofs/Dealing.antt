-- Passes are made one by one.
use Rattle.std.proofs.Common.{get_or, ◌≡◌, ℕ, zero, suc, ◌+◌, ◌-◌, ◌<◌, ◌≤◌, List, [], ◌∷◌, ◌++◌, All, length, slice_get, Some, None, refl, sym, ap, ◌∙◌, subst, ⊎_elim, arith, append-nil, length-append}
use Rattle.std.proofs.lemmas.Bool.{cases_lt}
use Rattle.std.proofs.lemmas.List.Elements.{All-pop, All-push, All-same}
use Rattle.std.proofs.lemmas.Option.{none-some, same_Some}
use Rattle.action_queue.specs.declared.actions.Actions.{Actions}
use Rattle.action_queue.specs.declared.pass.QueuePass.{QueuePass}
use Rattle.action_queue.specs.Passes.{IsUnused, IsPassOf as IsQueuePassOf, job_of as job_of_queue}
use Rattle.hive_model.proofs.Lists.{slice_get-append_back, slice_get-append_front}
use Rattle.hive_model.specs.History.{DeskState, history}
use Rattle.hive_model.specs.Many.{Many}
use Rattle.hive_model.specs.declared.item.Item.{Item}
use Rattle.turn_lock.specs.declared.kept.Kept.{Ghosts}
use Rattle.turn_lock.specs.declared.pass.TurnPass.{TurnPass}
use Rattle.turn_lock.specs.Pass.{IsIdle, rights_of, seen as seen_by, own as own_of}
use Rattle.turn_lock.specs.Turn.{IsPassOf as IsTurnPassOf, all_rights}
use Rattle.hive_hall.specs.Closing.{AreNumbered, IsNewIn}
use Rattle.hive_hall.specs.Dealing.{IsFirst, IsFresh, IsHallOf, IsLine, OpensLegally, opening_participant}
use Rattle.hive_hall.specs.Legal.{IsHistoryOf}
use Rattle.hive_hall.specs.Pass.{Knows, Lock, number_of, opening_in, own, seen, slots_in, slots_of}
use Rattle.hive_hall.specs.declared.board.Board.{Board}
use Rattle.hive_hall.specs.declared.hall.Hall.{Hall}
use Rattle.hive_hall.specs.declared.pass.Pass.{Pass}
use Rattle.hive_hall.proofs.Histories.{is-history}
use Rattle.scheduler_core.specs.State.{IsDesk}

module _ {g : Ghosts Board Item} where
  -- so many passes were made: the first one of the lock has the other rights, and as many passes of the queue are left
  pub record IsDealt (lock : Lock) (queue : Actions) (passes made_so_far : ℕ) (first : TurnPass Board Item g)
      (dealt : Many QueuePass) (made : Many Pass) : Type 0 where
    pub turn : IsTurnPassOf lock first
    pub idle : IsIdle first
    pub right : rights_of first + made_so_far ≡ passes
    pub opened : seen_by first ≡ opening_in lock
    pub none : own_of first ≡ []
    pub left : length dealt.items + made_so_far ≡ passes
    pub unused : All (λ q. IsQueuePassOf queue q × IsUnused q) dealt.items
    pub room_left : made_so_far ≤ dealt.spare
    pub count : length made.items ≡ made_so_far
    pub room : passes ≤ made.spare + made_so_far
    pub fresh : All (IsFresh lock queue) made.items
    pub numbers : AreNumbered made.items

pub made-fresh : (lock : Lock) (queue : Actions) (p : Pass) → IsTurnPassOf lock p.turn → IsIdle p.turn →
    rights_of p.turn ≡ 1 → seen p ≡ opening_in lock → own p ≡ [] → IsQueuePassOf queue p.queue × IsUnused p.queue →
    OpensLegally lock queue → IsFresh lock queue p
made-fresh lock queue p turn idle right opened none unused legal = record {
  knows = record {
    turn = turn;
    right = right;
    queue = unused.0;
    begins = ([], opened ∙ sym (append-nil (opening_in lock)));
    told = legal.told;
    legal = subst (λ l. IsHistoryOf (job_of_queue queue) (slots_in (opening_in lock)) l legal.told) (sym opened)
        legal.legal;
    in_order = record {
      increasing = λ i j m n less a b. absurd (none-some m (ap (λ l. slice_get l i) (sym none) ∙ a));
      within = λ i n a. absurd (none-some n (ap (λ l. slice_get l i) (sym none) ∙ a));
    };
  };
  idle = idle;
  opened = λ i. record { seen = opened i; own = none i; put = unused.1.0 i; took = unused.1.1 i };
}

-- a pass more, with the next number
pub numbered-more : (passes : List Pass) (p : Pass) → AreNumbered passes → number_of p ≡ length passes →
    AreNumbered (passes ++ p ∷ [])
numbered-more passes p numbers number i q there = ⊎_elim
    (λ (less : i < length passes). numbers i q (sym (slice_get-append_front passes (p ∷ []) i less) ∙ there))
    (λ (past : length passes ≤ i).
    last (i - length passes) refl past (sym (slice_get-append_back passes (p ∷ []) i past) ∙ there))
    (cases_lt i (length passes))
  where
    last : (k : ℕ) → i - length passes ≡ k → length passes ≤ i → slice_get (p ∷ []) (i - length passes) ≡ Some q →
        number_of q ≡ i
    last zero is past at =
        let same : p ≡ q = same_Some p q (ap (slice_get (p ∷ [])) (sym is) ∙ at) in
        sym (ap number_of same) ∙ (number ∙ omega arith)
    last (suc k) is past at = absurd (none-some q (ap (slice_get (p ∷ [])) (sym is) ∙ at))

-- the next pass of the queue
pub next-unused : (queue : Actions) (dealt rest : List QueuePass) (q : QueuePass) → dealt ≡ rest ++ q ∷ [] →
    All (λ x. IsQueuePassOf queue x × IsUnused x) dealt →
    All (λ x. IsQueuePassOf queue x × IsUnused x) rest × (IsQueuePassOf queue q × IsUnused q)
next-unused queue dealt rest q split all =
    let apart = All-pop (λ x. IsQueuePassOf queue x × IsUnused x) dealt rest (Some q) split all in
    (apart.0, apart.1)

pub one-less : (dealt rest : List QueuePass) (q : QueuePass) → dealt ≡ rest ++ q ∷ [] → length dealt ≡ length rest + 1
one-less dealt rest q split = ap length split ∙ length-append rest (q ∷ [])

pub one-more : (made now : List Pass) (p : Pass) → now ≡ made ++ p ∷ [] → length now ≡ length made + 1
one-more made now p more = ap length more ∙ length-append made (p ∷ [])

pub fresh-more : (lock : Lock) (queue : Actions) (made now : List Pass) (p : Pass) → now ≡ made ++ p ∷ [] →
    All (IsFresh lock queue) made → IsFresh lock queue p → All (IsFresh lock queue) now
fresh-more lock queue made now p more all fresh =
    All-same (IsFresh lock queue) _ _ more (All-push (IsFresh lock queue) made p all fresh)

pub numbers-more : (made now : List Pass) (p : Pass) → now ≡ made ++ p ∷ [] → AreNumbered made →
    number_of p ≡ length made → AreNumbered now
numbers-more made now p more numbers number = subst AreNumbered (sym more) (numbered-more made p numbers number)

module _ {g : Ghosts Board Item} (lock : Lock) (queue : Actions) (passes : ℕ) where
  pub deals-none : (first : TurnPass Board Item g) (dealt : Many QueuePass) (made : Many Pass) →
      IsFirst passes lock first → IsLine passes queue dealt made → IsDealt lock queue passes 0 first dealt made
  deals-none first dealt made begins line =
      let right = begins.right in
      let all = line.all in
      let room = line.room in
      record {
        turn = begins.turn;
        idle = begins.idle;
        right = omega arith;
        opened = begins.opened;
        none = begins.none;
        left = omega arith;
        unused = line.unused;
        room_left = omega arith;
        count = ap length line.none;
        room = omega arith;
        fresh = subst (All (IsFresh lock queue)) (sym line.none) (λ k d within. absurd (omega arith));
        numbers = subst AreNumbered (sym line.none) (λ i p there. absurd (none-some p there));
      }

  pub deals-one : (n : ℕ) (first later : TurnPass Board Item g) (dealt rest : Many QueuePass) (made now : Many Pass)
      (q : QueuePass) (p : Pass) → IsDealt lock queue passes n first dealt made → IsTurnPassOf lock later →
      IsIdle later → rights_of later + 1 ≡ rights_of first → seen_by later ≡ seen_by first →
      own_of later ≡ own_of first → dealt.items ≡ rest.items ++ q ∷ [] → rest.spare ≡ dealt.spare + 1 →
      now.items ≡ made.items ++ p ∷ [] → now.spare + 1 ≡ made.spare → IsFresh lock queue p → number_of p ≡ n →
      IsDealt lock queue passes (n + 1) later rest now
  deals-one n first later dealt rest made now q p it turn idle rights seen_same own_same split spare more room fresh
      number =
      let right = it.right in
      let left = it.left in
      let less = one-less dealt.items rest.items q split in
      let room_left = it.room_left in
      let count = it.count in
      let room_was = it.room in
      record {
        turn = turn;
        idle = idle;
        right = omega arith;
        opened = seen_same ∙ it.opened;
        none = own_same ∙ it.none;
        left = omega arith;
        unused = (next-unused queue dealt.items rest.items q split it.unused).0;
        room_left = omega arith;
        count = one-more made.items now.items p more ∙ ap (λ n. n + 1) it.count;
        room = omega arith;
        fresh = fresh-more lock queue made.items now.items p more it.fresh fresh;
        numbers = numbers-more made.items now.items p more it.numbers (number ∙ sym it.count);
      }

-- a lock over a board on which no Stop was said

module _ {g : Ghosts Board Item} (lock : Lock) (first : TurnPass Board Item g) (d : DeskState) (passes : ℕ) where
  pub begins : IsTurnPassOf lock first → IsIdle first → all_rights lock ≡ passes → rights_of first ≡ passes →
      opening_in lock ≡ history d None → seen_by first ≡ history d None → own_of first ≡ [] →
      IsFirst passes lock first
  begins turn idle all right opened seen_is none = record {
    turn = turn;
    idle = idle;
    right = right;
    all = all;
    opened = seen_is ∙ sym opened;
    none = none;
  }

slots-told : (d : DeskState) → slots_in (history d None) ≡ d.slots
unfolding history
slots-told d = refl

pub opens-legally : (lock : Lock) (queue : Actions) (d : DeskState) → opening_in lock ≡ history d None →
    job_of_queue queue ≡ d.job → IsDesk d → OpensLegally lock queue
opens-legally lock queue d opened job desk = record {
  told = d;
  legal = subst (λ l. IsHistoryOf (job_of_queue queue) (slots_in l) l d) (sym opened)
      (is-history (job_of_queue queue) (slots_in (history d None)) d None (sym job) (sym (slots-told d)) desk);
}

pub slots-of : (lock : Lock) (queue : Actions) (hall : Hall) (d : DeskState) → IsHallOf lock queue hall →
    opening_in lock ≡ history d None → slots_of hall ≡ d.slots
slots-of lock queue hall d of opened =
    ap (λ (l : Lock). slots_in (opening_in l)) of.turn ∙ (ap slots_in opened ∙ slots-told d)

pub news : (lock : Lock) (queue : Actions) (hall : Hall) (d : DeskState) (passes : List Pass) →
    IsHallOf lock queue hall → opening_in lock ≡ history d None → All (IsFresh lock queue) passes →
    All (IsNewIn hall d) passes
news lock queue hall d passes of opened all = λ k x within.
    let p : Pass = get_or passes k x in
    let fresh = all k x within in (
      record {
        knows = subst (λ l. Knows l hall.queue p) (sym of.turn)
            (subst (λ q. Knows lock q p) (sym of.queue_is) fresh.knows);
        idle = fresh.idle;
      },
      fresh.opened ∙ ap opening_participant opened,
    )
