-- All passes of a hall come back, one by one from the end of their list.
use Rattle.std.proofs.Common.{◌≡◌, ℕ, ◌+◌, ◌<◌, ◌≤◌, List, [], ◌∷◌, ◌++◌, ◌==◌, cond, get_or, All, length, Some, sum_by, refl, sym, ap, ◌∙◌, subst, arith, append_assoc, append-nil, length-append}
use Rattle.std.proofs.lemmas.List.Concat.{flat_map-append}
use Rattle.std.proofs.lemmas.List.Elements.{All-cons, All-pop, All-push, All-same}
use Rattle.std.proofs.lemmas.List.Sorted.{IsPermutation-append_comm, IsPermutation-append_left, IsPermutation-refl, IsPermutation-sym, IsPermutation-trans}
use Rattle.std.proofs.lemmas.List.Sums.{sum_by-append, sum_by-cons}
use Rattle.std.specs.List.{flat_map}
use Rattle.std.specs.List.Sorted.{IsPermutation}
use mathlib.Core.List.{IsPrefix}
use Rattle.action_queue.specs.declared.actions.Actions.{Actions}
use Rattle.action_queue.specs.declared.pass.QueuePass.{QueuePass}
use Rattle.action_queue.specs.Passes.{IsPassOf as IsQueuePassOf, job_of as job_of_queue, passes_of as passes_of_queue, put_of, took_of}
use Rattle.expr_code.specs.Claim.{Done, IsOfJob}
use Rattle.hive_model.specs.History.{BeginsWith, DeskState}
use Rattle.hive_model.specs.Many.{Many}
use Rattle.hive_model.specs.declared.item.Item.{Item}
use Rattle.scheduler_core.specs.State.{IsDesk}
use Rattle.turn_lock.specs.declared.kept.Kept.{Ghosts}
use Rattle.turn_lock.specs.declared.pass.TurnPass.{TurnPass}
use Rattle.turn_lock.specs.History.{below, times}
use Rattle.turn_lock.specs.Pass.{IsIdle, rights_of, seen as seen_by, own as own_of}
use Rattle.turn_lock.specs.Turn.{IsPassOf as IsTurnPassOf}
use Rattle.hive_hall.specs.Closing.{IsConserved, IsLast}
use Rattle.hive_hall.specs.Legal.{IsHistoryOf}
use Rattle.hive_hall.specs.Pass.{IsPassOf, Knows, Lock, history_of, job_of, opening_in, opening_of, own, passes_of, put, seen, slots_in, slots_of, took}
use Rattle.hive_hall.specs.declared.board.Board.{Board}
use Rattle.hive_hall.specs.declared.hall.Hall.{Hall}
use Rattle.hive_hall.specs.declared.pass.Pass.{Pass}
use Rattle.hive_hall.proofs.Histories.{is-history, one-core}
use Rattle.hive_hall.proofs.Passes.{begins-with, prefix-of, prefix-trans}

-- what a pass and the next ones put or took, and what they have in the order in which they came back
next-joined : (f : Pass → List Done) (g : QueuePass → List Done) (p : Pass) (back : List Pass)
    (room : List QueuePass) → f p ≡ g p.queue → IsPermutation (flat_map f back) (flat_map g room) →
    IsPermutation (flat_map f (p ∷ back)) (flat_map g (room ++ p.queue ∷ []))
next-joined f g p back room same joined =
    let end : flat_map g room ++ f p ≡ flat_map g (room ++ p.queue ∷ []) =
    ap (λ l. flat_map g room ++ l) (same ∙ sym (append-nil (g p.queue)))
    ∙ sym (flat_map-append g room (p.queue ∷ [])) in
    subst (IsPermutation (flat_map f (p ∷ back))) end
    (IsPermutation-trans (f p ++ flat_map f back) (flat_map f back ++ f p) (flat_map g room ++ f p)
    (IsPermutation-append_comm (f p) (flat_map f back))
    (IsPermutation-append_left (f p) (flat_map f back) (flat_map g room) joined))

module _ {g : Ghosts Board Item} where
  -- the passes in `back` have come back, the others are still to come
  pub record IsGathered (lock : Lock) (line : Actions) (passes rest : List Pass) (all : TurnPass Board Item g)
      (room : Many QueuePass) : Type 0 where
    pub back : List Pass
    pub split : passes ≡ rest ++ back
    pub some : 0 < length back
    pub turn : IsTurnPassOf lock all
    pub idle : IsIdle all
    pub right : rights_of all ≡ length back
    pub others : All (λ p. Knows lock line p × IsIdle p.turn) rest
    pub opened : IsPrefix (opening_in lock) (seen_by all)
    pub first_seen : List Item
    pub told : DeskState
    pub legal : IsHistoryOf (job_of_queue line) (slots_in (opening_in lock)) first_seen told
    pub legal_front : IsPrefix first_seen (seen_by all)
    pub begins : All (λ p. IsPrefix (seen p) (seen_by all)) back
    pub owned : (i : ℕ) → sum_by (λ p. times i (own p)) back ≡ times i (own_of all)
    pub count : length room.items ≡ length back
    pub queue : All (IsQueuePassOf line) room.items
    pub spare : passes_of_queue line ≤ room.spare + length room.items
    pub puts : IsPermutation (flat_map put back) (flat_map put_of room.items)
    pub tooks : IsPermutation (flat_map took back) (flat_map took_of room.items)
    pub puts_one : length back ≡ 1 → flat_map put back ≡ flat_map put_of room.items
    pub tooks_one : length back ≡ 1 → flat_map took back ≡ flat_map took_of room.items

times-joined : (i : ℕ) (xs ys : List ℕ) → times i (xs ++ ys) ≡ times i xs + times i ys
times-joined i xs ys = sum_by-append (λ q. cond (q == i) 1 0) xs ys

-- the first one to come back
pub gathers-first : (hall : Hall) (passes rest : List Pass) (first : Pass) (room now : Many QueuePass) →
    passes ≡ rest ++ first ∷ [] → All (IsPassOf hall) passes → room.items ≡ [] →
    now.items ≡ room.items ++ first.queue ∷ [] → now.spare + 1 ≡ room.spare →
    passes_of_queue hall.queue ≤ room.spare → IsGathered hall.turn hall.queue passes rest first.turn now
gathers-first hall passes rest first room now split all none more spare enough =
    let apart = All-pop (IsPassOf hall) passes rest (Some first) split all in
    let it = apart.1 in
    let items : now.items ≡ first.queue ∷ [] = more ∙ ap (λ l. l ++ first.queue ∷ []) none in
    let puts = ap (flat_map put_of) (sym items) in
    let tooks = ap (flat_map took_of) (sym items) in
    record {
      back = first ∷ [];
      split = split;
      some = omega arith;
      turn = it.knows.turn;
      idle = it.idle;
      right = it.knows.right;
      others = λ k d w. let one = apart.0 k d w in (one.knows, one.idle);
      opened = prefix-of (opening_in hall.turn) (seen first) it.knows.begins;
      first_seen = seen first;
      told = it.knows.told;
      legal = it.knows.legal;
      legal_front = ([], append-nil (seen first));
      begins = All-cons (λ p. IsPrefix (seen p) (seen first)) first [] ([], append-nil (seen first))
          (λ k d w. absurd (omega arith));
      owned = λ i. sum_by-cons (λ p. times i (own p)) first [] ∙ omega arith;
      count = ap length items;
      queue = subst (All (IsQueuePassOf hall.queue)) (sym items)
          (All-cons (IsQueuePassOf hall.queue) first.queue [] it.knows.queue (λ k d w. absurd (omega arith)));
      spare = (let one = ap length items in omega arith);
      puts = subst (IsPermutation (flat_map put (first ∷ []))) puts (IsPermutation-refl (flat_map put (first ∷ [])));
      tooks = subst (IsPermutation (flat_map took (first ∷ []))) tooks (IsPermutation-refl (flat_map took (first ∷ [])));
      puts_one = λ one. puts;
      tooks_one = λ one. tooks;
    }

module _ {g : Ghosts Board Item} (lock : Lock) (line : Actions) (passes rest : List Pass) (all : TurnPass Board Item g)
    (room : Many QueuePass) (it : IsGathered lock line passes rest all room) where
  -- one more
  pub gathers-next : (fewer : List Pass) (p : Pass) (whole : TurnPass Board Item g) (now : Many QueuePass) →
      rest ≡ fewer ++ p ∷ [] → IsTurnPassOf lock whole → IsIdle whole →
      rights_of whole ≡ rights_of all + rights_of p.turn → IsPrefix (seen_by all) (seen_by whole) →
      IsPrefix (seen p) (seen_by whole) → own_of whole ≡ own_of all ++ own p →
      now.items ≡ room.items ++ p.queue ∷ [] → now.spare + 1 ≡ room.spare →
      IsGathered lock line passes fewer whole now
  gathers-next fewer p whole now split turn idle rights longer prefix owns more spare =
      let apart = All-pop (λ q. Knows lock line q × IsIdle q.turn) rest fewer (Some p) split it.others in
      let mine = apart.1.0 in
      let right = it.right in
      let one = mine.right in
      let count = it.count in
      let room_was = it.spare in
      let one_more = ap length more ∙ length-append room.items (p.queue ∷ []) in
      let last : length (p ∷ it.back) ≡ 1 → ⊥ = λ lone. let some = it.some in omega arith in
      record {
        back = p ∷ it.back;
        split = it.split ∙ (ap (λ l. l ++ it.back) split ∙ append_assoc fewer (p ∷ []) it.back);
        some = omega arith;
        turn = turn;
        idle = idle;
        right = omega arith;
        others = apart.0;
        opened = prefix-trans (opening_in lock) (seen_by all) (seen_by whole) it.opened longer;
        first_seen = it.first_seen;
        told = it.told;
        legal = it.legal;
        legal_front = prefix-trans it.first_seen (seen_by all) (seen_by whole) it.legal_front longer;
        begins = All-cons (λ q. IsPrefix (seen q) (seen_by whole)) p it.back prefix
            (λ k d w. prefix-trans (seen (get_or it.back k d)) (seen_by all) (seen_by whole) (it.begins k d w) longer);
        owned = λ i.
            let sum = sum_by-cons (λ q. times i (own q)) p it.back in
            let both = ap (times i) owns ∙ times-joined i (own_of all) (own p) in
            let was = it.owned i in
            omega arith;
        count = omega arith;
        queue = All-same (IsQueuePassOf line) _ _ more (All-push (IsQueuePassOf line) room.items p.queue it.queue mine.queue);
        spare = omega arith;
        puts = subst (λ l. IsPermutation (flat_map put (p ∷ it.back)) (flat_map put_of l)) (sym more)
            (next-joined put put_of p it.back room.items refl it.puts);
        tooks = subst (λ l. IsPermutation (flat_map took (p ∷ it.back)) (flat_map took_of l)) (sym more)
            (next-joined took took_of p it.back room.items refl it.tooks);
        puts_one = λ lone. absurd (last lone);
        tooks_one = λ lone. absurd (last lone);
      }

module _ {g : Ghosts Board Item} (hall : Hall) (passes rest : List Pass) (all : TurnPass Board Item g)
    (room : Many QueuePass) (it : IsGathered hall.turn hall.queue passes rest all room) (none : rest ≡ []) where
  all-back : it.back ≡ passes
  all-back = sym (it.split ∙ ap (λ l. l ++ it.back) none)

  -- all have come back, and the lock is taken apart
  pub closes-history : (board : Board) → IsPrefix (seen_by all) (history_of board) →
      ((i : ℕ) → times i (own_of all) + below i (length (opening_of hall)) ≡ below i (length (history_of board))) →
      IsDesk board.desk → IsLast hall passes board.desk
  closes-history board longer owned desk =
      let final : List Item = history_of board in
      let front = prefix-trans it.first_seen (seen_by all) final it.legal_front longer in
      let core = one-core (job_of hall) (slots_of hall) it.first_seen it.told board.desk board.stop it.legal front in
      record {
        final = final;
        legal = is-history (job_of hall) (slots_of hall) board.desk board.stop core.job_is core.slots_are desk;
        opened = begins-with (opening_of hall) final
            (prefix-trans (opening_of hall) (seen_by all) final it.opened longer);
        begins = subst (All (λ p. BeginsWith final (seen p))) all-back
            (λ k d w. begins-with (seen (get_or it.back k d)) final
            (prefix-trans (seen (get_or it.back k d)) (seen_by all) final (it.begins k d w) longer));
        owned = λ i.
            let sum = ap (sum_by (λ p. times i (own p))) all-back in
            let was = it.owned i in
            let whole = owned i in
            omega arith;
      }

  -- and the queue is ended
  pub closes-queue : (left : List Done) →
      IsPermutation (flat_map put_of room.items) (flat_map took_of room.items ++ left) →
      (passes_of hall ≡ 1 → flat_map put_of room.items ≡ flat_map took_of room.items ++ left) →
      All (λ d. IsOfJob (job_of hall) d.claim) left → length passes ≡ passes_of hall → IsConserved hall passes left
  closes-queue left conserved in_order of_job count =
      let puts = subst (λ l. IsPermutation (flat_map put l) (flat_map put_of room.items)) all-back it.puts in
      let tooks = subst (λ l. IsPermutation (flat_map took l) (flat_map took_of room.items)) all-back it.tooks in
      let back = IsPermutation-append_left left (flat_map took_of room.items) (flat_map took passes)
      (IsPermutation-sym (flat_map took passes) (flat_map took_of room.items) tooks) in
      record {
        conserved = IsPermutation-trans (flat_map put passes) (flat_map put_of room.items) (flat_map took passes ++ left)
            puts
            (IsPermutation-trans (flat_map put_of room.items) (flat_map took_of room.items ++ left)
            (flat_map took passes ++ left) conserved back);
        in_order = λ lone.
            let single : length it.back ≡ 1 = ap length all-back ∙ (count ∙ lone) in
            ap (flat_map put) (sym all-back)
            ∙ (it.puts_one single ∙ (in_order lone
            ∙ ap (λ l. l ++ left) (sym (it.tooks_one single) ∙ ap (flat_map took) all-back)));
        of_job = of_job;
      }
