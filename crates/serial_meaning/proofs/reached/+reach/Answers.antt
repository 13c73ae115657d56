use Rattle.std.proofs.Common.{◌≡◌, ℕ, List, ◌<◌, ◌-◌, [], ◌∷◌, refl, get_or, slice_get, sym, ap, ◌∙◌, arith}
use Rattle.std.proofs.lemmas.List.{append-nil}
use Rattle.event_laws.proofs.Nesting.{reached_within-leaf, reached_within-sequence, reached_within-zero, reached_within-none}
use Rattle.hive_model.specs.Decision.{decision}
use Rattle.hive_model.specs.Reached.{reached_within}
use Rattle.hive_model.specs.Sequence.{Sequence}
use Rattle.hive_model.specs.declared.sequence.Member.TheVariants.{Alg, Seq}
use Rattle.serial_meaning.proofs.Joined.{pieces_more, pieces_all}
use Rattle.serial_meaning.proofs.reached.+reach.Goals as goal
use Rattle.serial_meaning.proofs.reached.+reach.Goals.{in-Alg+in_ok-push-in-Alg, in-Seq+in_ok-reach-in-Seq}

-- the sequence of that number, where list and number went through calls
got : (sequences them : List Sequence) (number went : ℕ) → them ≡ sequences → went ≡ number →
    slice_get sequences number ≡ slice_get them went
got sequences them number went e is = rw (e, is) refl

pub returns-then-depth-eq0 : goal.returns-then-depth-eq0
returns-then-depth-eq0 t c =
    let decide = decision c.args.job.now c.args.outcomes.now in
    rw (reached_within-zero c.args.depth c.args.job.now.sequences decide c.args.number c.if-depth-eq0.true)
    (sym (append-nil c.args.members.now.items))

pub returns-in_default : goal.returns-in_default
returns-in_default t c =
    let decide = decision c.args.job.now c.args.outcomes.now in
    let sequences = c.args.job.now.sequences in
    let some : 0 < c.args.depth = omega arith in
    let found = got sequences c.sequences.result.now c.args.number c.from.result c.sequences.ensures c.from.ensures in
    rw (reached_within-none c.args.depth sequences decide c.args.number some (found ∙ c.in_default.ensures))
    c.in_ok-push.ensures.items

pub loop-member-preserved : goal.loop-member-preserved
loop-member-preserved t c =
    let decide = decision c.args.job.now c.args.outcomes.now in
    let sequences = c.args.job.now.sequences in
    let pieces = reached_within (c.args.depth - 1) sequences decide in
    let members = c.in_ok-member-items.member-items.now in
    let index = c.loop-member.member-index in
    let m = get_or members index (Alg 0) in
    let now = c.loop-member.members.items in
    let more = pieces_more pieces members index (Alg 0) c.args.members.now.items now in
    elim c.match-member.branch [
      | in-Alg+in_ok-push-in-Alg w ↦
          let leaf : Alg w.in-Alg.leaf ∷ [] ≡ pieces m =
          sym (reached_within-leaf (c.args.depth - 1) sequences decide w.in-Alg.leaf) ∙ ap pieces (sym w.in-Alg.is)
          in
          rw w.members-is
          (more w.push-in-Alg.new.self.items _ (Seq c.args.number) c.loop-member-test.true c.loop-member.invariant
          w.in_ok-push-in-Alg.ensures.items leaf)
      | in-Seq+in_ok-reach-in-Seq w ↦
          rw w.members-is
          (more w.reach.new.members.items _ (Seq c.args.number) c.loop-member-test.true c.loop-member.invariant
          w.in_ok-reach-in-Seq.ensures (ap pieces (sym w.in-Seq.is)))
    ]

pub returns : goal.returns
returns t c =
    let q = c.in-Some.sequence.now in
    let decide = decision c.args.job.now c.args.outcomes.now in
    let sequences = c.args.job.now.sequences in
    let some : 0 < c.args.depth = omega arith in
    let found = got sequences c.sequences.result.now c.args.number c.from.result c.sequences.ensures c.from.ensures in
    let pieces = reached_within (c.args.depth - 1) sequences decide in
    let members = c.in_ok-member-items.member-items.now in
    rw (reached_within-sequence c.args.depth sequences decide c.args.number q some (found ∙ c.in-Some.ensures))
    (pieces_all pieces members _ c.loop-member.member-index c.args.members.now.items c.loop-member.members.items
    (Seq c.args.number) c.loop-member-test.false c.loop-member.invariant c.in_ok-member-items.ensures)
