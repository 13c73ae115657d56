-- The bytes that were searched before, and those of this search, hold no line feed before the place that was found.
use Rattle.std.proofs.Common.{◌≡◌, ◌<◌, length, slice_index, arith}
use Rattle.std.proofs.lemmas.Bool.Decides.{nat_tests}
use Rattle.std.proofs.lemmas.List.{take_all}
use Rattle.text_model.specs.declared.bytes.TheConstants.{LINE_FEED}
use Rattle.event_records.proofs.Cuts.{HasNo-take}
use Rattle.event_records.proofs.LineEnds.{heads-behind, none-behind}
use Rattle.event_records.proofs.first_line.first_line.Goals as goal

pub last_line-requires : goal.last_line-requires
last_line-requires c =
    let unseen = c.split_at.result.1.now in
    let none = HasNo-take LINE_FEED (length unseen) unseen (omega arith) (λ k lt e. c.in-None.ensures k (omega arith) lt (grind (arith, nat_tests))) in
    record {
      none = none-behind c.args.searched c.args.bytes.now unseen c.requires.none c.split_at.ensures.back (rw (take_all (length unseen) unseen (omega arith)) at none);
    }

pub returns-in-Some-clause-heads : goal.returns-in-Some-clause-heads
returns-in-Some-clause-heads c =
    let unseen = c.split_at.result.1.now in
    let i = c.in-Some.index in
    let low : i < length unseen = c.in-Some.ensures.0.high in
    let found : slice_index unseen i ≡ LINE_FEED = grind (arith, nat_tests, c.in-Some.ensures.1) in
    let none = HasNo-take LINE_FEED i unseen (omega arith) (λ k lt e. c.in-Some.ensures.0.before k (omega arith) lt (grind (arith, nat_tests))) in
    heads-behind c.args.ended c.args.searched i c.args.bytes.now unseen c.requires.within c.requires.none c.split_at.ensures.back low found none
