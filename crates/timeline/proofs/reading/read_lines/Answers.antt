use Rattle.std.proofs.Common.{Ok, ap, sym, ◌∙◌, arith}
use Rattle.text_model.specs.TimelineRead.{entries_of}
use Rattle.timeline.proofs.Steps.{all_read, left_open, one_more, refused}
use Rattle.timeline.proofs.reading.read_lines.Goals as goal

pub returns-in-Err : goal.returns-in-Err
unfolding entries_of
returns-in-Err c told =
    refused _ c.loop-line.entries.items c.loop-line.number c.loop-line.rest.now c.in-Some.line.now
    c.in-Some.behind.now c.in-Err.cause
    c.loop-line.invariant.reads c.in-Some.ensures.some c.in-Err.ensures

pub loop-line-preserved : goal.loop-line-preserved
loop-line-preserved c = record {
  reads = rw c.in_ok-push-in-Ok.ensures.items
      (one_more _ c.loop-line.entries.items c.loop-line.number c.loop-line.rest.now c.in-Some.line.now
      c.in-Some.behind.now c.in-Ok.entry
      c.loop-line.invariant.reads c.in-Some.ensures.some c.in-Ok.ensures);
  low = omega (arith, c.in-Some.ensures.shorter);
}

pub returns-then-is_empty : goal.returns-then-is_empty
unfolding entries_of
returns-then-is_empty c =
    all_read _ c.loop-line.entries.items c.loop-line.number c.loop-line.rest.now c.loop-line.invariant.reads
    c.in_default.ensures.none
    c.if-is_empty.ensures
    ∙ ap Ok (sym c.from_vec.ensures.items)

pub returns-else-is_empty : goal.returns-else-is_empty
unfolding entries_of
returns-else-is_empty c told =
    left_open _ c.loop-line.entries.items c.loop-line.number c.loop-line.rest.now c.loop-line.invariant.reads
    c.in_default.ensures.none
    c.if-is_empty.ensures
