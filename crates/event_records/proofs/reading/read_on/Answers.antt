use Rattle.std.proofs.Common.{◌≡◌, [], ◌∷◌, drop, sym, ap, ◌∙◌, rules}
use Rattle.text_model.specs.Lines.{lines}
use Rattle.event_records.specs.Cutting.{Heads}
use Rattle.event_records.proofs.Turns.{of_line, of_line-other, reads-next, stops-by}
use Rattle.event_records.proofs.reading.read_on.Goals as goal

pub returns-in-Record-clause-reaches : goal.returns-in-Record-clause-reaches
returns-in-Record-clause-reaches c =
    let rest = c.split_at.result.1.now in
    let line = c.split_at-in-lines.result.0.now in
    let found = c.in-Some.found in
    let heads : Heads c.args.ended rest line (drop found.taken rest) = rw c.split_at-in-lines.ensures.front c.in-Some.ensures.heads in
    reads-next c.args.raws.now c.args.most c.args.ended c.args.pending.now c.args.before c.lines.place c.passed-place.result c.lines.taken found.taken rest line
    c.in-Ok.said (c.in-Record.record ∷ []) c.lines.invariant.reads c.split_at.ensures.back heads c.in-Ok.ensures.said c.passed-place.ensures.after (sym (ap of_line c.in-Record.is))

pub lines-preserved : goal.lines-preserved
lines-preserved c =
    let rest = c.split_at.result.1.now in
    let line = c.split_at-in-lines.result.0.now in
    let found = c.in-Some.found in
    let heads : Heads c.args.ended rest line (drop found.taken rest) = rw c.split_at-in-lines.ensures.front c.in-Some.ensures.heads in
    record {
      within = search rules;
      searched = search rules;
      none = tt;
      low = search rules;
      reads =
          reads-next c.args.raws.now c.args.most c.args.ended c.args.pending.now c.args.before c.lines.place c.passed-place.result c.lines.taken found.taken rest line
          c.in-Ok.said [] c.lines.invariant.reads c.split_at.ensures.back heads c.in-Ok.ensures.said c.passed-place.ensures.after
          (of_line-other c.in-Ok.said (λ it e. c.in_default-said.not-Record it e));
      rests = λ e.
          let at = c.lines.invariant.rests e in
          let whole : rest ≡ c.args.pending.now = c.split_at.ensures.back ∙ ap (λ n. drop n c.args.pending.now) at.0 in
          absurd (heads.some (ap (lines c.args.ended) whole ∙ e));
    }

pub returns-in-Err-clause-reaches : goal.returns-in-Err-clause-reaches
returns-in-Err-clause-reaches c =
    let rest = c.split_at.result.1.now in
    let line = c.split_at-in-lines.result.0.now in
    let found = c.in-Some.found in
    let heads : Heads c.args.ended rest line (drop found.taken rest) = rw c.split_at-in-lines.ensures.front c.in-Some.ensures.heads in
    stops-by c.args.raws.now c.args.most c.args.ended c.args.pending.now c.args.before c.lines.place c.lines.taken rest line (drop found.taken rest)
    c.in-Err.stop c.lines.invariant.reads c.split_at.ensures.back heads c.in-Err.ensures.said
