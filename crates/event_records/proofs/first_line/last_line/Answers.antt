use Rattle.std.proofs.Common.{length, sym, ◌∙◌, arith}
use Rattle.std.proofs.lemmas.List.{take_all, drop_all}
use Rattle.event_records.proofs.LineEnds.{heads-last, last_line-none}
use Rattle.event_records.proofs.first_line.last_line.Goals as goal

pub returns-then-is_last_line-clause-heads : goal.returns-then-is_last_line-clause-heads
returns-then-is_last_line-clause-heads c =
    let bytes = c.args.bytes.now in
    rw (take_all (length bytes) bytes (omega arith), drop_all (length bytes) bytes (omega arith))
    (heads-last c.args.ended bytes c.requires.none (sym c.is_last_line.ensures.last ∙ c.if-is_last_line.true))

pub returns-else-is_last_line-clause-all_taken : goal.returns-else-is_last_line-clause-all_taken
returns-else-is_last_line-clause-all_taken c =
    last_line-none c.args.ended c.args.bytes.now c.requires.none (sym c.is_last_line.ensures.last ∙ c.if-is_last_line.false)
