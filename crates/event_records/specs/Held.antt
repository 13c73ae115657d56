-- What a line says by what it holds, where it isn't refused for its place or its length.
use Rattle.std.specs.Prelude.{ℕ, ◌==◌, not, if◌then◌else◌, List, length, Result, Ok}
use Rattle.hive_model.specs.declared.algorithm.Raw.{Raw}
use Rattle.text_model.specs.Cells.{cells_of}
use Rattle.text_model.specs.Lines.{is_text}
use Rattle.text_model.specs.Records.{line_with}
use Rattle.text_model.specs.Steps.{◌>>=◌, refuse_if}
use Rattle.text_model.specs.declared.line.Line.{Line}
use Rattle.text_model.specs.declared.line.Line.TheVariants.{Blank}
use Rattle.text_model.specs.declared.line.Progress.{Progress}
use Rattle.text_model.specs.declared.record_refusal.RecordCause.{RecordCause}
use Rattle.text_model.specs.declared.record_refusal.RecordCause.TheVariants as cause

abbrev pub held_of : List Raw → ℕ → Progress → List ℕ → Result Line RecordCause
held_of raws most before held = do
  text ← refuse_if (not (is_text held)) cause.Text
  if length held == 0 then Ok Blank else line_with raws most before (cells_of held)
