-- Options in which no sequence has `cut`, as those of the known language.
use Rattle.std.specs.Prelude.{◌≡◌, false}
use Rattle.std.specs.List.{AllByRecursion}
use Rattle.text_model.specs.RawOptions.{RawOptions, RawSequence}

abbrev pub IsUncut : RawOptions → Type 0
IsUncut raw = AllByRecursion (λ (q : RawSequence). q.cut ≡ false) raw.sequences
