-- What a reader of options knows: which versions there are, and whether a sequence may have `cut`.
use Rattle.std.specs.Prelude.{ℕ, Bool, true, false}
use Rattle.text_model.specs.declared.limits.TheConstants.{FIRST_VERSION, SECOND_VERSION}

pub record Language : Type 0 where
  -- the versions are those from the first to this one
  pub newest : ℕ
  pub has_cut : Bool

abbrev pub first_language : Language
first_language = record { newest = FIRST_VERSION; has_cut = false }

-- the first version, with `cut`
abbrev pub cut_language : Language
cut_language = record { newest = FIRST_VERSION; has_cut = true }

abbrev pub whole_language : Language
whole_language = record { newest = SECOND_VERSION; has_cut = true }
