-- The entry Last says that no further event comes.
use Rattle.std.specs.Prelude.{Bool, true, false}
use Rattle.hive_model.specs.declared.entry.Entry.{Entry}
use Rattle.hive_model.specs.declared.entry.Entry.TheVariants.{Admit, Claim, Done, Back, Retire, Last}

abbrev pub is_last : Entry → Bool
is_last (Admit slot place) = false
is_last (Claim slot number clone worker) = false
is_last (Done ticket outcome) = false
is_last (Back ticket) = false
is_last (Retire slot) = false
is_last Last = true
