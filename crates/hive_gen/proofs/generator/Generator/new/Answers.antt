use Rattle.std.proofs.Common.{refl}
use Rattle.hive_gen.specs.EventTexts.{records_text}
use Rattle.hive_gen.specs.Rest.{rest_of}
use Rattle.hive_gen.proofs.generator.Generator.new.Goals as goal

pub returns : goal.returns
unfolding records_text rest_of
returns c = refl
