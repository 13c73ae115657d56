use Rattle.std.proofs.Common.{ℕ, List, [], ◌++◌, ap, refl, sym, ◌∙◌}
use Rattle.std.specs.Arc.{arc_value}
use Rattle.text_model.specs.Records.{opening}
use Rattle.std.proofs.Common.{None}
use Rattle.event_records.specs.Reading.{after, ahead_of}
use Rattle.event_records.proofs.Settling.{opened}
use Rattle.event_records.proofs.records.Records.new.Goals as goal

pub returns-clause-has_read : goal.returns-clause-has_read
returns-clause-has_read c =
    let job = arc_value c.args.job in record {
      same_job = refl;
      rest = λ more over future.
          opened job more over ∙ ap (λ (text : List ℕ). after [] (ahead_of None over job opening (text ++ more))) (sym c.in_ok-with_capacity.ensures.items);
    }
