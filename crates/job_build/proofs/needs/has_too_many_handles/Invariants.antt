use Rattle.std.proofs.Common.{◌≡◌, ◌+◌, ◌-◌, ◌^◌, min, length, take}
use Rattle.std.specs.List.{flat_map}
use Rattle.text_model.specs.Producers.{Need}
use Rattle.job_build.proofs.needs.has_too_many_handles.Given as goal

abbrev pub invariant-loop-need : goal.invariant-loop-need
invariant-loop-need l =
    l.count ≡ min (length l.raws + length (flat_map (λ (a : Need). a.outputs) (take l.need-index l.needs))) (2 ^ 64 - 1)
