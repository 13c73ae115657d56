use Rattle.std.proofs.Common.{◌≡◌, ◌<◌, ℕ, List, All, length, map, sym, subst, ap, ◌∙◌, arith, Global}
use Rattle.std.proofs.lemmas.List.{length-map}
use Rattle.std.proofs.lemmas.List.FromFn.{length-map-range_with_len}
use Rattle.std.specs.List.{range_with_len}
use Rattle.std.specs.declared.vec.Vec.{Vec}
use Rattle.text_model.specs.Producers.{handles_of}
use Rattle.producer_graph.proofs.Holding.{graph-is, never-twice}
use Rattle.producer_graph.proofs.Taking.{all-takers}
use Rattle.producer_graph.proofs.TakingFrom.{all-taken-within, as-many-producers}
use Rattle.producer_graph.specs.Lists.{items}
use Rattle.producer_graph.specs.Takers.{takers_in}
use Rattle.producer_graph.proofs.building.build_graph.Goals as goal

pub list_consumers-requires-clause-within : goal.list_consumers-requires-clause-within
list_consumers-requires-clause-within c =
    subst (λ (n : ℕ). All (λ (v : Vec ℕ Global). All (λ h. h < n) v.items) c.args.inputs.now) (sym (c.len.ensures ∙ ap length c.requires.names))
    (all-taken-within (handles_of c.args.raws.now c.args.needs.now) c.args.inputs.now c.args.needs.now c.requires.inputs)

pub invariant_of-result : goal.invariant_of-result
invariant_of-result c = record {
  few = let same = ap length c.requires.names in let few = c.requires.few_handles in omega (arith, same, few);
  producers_size =
      ap length c.in_ok-producers.ensures ∙ sym (as-many-producers c.args.raws.now c.args.needs.now) ∙ ap length (sym c.requires.names);
  consumers_size =
      sym (length-map c.in_ok-consumers.consumers.items (λ (v : Vec ℕ Global). v.items)) ∙ ap length c.in_ok-consumers.ensures
      ∙ length-map-range_with_len (takers_in (items c.args.inputs.now)) 0 c.len.result ∙ c.len.ensures;
}

pub returns-clause-meaning : goal.returns-clause-meaning
returns-clause-meaning c =
    graph-is c.args.raws.now c.args.needs.now c.args.names c.in_ok-producers.producers.items (items c.in_ok-consumers.consumers.items)
    c.in_ok-refuse_cycle.ensures.meaning c.requires.names c.in_ok-producers.ensures
    (c.in_ok-consumers.ensures
    ∙ ap (λ (n : ℕ). map (takers_in (items c.args.inputs.now)) (range_with_len 0 n)) (c.len.ensures ∙ ap length c.requires.names)
    ∙ ap (λ (each : List (List ℕ)). map (takers_in each) (range_with_len 0 (length (handles_of c.args.raws.now c.args.needs.now)))) c.requires.inputs
    ∙ all-takers (handles_of c.args.raws.now c.args.needs.now) c.args.needs.now
    (never-twice (handles_of c.args.raws.now c.args.needs.now) c.requires.once))
