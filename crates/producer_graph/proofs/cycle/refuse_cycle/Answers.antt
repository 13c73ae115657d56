use Rattle.std.proofs.Common.{◌≡◌, ◌<◌, ℕ, false, List, All, Option, Some, IfSome, length, find, sym, subst, ap, ◌∙◌, arith, Global}
use Rattle.std.specs.declared.vec.Vec.{Vec}
use Rattle.std.specs.List.{range_with_len}
use Rattle.graph_parts.specs.Links.{AreWithin, links}
use Rattle.text_model.specs.Producers.{handles_of}
use Rattle.text_model.specs.Steps.{refuse_found}
use Rattle.text_model.specs.Walks.{is_on_cycle, leads_within}
use Rattle.text_model.specs.declared.graph_refusal.GraphRefusal.TheVariants as refusals
use Rattle.producer_graph.proofs.Cycles.{cycle-none, cycle-some, never-waits}
use Rattle.producer_graph.proofs.Holding.{as-many-sources, never-twice, sources-below, sources-by-need}
use Rattle.producer_graph.proofs.TakingFrom.{all-taken-within, as-many-producers, same-sources}
use Rattle.producer_graph.specs.Lists.{items}
use Rattle.producer_graph.proofs.cycle.refuse_cycle.Goals as goal

pub sources_of_each-requires : goal.sources_of_each-requires
sources_of_each-requires c =
    let size : length (handles_of c.args.raws.now c.args.needs.now) ≡ length c.args.producers.now =
    as-many-producers c.args.raws.now c.args.needs.now ∙ ap length (sym c.requires.producers) in
    subst (λ (n : ℕ). All (λ (v : Vec ℕ Global). All (λ h. h < n) v.items) c.args.inputs.now) size
    (all-taken-within (handles_of c.args.raws.now c.args.needs.now) c.args.inputs.now c.args.needs.now c.requires.inputs)

pub first_on_cycle-requires : goal.first_on_cycle-requires
first_on_cycle-requires c =
    let size : length c.args.needs.now ≡ length c.in_ok-sources.sources.items =
    sym (as-many-sources c.args.producers.now c.in_ok-sources.sources.items (handles_of c.args.raws.now c.args.needs.now) (items c.args.inputs.now)
    c.args.needs.now c.in_ok-sources.ensures c.requires.inputs) in
    subst (λ (it : List (Vec ℕ Global)). AreWithin it) (sym c.as_slice.ensures.value)
    (subst (λ (n : ℕ). All (λ (v : Vec ℕ Global). All (λ h. h < n) v.items) c.in_ok-sources.sources.items) size
    (sources-below c.args.raws.now c.args.needs.now c.args.producers.now c.in_ok-sources.sources.items (items c.args.inputs.now) c.requires.producers
    c.in_ok-sources.ensures))

pub returns-in-Some-clause-meaning : goal.returns-in-Some-clause-meaning
returns-in-Some-clause-meaning c = λ other.
    let size = as-many-sources c.args.producers.now c.in_ok-sources.sources.items (handles_of c.args.raws.now c.args.needs.now) (items c.args.inputs.now)
    c.args.needs.now c.in_ok-sources.ensures c.requires.inputs in
    let inside : c.in-Some.number < length c.as_slice.result.now =
    subst (λ (o : Option ℕ). IfSome o (λ n. n < length c.as_slice.result.now)) c.in-Some.is c.in_ok-number.ensures.within in
    let read : length c.as_slice.result.now ≡ length c.in_ok-sources.sources.items = ap length c.as_slice.ensures.value in
    let cyclic =
    cycle-some c.args.needs.now c.in_ok-sources.sources.items c.in-Some.number size
    (same-sources c.args.raws.now c.args.needs.now c.in_ok-sources.sources.items
    (never-twice (handles_of c.args.raws.now c.args.needs.now) c.requires.once)
    (sources-by-need c.args.raws.now c.args.needs.now c.args.producers.now c.in_ok-sources.sources.items (items c.args.inputs.now) c.requires.producers
    c.requires.inputs c.in_ok-sources.ensures))
    (omega (arith, size, inside, read))
    (sym c.in-Some.is ∙ c.in_ok-number.ensures.first
    ∙ ap (λ (s : List (Vec ℕ Global)). find (is_on_cycle (links s) (length s)) (range_with_len 0 (length s))) c.as_slice.ensures.value) in
    ap refuse_found (cyclic ∙ ap (λ (n : List ℕ). Some (refusals.DataCycle n)) (sym c.in_ok-name_of-in-Some.ensures))

pub returns-clause-meaning : goal.returns-clause-meaning
returns-clause-meaning c =
    let size = as-many-sources c.args.producers.now c.in_ok-sources.sources.items (handles_of c.args.raws.now c.args.needs.now) (items c.args.inputs.now)
    c.args.needs.now c.in_ok-sources.ensures c.requires.inputs in
    ap refuse_found
    (cycle-none c.args.needs.now c.in_ok-sources.sources.items size
    (same-sources c.args.raws.now c.args.needs.now c.in_ok-sources.sources.items
    (never-twice (handles_of c.args.raws.now c.args.needs.now) c.requires.once)
    (sources-by-need c.args.raws.now c.args.needs.now c.args.producers.now c.in_ok-sources.sources.items (items c.args.inputs.now) c.requires.producers
    c.requires.inputs c.in_ok-sources.ensures))
    (sym c.in-None.is ∙ c.in_ok-number.ensures.first
    ∙ ap (λ (s : List (Vec ℕ Global)). find (is_on_cycle (links s) (length s)) (range_with_len 0 (length s))) c.as_slice.ensures.value))

pub returns-clause-acyclic : goal.returns-clause-acyclic
returns-clause-acyclic c =
    let size = as-many-sources c.args.producers.now c.in_ok-sources.sources.items (handles_of c.args.raws.now c.args.needs.now) (items c.args.inputs.now)
    c.args.needs.now c.in_ok-sources.ensures c.requires.inputs in
    never-waits c.args.needs.now c.in_ok-sources.sources.items size
    (same-sources c.args.raws.now c.args.needs.now c.in_ok-sources.sources.items
    (never-twice (handles_of c.args.raws.now c.args.needs.now) c.requires.once)
    (sources-by-need c.args.raws.now c.args.needs.now c.args.producers.now c.in_ok-sources.sources.items (items c.args.inputs.now) c.requires.producers
    c.requires.inputs c.in_ok-sources.ensures))
    (subst (λ (s : List (Vec ℕ Global)). (steps n : ℕ) → n < length s → leads_within (links s) steps n n ≡ false) c.as_slice.ensures.value
    (c.in_ok-number.ensures.none c.in-None.is))
