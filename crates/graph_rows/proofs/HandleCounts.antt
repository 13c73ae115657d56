-- How many handles there are, one algorithm further.
use Rattle.std.proofs.Common.{◌≡◌, ℕ, ◌+◌, ◌<◌, List, [], ◌∷◌, ◌++◌, length, get_or, take, refl, ap, sym, ◌∙◌, length-append, arith}
use Rattle.std.proofs.lemmas.List.{append-nil, take_more, flat_map_more}
use Rattle.std.specs.List.{flat_map}
use Rattle.text_model.specs.Producers.{Need, handles_of}

pub handles-more : (raws : List (List ℕ)) (needs : List Need) (i : ℕ) (need : Need) → i < length needs → need ≡ get_or needs i need →
    length (handles_of raws (take (i + 1) needs)) ≡ length (handles_of raws (take i needs)) + length need.outputs
handles-more raws needs i need lt at =
    ap length
    (ap (λ (them : List Need). raws ++ flat_map (λ (a : Need). a.outputs) them)
    (take_more needs i need lt ∙ ap (λ (it : Need). take i needs ++ it ∷ []) (sym at))
    ∙ sym (flat_map_more (λ (a : Need). a.outputs) raws (take i needs) need))
    ∙ length-append (handles_of raws (take i needs)) need.outputs
