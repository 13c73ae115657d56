-- What decided cut nodes cut off, looked for upwards: a place is cut off where its sequence, or one above it,
-- is a cut node that is decided.
use Rattle.std.specs.Prelude.{ℕ, zero, suc, Bool, false, not, ◌&&◌, ◌||◌, List, slice_get}
use Rattle.std.specs.List.{list_any}
use Rattle.std.specs.Option.{option_map_or}
use Rattle.decision_nodes.specs.Index.{places_at}
use Rattle.decision_nodes.specs.Standing.{Standing, is_open}
use Rattle.decision_nodes.specs.declared.edge.Edge.{Edge}

abbrev pub is_cutting : List Standing → ℕ → Bool
is_cutting nodes s = option_map_or (λ n. n.sequence.cut && not (is_open n)) (slice_get nodes s) false

-- over at most so many sequences, one above the other
unfoldable pub is_cut_from : List Standing → List (List Edge) → ℕ → List Edge → Bool
is_cut_from nodes parents zero edges = false
is_cut_from nodes parents (suc depth) edges =
    list_any
    (λ e. is_cutting nodes e.sequence || is_cut_from nodes parents depth (places_at parents e.sequence)) edges

-- at one place
abbrev pub is_cut_at : List Standing → List (List Edge) → ℕ → Edge → Bool
is_cut_at nodes parents depth e =
    is_cutting nodes e.sequence || is_cut_from nodes parents depth (places_at parents e.sequence)
