-- Looking upwards for decided cut nodes, one place after another.
use Rattle.std.proofs.Common.{◌≡◌, ℕ, zero, suc, ◌-◌, ◌<◌, ◌≤◌, true, false, List, length, get_or, take, refl, sym, ap, ◌∙◌, arith}
use Rattle.std.specs.List.{list_any}
use Rattle.std.proofs.lemmas.Bool.{or_left, or_right}
use Rattle.std.proofs.lemmas.List.{take_all}
use Rattle.std.proofs.lemmas.List.Folds.{list_any_at}
use Rattle.decision_nodes.specs.Cutting.{is_cut_at, is_cut_from, is_cutting}
use Rattle.decision_nodes.specs.Index.{places_at}
use Rattle.decision_nodes.specs.Standing.{Standing}
use Rattle.decision_nodes.specs.declared.edge.Edge.{Edge}

pub cut_zero : (nodes : List Standing) (parents : List (List Edge)) (depth : ℕ) (edges : List Edge) → depth ≡ 0 → false ≡ is_cut_from nodes parents depth edges
unfolding is_cut_from
cut_zero nodes parents zero edges e = refl
cut_zero nodes parents (suc depth) edges e = absurd (omega arith)

pub cut_from : (nodes : List Standing) (parents : List (List Edge)) (depth : ℕ) (edges : List Edge) → 0 < depth →
    is_cut_from nodes parents depth edges ≡ list_any (is_cut_at nodes parents (depth - 1)) edges
unfolding is_cut_from
cut_from nodes parents zero edges h = absurd (omega arith)
cut_from nodes parents (suc depth) edges h = let less : suc depth - 1 ≡ depth = omega arith in rw less refl

pub cut_some : (nodes : List Standing) (parents : List (List Edge)) (depth : ℕ) (edges : List Edge) (i : ℕ) (d : Edge) → 0 < depth → i < length edges →
    is_cut_at nodes parents (depth - 1) (get_or edges i d) ≡ true → true ≡ is_cut_from nodes parents depth edges
cut_some nodes parents depth edges i d h lt e =
    sym (cut_from nodes parents depth edges h ∙ list_any_at (is_cut_at nodes parents (depth - 1)) edges i d lt e)

pub cut_none : (nodes : List Standing) (parents : List (List Edge)) (depth : ℕ) (edges : List Edge) (i : ℕ) → 0 < depth → length edges ≤ i →
    list_any (is_cut_at nodes parents (depth - 1)) (take i edges) ≡ false → false ≡ is_cut_from nodes parents depth edges
cut_none nodes parents depth edges i h far e =
    sym (cut_from nodes parents depth edges h ∙ ap (list_any (is_cut_at nodes parents (depth - 1))) (sym (take_all i edges far)) ∙ e)

pub cut_own : (nodes : List Standing) (parents : List (List Edge)) (depth : ℕ) (e : Edge) → is_cutting nodes e.sequence ≡ true → is_cut_at nodes parents depth e ≡ true
cut_own nodes parents depth e h = or_left (is_cutting nodes e.sequence) (is_cut_from nodes parents depth (places_at parents e.sequence)) h

pub cut_above : (nodes : List Standing) (parents : List (List Edge)) (depth : ℕ) (e : Edge) → is_cut_from nodes parents depth (places_at parents e.sequence) ≡ true →
    is_cut_at nodes parents depth e ≡ true
cut_above nodes parents depth e h = or_right (is_cutting nodes e.sequence) (is_cut_from nodes parents depth (places_at parents e.sequence)) h
