use Rattle.std.proofs.Common.{◌≡◌, ℕ, ◌+◌, ◌-◌, ◌≤◌, List, ◌++◌, length, take, drop, sym, ap, ◌∙◌, arith, length-drop}
use Rattle.std.proofs.lemmas.List.{take_at, length-take-le, take-append-drop, drop-drop}
use Rattle.hive_edge.proofs.pieces.copy_piece.Goals as goal

-- the front of the buffer is the piece, and the rest of the bytes comes behind it
copied : (bytes buf new : List ℕ) (at n : ℕ) → new ≡ take (at + n - at) (drop at bytes) → at + n ≤ length bytes
    → drop at bytes ≡ take n (new ++ drop n buf) ++ drop (at + n) bytes
copied bytes buf new at n is fits =
    let count : at + n - at ≡ n = omega arith in
    let piece : new ≡ take n (drop at bytes) = is ∙ ap (λ (k : ℕ). take k (drop at bytes)) count in
    let long : n ≤ length (drop at bytes) = omega (arith, length-drop at bytes) in
    let len : length new ≡ n = ap length piece ∙ length-take-le n (drop at bytes) long in
    sym (ap (λ (l : List ℕ). l ++ drop (at + n) bytes) (take_at new (drop n buf) n len ∙ piece)
    ∙ ap (λ (l : List ℕ). take n (drop at bytes) ++ l) (sym (drop-drop n at bytes))
    ∙ take-append-drop n (drop at bytes))

pub returns-clause-bytes : goal.returns-clause-bytes
returns-clause-bytes c =
    let fits : c.args.at + c.min-count.result ≤ length c.args.bytes.now = omega arith in
    copied c.args.bytes.now c.args.buf.now c.copy_from_slice.new.self c.args.at c.min-count.result c.copy_from_slice.ensures.after fits
