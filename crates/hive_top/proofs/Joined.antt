-- Pieces that were appended one after another.
use Rattle.std.proofs.Common.{◌≡◌, ℕ, List, ◌++◌, ap, ◌∙◌, append_assoc}

-- three pieces of two parts each, and a last one
pub joined : (old one two three all w a v b u d last : List ℕ) → one ≡ old ++ (w ++ a) → two ≡ one ++ (v ++ b) → three ≡ two ++ (u ++ d) →
    all ≡ three ++ last → all ≡ old ++ (w ++ (a ++ (v ++ (b ++ (u ++ (d ++ last))))))
joined old one two three all w a v b u d last e f g h =
    h ∙ (ap (λ xs. xs ++ last) g ∙ (append_assoc two (u ++ d) last ∙ (ap (λ xs. two ++ xs) (append_assoc u d last)
    ∙ (ap (λ xs. xs ++ (u ++ (d ++ last))) f ∙ (append_assoc one (v ++ b) (u ++ (d ++ last))
    ∙ (ap (λ xs. one ++ xs) (append_assoc v b (u ++ (d ++ last)))
    ∙ (ap (λ xs. xs ++ (v ++ (b ++ (u ++ (d ++ last))))) e ∙ (append_assoc old (w ++ a) (v ++ (b ++ (u ++ (d ++ last))))
    ∙ ap (λ xs. old ++ xs) (append_assoc w a (v ++ (b ++ (u ++ (d ++ last)))))))))))))
