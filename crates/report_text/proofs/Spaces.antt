-- A stop line is its first two words, each further one with a space before it, and a line feed.
use Rattle.std.proofs.Common.{◌≡◌, ℕ, List, [], ◌∷◌, ◌++◌, refl, ap, ◌∙◌, sym}
use Rattle.std.proofs.lemmas.List.{append_assoc}
use Rattle.std.specs.Prelude.{codes, decimal}
use Rattle.text_model.specs.Report.{line}
use Rattle.text_model.specs.Stops.{cause_word, job_words, stop_options, stop_record}
use Rattle.text_model.specs.declared.bytes.TheConstants.{LINE_FEED, SPACE}
use Rattle.text_model.specs.declared.job_refusal.JobRefusal.{JobRefusal}
use Rattle.text_model.specs.declared.record_refusal.RecordRefusal.{RecordRefusal}
use Rattle.report_text.specs.Spaced.{spaced}

line-spaced : (w : List ℕ) (words : List (List ℕ)) → line (w ∷ words) ≡ w ++ (spaced words ++ LINE_FEED ∷ [])
line-spaced w [] = refl
line-spaced w (v ∷ words) =
    ap (λ xs. w ++ SPACE ∷ xs) (line-spaced v words ∙ sym (append_assoc v (spaced words) (LINE_FEED ∷ [])))

pub stop_options-is : (refusal : JobRefusal) →
    stop_options refusal ≡ codes "stop options" ++ (spaced (job_words refusal) ++ LINE_FEED ∷ [])
unfolding stop_options
stop_options-is refusal = ap (λ xs. codes "stop " ++ xs) (line-spaced (codes "options") (job_words refusal))

pub stop_record-is : (refusal : RecordRefusal) →
    stop_record refusal
    ≡ codes "stop record" ++ (spaced (decimal refusal.line ∷ cause_word refusal.cause ∷ []) ++ LINE_FEED ∷ [])
unfolding stop_record
stop_record-is refusal =
    ap (λ xs. codes "stop " ++ xs) (line-spaced (codes "record") (decimal refusal.line ∷ cause_word refusal.cause ∷ []))

-- what was appended piece by piece
pub joined : (old a b c text one two new : List ℕ) → one ≡ old ++ a → two ≡ one ++ b → new ≡ two ++ c → text ≡ a ++ (b ++ c) →
    new ≡ old ++ text
joined old a b c text one two new p q r t =
    r ∙ (ap (λ xs. xs ++ c) (q ∙ ap (λ xs. xs ++ b) p) ∙ (ap (λ xs. xs ++ c) (append_assoc old a b)
    ∙ (append_assoc old (a ++ b) c ∙ ap (λ xs. old ++ xs) (append_assoc a b c ∙ sym t))))
