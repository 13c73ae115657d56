-- What `csv` reads from a printable line: there is no byte order mark to be taken off.
use Rattle.std.proofs.Common.{◌≡◌, ℕ, ◌<◌, ◌+◌, ◌==◌, true, false, List, [], ◌∷◌, ◌++◌, Bor, length, take, Option, Some, None, option_map, refl, ap, sym, ◌∙◌, arith}
use Rattle.std.proofs.lemmas.Bool.{and_parts}
use Rattle.std.proofs.lemmas.Bool.Decides.{nat_tests}
use Rattle.std.proofs.lemmas.List.{map-append, take_more}
use Rattle.std.specs.List.{list_all}
use Rattle.std.specs.Option.{option_map_or}
use Rattle.csv.proofs.RecordFacts.{field-get}
use Rattle.csv.specs.Machine.{Read, next_record}
use Rattle.csv.specs.Reading.{default_config, strip_bom}
use Rattle.csv.specs.Records.{field_at}
use Rattle.csv.specs.declared.parser.State.TheVariants as st
use Rattle.hive_model.specs.Same.{texts}
use Rattle.text_model.specs.Cells.{cells_of}
use Rattle.text_model.specs.Lines.{is_printable}

no_mark : (b : ℕ) → is_printable b ≡ true → (b == 0xEF) ≡ false
no_mark b h = grind (arith, nat_tests)

strip_bom-printable : (line : List ℕ) → list_all is_printable line ≡ true → strip_bom line ≡ line
unfolding strip_bom
strip_bom-printable [] h = refl
strip_bom-printable (a ∷ []) h = refl
strip_bom-printable (a ∷ b ∷ []) h = refl
strip_bom-printable (a ∷ b ∷ c ∷ rest) h =
    let e = no_mark a (and_parts (is_printable a) (list_all is_printable (b ∷ c ∷ rest)) h).0 in rw e refl

abbrev cells_or_none : Option (List (List ℕ)) → List (List ℕ)
cells_or_none cells = option_map_or (λ (it : List (List ℕ)). it) cells []

of_read : (o : Option Read) → option_map_or (λ (it : Read). it.0) o [] ≡ cells_or_none (option_map (λ (it : Read). it.0) o)
of_read None = refl
of_read (Some it) = refl

pub cells_of-read : (line : List ℕ) (read : Option (List (List ℕ))) → list_all is_printable line ≡ true →
    read ≡ option_map (λ (it : Read). it.0) (next_record default_config st.StartRecord [] [] (strip_bom line)) →
    cells_of line ≡ cells_or_none read
unfolding cells_of
cells_of-read line read h e =
    of_read (next_record default_config st.StartRecord [] [] line)
    ∙ ap cells_or_none (sym (e ∙ ap (λ text. option_map (λ (it : Read). it.0) (next_record default_config st.StartRecord [] [] text)) (strip_bom-printable line h)))

-- one cell more

pub cell-pushed : (cells new : List (Bor (List ℕ))) (cell : Bor (List ℕ)) (fields : List (List ℕ)) (i : ℕ) → i < length fields →
    texts cells ≡ take i fields → Some cell.now ≡ field_at fields i → new ≡ cells ++ cell ∷ [] → texts new ≡ take (i + 1) fields
cell-pushed cells new cell fields i h e at grown =
    rw grown (map-append (λ (text : Bor (List ℕ)). text.now) cells (cell ∷ [])
    ∙ ap (λ (front : List (List ℕ)). front ++ cell.now ∷ []) e
    ∙ ap (λ (it : List ℕ). take i fields ++ it ∷ []) (sym (field-get fields i cell.now (sym at)))
    ∙ sym (take_more fields i [] h))
