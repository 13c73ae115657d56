-- The words of an entry stand for it: they have neither spaces nor line feeds, they are read as the entry,
-- and no other words are.
use Rattle.std.proofs.Common.{◌≡◌, ℕ, ◌^◌, ◌<◌, ◌≤◌, nat_eq, nat_lt, Bool, true, false, List, [], ◌∷◌, length, decimal, Option, Some, None, Ok, refl, arith}
use Rattle.std.proofs.lemmas.Bool.{and_parts}
use Rattle.std.proofs.lemmas.Bool.Decides.{nat_tests}
use Rattle.std.proofs.lemmas.Fmt.{decimal_nonempty}
use Rattle.std.specs.Char.{is_ascii_digit}
use Rattle.std.specs.List.{list_all}
use Rattle.hive_model.specs.Same.{same_text}
use Rattle.hive_model.specs.declared.entry.Entry.{Entry}
use Rattle.hive_model.specs.declared.entry.Entry.TheVariants.{Admit, Claim, Done, Back, Retire, Last}
use Rattle.hive_model.specs.declared.outcome.Fault.{Fault}
use Rattle.hive_model.specs.declared.outcome.Fault.TheVariants.{Overflow, DivZero, Empty, Index, TooLong}
use Rattle.hive_model.specs.declared.outcome.Outcome.{Outcome}
use Rattle.hive_model.specs.declared.outcome.Outcome.TheVariants.{Accepted, Rejected, Failed}
use Rattle.hive_model.specs.declared.outcome.Place.TheVariants.{Output, Filter}
use Rattle.text_model.specs.Report.{fault_word}
use Rattle.text_model.specs.Timeline.{FitsClone, FitsFields, FitsOutcome, clone_word, entry_words, nothing, outcome_words}
use Rattle.text_model.specs.TimelineRead.{admit_of, back_of, claim_of, clone_of, done_of, entry_of, fault_of, last_of, outcome_of, place_of, retire_of}
use Rattle.timeline.proofs.Cuts.{AllLack, Lacks}
use Rattle.timeline.proofs.Numbers.{decimal_digits, written_read}

-- words without spaces and control characters

abbrev is_solid : List ℕ → Bool
is_solid word = list_all (nat_lt 32) word

digits_solid : (text : List ℕ) → list_all is_ascii_digit text ≡ true → is_solid text ≡ true
digits_solid [] h = refl
digits_solid (d ∷ ds) h =
    let both = and_parts (is_ascii_digit d) (list_all is_ascii_digit ds) h in
    let digit : is_ascii_digit d ≡ true = both.0 in
    let first : nat_lt 32 d ≡ true = grind (arith, nat_tests) in
    let others : is_solid ds ≡ true = digits_solid ds both.1 in
    rw (first, others) refl

decimal_solid : (n : ℕ) → n < 2 ^ 64 → is_solid (decimal n) ≡ true
decimal_solid n h = digits_solid (decimal n) (decimal_digits n h)

clone_solid : (clone : Option ℕ) → FitsClone clone → is_solid (clone_word clone) ≡ true
clone_solid None h = refl
clone_solid (Some clone) h = decimal_solid clone (omega arith)

outcome_solid : (outcome : Outcome) → FitsOutcome outcome → list_all is_solid (outcome_words outcome) ≡ true
outcome_solid Accepted h = refl
outcome_solid Rejected h = refl
outcome_solid (Failed (Output number) fault) h =
    let n : is_solid (decimal number) ≡ true = decimal_solid number (omega arith) in
    rw n (by fault)
  where
    by : (fault : Fault) → list_all is_solid (fault_word fault ∷ []) ≡ true
    by Overflow = refl
    by DivZero = refl
    by Empty = refl
    by Index = refl
    by TooLong = refl
outcome_solid (Failed Filter fault) h = by fault
  where
    by : (fault : Fault) → list_all is_solid (fault_word fault ∷ []) ≡ true
    by Overflow = refl
    by DivZero = refl
    by Empty = refl
    by Index = refl
    by TooLong = refl

entry_solid : (entry : Entry) → FitsFields entry → list_all is_solid (entry_words entry) ≡ true
entry_solid (Admit slot place) h =
    let s : is_solid (decimal slot) ≡ true = decimal_solid slot (omega arith) in
    let p : is_solid (decimal place) ≡ true = decimal_solid place h.1 in
    rw (s, p) refl
entry_solid (Claim slot algorithm clone worker) h =
    let s : is_solid (decimal slot) ≡ true = decimal_solid slot (omega arith) in
    let a : is_solid (decimal algorithm) ≡ true = decimal_solid algorithm (omega arith) in
    let c : is_solid (clone_word clone) ≡ true = clone_solid clone h.2 in
    let w : is_solid (decimal worker) ≡ true = decimal_solid worker (omega arith) in
    rw (s, a, c, w) refl
entry_solid (Done ticket outcome) h =
    let t : is_solid (decimal ticket) ≡ true = decimal_solid ticket h.0 in
    let o : list_all is_solid (outcome_words outcome) ≡ true = outcome_solid outcome h.1 in
    rw (t, o) refl
entry_solid (Back ticket) h = let t : is_solid (decimal ticket) ≡ true = decimal_solid ticket h in rw t refl
entry_solid (Retire slot) h = let s : is_solid (decimal slot) ≡ true = decimal_solid slot (omega arith) in
    rw s refl
entry_solid Last h = refl

solid_lacks : (byte : ℕ) (word : List ℕ) → byte ≤ 32 → is_solid word ≡ true → Lacks byte word
solid_lacks byte [] low h = tt
solid_lacks byte (b ∷ bs) low h =
    let both = and_parts (nat_lt 32 b) (is_solid bs) h in
    let first : nat_lt 32 b ≡ true = both.0 in
    let high : 32 < b = grind (arith, nat_tests) in
    (omega arith, solid_lacks byte bs low both.1)

solid_all : (byte : ℕ) (words : List (List ℕ)) → byte ≤ 32 → list_all is_solid words ≡ true →
    AllLack byte words
solid_all byte [] low h = tt
solid_all byte (word ∷ words) low h =
    let both = and_parts (is_solid word) (list_all is_solid words) h in
    (solid_lacks byte word low both.0, solid_all byte words low both.1)

pub words_lack : (byte : ℕ) (entry : Entry) → byte ≤ 32 → FitsFields entry → AllLack byte (entry_words entry)
words_lack byte entry low h = solid_all byte (entry_words entry) low (entry_solid entry h)

-- what is written is read

digits_something : (text : List ℕ) → list_all is_ascii_digit text ≡ true → 0 < length text →
    same_text text nothing ≡ false
digits_something [] h some = absurd (omega arith)
digits_something (d ∷ ds) h some =
    let both = and_parts (is_ascii_digit d) (list_all is_ascii_digit ds) h in
    let digit : is_ascii_digit d ≡ true = both.0 in
    let other : nat_eq d 45 ≡ false = grind (arith, nat_tests) in
    rw other refl

decimal_something : (n : ℕ) → n < 2 ^ 64 → same_text (decimal n) nothing ≡ false
decimal_something n h = digits_something (decimal n) (decimal_digits n h) (decimal_nonempty n h)

clone_read : (clone : Option ℕ) → FitsClone clone → clone_of (clone_word clone) ≡ Ok clone
clone_read None h = refl
clone_read (Some clone) h =
    let some = decimal_something clone (omega arith) in
    let n = written_read (2 ^ 8) clone h (omega arith) in
    rw (some, n) refl

place_read : (number : ℕ) → number < 2 ^ 16 → place_of (decimal number) ≡ Ok (Output number)
place_read number h =
    let some = decimal_something number (omega arith) in
    let n = written_read (2 ^ 16) number h (omega arith) in
    rw (some, n) refl

fault_read : (fault : Fault) → fault_of (fault_word fault) ≡ Ok fault
fault_read Overflow = refl
fault_read DivZero = refl
fault_read Empty = refl
fault_read Index = refl
fault_read TooLong = refl

outcome_read : (outcome : Outcome) → FitsOutcome outcome → outcome_of (outcome_words outcome) ≡ Ok outcome
unfolding outcome_of
outcome_read Accepted h = refl
outcome_read Rejected h = refl
outcome_read (Failed (Output number) fault) h =
    let f = fault_read fault in
    let p = place_read number h in
    rw (f, p) refl
outcome_read (Failed Filter fault) h = let f = fault_read fault in rw f refl

pub entry_read : (entry : Entry) → FitsFields entry → entry_of (entry_words entry) ≡ Ok entry
unfolding entry_of admit_of claim_of done_of back_of retire_of last_of
entry_read (Admit slot place) h =
    let s = written_read (2 ^ 8) slot h.0 (omega arith) in
    let p = written_read (2 ^ 64) place h.1 (omega arith) in
    rw (s, p) refl
entry_read (Claim slot algorithm clone worker) h =
    let s = written_read (2 ^ 8) slot h.0 (omega arith) in
    let a = written_read (2 ^ 16) algorithm h.1 (omega arith) in
    let c = clone_read clone h.2 in
    let w = written_read (2 ^ 8) worker h.3 (omega arith) in
    rw (s, a, c, w) refl
entry_read (Done ticket outcome) h =
    let o = outcome_read outcome h.1 in
    let t = written_read (2 ^ 64) ticket h.0 (omega arith) in
    rw (o, t) refl
entry_read (Back ticket) h = let t = written_read (2 ^ 64) ticket h (omega arith) in rw t refl
entry_read (Retire slot) h = let s = written_read (2 ^ 8) slot h (omega arith) in rw s refl
entry_read Last h = refl
