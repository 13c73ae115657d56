-- The items of a journal with its records, and a Stop among them.
use Rattle.std.proofs.Common.{◌≡◌, ℕ, suc, ◌+◌, ◌≤◌, Bool, true, false, ◌||◌, List, [], ◌∷◌, ◌++◌, length, take, drop, Option, Some, None, is_some, refl, sym, ap, ◌∙◌, arith, append_assoc, length-append}
use Rattle.std.proofs.lemmas.List.{drop-append-le, take-append-drop, take-append-le}
use Rattle.std.proofs.lemmas.List.Folds.{list_any-append}
use Rattle.std.specs.List.{list_any}
use Rattle.std.specs.Option.{ForSome}
use Rattle.hive_hall.specs.Legal.{stops_in}
use Rattle.hive_model.specs.EventRecord.{EventRecord}
use Rattle.hive_model.specs.History.{entry_of, is_stop, items_of, journal_of, record_of, records_of, with_stop}
use Rattle.hive_model.specs.declared.entry.Entry.{Entry}
use Rattle.hive_model.specs.declared.entry.Entry.TheVariants.{Admit, Claim, Done, Back, Retire, Last}
use Rattle.hive_model.specs.declared.item.Item.{Item}
use Rattle.hive_model.specs.declared.item.Item.TheVariants.{Admitted, Entered, Stop}

-- how many entries admit an event
abbrev pub admit_of : Entry → ℕ
admit_of (Admit slot place) = 1
admit_of (Claim slot number clone worker) = 0
admit_of (Done ticket outcome) = 0
admit_of (Back ticket) = 0
admit_of (Retire slot) = 0
admit_of Last = 0

abbrev pub admissions : List Entry → ℕ
admissions [] = 0
admissions (e ∷ journal) = admit_of e + admissions journal

-- any entry but an Admit is an item by itself
entered-first : (e : Entry) (journal : List Entry) (records : List EventRecord) → admit_of e ≡ 0 →
    items_of (e ∷ journal) records ≡ Entered e ∷ items_of journal records
entered-first (Admit slot place) journal records h = absurd (omega arith)
entered-first (Claim slot number clone worker) journal records h = refl
entered-first (Done ticket outcome) journal records h = refl
entered-first (Back ticket) journal records h = refl
entered-first (Retire slot) journal records h = refl
entered-first Last journal records h = refl

-- the items begin with some item of the first entry, whatever comes
record Begins (e : Entry) (journal : List Entry) (records : List EventRecord) : Type 0 where
  item : Item
  others : List EventRecord
  is : items_of (e ∷ journal) records ≡ item ∷ items_of journal others
  of : entry_of item ≡ e ∷ []
  plain : is_stop item ≡ false
  records_are : admit_of e + admissions journal ≡ length records → records ≡ record_of item ++ others
  count : admit_of e + admissions journal ≡ length records → admissions journal ≡ length others
  same : (more : List Entry) → items_of (e ∷ (journal ++ more)) records ≡ item ∷ items_of (journal ++ more) others
  longer : admit_of e + admissions journal ≡ length records → (more : List Entry) (last : List EventRecord) →
      items_of (e ∷ (journal ++ more)) (records ++ last) ≡ item ∷ items_of (journal ++ more) (others ++ last)

entered-begins : (e : Entry) (journal : List Entry) (records : List EventRecord) → admit_of e ≡ 0 →
    Begins e journal records
entered-begins e journal records h = record {
  item = Entered e;
  others = records;
  is = entered-first e journal records h;
  of = refl;
  plain = refl;
  records_are = λ _. refl;
  count = λ all. omega arith;
  same = λ more. entered-first e (journal ++ more) records h;
  longer = λ _ more last. entered-first e (journal ++ more) (records ++ last) h;
}

begins : (e : Entry) (journal : List Entry) (records : List EventRecord) → Begins e journal records
begins (Admit slot place) journal [] = record {
  item = Entered (Admit slot place);
  others = [];
  is = refl;
  of = refl;
  plain = refl;
  records_are = λ _. refl;
  count = λ all. absurd (omega arith);
  same = λ _. refl;
  longer = λ all _ _. absurd (omega arith);
}
begins (Admit slot place) journal (event ∷ records) = record {
  item = Admitted slot place event;
  others = records;
  is = refl;
  of = refl;
  plain = refl;
  records_are = λ _. refl;
  count = λ all. omega arith;
  same = λ _. refl;
  longer = λ _ _ _. refl;
}
begins (Claim slot number clone worker) journal records = entered-begins _ journal records refl
begins (Done ticket outcome) journal records = entered-begins _ journal records refl
begins (Back ticket) journal records = entered-begins _ journal records refl
begins (Retire slot) journal records = entered-begins _ journal records refl
begins Last journal records = entered-begins _ journal records refl

-- what the items tell

pub items-length : (journal : List Entry) (records : List EventRecord) →
    length (items_of journal records) ≡ length journal
items-length [] records = refl
items-length (e ∷ journal) records =
    let b = begins e journal records in
    ap length b.is ∙ ap (λ n. suc n) (items-length journal b.others)

pub items-journal : (journal : List Entry) (records : List EventRecord) →
    journal_of (items_of journal records) ≡ journal
items-journal [] records = refl
items-journal (e ∷ journal) records =
    let b = begins e journal records in
    ap journal_of b.is ∙ (ap (λ l. l ++ journal_of (items_of journal b.others)) b.of
    ∙ ap (λ l. e ∷ l) (items-journal journal b.others))

pub items-records : (journal : List Entry) (records : List EventRecord) → admissions journal ≡ length records →
    records_of (items_of journal records) ≡ records
items-records [] [] all = refl
items-records [] (event ∷ records) all = absurd (omega arith)
items-records (e ∷ journal) records all =
    let b = begins e journal records in
    ap records_of b.is ∙ (ap (λ l. record_of b.item ++ l) (items-records journal b.others (b.count all))
    ∙ sym (b.records_are all))

pub items-no_stop : (journal : List Entry) (records : List EventRecord) →
    list_any is_stop (items_of journal records) ≡ false
items-no_stop [] records = refl
items-no_stop (e ∷ journal) records =
    let b = begins e journal records in
    ap (list_any is_stop) b.is
    ∙ (ap (λ x. x || list_any is_stop (items_of journal b.others)) b.plain ∙ items-no_stop journal b.others)

-- one entry more

pub items-entered : (journal : List Entry) (records : List EventRecord) (e : Entry) → admit_of e ≡ 0 →
    items_of (journal ++ e ∷ []) records ≡ items_of journal records ++ Entered e ∷ []
items-entered [] records e h = entered-first e [] records h
items-entered (first ∷ journal) records e h =
    let b = begins first journal records in
    b.same (e ∷ []) ∙ (ap (λ l. b.item ∷ l) (items-entered journal b.others e h)
    ∙ ap (λ l. l ++ Entered e ∷ []) (sym b.is))

pub items-admitted : (journal : List Entry) (records : List EventRecord) (slot place : ℕ) (event : EventRecord) →
    admissions journal ≡ length records →
    items_of (journal ++ Admit slot place ∷ []) (records ++ event ∷ [])
    ≡ items_of journal records ++ Admitted slot place event ∷ []
items-admitted [] [] slot place event all = refl
items-admitted [] (other ∷ records) slot place event all = absurd (omega arith)
items-admitted (first ∷ journal) records slot place event all =
    let b = begins first journal records in
    b.longer all (Admit slot place ∷ []) (event ∷ [])
    ∙ (ap (λ l. b.item ∷ l) (items-admitted journal b.others slot place event (b.count all))
    ∙ ap (λ l. l ++ Admitted slot place event ∷ []) (sym b.is))

-- two parts of a history

pub journal-parts : (front back : List Item) → journal_of (front ++ back) ≡ journal_of front ++ journal_of back
journal-parts [] back = refl
journal-parts (item ∷ front) back =
    ap (λ l. entry_of item ++ l) (journal-parts front back)
    ∙ sym (append_assoc (entry_of item) (journal_of front) (journal_of back))

pub records-parts : (front back : List Item) → records_of (front ++ back) ≡ records_of front ++ records_of back
records-parts [] back = refl
records-parts (item ∷ front) back =
    ap (λ l. record_of item ++ l) (records-parts front back)
    ∙ sym (append_assoc (record_of item) (records_of front) (records_of back))

-- a Stop

-- it was said where so many entries stood, if it was
abbrev pub StopsAt : Option ℕ → ℕ → Type 0
StopsAt stop entries = ForSome stop (λ n. n ≤ entries)

pub stop-length : (stop : Option ℕ) (items : List Item) → length (with_stop stop items) ≡ length items + stops_in stop
stop-length None items = omega arith
stop-length (Some n) items =
    let parts = length-append (take n items) (drop n items) in
    let whole = ap length (take-append-drop n items) in
    let stopped = length-append (take n items) (Stop ∷ drop n items) in
    omega arith

pub stop-journal : (stop : Option ℕ) (items : List Item) → journal_of (with_stop stop items) ≡ journal_of items
stop-journal None items = refl
stop-journal (Some n) items =
    journal-parts (take n items) (Stop ∷ drop n items)
    ∙ (sym (journal-parts (take n items) (drop n items)) ∙ ap journal_of (take-append-drop n items))

pub stop-records : (stop : Option ℕ) (items : List Item) → records_of (with_stop stop items) ≡ records_of items
stop-records None items = refl
stop-records (Some n) items =
    records-parts (take n items) (Stop ∷ drop n items)
    ∙ (sym (records-parts (take n items) (drop n items)) ∙ ap records_of (take-append-drop n items))

or-true : (b : Bool) → (b || true) ≡ true
or-true true = refl
or-true false = refl

pub stop-stopped : (stop : Option ℕ) (items : List Item) → list_any is_stop items ≡ false →
    list_any is_stop (with_stop stop items) ≡ is_some stop
stop-stopped None items none = none
stop-stopped (Some n) items none =
    list_any-append is_stop (take n items) (Stop ∷ drop n items) ∙ or-true (list_any is_stop (take n items))

pub stop-more : (stop : Option ℕ) (items more : List Item) → StopsAt stop (length items) →
    with_stop stop (items ++ more) ≡ with_stop stop items ++ more
stop-more None items more within = refl
stop-more (Some n) items more within =
    ap (λ l. l ++ Stop ∷ drop n (items ++ more)) (take-append-le n items more (within n refl))
    ∙ (ap (λ l. take n items ++ Stop ∷ l) (drop-append-le n items more (within n refl))
    ∙ sym (append_assoc (take n items) (Stop ∷ drop n items) more))

pub stop-now : (items : List Item) → with_stop (Some (length items)) items ≡ items ++ Stop ∷ []
stop-now [] = refl
stop-now (item ∷ items) = ap (λ l. item ∷ l) (stop-now items)
