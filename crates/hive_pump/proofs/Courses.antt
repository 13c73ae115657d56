-- The course of a run goes on by the report of the next record.
use Rattle.std.proofs.Common.{◌≡◌, ℕ, ◌+◌, Bool, List, [], ◌++◌, Option, Some, None, slice_get, take, refl, sym, ap, ap₂, subst, ◌∙◌, append_assoc}
use Rattle.std.proofs.KnownBytes.{Appends-nil, Appends-trans}
use Rattle.std.specs.Io.KnownBytes.{Appends}
use Rattle.hive_model.specs.EventRecord.{EventRecord}
use Rattle.hive_model.specs.Job.{Job}
use Rattle.hive_pump.proofs.Texts.{reports-next, written-more, written-parts}
use Rattle.hive_pump.proofs.Windows.{take-next}
use Rattle.hive_pump.specs.Course.{Course, IsShown, moved_on, reports_left, text_so_far}
use Rattle.hive_pump.specs.Steps.{IsBroken, IsSent, report_on}
use Rattle.hive_pump.specs.Written.{AppendsPrefix, written}

pub course-is : (a b : Course) → a.given ≡ b.given → a.handed ≡ b.handed → a ≡ b
course-is a b given handed = ap₂ (λ l n. record { given = l; handed = n }) given handed

-- texts one behind the other

-- what was written whole, and then a prefix
pub prefix-after : (old mid new : Option (List ℕ)) (a b text : List ℕ) → Appends old mid a → AppendsPrefix mid new b →
    text ≡ a ++ b → AppendsPrefix old new text
prefix-after old mid new a b text first p e = record {
  front = a ++ p.front;
  back = p.back;
  whole = e ∙ (ap (λ xs. a ++ xs) p.whole ∙ sym (append_assoc a p.front p.back));
  bytes = Appends-trans old mid new a p.front first p.bytes;
}

-- what was written whole is a prefix of what might have followed
pub prefix-of : (old new : Option (List ℕ)) (a b text : List ℕ) → Appends old new a → text ≡ a ++ b →
    AppendsPrefix old new text
prefix-of old new a b text first e = record { front = a; back = b; whole = e; bytes = first }

-- a prefix of the front is one of all
pub prefix-more : (old new : Option (List ℕ)) (a b text : List ℕ) → AppendsPrefix old new a → text ≡ a ++ b →
    AppendsPrefix old new text
prefix-more old new a b text p e = record {
  front = p.front;
  back = p.back ++ b;
  whole = e ∙ (ap (λ xs. xs ++ b) p.whole ∙ append_assoc p.front p.back b);
  bytes = p.bytes;
}

pub sent-both : {K : Type 0} (got : K → Option (List ℕ)) (faults : K → ℕ) (admits : K → List ℕ → Type 0) (k₀ k k' : K)
    (a b text : List ℕ) →
    IsSent got faults admits k₀ k a → IsSent got faults admits k k' b → text ≡ a ++ b → IsSent got faults admits k₀ k' text
sent-both got faults admits k₀ k k' a b text first then_ e = record {
  bytes = rw e (Appends-trans (got k₀) (got k) (got k') a b first.bytes then_.bytes);
  room = λ rest h.
      let whole : text ++ rest ≡ a ++ (b ++ rest) = ap (λ xs. xs ++ rest) e ∙ append_assoc a b rest in
      then_.room rest (first.room (b ++ rest) (subst (admits k₀) whole h));
  calm = then_.calm ∙ first.calm;
}

pub broken-after : {K : Type 0} (got : K → Option (List ℕ)) (faults : K → ℕ) (admits : K → List ℕ → Type 0) (k₀ k k' : K)
    (a b text : List ℕ) →
    IsSent got faults admits k₀ k a → IsBroken got faults k k' b → text ≡ a ++ b → IsBroken got faults k₀ k' text
broken-after got faults admits k₀ k k' a b text first p e = record {
  bytes = prefix-after (got k₀) (got k) (got k') a b text first.bytes p.bytes e;
  rose = rw (← first.calm) p.rose;
}

pub broken-more : {K : Type 0} (got : K → Option (List ℕ)) (faults : K → ℕ) (k₀ k : K) (a b text : List ℕ) →
    IsBroken got faults k₀ k a → text ≡ a ++ b → IsBroken got faults k₀ k text
broken-more got faults k₀ k a b text p e = record {
  bytes = prefix-more (got k₀) (got k) a b text p.bytes e;
  rose = p.rose;
}

pub sent-nothing : {K : Type 0} (got : K → Option (List ℕ)) (faults : K → ℕ) (admits : K → List ℕ → Type 0) (k : K) →
    IsSent got faults admits k k []
sent-nothing got faults admits k = record { bytes = Appends-nil (got k); room = λ rest h. h; calm = refl }

module _ (job : Job) (brief : Bool) (now next : Course) (Puts : List ℕ → Type 0) (s : IsShown job brief now next Puts) where
  pub given-shown : next.given ≡ now.given
  given-shown = ap (λ (c : Course). c.given) s.moved

  pub handed-shown : next.handed ≡ now.handed + 1
  handed-shown = ap (λ (c : Course). c.handed) s.moved

  -- the report that was due, and those that follow
  pub left-shown : reports_left job brief now ≡ report_on job brief s.event ++ reports_left job brief next
  left-shown =
      reports-next job brief now.given now.handed s.event s.there
      ∙ ap (λ c. report_on job brief s.event ++ reports_left job brief c) (sym s.moved)

  -- what was due before, and the report
  pub so-far-shown : text_so_far job brief next ≡ text_so_far job brief now ++ report_on job brief s.event
  so-far-shown =
      ap (text_so_far job brief) s.moved
      ∙ (ap (λ l. written job brief l None) (take-next now.given now.handed s.event s.there)
      ∙ written-more job brief (take now.handed now.given) s.event)

  -- what was due before, the report, and those that follow
  pub all-shown : written job brief now.given None
      ≡ (text_so_far job brief now ++ report_on job brief s.event) ++ reports_left job brief next
  all-shown =
      written-parts job brief now.given now.handed
      ∙ (ap (λ t. text_so_far job brief now ++ t) left-shown
      ∙ sym (append_assoc (text_so_far job brief now) (report_on job brief s.event) (reports_left job brief next)))

module _ {K : Type 0} (got : K → Option (List ℕ)) (faults : K → ℕ) (admits : K → List ℕ → Type 0) (job : Job) (brief : Bool)
  where
    -- what was written so far is a prefix of the reports of all
    pub prefix-so-far : (at : Course) (k₀ k : K) → IsSent got faults admits k₀ k (text_so_far job brief at) →
        AppendsPrefix (got k₀) (got k) (written job brief at.given None)
    prefix-so-far at k₀ k sent =
        prefix-of (got k₀) (got k) (text_so_far job brief at) (reports_left job brief at) (written job brief at.given None)
        sent.bytes (written-parts job brief at.given at.handed)

    pub sent-shown : (now next : Course) (k₀ k k' : K) → IsSent got faults admits k₀ k (text_so_far job brief now) →
        IsShown job brief now next (IsSent got faults admits k k') →
        IsSent got faults admits k₀ k' (text_so_far job brief next)
    sent-shown now next k₀ k k' sent s =
        sent-both got faults admits k₀ k k' (text_so_far job brief now) (report_on job brief s.event)
        (text_so_far job brief next) sent s.puts
        (so-far-shown job brief now next (IsSent got faults admits k k') s)

    pub broken-shown : (now next : Course) (k₀ k k' : K) → IsSent got faults admits k₀ k (text_so_far job brief now) →
        IsShown job brief now next (IsBroken got faults k k') →
        IsBroken got faults k₀ k' (written job brief next.given None)
    broken-shown now next k₀ k k' sent s =
        let front = text_so_far job brief now in
        let report = report_on job brief s.event in
        let shown = IsBroken got faults k k' in
        subst (λ l. IsBroken got faults k₀ k' (written job brief l None)) (sym (given-shown job brief now next shown s))
        (broken-more got faults k₀ k' (front ++ report) (reports_left job brief next) (written job brief now.given None)
        (broken-after got faults admits k₀ k k' front report (front ++ report) sent s.puts refl)
        (all-shown job brief now next shown s))

    -- there is room for the reports that follow
    pub room-shown : (now next : Course) (k k' : K) → admits k (reports_left job brief now) →
        IsShown job brief now next (IsSent got faults admits k k') → admits k' (reports_left job brief next)
    room-shown now next k k' room s =
        s.puts.room (reports_left job brief next)
        (subst (admits k) (left-shown job brief now next (IsSent got faults admits k k') s) room)

    -- a report that is due may be written
    pub room-due : (front : (k : K) (a b : List ℕ) → admits k (a ++ b) → admits k a) (now : Course) (k : K) →
        admits k (reports_left job brief now) → (event : EventRecord) → slice_get now.given now.handed ≡ Some event →
        admits k (report_on job brief event)
    room-due front now k room event there =
        front k (report_on job brief event) (reports_left job brief (moved_on now))
        (subst (admits k) (reports-next job brief now.given now.handed event there) room)
