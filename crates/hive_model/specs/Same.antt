-- Tests of equality that compute, and texts as contracts see them.
use Rattle.std.specs.Prelude.{ℕ, nat_eq, Bool, true, false, ◌&&◌, List, map}
use Rattle.std.specs.Borrow.{Bor}
use Rattle.std.specs.Cmp.Lexicographic.{pointwise}
use Rattle.hive_model.specs.declared.outcome.Fault.{Fault}
use Rattle.hive_model.specs.declared.outcome.Fault.TheVariants.{Overflow, DivZero, Empty, Index, TooLong}
use Rattle.hive_model.specs.declared.outcome.Outcome.{Outcome}
use Rattle.hive_model.specs.declared.outcome.Outcome.TheVariants.{Accepted, Rejected, Failed}
use Rattle.hive_model.specs.declared.outcome.Place.{Place}
use Rattle.hive_model.specs.declared.outcome.Place.TheVariants.{Output, Filter}
use Rattle.hive_model.specs.declared.product.Kind.{Kind}
use Rattle.hive_model.specs.declared.product.Kind.TheVariants as kinds

-- texts have the same bytes
abbrev pub same_text : List ℕ → List ℕ → Bool
same_text xs ys = pointwise nat_eq xs ys

-- the texts that are borrowed, as `&[&str]` is seen
abbrev pub texts : List (Bor (List ℕ)) → List (List ℕ)
texts borrowed = map (λ (text : Bor (List ℕ)). text.now) borrowed

abbrev pub same_kind : Kind → Kind → Bool
same_kind kinds.Num kinds.Num = true
same_kind kinds.List kinds.List = true
same_kind kind other = false

abbrev pub same_fault : Fault → Fault → Bool
same_fault Overflow Overflow = true
same_fault DivZero DivZero = true
same_fault Empty Empty = true
same_fault Index Index = true
same_fault TooLong TooLong = true
same_fault fault other = false

abbrev pub same_place : Place → Place → Bool
same_place (Output n) (Output m) = nat_eq n m
same_place Filter Filter = true
same_place at other = false

abbrev pub same_outcome : Outcome → Outcome → Bool
same_outcome Accepted Accepted = true
same_outcome Rejected Rejected = true
same_outcome (Failed at fault) (Failed other further) = same_place at other && same_fault fault further
same_outcome outcome other = false
