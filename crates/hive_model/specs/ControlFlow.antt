-- The forest of sequences: whose member is whose, and how deep sequences stand one below the other.
use Rattle.std.specs.Prelude.{ℕ, zero, suc, ◌<◌, List, length, Option, Some, None, slice_get, IsSomeAnd, MatchOption}
use Rattle.std.specs.List.{AllByRecursion, Contains, filter_map, flat_map}
use Rattle.hive_model.specs.Job.{Job}
use Rattle.hive_model.specs.Sequence.{Sequence}
use Rattle.hive_model.specs.declared.sequence.Member.{Member}
use Rattle.hive_model.specs.declared.sequence.Member.TheVariants.{Alg, Seq}

abbrev pub IsMemberOf : Job → Member → Type 0
IsMemberOf job (Alg a) = a < length job.algorithms
IsMemberOf job (Seq s) = s < length job.sequences

abbrev pub sequence_number : Member → Option ℕ
sequence_number (Alg a) = None
sequence_number (Seq s) = Some s

abbrev pub algorithm_number : Member → Option ℕ
algorithm_number (Alg a) = Some a
algorithm_number (Seq s) = None

-- the members of all sequences, in written order
abbrev pub all_members : List Sequence → List Member
all_members sequences = flat_map (λ (q : Sequence). q.members) sequences

-- those of them that are sequences
abbrev pub member_sequences : Job → List ℕ
member_sequences job = filter_map sequence_number (all_members job.sequences)

-- those of them that are algorithms
abbrev pub leaves : Job → List ℕ
leaves job = filter_map algorithm_number (all_members job.sequences)

-- the second sequence is a member of the first
abbrev pub HasMember : List Sequence → ℕ → ℕ → Type 0
HasMember sequences s t = IsSomeAnd (slice_get sequences s) (λ q. Contains q.members (Seq t))

-- There is such a member, and at most `depth` sequences stand one below the other from it on. Where that holds of each
-- sequence, all members are there, none is below itself, and each is at most so deep, which is a law in both directions.
abbrev pub IsNestedWithin : ℕ → List Sequence → Member → Type 0
IsNestedWithin depth sequences (Alg a) = Unit {0}
IsNestedWithin zero sequences (Seq s) = ⊥
IsNestedWithin (suc depth) sequences (Seq s) =
    MatchOption (slice_get sequences s) ⊥ (λ q. AllByRecursion (IsNestedWithin depth sequences) q.members)
