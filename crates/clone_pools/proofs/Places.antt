-- One instance is written: who has which instance, and what is kept of them.
use Rattle.std.proofs.Common.{◌≡◌, ℕ, ◌<◌, List, [], length, length-set, get_or, map, ap, sym, subst, ◌∙◌, Option, Some, slice_get}
use Rattle.std.specs.Prelude.{All, slice_set}
use Rattle.std.proofs.lemmas.List.Elements.{All-get_or, All-set}
use Rattle.std.proofs.lemmas.List.{length-map, map-set}
use Rattle.std.proofs.lemmas.Option.{slice_get_within}
use Rattle.hive_model.specs.Scratch.{Scratch}
use Rattle.clone_pools.specs.Instances.{IsKept, place_of}
use Rattle.clone_pools.specs.Room.{HasRoom}
use Rattle.clone_pools.specs.declared.instance.Instance.{Instance}
use Rattle.clone_pools.specs.declared.instance.Instance.TheVariants.{Idle, Lent}
use Rattle.clone_pools.specs.declared.room.Room.{Room}

pub places-set : (xs : List Instance) (n m : ℕ) (it : Instance) (place : Option ℕ) → m ≡ n → place_of it ≡ place →
    map place_of (slice_set xs m it) ≡ slice_set (map place_of xs) n place
places-set xs n m it place same is =
    map-set place_of xs m it ∙ ap (λ i. slice_set (map place_of xs) i (place_of it)) same ∙ ap (slice_set (map place_of xs) n) is

pub kept-lent : (xs : List Instance) (m place : ℕ) (it old : Instance) (scratch : Scratch) → m < length xs → old ≡ get_or xs m old →
    it ≡ Lent place → old ≡ Idle scratch → (room : Room) → All (IsKept room) xs →
    HasRoom room scratch × (scratch.inputs ≡ []) × All (IsKept room) (slice_set xs m it)
kept-lent xs m place it old scratch lt at is was room all =
    let here : IsKept room (Idle scratch) = subst (IsKept room) (sym at ∙ was) (All-get_or (IsKept room) xs m old lt all) in
    (here.0, here.1, All-set (IsKept room) xs m it (subst (IsKept room) (sym is) tt) all)

pub kept-idle : (xs : List Instance) (m : ℕ) (idle : Scratch) (room : Room) → HasRoom room idle → idle.inputs ≡ [] → All (IsKept room) xs →
    All (IsKept room) (slice_set xs m (Idle idle))
kept-idle xs m idle room has none all = All-set (IsKept room) xs m (Idle idle) (has, none) all

pub within-places : (xs : List Instance) (n m : ℕ) (place : Option ℕ) → m ≡ n → slice_get (map place_of xs) n ≡ Some place → m < length xs
within-places xs n m place same is =
    rw same (rw (← length-map xs place_of) (slice_get_within (map place_of xs) n place is))

pub same-count : (xs ys : List Instance) (k : ℕ) (place : Option ℕ) → map place_of ys ≡ slice_set (map place_of xs) k place → length ys ≡ length xs
same-count xs ys k place e =
    sym (length-map ys place_of) ∙ ap length e ∙ length-set (map place_of xs) k place ∙ length-map xs place_of
