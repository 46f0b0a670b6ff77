-- What assembling asks of columns and groups, told by tests that compute.
use Rattle.std.proofs.Common.{◌≡◌, ℕ, ◌<◌, Bool, true, ltb, List, length, map, slice_index}
use Rattle.std.specs.List.{All, list_all}
use Rattle.std.proofs.lemmas.Bool.{ltb-true}
use Rattle.std.proofs.lemmas.List.Elements.{All-weaker, All-map, All-get_or}
use Rattle.std.proofs.lemmas.List.Sums.{AllPass-from_list_all}
use Rattle.mesh_model.specs.Groups.{GroupParts, HasVertices}

-- what a test tells of each item
pub All-tested : {X : Type 0} (p : X → Bool) (P : X → Type 0) → ((x : X) → p x ≡ true → P x) → (xs : List X) → list_all p xs ≡ true → All P xs
All-tested p P means xs passes = All-weaker (λ x. p x ≡ true) P means xs (AllPass-from_list_all p xs passes)

-- the entry of each corner is one of the first `count`
pub entries-below : (count : ℕ) (of_corner entry_of : List ℕ) → list_all (λ v. ltb v (length entry_of)) of_corner ≡ true
    → list_all (λ e. ltb e count) entry_of ≡ true → All (λ e. e < count) (map (λ v. slice_index entry_of v) of_corner)
entries-below count of_corner entry_of vertices entries =
    let each : All (λ e. e < count) entry_of =
    All-tested (λ e. ltb e count) (λ e. e < count) (λ e passes. ltb-true e count passes) entry_of entries in
    All-map (λ e. e < count) (λ v. slice_index entry_of v) of_corner
    (All-tested (λ v. ltb v (length entry_of)) (λ v. slice_index entry_of v < count)
    (λ v passes. All-get_or (λ e. e < count) entry_of v 0 (ltb-true v (length entry_of) passes) each) of_corner vertices)

-- the corners of a group have their vertices
pub HasVertices-tested : (corners : ℕ) (g : GroupParts) → length g.of_corner ≡ corners → list_all (λ v. ltb v (length g.entry_of)) g.of_corner ≡ true
    → HasVertices corners g
HasVertices-tested corners g each entries = record {
  each_corner = each;
  entries = All-tested (λ v. ltb v (length g.entry_of)) (λ v. v < length g.entry_of) (λ v passes. ltb-true v (length g.entry_of) passes) g.of_corner entries;
}
