-- Lists that are made piece by piece.
use Rattle.std.proofs.Common.{◌≡◌, ℕ, ◌+◌, ◌*◌, ◌<◌, List, [], ◌∷◌, ◌++◌, length, refl, sym, ap, ◌∙◌, append-nil, zero-add, arith}
use Rattle.std.specs.Prelude.{map, ℤ}
use Rattle.std.specs.List.{All, flat_map, range_with_len}
use Rattle.std.proofs.lemmas.List.{length-append}
use Rattle.std.proofs.lemmas.List.Concat.{flat_map-append}
use Rattle.std.proofs.lemmas.List.Folds.{flat_map-map}
use Rattle.std.proofs.lemmas.List.FromFn.{map-range_with_len_more, length-range_with_len, get_or-range_with_len}
use Rattle.std.proofs.lemmas.List.Elements.{All-nil, All-head, All-tail, All-append, All-from_get_or}
use Rattle.mesh_model.specs.Parts.{cells_of}

-- one more piece
pub flat_map-more : {A : Type 0} (f : ℕ → List A) → (n : ℕ) → flat_map f (range_with_len 0 (n + 1)) ≡ flat_map f (range_with_len 0 n) ++ f n
flat_map-more f n =
    sym (flat_map-map (λ x. x) f (range_with_len 0 (n + 1)))
    ∙ ap (flat_map (λ x. x)) (map-range_with_len_more f 0 n n (zero-add n))
    ∙ flat_map-append (λ x. x) (map f (range_with_len 0 n)) (f n ∷ [])
    ∙ ap (λ xs. xs ++ (f n ++ [])) (flat_map-map (λ x. x) f (range_with_len 0 n))
    ∙ ap (λ xs. flat_map f (range_with_len 0 n) ++ xs) (append-nil (f n))

-- the cells of pieces
pub cells_of-flat_map : {A : Type 0} (f : A → List (List ℤ)) → (xs : List A) → cells_of (flat_map f xs) ≡ flat_map (λ x. cells_of (f x)) xs
cells_of-flat_map f [] = refl
cells_of-flat_map f (x ∷ xs) =
    flat_map-append (λ row. row) (f x) (flat_map f xs) ∙ ap (λ c. cells_of (f x) ++ c) (cells_of-flat_map f xs)

-- pieces of one length
pub length-pieces : {A B : Type 0} (f : A → List B) → (c : ℕ) → ((x : A) → length (f x) ≡ c) → (xs : List A) → length (flat_map f xs) ≡ length xs * c
length-pieces f c same [] = omega arith
length-pieces f c same (x ∷ xs) = length-append (f x) (flat_map f xs) ∙ omega (arith, same x, length-pieces f c same xs)

-- what holds of the items of each piece
pub All-flat_map : {A B : Type 0} (P : A → Type 0) (Q : B → Type 0) (f : A → List B) → ((x : A) → P x → All Q (f x)) → (xs : List A) → All P xs → All Q (flat_map f xs)
All-flat_map P Q f each [] all = All-nil Q
All-flat_map P Q f each (x ∷ xs) all =
    All-append Q (f x) (flat_map f xs) (each x (All-head P x xs all)) (All-flat_map P Q f each xs (All-tail P x xs all))

-- the numbers of a range
pub All-range : (n : ℕ) → All (λ k. k < n) (range_with_len 0 n)
All-range n = All-from_get_or (λ k. k < n) (range_with_len 0 n) 0
    (λ i below. let inside : i < n = omega (arith, below, length-range_with_len 0 n) in omega (arith, get_or-range_with_len 0 n i 0 inside))
