-- Heads beside their tables or attributes.
use Rattle.std.proofs.Common.{◌≡◌, ℕ, ◌+◌, ◌<◌, ◌≤◌, List, [], ◌∷◌, ◌++◌, length, get_or, take, sym, ap, ◌∙◌, arith}
use Rattle.std.specs.List.{flat_map, zip}
use Rattle.std.proofs.lemmas.List.{take_more, take_all, append-nil}
use Rattle.std.proofs.lemmas.List.Concat.{flat_map-append}
use Rattle.std.proofs.lemmas.Slice.Zip.{length-zip, get_or-zip}
use Rattle.attr_heads.specs.declared.heads.Head.{Head}

-- column j is head j with table j
pub column_zip : {T : Type 0} → (heads : List Head) (tables : List T) (j : ℕ) (h : Head) (t : T) → length tables ≡ length heads → j < length heads → h ≡ get_or heads j h → t ≡ get_or tables j t → get_or (zip heads tables) j (h, t) ≡ (h, t)
column_zip heads tables j h t each below at_head at_table =
    get_or-zip heads tables j (h, t) below (omega arith) ∙ ap (λ g. (g, get_or tables j t)) (sym at_head) ∙ ap (λ u. (h, u)) (sym at_table)

pub length_columns : {T : Type 0} → (heads : List Head) (tables : List T) → length tables ≡ length heads → length (zip heads tables) ≡ length heads
length_columns heads tables each = length-zip heads tables ∙ omega arith

-- one more column adds its piece
pub columns_more : {A T : Type 0} (f : Head × T → List A) (heads : List Head) (tables : List T) (j : ℕ) (h : Head) (t : T) → length tables ≡ length heads → j < length heads → h ≡ get_or heads j h → t ≡ get_or tables j t → flat_map f (take (j + 1) (zip heads tables)) ≡ flat_map f (take j (zip heads tables)) ++ f (h, t)
columns_more {A} {T} f heads tables j h t each below at_head at_table =
    let pairs = zip heads tables in
    let inside : j < length pairs = omega (arith, length_columns heads tables each) in
    ap (flat_map f) (take_more pairs j (h, t) inside)
    ∙ flat_map-append f (take j pairs) (get_or pairs j (h, t) ∷ [])
    ∙ ap (λ (p : Head × T). flat_map f (take j pairs) ++ flat_map f (p ∷ [])) (column_zip heads tables j h t each below at_head at_table)
    ∙ ap (λ xs. flat_map f (take j pairs) ++ xs) (append-nil (f (h, t)))

-- all columns
pub columns_all : {T : Type 0} → (heads : List Head) (tables : List T) (j : ℕ) → length tables ≡ length heads → length heads ≤ j → take j (zip heads tables) ≡ zip heads tables
columns_all heads tables j each past = take_all j (zip heads tables) (omega (arith, length_columns heads tables each))
