-- Appending the bytes of one item after another.
use Rattle.std.proofs.Common.{◌≡◌, ℕ, ◌+◌, ◌<◌, List, [], ◌∷◌, ◌++◌, length, take, get_or, flat_map, map, append_assoc, sym, ◌∙◌, ap, arith}
use Rattle.std.specs.List.{All, zip}
use Rattle.std.proofs.lemmas.Slice.Zip.{get_or-zip, length-zip}
use Rattle.std.proofs.lemmas.List.{take_more, flat_map_more, map_push}
use Rattle.std.proofs.lemmas.List.Elements.{All-more}

-- one item more was appended
pub appended-more : {X : Type 0} (f : X → List ℕ) (xs : List X) (i : ℕ) (x : X) (start out new : List ℕ) → i < length xs → x ≡ get_or xs i x
    → out ≡ start ++ flat_map f (take i xs) → new ≡ out ++ f x → new ≡ start ++ flat_map f (take (i + 1) xs)
appended-more f xs i x start out new within at so is =
    is ∙ ap (λ o. o ++ f x) so ∙ flat_map_more f start (take i xs) x
    ∙ ap (λ y. start ++ flat_map f (take i xs ++ y ∷ [])) at
    ∙ ap (λ l. start ++ flat_map f l) (sym (take_more xs i x within))

-- the number of one item more was appended
pub mapped-more : {X : Type 0} (f : X → ℕ) (xs : List X) (i : ℕ) (x : X) (y : ℕ) (start out new : List ℕ) → i < length xs → x ≡ get_or xs i x
    → out ≡ start ++ map f (take i xs) → new ≡ out ++ y ∷ [] → y ≡ f x → new ≡ start ++ map f (take (i + 1) xs)
mapped-more f xs i x y start out new within at so is told =
    is ∙ ap (λ o. o ++ y ∷ []) so ∙ append_assoc start (map f (take i xs)) (y ∷ [])
    ∙ ap (λ z. start ++ (map f (take i xs) ++ z ∷ [])) told
    ∙ ap (λ l. start ++ l) (sym (map_push f (take i xs) x))
    ∙ ap (λ z. start ++ map f (take i xs ++ z ∷ [])) at
    ∙ ap (λ l. start ++ map f l) (sym (take_more xs i x within))

-- what holds of one item more
pub all-more : {X : Type 0} (P : X → Type 0) (xs : List X) (i : ℕ) (x : X) → i < length xs → x ≡ get_or xs i x
    → All P (take i xs) → P x → All P (take (i + 1) xs)
all-more P xs i x within at all holds = All-more P xs i x within all (rw (sym at) holds)

-- a pair at its place among pairs
pub zipped : {A B : Type 0} (xs : List A) (ys : List B) (i : ℕ) (x : A) (y : B) → length ys ≡ length xs → i < length xs → x ≡ get_or xs i x → y ≡ get_or ys i y
    → ◌≡◌ {A = A × B} (x, y) (get_or (zip xs ys) i (x, y))
zipped {A} {B} xs ys i x y same within at_x at_y =
    let pair : ◌≡◌ {A = A × B} (get_or (zip xs ys) i (x, y)) (get_or xs i x, get_or ys i y) = get_or-zip xs ys i (x, y) within (omega arith) in
    let first : ◌≡◌ {A = A × B} (x, y) (get_or xs i x, y) = ap (λ a. (a, y)) at_x in
    let second : ◌≡◌ {A = A × B} (get_or xs i x, y) (get_or xs i x, get_or ys i y) = ap (λ b. (get_or xs i x, b)) at_y in
    first ∙ second ∙ sym pair

pub length-zipped : {A B : Type 0} (xs : List A) (ys : List B) → length ys ≡ length xs → length (zip xs ys) ≡ length xs
length-zipped xs ys same = omega (arith, length-zip xs ys)
