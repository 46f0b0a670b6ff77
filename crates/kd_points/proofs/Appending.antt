-- Appending the bytes of one item after another.
use Rattle.std.proofs.Common.{◌≡◌, ℕ, ◌+◌, ◌<◌, List, [], ◌∷◌, ◌++◌, length, take, get_or, flat_map, sym, ◌∙◌, ap}
use Rattle.std.specs.List.{All}
use Rattle.std.proofs.lemmas.List.{take_more, flat_map_more}
use Rattle.std.proofs.lemmas.List.Elements.{All-more}

-- one item more was appended
pub appended-more : {X A : Type 0} (f : X → List A) (xs : List X) (i : ℕ) (x : X) (start out new : List A) → i < length xs → x ≡ get_or xs i x
    → out ≡ start ++ flat_map f (take i xs) → new ≡ out ++ f x → new ≡ start ++ flat_map f (take (i + 1) xs)
appended-more f xs i x start out new within at so is =
    is ∙ ap (λ o. o ++ f x) so ∙ flat_map_more f start (take i xs) x
    ∙ ap (λ y. start ++ flat_map f (take i xs ++ y ∷ [])) at
    ∙ ap (λ l. start ++ flat_map f l) (sym (take_more xs i x within))

-- what holds of one item more
pub all-more : {X : Type 0} (P : X → Type 0) (xs : List X) (i : ℕ) (x : X) → i < length xs → x ≡ get_or xs i x
    → All P (take i xs) → P x → All P (take (i + 1) xs)
all-more P xs i x within at all holds = All-more P xs i x within all (rw (sym at) holds)
