-- Lists of three, four and one.
use Rattle.std.proofs.Common.{◌≡◌, List, [], ◌∷◌, ◌++◌, ℤ, pos, length, get_or, refl, sym, ap, ◌∙◌, append_assoc, arith}

-- a list of three is its elements
pub triple_is : (xs : List ℤ) → length xs ≡ 3 → get_or xs 0 (pos 0) ∷ get_or xs 1 (pos 0) ∷ get_or xs 2 (pos 0) ∷ [] ≡ xs
triple_is [] long = absurd (omega (arith, long))
triple_is (x ∷ []) long = absurd (omega (arith, long))
triple_is (x ∷ y ∷ []) long = absurd (omega (arith, long))
triple_is (x ∷ y ∷ z ∷ []) long = refl
triple_is (x ∷ y ∷ z ∷ u ∷ xs) long = absurd (omega (arith, long))

-- a list of four is its elements
pub quadruple_is : (xs : List ℤ) → length xs ≡ 4 → get_or xs 0 (pos 0) ∷ get_or xs 1 (pos 0) ∷ get_or xs 2 (pos 0) ∷ get_or xs 3 (pos 0) ∷ [] ≡ xs
quadruple_is [] long = absurd (omega (arith, long))
quadruple_is (x ∷ xs) long = ap (λ ys. x ∷ ys) (triple_is xs (omega (arith, long)))

-- three elements are put behind a list
pub triple_push : (xs : List ℤ) (x y z : ℤ) → ((xs ++ x ∷ []) ++ y ∷ []) ++ z ∷ [] ≡ xs ++ x ∷ y ∷ z ∷ []
triple_push xs x y z = append_assoc (xs ++ x ∷ []) (y ∷ []) (z ∷ []) ∙ append_assoc xs (x ∷ []) (y ∷ z ∷ [])

-- a list of one is its element
pub single_is : {X : Type 0} (xs : List X) (x : X) → length xs ≡ 1 → x ≡ get_or xs 0 x → xs ≡ x ∷ []
single_is [] x long is = absurd (omega (arith, long))
single_is (y ∷ []) x long is = ap (λ z. z ∷ []) (sym is)
single_is (y ∷ z ∷ xs) x long is = absurd (omega (arith, long))
