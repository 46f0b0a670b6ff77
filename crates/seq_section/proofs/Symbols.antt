-- Packed indices: what symbols mean step by step, and that the symbols of faces mean the faces.
use Rattle.std.proofs.Common.{◌≡◌, ℕ, suc, ◌+◌, ◌*◌, ◌/◌, ◌%◌, ◌<◌, ◌≤◌, ◌==◌, true, false, List, [], ◌∷◌, ◌++◌, length, map, drop, get_or, Result, Ok, Err, nat_lt, refl, sym, ◌∙◌, ap, subst, arith, inl, inr, add-one, append_assoc, append-nil, length-append, ℤ, pos, negsuc, ◌+ℤ◌, ◌-ℤ◌}
use Rattle.std.specs.List.{All, flat_map}
use Rattle.std.proofs.lemmas.Bool.{cases_lt}
use Rattle.std.proofs.lemmas.Int.{ints}
use Rattle.std.proofs.lemmas.List.{drop_all}
use Rattle.std.proofs.lemmas.List.Elements.{All-nil, All-append}
use Rattle.std.proofs.Math.Seq.{drop-cons}
use Rattle.drc_base.specs.declared.faults.Fault.{Fault}
use Rattle.drc_base.specs.declared.kinds.Kind.TheVariants as kind
use Rattle.drc_base.specs.Steps.{◌>>=◌}
use Rattle.drc_bits.specs.Spells.{Spells}
use Rattle.drc_bits.proofs.Results.{Ok-injective, err≢ok}
use Rattle.symbol_coding.specs.Block.{block_at, block_bytes}
use Rattle.seq_section.specs.Indices.{packed_at, IsFaceBelow}
use Rattle.seq_section.specs.Packed.{difference_of, difference_symbol, sums_from, differences_from, point_meant, points_meant, points_after, threes, faces_meant, symbols_after, symbols_of}

-- ---- reading

-- the corners of faces behind those that were read
abbrev pub with_faces : List (List ℕ) → Result (List ℕ) Fault → Result (List (List ℕ)) Fault
with_faces front corners = corners >>= λ cs. Ok (front ++ threes cs)

pub with_faces-nil : (corners : Result (List ℕ) Fault) → with_faces [] corners ≡ (corners >>= λ cs. Ok (threes cs))
with_faces-nil (Ok cs) = refl
with_faces-nil (Err f) = refl

-- what was given before what is given by a value that there is
then-ok : {A B : Type 0} (r : Result A Fault) (f : A → Result B Fault) (y : B) → (r >>= f) ≡ Ok y → (x : A) × (r ≡ Ok x) × (f x ≡ Ok y)
then-ok (Ok x) f y is = (x, refl, is)
then-ok (Err e) f y is = absurd (err≢ok is)

-- a number that is a point
point-is : (o : Fault) (n : ℕ) (z : ℤ) (p : ℕ) → point_meant o n z ≡ Ok p → (z ≡ pos p) × (p < n)
point-is o n (pos i) p is = elim (cases_lt i n) [
  | inl a ↦ let t : nat_lt i n ≡ true = grind (arith, a) in
      let there : i ≡ p = Ok-injective (rw t at is) in (ap pos there, omega (arith, a, there))
  | inr a ↦ let t : nat_lt i n ≡ false = grind (arith, a) in absurd (err≢ok (rw t at is))
]
point-is o n (negsuc i) p is = absurd (err≢ok is)

in_turn : (face rest more : List ℕ) (a b d : ℕ) → face ≡ a ∷ rest → rest ≡ b ∷ more → more ≡ d ∷ [] → face ≡ a ∷ b ∷ d ∷ []
in_turn face rest more a b d p q r = cc

-- three numbers that are points: the last of them
three-last : (o : Fault) (n : ℕ) (x y z : ℤ) (face : List ℕ) → points_meant o n (x ∷ y ∷ z ∷ []) ≡ Ok face
    → (z ≡ pos (get_or face 2 0)) × (get_or face 2 0 < n) × (a : ℕ) × (b : ℕ) × (d : ℕ) × (face ≡ a ∷ b ∷ d ∷ [])
three-last o n x y z face is =
    let first = then-ok (point_meant o n x) (λ p. points_meant o n (y ∷ z ∷ []) >>= λ ps. Ok (p ∷ ps)) face is in
    let rest = then-ok (points_meant o n (y ∷ z ∷ [])) (λ ps. Ok (first.0 ∷ ps)) face first.2 in
    let second = then-ok (point_meant o n y) (λ p. points_meant o n (z ∷ []) >>= λ ps. Ok (p ∷ ps)) rest.0 rest.1 in
    let more = then-ok (points_meant o n (z ∷ [])) (λ ps. Ok (second.0 ∷ ps)) rest.0 second.2 in
    let third = then-ok (point_meant o n z) (λ p. points_meant o n [] >>= λ ps. Ok (p ∷ ps)) more.0 more.1 in
    let last = point-is o n z third.0 third.1 in
    let e1 : face ≡ first.0 ∷ rest.0 = sym (Ok-injective rest.2) in
    let e2 : rest.0 ≡ second.0 ∷ more.0 = sym (Ok-injective more.2) in
    let e3 : more.0 ≡ third.0 ∷ [] = sym (Ok-injective third.2) in
    let there : face ≡ first.0 ∷ second.0 ∷ third.0 ∷ [] = in_turn face rest.0 more.0 first.0 second.0 third.0 e1 e2 e3 in
    let told : get_or face 2 0 ≡ third.0 = ap (λ l. get_or l 2 0) there in
    (last.0 ∙ ap pos (sym told), omega (arith, told, last.1), first.0, second.0, third.0, there)

points_of-append : (o : Fault) (n : ℕ) (xs ys : List ℤ) → points_meant o n (xs ++ ys) ≡ (points_meant o n xs >>= λ ps. points_meant o n ys >>= λ qs. Ok (ps ++ qs))
points_of-append o n [] ys = same (points_meant o n ys)
  where
    same : (r : Result (List ℕ) Fault) → r ≡ (r >>= λ qs. Ok qs)
    same (Ok x) = refl
    same (Err e) = refl
points_of-append o n (x ∷ xs) ys = rw (points_of-append o n xs ys) (regrouped (point_meant o n x) (points_meant o n xs) (points_meant o n ys))
  where
    regrouped : (a : Result ℕ Fault) (b c : Result (List ℕ) Fault)
        → (a >>= λ p. (b >>= λ ps. c >>= λ qs. Ok (ps ++ qs)) >>= λ ps. Ok (p ∷ ps)) ≡ ((a >>= λ p. b >>= λ ps. Ok (p ∷ ps)) >>= λ ps. c >>= λ qs. Ok (ps ++ qs))
    regrouped (Err e) b c = refl
    regrouped (Ok a) (Err e) c = refl
    regrouped (Ok a) (Ok b) (Err e) = refl
    regrouped (Ok a) (Ok b) (Ok c) = refl

-- a face was read, whose numbers are x, y and z
next-face : (o : Fault) (n : ℕ) (x y z : ℤ) (ds : List ℤ) (front : List (List ℕ)) (face : List ℕ) → points_meant o n (x ∷ y ∷ z ∷ []) ≡ Ok face
    → with_faces front (points_meant o n (x ∷ y ∷ z ∷ sums_from z ds)) ≡ with_faces (front ++ face ∷ []) (points_meant o n (sums_from (pos (get_or face 2 0)) ds))
next-face o n x y z ds front face is =
    let last = three-last o n x y z face is in
    let split = points_of-append o n (x ∷ y ∷ z ∷ []) (sums_from z ds) in
    let told : points_meant o n (x ∷ y ∷ z ∷ sums_from z ds) ≡ (points_meant o n (sums_from (pos (get_or face 2 0)) ds) >>= λ qs. Ok (face ++ qs)) =
    split ∙ (rw (is, last.0) refl) in
    rw told (regrouped front face last.2 last.3 last.4 last.5 (points_meant o n (sums_from (pos (get_or face 2 0)) ds)))
  where
    regrouped : (front : List (List ℕ)) (face : List ℕ) (a b d : ℕ) → face ≡ a ∷ b ∷ d ∷ [] → (r : Result (List ℕ) Fault)
        → with_faces front (r >>= λ qs. Ok (face ++ qs)) ≡ with_faces (front ++ face ∷ []) r
    regrouped front face a b d is (Err e) = refl
    regrouped front face a b d is (Ok cs) = rw is (ap Ok (sym (append_assoc front ((a ∷ b ∷ d ∷ []) ∷ []) (threes cs))))

-- no face was read
no-face : (o : Fault) (n : ℕ) (x y z : ℤ) (ds : List ℤ) (front : List (List ℕ)) (f : Fault) → points_meant o n (x ∷ y ∷ z ∷ []) ≡ Err f
    → with_faces front (points_meant o n (x ∷ y ∷ z ∷ sums_from z ds)) ≡ Err f
no-face o n x y z ds front f is = rw (points_of-append o n (x ∷ y ∷ z ∷ []) (sums_from z ds), is) refl

-- the symbols from a face on
three-symbols : (symbols : List ℕ) (k : ℕ) → 3 * k + 2 < length symbols
    → drop (3 * k) symbols ≡ get_or symbols (3 * k) 0 ∷ get_or symbols (3 * k + 1) 0 ∷ get_or symbols (3 * k + 2) 0 ∷ drop (3 * (k + 1)) symbols
three-symbols symbols k fits =
    let a : 3 * k < length symbols = omega (arith, fits) in
    let b : 3 * k + 1 < length symbols = omega (arith, fits) in
    let second : suc (3 * k) ≡ 3 * k + 1 = omega arith in
    let third : suc (3 * k + 1) ≡ 3 * k + 2 = omega arith in
    let fourth : suc (3 * k + 2) ≡ 3 * (k + 1) = omega arith in
    drop-cons symbols (3 * k) 0 a
    ∙ ap (λ l. get_or symbols (3 * k) 0 ∷ l) (ap (λ j. drop j symbols) second ∙ drop-cons symbols (3 * k + 1) 0 b
    ∙ ap (λ l. get_or symbols (3 * k + 1) 0 ∷ l) (ap (λ j. drop j symbols) third ∙ drop-cons symbols (3 * k + 2) 0 fits
    ∙ ap (λ l. get_or symbols (3 * k + 2) 0 ∷ l) (ap (λ j. drop j symbols) fourth)))

-- the face of these symbols was read after a point
pub faces-next : (o : Fault) (n last k : ℕ) (symbols : List ℕ) (front : List (List ℕ)) (face : List ℕ) (whole : Result (List (List ℕ)) Fault) → 3 * k + 2 < length symbols
    → points_after o n (pos last) (get_or symbols (3 * k) 0 ∷ get_or symbols (3 * k + 1) 0 ∷ get_or symbols (3 * k + 2) 0 ∷ []) ≡ Ok face
    → with_faces front (points_after o n (pos last) (drop (3 * k) symbols)) ≡ whole
    → with_faces (front ++ face ∷ []) (points_after o n (pos (get_or face 2 0)) (drop (3 * (k + 1)) symbols)) ≡ whole
faces-next o n last k symbols front face whole fits is so =
    sym (next-face o n _ _ _ (map difference_of (drop (3 * (k + 1)) symbols)) front face is)
    ∙ ap (λ l. with_faces front (points_after o n (pos last) l)) (sym (three-symbols symbols k fits))
    ∙ so

-- the point that a face ends with
pub last-below : (o : Fault) (n last a b d : ℕ) (face : List ℕ) → points_after o n (pos last) (a ∷ b ∷ d ∷ []) ≡ Ok face → get_or face 2 0 < n
last-below o n last a b d face is = (three-last o n _ _ _ face is).1

-- the face of these symbols is none
pub faces-fault : (o : Fault) (n last k : ℕ) (symbols : List ℕ) (front : List (List ℕ)) (f : Fault) (whole : Result (List (List ℕ)) Fault) → 3 * k + 2 < length symbols
    → points_after o n (pos last) (get_or symbols (3 * k) 0 ∷ get_or symbols (3 * k + 1) 0 ∷ get_or symbols (3 * k + 2) 0 ∷ []) ≡ Err f
    → with_faces front (points_after o n (pos last) (drop (3 * k) symbols)) ≡ whole → whole ≡ Err f
faces-fault o n last k symbols front f whole fits is so =
    sym so ∙ ap (λ l. with_faces front (points_after o n (pos last) l)) (three-symbols symbols k fits)
    ∙ no-face o n _ _ _ (map difference_of (drop (3 * (k + 1)) symbols)) front f is

-- no symbol is left
pub faces-end : (o : Fault) (n last k : ℕ) (symbols : List ℕ) (front : List (List ℕ)) (whole : Result (List (List ℕ)) Fault) → length symbols ≤ 3 * k
    → with_faces front (points_after o n (pos last) (drop (3 * k) symbols)) ≡ whole → whole ≡ Ok front
faces-end o n last k symbols front whole done so =
    sym so ∙ ap (λ l. with_faces front (points_after o n (pos last) l)) (drop_all (3 * k) symbols done) ∙ ap Ok (append-nil front)

-- ---- writing

-- the corners of faces
abbrev pub corners_of : List (List ℕ) → List ℕ
corners_of faces = flat_map (λ face. face) faces

-- a face's symbols were written after a point
pub symbols-next : (last k n : ℕ) (faces : List (List ℕ)) (front whole : List ℕ) → k < length faces → IsFaceBelow n (get_or faces k [])
    → front ++ symbols_after (pos last) (corners_of (drop k faces)) ≡ whole
    → (front ++ symbols_after (pos last) (get_or faces k [])) ++ symbols_after (pos (get_or (get_or faces k []) 2 0)) (corners_of (drop (k + 1) faces)) ≡ whole
symbols-next last k n faces front whole fits is so =
    rw add-one (joined (get_or faces k []) (corners_of (drop (suc k) faces)) is.0)
    ∙ ap (λ l. front ++ symbols_after (pos last) (corners_of l)) (sym (drop-cons faces k [] fits))
    ∙ so
  where
    joined : (face rest : List ℕ) → length face ≡ 3
        → (front ++ symbols_after (pos last) face) ++ symbols_after (pos (get_or face 2 0)) rest ≡ front ++ symbols_after (pos last) (face ++ rest)
    joined [] rest len = absurd (omega (arith, len))
    joined (a ∷ []) rest len = absurd (omega (arith, len))
    joined (a ∷ b ∷ []) rest len = absurd (omega (arith, len))
    joined (a ∷ b ∷ d ∷ []) rest len = append_assoc front (symbols_after (pos last) (a ∷ b ∷ d ∷ [])) (symbols_after (pos d) rest)
    joined (a ∷ b ∷ d ∷ e ∷ face) rest len = absurd (omega (arith, len))

-- no face is left
pub symbols-end : (last k : ℕ) (faces : List (List ℕ)) (front whole : List ℕ) → length faces ≤ k
    → front ++ symbols_after (pos last) (corners_of (drop k faces)) ≡ whole → front ≡ whole
symbols-end last k faces front whole done so =
    sym (append-nil front) ∙ ap (λ l. front ++ symbols_after (pos last) (corners_of l)) (sym (drop_all k faces done)) ∙ so

length-symbols_after : (z : ℤ) (indices : List ℕ) → length (symbols_after z indices) ≡ length indices
length-symbols_after z [] = refl
length-symbols_after z (i ∷ is) = omega (arith, length-symbols_after (pos i) is)

length-corners_of : (n : ℕ) (faces : List (List ℕ)) → All (IsFaceBelow n) faces → length (corners_of faces) ≡ 3 * length faces
length-corners_of n [] are = refl
length-corners_of n (face ∷ faces) are =
    omega (arith, length-append face (corners_of faces), (are 0 [] (omega arith)).0, length-corners_of n faces (λ k d h. are (suc k) d (omega (arith, h))))

pub length-symbols_of : (n : ℕ) (faces : List (List ℕ)) → All (IsFaceBelow n) faces → length (symbols_of faces) ≡ 3 * length faces
length-symbols_of n faces are = length-symbols_after (pos 0) (corners_of faces) ∙ length-corners_of n faces are

-- ---- what was written is read back

difference-again : (d : ℤ) → difference_of (difference_symbol d) ≡ d
difference-again (pos n) =
    let even : (2 * n) % 2 == 1 ≡ false = grind arith in
    let half : 2 * n / 2 ≡ n = omega arith in
    rw (even, half) refl
difference-again (negsuc n) =
    let odd : (2 * (n + 1) + 1) % 2 == 1 ≡ true = grind arith in
    let half : (2 * (n + 1) + 1) / 2 ≡ suc n = omega arith in
    rw (odd, half) refl

sums-again : (start : ℤ) (indices : List ℤ) → sums_from start (map difference_of (map difference_symbol (differences_from start indices))) ≡ indices
sums-again start [] = refl
sums-again start (i ∷ is) =
    let back : start +ℤ (i -ℤ start) ≡ i = omega (arith, ints) in
    rw (difference-again (i -ℤ start), back) (ap (λ l. i ∷ l) (sums-again i is))

points-again : (o : Fault) (n : ℕ) (indices : List ℕ) → All (λ i. i < n) indices → points_meant o n (map pos indices) ≡ Ok indices
points-again o n [] are = refl
points-again o n (i ∷ is) are =
    let here : nat_lt i n ≡ true = (let h : i < n = are 0 0 (omega arith) in grind (arith, h)) in
    rw (here, points-again o n is (λ k d h. are (suc k) d (omega (arith, h)))) refl

corners-below : (n : ℕ) (faces : List (List ℕ)) → All (IsFaceBelow n) faces → All (λ i. i < n) (corners_of faces)
corners-below n [] are = All-nil (λ i. i < n)
corners-below n (face ∷ faces) are =
    All-append (λ i. i < n) face (corners_of faces) (are 0 [] (omega arith)).1 (corners-below n faces (λ k d h. are (suc k) d (omega (arith, h))))

threes-again : (n : ℕ) (faces : List (List ℕ)) → All (IsFaceBelow n) faces → threes (corners_of faces) ≡ faces
threes-again n [] are = refl
threes-again n (face ∷ faces) are = one face (are 0 [] (omega arith)).0 (threes-again n faces (λ k e h. are (suc k) e (omega (arith, h))))
  where
    one : (face : List ℕ) → length face ≡ 3 → threes (corners_of faces) ≡ faces → threes (face ++ corners_of faces) ≡ face ∷ faces
    one [] len rest = absurd (omega (arith, len))
    one (a ∷ []) len rest = absurd (omega (arith, len))
    one (a ∷ b ∷ []) len rest = absurd (omega (arith, len))
    one (a ∷ b ∷ d ∷ []) len rest = ap (λ l. (a ∷ b ∷ d ∷ []) ∷ l) rest
    one (a ∷ b ∷ d ∷ e ∷ face) len rest = absurd (omega (arith, len))

-- the symbols of faces mean the faces
faces-again : (o : Fault) (n : ℕ) (faces : List (List ℕ)) → All (IsFaceBelow n) faces → faces_meant o n (symbols_of faces) ≡ Ok faces
faces-again o n faces are =
    rw (sums-again (pos 0) (map pos (corners_of faces)), points-again o n (corners_of faces) (corners-below n faces are)) (ap Ok (threes-again n faces are))

-- the block of faces is read back
pub Spells-packed : (n : ℕ) (faces : List (List ℕ)) → All (IsFaceBelow n) faces
    → Spells (block_at (length (symbols_of faces)) 1) (block_bytes (symbols_of faces) 1) (symbols_of faces)
    → Spells (packed_at n (length faces)) (block_bytes (symbols_of faces) 1) faces
unfolding packed_at
Spells-packed n faces are block =
    let there : Spells (block_at (3 * length faces) 1) (block_bytes (symbols_of faces) 1) (symbols_of faces) =
    subst (λ m. Spells (block_at m 1) (block_bytes (symbols_of faces) 1) (symbols_of faces)) (length-symbols_of n faces are) block in
    record { reads = λ place rest. rw (there.reads place rest) (rw (faces-again (record { kind = kind.IndexRange; at = place }) n faces are) refl) }
