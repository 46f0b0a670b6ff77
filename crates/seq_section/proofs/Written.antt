-- Written indices are read back.
use Rattle.std.proofs.Common.{◌≡◌, ℕ, zero, suc, ◌/◌, ◌^◌, ◌<◌, ◌≤◌, Bool, true, false, List, [], ◌∷◌, ◌++◌, length, Option, None, Some, Ok, nat_lt, if◌then◌else◌, refl, sym, ap, subst, arith, inl, inr, append_assoc, append-nil, nat_le}
use Rattle.std.specs.List.{All, flat_map}
use Rattle.std.proofs.lemmas.Bool.{cases_lt}
use Rattle.drc_base.specs.declared.kinds.Kind.TheVariants as kind
use Rattle.drc_base.specs.declared.limits.TheConstants.{MAX_FACES, MAX_POINTS}
use Rattle.drc_base.specs.Profile.{profile}
use Rattle.drc_base.specs.Steps.{◌>>=◌}
use Rattle.drc_bits.specs.Reading.{must, many_at}
use Rattle.drc_bits.specs.Numbers.{number_at, little_endian}
use Rattle.drc_bits.specs.Varint.{var32_at, spelling}
use Rattle.drc_bits.specs.Bits.{low_bytes}
use Rattle.drc_bits.specs.Spells.{Spells}
use Rattle.drc_bits.proofs.Spelled.{Spells-none, Spells-then, Spells-must, Spells-low_bytes, Spells-var32, Spells-byte}
use Rattle.seq_section.specs.declared.reading.Opening.{Opening}
use Rattle.seq_section.specs.Indices.{index_width, number_of_width, bytes_of_width, index_at, face_at, index_bytes, face_bytes, IsFaceBelow, method_at, indices_opening_at, faces_at, indices_at, indices_opening_bytes, faces_bytes, indices_bytes}

-- a number has a width
abbrev FitsWidth : Option ℕ → ℕ → Type 0
FitsWidth None i = i < 2 ^ 32
FitsWidth (Some n) i = i < 256 ^ n

FitsWidth-index_width : (points i : ℕ) → i < points → points < 2 ^ 32 → FitsWidth (index_width points) i
FitsWidth-index_width points i below few = elim (cases_lt points 256) [
  | inl a ↦ let t : nat_lt points 256 ≡ true = grind (arith, a) in rw t (omega arith)
  | inr a ↦ let t : nat_lt points 256 ≡ false = grind (arith, a) in rw t (elim (cases_lt points 65536) [
    | inl b ↦ let u : nat_lt points 65536 ≡ true = grind (arith, b) in rw u (omega arith)
    | inr b ↦ let u : nat_lt points 65536 ≡ false = grind (arith, b) in rw u (elim (cases_lt points 2097152) [
      | inl c ↦ let v : nat_lt points 2097152 ≡ true = grind (arith, c) in rw v (omega arith)
      | inr c ↦ let v : nat_lt points 2097152 ≡ false = grind (arith, c) in rw v (omega arith)
    ])
  ])
]

Spells-width : (w : Option ℕ) (i : ℕ) → FitsWidth w i → Spells (number_of_width w) (bytes_of_width w i) i
Spells-width None i fits = Spells-var32 i fits
Spells-width (Some n) i fits = Spells-low_bytes n i fits

Spells-index : (points i : ℕ) → i < points → points < 2 ^ 32 → Spells (index_at points) (index_bytes points i) i
Spells-index points i below few =
    let passes : nat_lt i points ≡ true = grind (arith, below) in
    Spells-must kind.IndexRange (λ x. nat_lt x points) (number_of_width (index_width points)) (index_bytes points i) i passes
    (Spells-width (index_width points) i (FitsWidth-index_width points i below few))

Spells-three : (points a b d : ℕ) → a < points → b < points → d < points → points < 2 ^ 32
    → Spells (face_at points) (face_bytes points (a ∷ b ∷ d ∷ [])) (a ∷ b ∷ d ∷ [])
unfolding face_at
Spells-three points a b d below_a below_b below_d few =
    Spells-then (index_at points) (λ x c. index_at points c >>= λ y. index_at points y.1 >>= λ z. Ok (x ∷ y.0 ∷ z.0 ∷ [], z.1))
    (index_bytes points a) (index_bytes points b ++ (index_bytes points d ++ [])) a (a ∷ b ∷ d ∷ []) (Spells-index points a below_a few)
    (Spells-then (index_at points) (λ y c. index_at points c >>= λ z. Ok (a ∷ y ∷ z.0 ∷ [], z.1))
    (index_bytes points b) (index_bytes points d ++ []) b (a ∷ b ∷ d ∷ []) (Spells-index points b below_b few)
    (Spells-then (index_at points) (λ z c. Ok (a ∷ b ∷ z ∷ [], c)) (index_bytes points d) [] d (a ∷ b ∷ d ∷ [])
    (Spells-index points d below_d few) (Spells-none (a ∷ b ∷ d ∷ []))))

Spells-face : (points : ℕ) (face : List ℕ) → IsFaceBelow points face → points < 2 ^ 32 → Spells (face_at points) (face_bytes points face) face
Spells-face points [] is few = absurd (omega (arith, is.0))
Spells-face points (a ∷ []) is few = absurd (omega (arith, is.0))
Spells-face points (a ∷ b ∷ []) is few = absurd (omega (arith, is.0))
Spells-face points (a ∷ b ∷ d ∷ []) is few =
    Spells-three points a b d (is.1 0 0 (omega arith)) (is.1 1 0 (omega arith)) (is.1 2 0 (omega arith)) few
Spells-face points (a ∷ b ∷ d ∷ e ∷ face) is few = absurd (omega (arith, is.0))

-- the faces are read back where each index stands by itself
pub Spells-faces : (points : ℕ) (faces : List (List ℕ)) → All (IsFaceBelow points) faces → points < 2 ^ 32
    → Spells (many_at (face_at points) (length faces)) (flat_map (face_bytes points) faces) faces
unfolding many_at
Spells-faces points [] are few = Spells-none []
Spells-faces points (face ∷ faces) are few =
    Spells-then (face_at points) (λ f c. many_at (face_at points) (length faces) c >>= λ fs. Ok (f ∷ fs.0, fs.1))
    (face_bytes points face) (flat_map (face_bytes points) faces) face (face ∷ faces) (Spells-face points face (are 0 [] (omega arith)) few)
    (record { reads = λ place rest. rw ((Spells-faces points faces (λ k d h. are (suc k) d (omega (arith, h))) few).reads place rest) refl })

-- the opening of a written section
Spells-opening : (faces points method : ℕ) → faces ≤ MAX_FACES → points ≤ MAX_POINTS → method ≤ 1
    → Spells (indices_opening_at profile) (indices_opening_bytes faces points method) (record { faces = faces; points = points; method = method })
unfolding indices_opening_at
Spells-opening faces points method few_faces few_points known =
    let faces_pass : nat_le faces MAX_FACES ≡ true = grind (arith, few_faces) in
    let points_pass : nat_le points MAX_POINTS ≡ true = grind (arith, few_points) in
    let method_passes : nat_le method 1 ≡ true = grind (arith, known) in
    subst (λ bytes. Spells (indices_opening_at profile) bytes (record { faces = faces; points = points; method = method })) (sym (append_assoc (spelling 5 faces) (spelling 5 points) (method ∷ [])))
    (Spells-then (must kind.FaceLimit (λ n. nat_le n MAX_FACES) var32_at)
    (λ f c. must kind.PointLimit (λ n. nat_le n MAX_POINTS) var32_at c >>= λ p. method_at p.1 >>= λ m. Ok (record { faces = f; points = p.0; method = m.0 }, m.1))
    (spelling 5 faces) (spelling 5 points ++ (method ∷ [])) faces (record { faces = faces; points = points; method = method })
    (Spells-must kind.FaceLimit (λ n. nat_le n MAX_FACES) var32_at (spelling 5 faces) faces faces_pass (Spells-var32 faces (omega (arith, few_faces))))
    (Spells-then (must kind.PointLimit (λ n. nat_le n MAX_POINTS) var32_at)
    (λ p c. method_at c >>= λ m. Ok (record { faces = faces; points = p; method = m.0 }, m.1))
    (spelling 5 points) (method ∷ []) points (record { faces = faces; points = points; method = method })
    (Spells-must kind.PointLimit (λ n. nat_le n MAX_POINTS) var32_at (spelling 5 points) points points_pass (Spells-var32 points (omega (arith, few_points))))
    (Spells-then method_at (λ m c. Ok (record { faces = faces; points = points; method = m }, c))
    (method ∷ []) [] method (record { faces = faces; points = points; method = method })
    (Spells-must kind.IndexMethod (λ n. nat_le n 1) (number_at 1) (method ∷ []) method method_passes (Spells-byte method))
    (Spells-none (record { faces = faces; points = points; method = method })))))

-- a written section is read back where its faces are
pub Spells-section : (packed : Bool) (faces : List (List ℕ)) (points : ℕ) → length faces ≤ MAX_FACES → points ≤ MAX_POINTS
    → Spells (faces_at (record { faces = length faces; points = points; method = if packed then 0 else 1 })) (faces_bytes packed faces points) faces
    → Spells (indices_at profile) (indices_bytes packed faces points) (record { faces = faces; points = points })
unfolding indices_at indices_bytes
Spells-section packed faces points few_faces few_points behind =
    let opening : Opening = record { faces = length faces; points = points; method = if packed then 0 else 1 } in
    let front : List ℕ = indices_opening_bytes (length faces) points (if packed then 0 else 1) in
    let known : (if packed then 0 else 1) ≤ 1 = elim packed as (λ b. (if b then 0 else 1) ≤ 1) [ true ↦ omega arith | false ↦ omega arith ] in
    subst (λ bytes. Spells (indices_at profile) bytes (record { faces = faces; points = points })) (ap (λ l. front ++ l) (append-nil (faces_bytes packed faces points)))
    (Spells-then (indices_opening_at profile) (λ o c. faces_at o c >>= λ fs. Ok (record { faces = fs.0; points = o.points }, fs.1))
    front (faces_bytes packed faces points ++ []) opening (record { faces = faces; points = points })
    (Spells-opening (length faces) points (if packed then 0 else 1) few_faces few_points known)
    (Spells-then (faces_at opening) (λ fs c. Ok (record { faces = fs; points = points }, c)) (faces_bytes packed faces points) []
    faces (record { faces = faces; points = points }) behind (Spells-none (record { faces = faces; points = points }))))
