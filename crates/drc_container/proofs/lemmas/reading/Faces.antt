-- Connectivity that was read: its limits, and that each face has three points.
use Rattle.drc_base.specs.Profile.{profile}
use Rattle.std.proofs.Common.{◌≡◌, ℕ, zero, suc, ◌*◌, ◌%◌, ◌<◌, ◌≤◌, ℤ, pos, negsuc, List, [], ◌∷◌, length, map, Ok, refl, sym, ◌∙◌, ap, subst, arith}
use Rattle.std.specs.Prelude.{◌==◌, ◌+ℤ◌, nat_lt, nat_le}
use Rattle.std.specs.List.{All}
use Rattle.std.proofs.lemmas.Bool.{leb-true, ltb-true}
use Rattle.std.proofs.lemmas.List.{length-map}
use Rattle.std.proofs.lemmas.List.Elements.{All-nil, All-cons, All-head, All-tail}
use Rattle.std.proofs.Math.Nat.{mul-mod_left}
use Rattle.drc_base.specs.declared.faults.Fault.{Fault}
use Rattle.drc_base.specs.declared.kinds.Kind.TheVariants as kind
use Rattle.drc_base.specs.declared.limits.TheConstants.{MAX_FACES, MAX_POINTS}
use Rattle.drc_bits.specs.Reading.{Reading, must, many_at}
use Rattle.drc_bits.specs.Varint.{var32_at}
use Rattle.drc_bits.proofs.Results.{Ok-injective, err≢ok}
use Rattle.mesh_model.specs.Parts.{IsFaceOf}
use Rattle.symbol_coding.specs.Block.{block_at}
use Rattle.seq_section.specs.declared.reading.SeqRead.{SeqRead}
use Rattle.seq_section.specs.declared.reading.Opening.{Opening}
use Rattle.seq_section.specs.Packed.{difference_of, sums_from, point_meant, points_meant, threes, faces_meant}
use Rattle.seq_section.specs.Indices.{method_at, indices_opening_at, index_width, number_of_width, index_at, face_at, packed_at, faces_at, indices_at}
use Rattle.drc_container.proofs.lemmas.reading.Parted.{given, parts, passed, either, must-passed, many-passed}
use Rattle.drc_container.proofs.lemmas.reading.Counted.{block-counted}

-- an opening is within the limits
opening-passed : (c : Reading) (y : Opening × Reading) → indices_opening_at profile c ≡ Ok y → (y.0.faces ≤ MAX_FACES) × (y.0.points ≤ MAX_POINTS)
unfolding indices_opening_at
opening-passed c y is =
    let p = parts (must kind.FaceLimit (λ n. nat_le n MAX_FACES) var32_at c) _ y is in
    let q = parts (must kind.PointLimit (λ n. nat_le n MAX_POINTS) var32_at p.0.1) _ y p.2 in
    let r = parts (method_at q.0.1) _ y q.2 in
    let faces = must-passed kind.FaceLimit (λ n. nat_le n MAX_FACES) var32_at c p.0 p.1 in
    let points = must-passed kind.PointLimit (λ n. nat_le n MAX_POINTS) var32_at p.0.1 q.0 q.1 in
    let o : Opening = record { faces = p.0.0; points = q.0.0; method = r.0.0 } in
    given (λ (z : Opening × Reading). (z.0.faces ≤ MAX_FACES) × (z.0.points ≤ MAX_POINTS)) (o, r.0.1) y r.2
    (leb-true p.0.0 MAX_FACES faces.0, leb-true q.0.0 MAX_POINTS points.0)

index-passed : (points : ℕ) (c : Reading) (y : ℕ × Reading) → index_at points c ≡ Ok y → y.0 < points
index-passed points c y is = ltb-true y.0 points (must-passed kind.IndexRange (λ i. nat_lt i points) (number_of_width (index_width points)) c y is).0

-- three points are a face
three : (points a b d : ℕ) → a < points → b < points → d < points → IsFaceOf points (a ∷ b ∷ d ∷ [])
three points a b d has_a has_b has_d =
    let below : ℕ → Type 0 = λ p. p < points in
    (refl, All-cons below a (b ∷ d ∷ []) has_a (All-cons below b (d ∷ []) has_b (All-cons below d [] has_d (All-nil below))))

face-passed : (points : ℕ) (c : Reading) (y : List ℕ × Reading) → face_at points c ≡ Ok y → IsFaceOf points y.0
unfolding face_at
face-passed points c y is =
    let p = parts (index_at points c) _ y is in
    let q = parts (index_at points p.0.1) _ y p.2 in
    let r = parts (index_at points q.0.1) _ y q.2 in
    given (λ (z : List ℕ × Reading). IsFaceOf points z.0) (p.0.0 ∷ q.0.0 ∷ r.0.0 ∷ [], r.0.1) y r.2
    (three points p.0.0 q.0.0 r.0.0 (index-passed points c p.0 p.1) (index-passed points p.0.1 q.0 q.1) (index-passed points q.0.1 r.0 r.1))

point_of-passed : (f : Fault) (points : ℕ) (i : ℤ) (p : ℕ) → point_meant f points i ≡ Ok p → p < points
point_of-passed f points (pos i) p is =
    let t = passed (nat_lt i points) f (Ok i) p is in subst (λ n. n < points) (Ok-injective t.1) (ltb-true i points t.0)
point_of-passed f points (negsuc n) p is = absurd (err≢ok is)

points_of-passed : (f : Fault) (points : ℕ) (numbers : List ℤ) (ps : List ℕ) → points_meant f points numbers ≡ Ok ps
    → (length ps ≡ length numbers) × All (λ p. p < points) ps
points_of-passed f points [] ps is = subst (λ l. (length l ≡ 0) × All (λ p. p < points) l) (Ok-injective is) (refl, All-nil (λ p. p < points))
points_of-passed f points (i ∷ numbers) ps is =
    let p = parts (point_meant f points i) _ ps is in
    let q = parts (points_meant f points numbers) _ ps p.2 in
    let rest = points_of-passed f points numbers q.0 q.1 in
    subst (λ l. (length l ≡ suc (length numbers)) × All (λ p. p < points) l) (Ok-injective q.2)
    (ap suc rest.0, All-cons (λ p. p < points) p.0 q.0 (point_of-passed f points i p.0 p.1) rest.1)

length-sums_from : (start : ℤ) (ds : List ℤ) → length (sums_from start ds) ≡ length ds
length-sums_from start [] = refl
length-sums_from start (d ∷ ds) = ap suc (length-sums_from (start +ℤ d) ds)

-- corners by threes are faces
threes-passed : (points n : ℕ) (ps : List ℕ) → length ps ≡ 3 * n → All (λ p. p < points) ps
    → (length (threes ps) ≡ n) × All (IsFaceOf points) (threes ps)
threes-passed points zero [] long all = (refl, All-nil (IsFaceOf points))
threes-passed points zero (a ∷ ps) long all = absurd (omega (arith, long))
threes-passed points (suc n) [] long all = absurd (omega (arith, long))
threes-passed points (suc n) (a ∷ []) long all = absurd (omega (arith, long))
threes-passed points (suc n) (a ∷ b ∷ []) long all = absurd (omega (arith, long))
threes-passed points (suc n) (a ∷ b ∷ d ∷ ps) long all =
    let below : ℕ → Type 0 = λ p. p < points in
    let others = All-tail below a (b ∷ d ∷ ps) all in
    let more = All-tail below b (d ∷ ps) others in
    let rest = threes-passed points n ps (omega (arith, long)) (All-tail below d ps more) in
    let face = three points a b d (All-head below a (b ∷ d ∷ ps) all) (All-head below b (d ∷ ps) others) (All-head below d ps more) in
    (ap suc rest.0, All-cons (IsFaceOf points) (a ∷ b ∷ d ∷ []) (threes ps) face rest.1)

packed-passed : (points faces : ℕ) (c : Reading) (y : List (List ℕ) × Reading) → packed_at points faces c ≡ Ok y
    → (length y.0 ≡ faces) × All (IsFaceOf points) y.0
unfolding packed_at
packed-passed points faces c y is =
    let p = parts (block_at (3 * faces) 1 c) _ y is in
    let f : Fault = record { kind = kind.IndexRange; at = c.place } in
    let q = parts (faces_meant f points p.0.0) _ y p.2 in
    let numbers = sums_from (pos 0) (map difference_of p.0.0) in
    let r = parts (points_meant f points numbers) (λ corners. Ok (threes corners)) q.0 q.1 in
    let s = points_of-passed f points numbers r.0 r.1 in
    let one : 3 * faces * 1 ≡ 3 * faces = omega arith in
    let whole = ap (λ n. n % 1) (sym one) ∙ mul-mod_left (3 * faces) 1 in
    let long = s.0 ∙ length-sums_from (pos 0) (map difference_of p.0.0) ∙ length-map p.0.0 difference_of ∙ block-counted (3 * faces) 1 whole c p.0 p.1 in
    let t = threes-passed points faces r.0 long s.1 in
    given (λ (z : List (List ℕ) × Reading). (length z.0 ≡ faces) × All (IsFaceOf points) z.0) (q.0, p.0.1) y q.2
    (given (λ l. (length l ≡ faces) × All (IsFaceOf points) l) (threes r.0) q.0 r.2 t)

-- indices that were read are within the limits, and are those of points
pub record IndicesPass (r : SeqRead) : Type 0 where
  pub few_points : r.points ≤ MAX_POINTS
  pub few_faces : length r.faces ≤ MAX_FACES
  pub faces : All (IsFaceOf r.points) r.faces

pub indices-passed : (c : Reading) (y : SeqRead × Reading) → indices_at profile c ≡ Ok y → IndicesPass y.0
unfolding indices_at
indices-passed c y is =
    let p = parts (indices_opening_at profile c) _ y is in
    let q = parts (faces_at p.0.0 p.0.1) _ y p.2 in
    let opening = opening-passed c p.0 p.1 in
    let n = p.0.0.points in
    let have : (length q.0.0 ≡ p.0.0.faces) × All (IsFaceOf n) q.0.0 =
    either ((length q.0.0 ≡ p.0.0.faces) × All (IsFaceOf n) q.0.0) (p.0.0.method == 0) (packed_at n p.0.0.faces p.0.1) (many_at (face_at n) p.0.0.faces p.0.1) q.0 q.1
    (λ _ read. packed-passed n p.0.0.faces p.0.1 q.0 read)
    (λ _ read. many-passed (IsFaceOf n) (face_at n) (face-passed n) p.0.0.faces p.0.1 q.0 read) in
    let r : SeqRead = record { faces = q.0.0; points = n } in
    given (λ (z : SeqRead × Reading). IndicesPass z.0) (r, q.0.1) y q.2
    (record { few_points = opening.1; few_faces = omega (arith, opening.0, have.0); faces = have.1 })
