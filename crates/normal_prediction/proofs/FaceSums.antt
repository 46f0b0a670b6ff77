-- One normal for the three corners of a face.
use Rattle.std.proofs.Common.{◌≡◌, ℕ, ◌+◌, ◌*◌, ◌<◌, List, length, set, get_or, sym, ◌∙◌, ap, subst, refl, arith}
use Rattle.std.specs.Int.{w64}
use Rattle.std.proofs.lemmas.Int.{int_wrap-add_right}
use Rattle.std.proofs.lemmas.Bool.Decides.{nat_tests}
use Rattle.std.specs.List.{All}
use Rattle.std.proofs.lemmas.List.{length-set, length-map}
use Rattle.corner_table.specs.Ordered.{entries_by}
use Rattle.wrapped_vectors.specs.Vectors.{vector_sum, reduced, cross, apart}
use Rattle.wrapped_vectors.specs.declared.vectors.Vector.{Vector}
use Rattle.wrapped_vectors.specs.declared.places.Place.{Place}
use Rattle.wrapped_vectors.proofs.Products.{one-normal}
use Rattle.normal_prediction.specs.NormalSums.{AreSums, normal_at, place_at, corner_place, corner_after, corner_before, vector_in}
use Rattle.normal_prediction.proofs.Gathering.{sums-more}

after-first : (f : ℕ) → corner_after (3 * f) ≡ 3 * f + 1
after-first f = grind (arith, nat_tests)

before-first : (f : ℕ) → corner_before (3 * f) ≡ 3 * f + 2
before-first f = grind (arith, nat_tests)

after-second : (f : ℕ) → corner_after (3 * f + 1) ≡ 3 * f + 2
after-second f = grind (arith, nat_tests)

before-second : (f : ℕ) → corner_before (3 * f + 1) ≡ 3 * f
before-second f = grind (arith, nat_tests)

after-third : (f : ℕ) → corner_after (3 * f + 2) ≡ 3 * f
after-third f = grind (arith, nat_tests)

before-third : (f : ℕ) → corner_before (3 * f + 2) ≡ 3 * f + 1
before-third f = grind (arith, nat_tests)

normal-by : (entries : List ℕ) (places : List Place) (i j k : ℕ) → corner_after i ≡ j → corner_before i ≡ k
    → normal_at entries places i ≡ cross (apart (corner_place entries places j) (corner_place entries places i)) (apart (corner_place entries places k) (corner_place entries places i))
normal-by entries places i j k ej ek = rw (ej, ek) refl

pub normal-first : (entries : List ℕ) (places : List Place) (f : ℕ)
    → normal_at entries places (3 * f) ≡ cross (apart (corner_place entries places (3 * f + 1)) (corner_place entries places (3 * f))) (apart (corner_place entries places (3 * f + 2)) (corner_place entries places (3 * f)))
normal-first entries places f = normal-by entries places (3 * f) (3 * f + 1) (3 * f + 2) (after-first f) (before-first f)

pub normal-second : (entries : List ℕ) (places : List Place) (f : ℕ) → normal_at entries places (3 * f) ≡ normal_at entries places (3 * f + 1)
normal-second entries places f =
    normal-first entries places f
    ∙ one-normal (corner_place entries places (3 * f)) (corner_place entries places (3 * f + 1)) (corner_place entries places (3 * f + 2))
    ∙ sym (normal-by entries places (3 * f + 1) (3 * f + 2) (3 * f) (after-second f) (before-second f))

pub normal-third : (entries : List ℕ) (places : List Place) (f : ℕ) → normal_at entries places (3 * f) ≡ normal_at entries places (3 * f + 2)
normal-third entries places f =
    normal-first entries places f
    ∙ one-normal (corner_place entries places (3 * f)) (corner_place entries places (3 * f + 1)) (corner_place entries places (3 * f + 2))
    ∙ one-normal (corner_place entries places (3 * f + 1)) (corner_place entries places (3 * f + 2)) (corner_place entries places (3 * f))
    ∙ sym (normal-by entries places (3 * f + 2) (3 * f) (3 * f + 1) (after-third f) (before-third f))

reduced-right : (a b : Vector) → reduced (vector_sum a (reduced b)) ≡ reduced (vector_sum a b)
reduced-right a b = rw (int_wrap-add_right w64 a.x b.x, int_wrap-add_right w64 a.y b.y, int_wrap-add_right w64 a.z b.z) refl

-- one more corner gets the normal of its face
pub corner-more : (entries : List ℕ) (places : List Place) (sums : List Vector) (i e : ℕ) (n m v : Vector) → AreSums entries places sums i
    → e ≡ get_or entries i 0 → e < length sums → n ≡ reduced m → m ≡ normal_at entries places i → v ≡ reduced (vector_sum (vector_in sums e) n)
    → AreSums entries places (set sums e v) (i + 1)
corner-more entries places sums i e n m v so is has en em ev =
    sums-more entries places sums i e v so is has (ev ∙ rw (en, em) (reduced-right (vector_in sums e) (normal_at entries places i)))

-- the entry of a corner is below a number, where those of all corners are
pub entry-below : (n : ℕ) (classes entry_of_class : List ℕ) (i e : ℕ) → All (λ (x : ℕ). x < n) (entries_by classes entry_of_class)
    → i < length classes → e ≡ get_or (entries_by classes entry_of_class) i 0 → e < n
entry-below n classes entry_of_class i e all has is =
    let long = length-map classes (λ (k : ℕ). get_or entry_of_class k 0) in
    rw is (all i 0 (omega (arith, has, long)))

-- the normal by the places of the entries of a face's corners
pub face-normal : (entries : List ℕ) (places : List Place) (f a b c : ℕ) (n : Vector)
    → a ≡ get_or entries (3 * f) 0 → b ≡ get_or entries (3 * f + 1) 0 → c ≡ get_or entries (3 * f + 2) 0
    → n ≡ reduced (cross (apart (place_at places b) (place_at places a)) (apart (place_at places c) (place_at places a)))
    → n ≡ reduced (normal_at entries places (3 * f))
face-normal entries places f a b c n ea eb ec en = (rw (ea, eb, ec) at en) ∙ ap reduced (sym (normal-first entries places f))

-- the three corners of a face
pub face-more : (entries : List ℕ) (places : List Place) (sums : List Vector) (f a b c : ℕ) (n x y z : Vector) → AreSums entries places sums (3 * f)
    → a ≡ get_or entries (3 * f) 0 → b ≡ get_or entries (3 * f + 1) 0 → c ≡ get_or entries (3 * f + 2) 0
    → a < length sums → b < length sums → c < length sums → n ≡ reduced (normal_at entries places (3 * f))
    → x ≡ reduced (vector_sum (vector_in sums a) n) → y ≡ reduced (vector_sum (vector_in (set sums a x) b) n)
    → z ≡ reduced (vector_sum (vector_in (set (set sums a x) b y) c) n)
    → AreSums entries places (set (set (set sums a x) b y) c z) (3 * (f + 1))
face-more entries places sums f a b c n x y z so ea eb ec ha hb hc en ex ey ez =
    let m : Vector = normal_at entries places (3 * f) in
    let hb' : b < length (set sums a x) = omega (arith, length-set sums a x) in
    let hc' : c < length (set (set sums a x) b y) = omega (arith, length-set sums a x, length-set (set sums a x) b y) in
    let one = corner-more entries places sums (3 * f) a n m x so ea ha en refl ex in
    let two = corner-more entries places (set sums a x) (3 * f + 1) b n m y one eb hb' en (normal-second entries places f) ey in
    let two' : AreSums entries places (set (set sums a x) b y) (3 * f + 2) = subst (λ (k : ℕ). AreSums entries places (set (set sums a x) b y) k) (next f) two in
    let three = corner-more entries places (set (set sums a x) b y) (3 * f + 2) c n m z two' ec hc' en (normal-third entries places f) ez in
    subst (λ (k : ℕ). AreSums entries places (set (set (set sums a x) b y) c z) k) (last f) three
  where
    next : (f : ℕ) → (3 * f + 1) + 1 ≡ 3 * f + 2
    next f = omega arith

    last : (f : ℕ) → (3 * f + 2) + 1 ≡ 3 * (f + 1)
    last f = omega arith
