-- Lists of flags that are filled one after another, and blocks that are read so.
use Rattle.std.proofs.Common.{◌≡◌, ℕ, suc, ◌+◌, ◌-◌, ◌<◌, List, [], ◌∷◌, ◌++◌, map, length, take, drop, get_or, set, replicate, ap, sym, ◌∙◌, arith, append_assoc}
use Rattle.std.specs.List.{All}
use Rattle.std.proofs.lemmas.List.{get_or-map, length-map, length-take, length-append, length-replicate, get_or-append_right, get_or-replicate, get_or-drop, map-set, map_more}
use Rattle.std.proofs.lemmas.List.Elements.{All-nil, All-cons}
use Rattle.std.proofs.Math.Seq.{set-append_seam}
use Rattle.rans_binary.specs.Blocks.{Block, bit_of}
use Rattle.corner_table.specs.Sides.{Gluing, IsGluing}
use Rattle.seams.specs.Seams.{AreFlags}
use Rattle.seams.specs.SeamBits.{flags_of_bits}
use Rattle.seams.proofs.Values.{told_are_flags}

length-front : {B X : Type 0} (F : X → B) (xs : List X) (k : ℕ) → k < length xs → length (map F (take k xs)) ≡ k
length-front F xs k h =
    let a = length-map (take k xs) F in
    let b = length-take k xs in
    omega arith

-- the list whose turn it is, is as it was at first
pub filled_at : {A B X : Type 0} (f : A → B) (F : X → B) (z : B) (xs : List X) (lists : List A) (k : ℕ) (a : A) → k < length xs →
    map f lists ≡ map F (take k xs) ++ replicate (length xs - k) z → a ≡ get_or lists k a → f a ≡ z
filled_at {A} {B} {X} f F z xs lists k a h inv e =
    let front = length-front F xs k h in
    let l = ap (λ (ys : List B). length ys) inv in
    let m = length-map lists f in
    let p = length-append (map F (take k xs)) (replicate (length xs - k) z) in
    let q = length-replicate (length xs - k) z in
    let inside : k < length lists = omega arith in
    let none : k - k ≡ 0 = omega arith in
    ap f e ∙ sym (get_or-map f lists k a z inside) ∙ ap (λ ys. get_or ys k z) inv ∙ get_or-append_right (map F (take k xs)) (replicate (length xs - k) z) k k z front (omega arith)
    ∙ ap (λ i. get_or (replicate (length xs - k) z) i z) none ∙ get_or-replicate (length xs - k) 0 z z (omega arith)

-- it is filled
pub filled_more : {A B X : Type 0} (f : A → B) (F : X → B) (z : B) (xs : List X) (lists : List A) (k : ℕ) (x : X) (a : A) → k < length xs →
    map f lists ≡ map F (take k xs) ++ replicate (length xs - k) z → x ≡ get_or xs k x → f a ≡ F x → map f (set lists k a) ≡ map F (take (k + 1) xs) ++ replicate (length xs - (k + 1)) z
filled_more {A} {B} {X} f F z xs lists k x a h inv e v =
    let front = length-front F xs k h in
    let P : List B = map F (take k xs) in
    let rest : List B = replicate (length xs - (k + 1)) z in
    let one : length xs - k ≡ suc (length xs - (k + 1)) = omega arith in
    let split : replicate (length xs - k) z ≡ z ∷ rest = ap (λ n. replicate n z) one in
    map-set f lists k a
    ∙ ap (λ ys. set ys k (f a)) (inv ∙ ap (λ ys. P ++ ys) split)
    ∙ ap (λ n. set (P ++ z ∷ rest) n (f a)) (sym front)
    ∙ set-append_seam P z rest (f a)
    ∙ ap (λ y. P ++ y ∷ rest) (v ∙ ap F e)
    ∙ sym (append_assoc P (F (get_or xs k x) ∷ []) rest)
    ∙ ap (λ ys. ys ++ rest) (sym (map_more F xs k x h))

-- what comes is as it was
pub passed_at : {X : Type 0} (f : X → X) (xs ys : List X) (k : ℕ) (x : X) → k < length xs → ys ≡ map f (take k xs) ++ drop k xs → x ≡ get_or ys k x → x ≡ get_or xs k x
passed_at {X} f xs ys k x h inv e =
    let none : k - k ≡ 0 = omega arith in
    let same : k + 0 ≡ k = omega arith in
    e ∙ ap (λ zs. get_or zs k x) inv ∙ get_or-append_right (map f (take k xs)) (drop k xs) k k x (length-front f xs k h) (omega arith)
    ∙ ap (λ i. get_or (drop k xs) i x) none ∙ get_or-drop k xs 0 x ∙ ap (λ i. get_or xs i x) same

-- what blocks give is flags
pub all_flags : (faces : ℕ) (g : Gluing) → IsGluing faces g → (blocks : List Block) → All (AreFlags faces g) (map (flags_of_bits faces g) blocks)
all_flags faces g G [] = All-nil (AreFlags faces g)
all_flags faces g G (b ∷ blocks) = All-cons (AreFlags faces g) (flags_of_bits faces g b) (map (flags_of_bits faces g) blocks) (told_are_flags faces g (bit_of b) G) (all_flags faces g G blocks)
