-- The mean of up to four parallelograms.
use Rattle.std.specs.Option.{option_to_list}
use Rattle.std.proofs.Common.{◌≡◌, ℕ, Option, Some, None, suc, ◌+◌, ◌*◌, ◌<◌, ◌/◌, ℤ, pos, negsuc, ◌+ℤ◌, ◌-ℤ◌, neg_ℤ, List, [], ◌∷◌, length, take, get_or, map, fold, refl, sym, ◌∙◌, ap, arith, FitsSigned}
use Rattle.std.specs.Prelude.{int_div}
use Rattle.std.specs.Int.{w32, int_wrap}
use Rattle.std.specs.List.{All}
use Rattle.std.proofs.lemmas.Int.{ints, int_wrap_fits, SFits-int_wrap, int_wrap-add_left}
use Rattle.std.proofs.lemmas.List.Elements.{All-head, All-tail}
use Rattle.corner_table.specs.declared.corner_lists.FaceAcross.{FaceAcross}
use Rattle.corner_table.specs.Ordered.{IsBelow}
use Rattle.predict.specs.Parallelogram.{component, fourth, by_one}
use Rattle.predict.specs.Multi.{by_many}
use Rattle.predict.specs.Restored.{entry_before}
use Rattle.predict.proofs.Entries.{fourth_take}

-- a sum that is wrapped before its last part is taken away
pub wrap_minus : (x c : ℤ) → int_wrap w32 (int_wrap w32 x -ℤ c) ≡ int_wrap w32 (x -ℤ c)
wrap_minus x c = int_wrap-add_left w32 x (neg_ℤ c)

-- the fourth corner from its three
pub fourth_is : (comps : ℕ) (t : FaceAcross) (j : ℕ) (v : List ℤ) (a b o s x : ℤ) → a ≡ component comps v t.after j → b ≡ component comps v t.before j
    → o ≡ component comps v t.across j → s ≡ int_wrap w32 (a +ℤ b) → x ≡ int_wrap w32 (s -ℤ o) → x ≡ fourth comps t j v
unfolding fourth
fourth_is comps t j v a b o s x p q r sum is =
    is ∙ ap (λ (z : ℤ). int_wrap w32 (z -ℤ o)) sum ∙ wrap_minus (a +ℤ b) o ∙ rw (p, q, r) refl

-- one more is added to a sum to 32 bits
pub sum_more : (s a b c x : ℤ) → s ≡ int_wrap w32 a → b ≡ c → x ≡ int_wrap w32 (s +ℤ b) → x ≡ int_wrap w32 (a +ℤ c)
sum_more s a b c x is last more = more ∙ ap (λ (z : ℤ). int_wrap w32 (z +ℤ b)) is ∙ int_wrap-add_left w32 a b ∙ ap (λ (z : ℤ). int_wrap w32 (a +ℤ z)) last

-- lists of so many items
pub one_item : {A : Type 0} (xs : List A) (d : A) → length xs ≡ 1 → xs ≡ get_or xs 0 d ∷ []
one_item [] d h = absurd (omega arith)
one_item (x ∷ []) d h = refl
one_item (x ∷ y ∷ xs) d h = absurd (omega arith)

pub two_items : {A : Type 0} (xs : List A) (d : A) → length xs ≡ 2 → xs ≡ get_or xs 0 d ∷ get_or xs 1 d ∷ []
two_items {A = A} [] d h = absurd (omega arith)
two_items {A = A} (x ∷ xs) d h = ap (λ (ys : List A). x ∷ ys) (one_item xs d (omega arith))

pub three_items : {A : Type 0} (xs : List A) (d : A) → length xs ≡ 3 → xs ≡ get_or xs 0 d ∷ get_or xs 1 d ∷ get_or xs 2 d ∷ []
three_items {A = A} [] d h = absurd (omega arith)
three_items {A = A} (x ∷ xs) d h = ap (λ (ys : List A). x ∷ ys) (two_items xs d (omega arith))

pub four_items : {A : Type 0} (xs : List A) (d : A) → length xs ≡ 4 → xs ≡ get_or xs 0 d ∷ get_or xs 1 d ∷ get_or xs 2 d ∷ get_or xs 3 d ∷ []
four_items {A = A} [] d h = absurd (omega arith)
four_items {A = A} (x ∷ xs) d h = ap (λ (ys : List A). x ∷ ys) (three_items xs d (omega arith))

-- a number divided by one
by_one_is : (z : ℤ) → int_div z (pos 1) ≡ z
by_one_is (pos a) = ap pos (let q : a / 1 ≡ a = omega arith in q)
by_one_is (negsuc a) = ap (λ (n : ℕ). neg_ℤ (pos n)) (let q : suc a / 1 ≡ suc a = omega arith in q)

zero_and : (z : ℤ) → pos 0 +ℤ z ≡ z
zero_and z = omega (arith, ints)

fourth_fits : (comps : ℕ) (t : FaceAcross) (j : ℕ) (before : List ℤ) → FitsSigned w32 (fourth comps t j before)
unfolding fourth
fourth_fits comps t j before = SFits-int_wrap w32 _

-- the mean of one parallelogram is that parallelogram
pub mean_of_one : (comps : ℕ) (t : FaceAcross) (j : ℕ) (before : List ℤ) → fourth comps t j before ≡ by_many comps (t ∷ []) j before
mean_of_one comps t j before =
    let fits : FitsSigned w32 (fourth comps t j before) = fourth_fits comps t j before in
    sym (ap (λ (z : ℤ). int_div (int_wrap w32 z) (pos 1)) (zero_and (fourth comps t j before))
    ∙ ap (λ (z : ℤ). int_div z (pos 1)) (int_wrap_fits w32 (fourth comps t j before) fits)
    ∙ by_one_is (fourth comps t j before))

pub one_is_many : (comps : ℕ) (face : Option FaceAcross) (j : ℕ) (before : List ℤ) → by_one comps face j before ≡ by_many comps (option_to_list face) j before
one_is_many comps None j before = refl
one_is_many comps (Some t) j before = mean_of_one comps t j before

-- the front part of the values gives the same sum
total_take : (comps : ℕ) (faces : List FaceAcross) (v : List ℤ) (e j : ℕ) → j < comps → All (IsBelow e) faces
    → map (λ t. fourth comps t j (take (e * comps + j) v)) faces ≡ map (λ t. fourth comps t j v) faces
total_take comps [] v e j h below = refl
total_take comps (t ∷ faces) v e j h below =
    let x = fourth_take comps t v e j h (All-head (IsBelow e) t faces below) in
    let xs = total_take comps faces v e j h (All-tail (IsBelow e) t faces below) in
    rw (x, xs) refl

pub many_take : (comps : ℕ) (faces : List FaceAcross) (v : List ℤ) (e j : ℕ) → j < comps → All (IsBelow e) faces → 0 < length faces
    → by_many comps faces j (take (e * comps + j) v) ≡ by_many comps faces j v
many_take comps [] v e j h below some = absurd (omega arith)
many_take comps (t ∷ faces) v e j h below some =
    ap (λ (xs : List ℤ). int_div (int_wrap w32 (fold ◌+ℤ◌ (pos 0) xs)) (pos (suc (length faces)))) (total_take comps (t ∷ faces) v e j h below)

-- the value at a list of so many faces
at_faces : (comps : ℕ) (faces known : List FaceAcross) (v : List ℤ) (e j : ℕ) (x : ℤ) → j < comps → All (IsBelow e) faces → 0 < length faces
    → faces ≡ known → x ≡ by_many comps known j v → x ≡ by_many comps faces j (take (e * comps + j) v)
at_faces comps faces known v e j x h below some is at =
    at ∙ ap (λ (ts : List FaceAcross). by_many comps ts j v) (sym is) ∙ sym (many_take comps faces v e j h below some)

-- a face for what isn't read
blank : FaceAcross
blank = record { across = 0; after = 0; before = 0 }

pub predicted_one : (comps : ℕ) (faces : List FaceAcross) (v : List ℤ) (e j : ℕ) (x : ℤ) → j < comps → All (IsBelow e) faces → length faces ≡ 1
    → ((d : FaceAcross) → x ≡ fourth comps (get_or faces 0 d) j v) → x ≡ by_many comps faces j (take (e * comps + j) v)
predicted_one comps faces v e j x h below n is =
    at_faces comps faces (get_or faces 0 blank ∷ []) v e j x h below (omega arith) (one_item faces blank n)
    (is blank ∙ mean_of_one comps (get_or faces 0 blank) j v)

pub predicted_two : (comps : ℕ) (faces : List FaceAcross) (v : List ℤ) (e j : ℕ) (x s : ℤ) → j < comps → All (IsBelow e) faces → length faces ≡ 2
    → x ≡ int_div s (pos 2)
    → ((d : FaceAcross) → s ≡ int_wrap w32 (fourth comps (get_or faces 0 d) j v +ℤ fourth comps (get_or faces 1 d) j v))
    → x ≡ by_many comps faces j (take (e * comps + j) v)
predicted_two comps faces v e j x s h below n is sum =
    let a = fourth comps (get_or faces 0 blank) j v in
    let b = fourth comps (get_or faces 1 blank) j v in
    let whole : a +ℤ b ≡ (pos 0 +ℤ a) +ℤ b = omega (arith, ints) in
    at_faces comps faces (get_or faces 0 blank ∷ get_or faces 1 blank ∷ []) v e j x h below (omega arith) (two_items faces blank n)
    (is ∙ ap (λ (z : ℤ). int_div z (pos 2)) (sum blank ∙ ap (int_wrap w32) whole))

pub predicted_three : (comps : ℕ) (faces : List FaceAcross) (v : List ℤ) (e j : ℕ) (x s : ℤ) → j < comps → All (IsBelow e) faces → length faces ≡ 3
    → x ≡ int_div s (pos 3)
    → ((d : FaceAcross) → s ≡ int_wrap w32 ((fourth comps (get_or faces 0 d) j v +ℤ fourth comps (get_or faces 1 d) j v) +ℤ fourth comps (get_or faces 2 d) j v))
    → x ≡ by_many comps faces j (take (e * comps + j) v)
predicted_three comps faces v e j x s h below n is sum =
    let a = fourth comps (get_or faces 0 blank) j v in
    let b = fourth comps (get_or faces 1 blank) j v in
    let c = fourth comps (get_or faces 2 blank) j v in
    let whole : (a +ℤ b) +ℤ c ≡ ((pos 0 +ℤ a) +ℤ b) +ℤ c = omega (arith, ints) in
    at_faces comps faces (get_or faces 0 blank ∷ get_or faces 1 blank ∷ get_or faces 2 blank ∷ []) v e j x h below (omega arith) (three_items faces blank n)
    (is ∙ ap (λ (z : ℤ). int_div z (pos 3)) (sum blank ∙ ap (int_wrap w32) whole))

pub predicted_four : (comps : ℕ) (faces : List FaceAcross) (v : List ℤ) (e j : ℕ) (x s : ℤ) → j < comps → All (IsBelow e) faces → length faces ≡ 4
    → x ≡ int_div s (pos 4)
    → ((d : FaceAcross) → s ≡ int_wrap w32 (((fourth comps (get_or faces 0 d) j v +ℤ fourth comps (get_or faces 1 d) j v) +ℤ fourth comps (get_or faces 2 d) j v) +ℤ fourth comps (get_or faces 3 d) j v))
    → x ≡ by_many comps faces j (take (e * comps + j) v)
predicted_four comps faces v e j x s h below n is sum =
    let a = fourth comps (get_or faces 0 blank) j v in
    let b = fourth comps (get_or faces 1 blank) j v in
    let c = fourth comps (get_or faces 2 blank) j v in
    let d = fourth comps (get_or faces 3 blank) j v in
    let whole : ((a +ℤ b) +ℤ c) +ℤ d ≡ (((pos 0 +ℤ a) +ℤ b) +ℤ c) +ℤ d = omega (arith, ints) in
    at_faces comps faces (get_or faces 0 blank ∷ get_or faces 1 blank ∷ get_or faces 2 blank ∷ get_or faces 3 blank ∷ []) v e j x h below (omega arith) (four_items faces blank n)
    (is ∙ ap (λ (z : ℤ). int_div z (pos 4)) (sum blank ∙ ap (int_wrap w32) whole))

-- no face: the entry before
pub predicted_none : (comps : ℕ) (faces : List FaceAcross) (j : ℕ) (before : List ℤ) (x : ℤ) → length faces ≡ 0 → x ≡ entry_before comps before → x ≡ by_many comps faces j before
predicted_none comps [] j before x n is = is
predicted_none comps (t ∷ faces) j before x n is = absurd (omega arith)
