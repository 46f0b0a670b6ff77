-- Which sides have a bit, and at which place.
use Rattle.std.proofs.Common.{◌≡◌, ◌≢◌, ℕ, zero, suc, ◌+◌, ◌-◌, ◌*◌, ◌/◌, ◌<◌, ◌≤◌, true, false, cond, eqb, nat_lt, List, [], ◌∷◌, ◌++◌, filter, length, get_or, Option, Some, None, ◌⊎◌, inl, inr, refl, ap, sym, ◌∙◌, subst, arith, append_assoc, eqb-true, lt-ltb, le-ltb, ltb-true}
use Rattle.std.specs.List.{All}
use Rattle.std.proofs.lemmas.Bool.{cases_Bool, cases_lt, cond-false, false_from_ne_true, false≢true}
use Rattle.std.proofs.lemmas.List.{append-nil, length-append, get_or_append_left, get_or-append_right}
use Rattle.std.proofs.lemmas.List.Elements.{All-nil, All-cons, All-append}
use Rattle.std.proofs.lemmas.List.FromFn.{filter_of_map_range_with_len_more}
use Rattle.std.proofs.lemmas.List.Sums.{position_or_len_is}
use Rattle.corner_table.specs.Sides.{Side, number, side_at, same, Gluing, IsGluing}
use Rattle.corner_table.specs.Table.{glued_in, other_at, free_entry}
use Rattle.corner_table.proofs.Numbers.{side_at-number, number-side_at, number-lt}
use Rattle.corner_table.proofs.Places.{option_tells, Some_injective, same_refl, not_same}
use Rattle.corner_table.specs.Pairs.{has_bit, bit_sides}
use Rattle.seams.specs.SeamBits.{place_in}
use Rattle.seams.specs.Pairs.{TellsLater, bit_sides_below}
use Rattle.seams.proofs.Listing.{corners_are}

-- by what is across
pub bit_of_glued : (g : Gluing) (x y : Side) → g x ≡ Some y → has_bit g x ≡ nat_lt x.face y.face
bit_of_glued g x y e = ap (λ (o : Option Side). elim o [ None ↦ false | Some z ↦ nat_lt x.face z.face ]) e

pub bit_of_free : (g : Gluing) (x : Side) → g x ≡ None → has_bit g x ≡ false
bit_of_free g x e = ap (λ (o : Option Side). elim o [ None ↦ false | Some z ↦ nat_lt x.face z.face ]) e

pub bit_tells : (g : Gluing) (x : Side) → has_bit g x ≡ true → (y : Side) × (g x ≡ Some y) × (x.face < y.face)
bit_tells g x h = elim (option_tells (g x)) [
  | inl n ↦ absurd (false≢true (sym (bit_of_free g x n) ∙ h))
  | inr y ↦ (y.0, y.1, ltb-true x.face y.0.face (sym (bit_of_glued g x y.0 y.1) ∙ h))
]

-- of a pair one side has the bit
pub one_has : {faces : ℕ} {g : Gluing} → IsGluing faces g → (x y : Side) → g x ≡ Some y → ((has_bit g x ≡ true) × (has_bit g y ≡ false)) ⊎ ((has_bit g x ≡ false) × (has_bit g y ≡ true))
one_has {faces} {g} G x y e =
    let a = G.apart x y e in
    let f = G.paired x y e in
    elim (cases_lt x.face y.face) [
      | inl h ↦ inl (bit_of_glued g x y e ∙ lt-ltb x.face y.face h, bit_of_glued g y x f ∙ le-ltb y.face x.face (omega arith))
      | inr h ↦ inr (bit_of_glued g x y e ∙ le-ltb x.face y.face h, bit_of_glued g y x f ∙ lt-ltb y.face x.face (omega arith))
    ]

-- the same by the numbers in a table
entry_glued : (entries : List ℕ) (n e : ℕ) → e ≡ get_or entries n free_entry → glued_in entries (side_at n) ≡ other_at e
entry_glued entries n e q = ap (λ k. other_at (get_or entries k free_entry)) (number-side_at n) ∙ ap other_at (sym q)

entry_some : (e : ℕ) → e ≢ free_entry → other_at e ≡ Some (side_at e)
entry_some e h = cond-false (eqb e free_entry) None (Some (side_at e)) (false_from_ne_true (eqb e free_entry) (λ t. h (eqb-true e free_entry t)))

pub later-some : (faces : ℕ) (entries : List ℕ) (n e : ℕ) → IsGluing faces (glued_in entries) → e ≡ get_or entries n free_entry → n < e → e < free_entry →
    TellsLater faces (glued_in entries) n (Some e)
later-some faces entries n e G q before real =
    let glued : glued_in entries (side_at n) ≡ Some (side_at e) = entry_glued entries n e q ∙ entry_some e (λ k. absurd (omega arith)) in
    let apart : n / 3 ≢ e / 3 = G.apart (side_at n) (side_at e) glued in
    let within : e / 3 < faces = G.within (side_at e) (side_at n) (G.paired (side_at n) (side_at e) glued) in
    (bit_of_glued (glued_in entries) (side_at n) (side_at e) glued ∙ lt-ltb (n / 3) (e / 3) (omega arith), glued, before, omega arith)

pub later-none : (faces : ℕ) (entries : List ℕ) (n e : ℕ) → IsGluing faces (glued_in entries) → e ≡ get_or entries n free_entry → (n < e → e < 3 * faces → ⊥) →
    TellsLater faces (glued_in entries) n None
later-none faces entries n e G q unmet = elim (option_tells (glued_in entries (side_at n))) [
  | inl f ↦ bit_of_free (glued_in entries) (side_at n) f
  | inr y ↦ (
      let g = glued_in entries in
      let real : e ≢ free_entry = λ k. (let z : None ≡ Some y.0 = sym (entry_glued entries n e q ∙ ap other_at k) ∙ y.1 in cc) in
      let is : side_at e ≡ y.0 = Some_injective (side_at e) y.0 (sym (entry_glued entries n e q ∙ entry_some e real) ∙ y.1) in
      let glued : g (side_at n) ≡ Some (side_at e) = entry_glued entries n e q ∙ entry_some e real in
      let within : e / 3 < faces = G.within (side_at e) (side_at n) (G.paired (side_at n) (side_at e) glued) in
      let behind : e ≤ n = elim (cases_lt n e) [ inl h ↦ absurd (unmet h (omega arith)) | inr h ↦ h ] in
      bit_of_glued g (side_at n) (side_at e) glued ∙ le-ltb (n / 3) (e / 3) (omega arith))
]

-- the sides below a number that have a bit
pub bits_are : (faces : ℕ) (g : Gluing) → bit_sides faces g ≡ bit_sides_below (3 * faces) g
bits_are faces g = ap (filter (has_bit g)) (corners_are faces)

below_more : (g : Gluing) (n : ℕ) → bit_sides_below (n + 1) g ≡ bit_sides_below n g ++ cond (has_bit g (side_at n)) (side_at n ∷ []) []
below_more g n = filter_of_map_range_with_len_more (has_bit g) side_at 0 n n (omega arith)

pub below_more_yes : (g : Gluing) (n : ℕ) → has_bit g (side_at n) ≡ true → bit_sides_below (n + 1) g ≡ bit_sides_below n g ++ side_at n ∷ []
below_more_yes g n h = below_more g n ∙ ap (λ b. bit_sides_below n g ++ cond b (side_at n ∷ []) []) h

pub below_more_no : (g : Gluing) (n : ℕ) → has_bit g (side_at n) ≡ false → bit_sides_below (n + 1) g ≡ bit_sides_below n g
below_more_no g n h = below_more g n ∙ ap (λ b. bit_sides_below n g ++ cond b (side_at n ∷ []) []) h ∙ append-nil (bit_sides_below n g)

below_part : (g : Gluing) (n j : ℕ) → (rest : List Side) × (bit_sides_below (n + j) g ≡ bit_sides_below n g ++ rest)
below_part g n zero = ([], (let e : n + 0 ≡ n = omega arith in ap (λ k. bit_sides_below k g) e) ∙ sym (append-nil (bit_sides_below n g)))
below_part g n (suc j) =
    let r = below_part g n j in
    let last : List Side = cond (has_bit g (side_at (n + j))) (side_at (n + j) ∷ []) [] in
    let e : n + suc j ≡ n + j + 1 = omega arith in
    (r.0 ++ last, ap (λ k. bit_sides_below k g) e ∙ below_more g (n + j) ∙ ap (λ xs. xs ++ last) r.1 ∙ append_assoc (bit_sides_below n g) r.0 last)

pub length-below : (faces n : ℕ) (g : Gluing) → n ≤ 3 * faces → length (bit_sides_below n g) ≤ length (bit_sides faces g)
length-below faces n g h =
    let r = below_part g n (3 * faces - n) in
    let e : n + (3 * faces - n) ≡ 3 * faces = omega arith in
    let a = ap (λ (xs : List Side). length xs) (bits_are faces g ∙ ap (λ k. bit_sides_below k g) (sym e) ∙ r.1) in
    let l = length-append (bit_sides_below n g) r.0 in
    omega arith

below_less : (g : Gluing) (n : ℕ) → All (λ (x : Side). number x < n) (bit_sides_below n g)
below_less g zero = All-nil (λ (x : Side). number x < 0)
below_less g (suc n) =
    let e : suc n ≡ n + 1 = omega arith in
    let before : All (λ (x : Side). number x < suc n) (bit_sides_below n g) = λ i d h. (let l = below_less g n i d h in omega arith) in
    let here : number (side_at n) < suc n = (let k = number-side_at n in omega arith) in
    subst (λ k. All (λ (x : Side). number x < suc n) (bit_sides_below k g)) (sym e) (elim (cases_Bool (has_bit g (side_at n))) [
      | inl t ↦ subst (All (λ (x : Side). number x < suc n)) (sym (below_more_yes g n t))
          (All-append (λ (x : Side). number x < suc n) (bit_sides_below n g) (side_at n ∷ []) before (All-cons (λ (x : Side). number x < suc n) (side_at n) [] here (All-nil (λ (x : Side). number x < suc n))))
      | inr f ↦ subst (All (λ (x : Side). number x < suc n)) (sym (below_more_no g n f)) before
    ])

-- the place of a side among others, where it doesn't stand before
place_at : (xs rest : List Side) (x : Side) → All (λ (y : Side). number y < number x) xs → place_in (xs ++ x ∷ rest) x ≡ length xs
place_at xs rest x less =
    let l = length-append xs (x ∷ rest) in
    position_or_len_is (same x) (xs ++ x ∷ rest) (length xs) x (omega arith)
    (λ k before. not_same x (get_or (xs ++ x ∷ rest) k x) (λ e. (
    let at : get_or (xs ++ x ∷ rest) k x ≡ get_or xs k x = get_or_append_left xs (x ∷ rest) x k before in
    let h = less k x before in
    let q : number x ≡ number (get_or xs k x) = ap number (e ∙ at) in
    absurd (omega arith))))
    (λ _. ap (same x) (get_or-append_right xs (x ∷ rest) (length xs) (length xs) x refl (omega arith) ∙ (let z : length xs - length xs ≡ 0 = omega arith in ap (λ i. get_or (x ∷ rest) i x) z)) ∙ same_refl x)

-- where side number n stands
pub stands : (faces : ℕ) (g : Gluing) (n : ℕ) → n < 3 * faces → has_bit g (side_at n) ≡ true → (rest : List Side) × (bit_sides faces g ≡ bit_sides_below n g ++ side_at n ∷ rest)
stands faces g n h t =
    let r = below_part g (n + 1) (3 * faces - (n + 1)) in
    let e : 3 * faces ≡ n + 1 + (3 * faces - (n + 1)) = omega arith in
    (r.0, bits_are faces g ∙ ap (λ k. bit_sides_below k g) e ∙ r.1 ∙ ap (λ xs. xs ++ r.0) (below_more_yes g n t) ∙ append_assoc (bit_sides_below n g) (side_at n ∷ []) r.0)

pub place_is : (faces : ℕ) (g : Gluing) (n : ℕ) → n < 3 * faces → has_bit g (side_at n) ≡ true → place_in (bit_sides faces g) (side_at n) ≡ length (bit_sides_below n g)
place_is faces g n h t =
    let s = stands faces g n h t in
    let less : All (λ (y : Side). number y < number (side_at n)) (bit_sides_below n g) = λ i d k. (let l = below_less g n i d k in let e = number-side_at n in omega arith) in
    ap (λ xs. place_in xs (side_at n)) s.1 ∙ place_at (bit_sides_below n g) s.0 (side_at n) less

-- and what stands at that place
pub place_has : (faces : ℕ) (g : Gluing) (n : ℕ) (d : Side) → n < 3 * faces → has_bit g (side_at n) ≡ true →
    (place_in (bit_sides faces g) (side_at n) < length (bit_sides faces g)) × (get_or (bit_sides faces g) (place_in (bit_sides faces g) (side_at n)) d ≡ side_at n)
place_has faces g n d h t =
    let s = stands faces g n h t in
    let p = place_is faces g n h t in
    let l = length-append (bit_sides_below n g) (side_at n ∷ s.0) in
    let k = ap (λ (xs : List Side). length xs) s.1 in
    let i = length (bit_sides_below n g) in (
      omega arith,
      ap (λ xs. get_or xs (place_in (bit_sides faces g) (side_at n)) d) s.1 ∙ ap (λ j. get_or (bit_sides_below n g ++ side_at n ∷ s.0) j d) p
          ∙ get_or-append_right (bit_sides_below n g) (side_at n ∷ s.0) i i d refl (omega arith) ∙ (let z : i - i ≡ 0 = omega arith in ap (λ j. get_or (side_at n ∷ s.0) j d) z),
    )

-- the same of a side
pub side_stands : (faces : ℕ) (g : Gluing) (x d : Side) → x.face < faces → has_bit g x ≡ true →
    (place_in (bit_sides faces g) x < length (bit_sides faces g)) × (get_or (bit_sides faces g) (place_in (bit_sides faces g) x) d ≡ x)
side_stands faces g x d h t =
    let e = side_at-number x in
    let p = place_has faces g (number x) d (number-lt x faces h) (ap (has_bit g) e ∙ t) in
    (subst (λ (y : Side). place_in (bit_sides faces g) y < length (bit_sides faces g)) e p.0, subst (λ (y : Side). get_or (bit_sides faces g) (place_in (bit_sides faces g) y) d ≡ y) e p.1)
