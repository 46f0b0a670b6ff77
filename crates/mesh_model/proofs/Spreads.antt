-- The links of all rows, from those of chosen ones.
use Rattle.std.proofs.Common.{◌≡◌, ◌≢◌, ℕ, zero, suc, ◌+◌, ◌-◌, ◌<◌, ◌≤◌, ◌⊎◌, List, [], ℤ, length, get_or, set, refl, sym, ap, ◌∙◌, subst, inl, inr, arith}
use Rattle.std.specs.List.{All, Contains}
use Rattle.std.proofs.lemmas.Bool.{cases_eq, cases_lt}
use Rattle.std.proofs.lemmas.List.{get_or-set_same, get_or-set_other, get_or-map, get_or_default}
use Rattle.mesh_model.specs.RowIndex.{rows_at, AreTwins, AreUnlike, IsTwin, AreChosen, spread_link, AreSpread, AreRising}

-- chosen numbers at two places are two
rising-apart : (chosen : List ℕ) (i j : ℕ) → AreRising chosen → i < length chosen → j < length chosen → i ≢ j → get_or chosen i 0 ≢ get_or chosen j 0
rising-apart chosen i j rising at_i at_j apart same = elim (cases_lt i j) [
  | inl before ↦ omega (arith, rising i j before at_j)
  | inr behind ↦ let after : j < i = omega arith in omega (arith, rising j i after at_i)
]

-- what a link that is one leads to
pub spread_link-at : (chosen : List ℕ) (link : ℕ) → 0 < link → spread_link chosen link ≡ get_or chosen (link - 1) 0 + 1
spread_link-at chosen zero some = absurd (omega arith)
spread_link-at chosen (suc place) some = let at : place ≡ suc place - 1 = omega arith in ap (λ n. get_or chosen n 0 + 1) at

-- no links so far
pub Spread-none : (chosen links twins : List ℕ) → All (λ t. t ≡ 0) twins → ((p : ℕ) → length twins ≤ p → get_or twins p 0 ≡ 0) → AreSpread chosen links twins 0
Spread-none chosen links twins zeros past = record {
  at = λ j below. absurd (omega arith);
  other = λ p none. elim (cases_lt p (length twins)) [ inl below ↦ zeros p 0 below | inr behind ↦ past p behind ];
}

-- a row with a link
pub Spread-link : (chosen links twins : List ℕ) (i link : ℕ) → AreSpread chosen links twins i → AreRising chosen → i < length chosen → get_or chosen i 0 < length twins →
    link ≡ spread_link chosen (get_or links i 0) → AreSpread chosen links (set twins (get_or chosen i 0) link) (i + 1)
Spread-link chosen links twins i link are rising inside within is = record {
  at = λ j below. elim (cases_lt j i) [
    | inl early ↦
        let apart : get_or chosen j 0 ≢ get_or chosen i 0 = rising-apart chosen j i rising (omega arith) inside (omega arith) in
        get_or-set_other twins (get_or chosen i 0) (get_or chosen j 0) link 0 apart ∙ are.at j early
    | inr past ↦
        let same : i ≡ j = omega arith in
        subst (λ k. get_or (set twins (get_or chosen i 0) link) (get_or chosen k 0) 0 ≡ spread_link chosen (get_or links k 0)) same
        (get_or-set_same twins (get_or chosen i 0) link 0 within ∙ is)
  ];
  other = λ p none.
      let apart : p ≢ get_or chosen i 0 = λ e. none i (omega arith) (sym e) in
      get_or-set_other twins (get_or chosen i 0) p link 0 apart ∙ are.other p (λ j below. none j (omega arith));
}

-- a row with none
pub Spread-skip : (chosen links twins : List ℕ) (i : ℕ) → AreSpread chosen links twins i → AreRising chosen → i < length chosen → get_or links i 0 ≡ 0 →
    AreSpread chosen links twins (i + 1)
Spread-skip chosen links twins i are rising inside none = record {
  at = λ j below. elim (cases_lt j i) [
    | inl early ↦ are.at j early
    | inr past ↦
        let same : i ≡ j = omega arith in
        let new : get_or twins (get_or chosen i 0) 0 ≡ 0 = are.other (get_or chosen i 0) (λ k low. rising-apart chosen k i rising (omega arith) inside (omega arith)) in
        subst (λ k. get_or twins (get_or chosen k 0) 0 ≡ spread_link chosen (get_or links k 0)) same (new ∙ sym (ap (spread_link chosen) none))
  ];
  other = λ p none_there. are.other p (λ j below. none_there j (omega arith));
}

-- ---- what the links are

chosen-row : (rows : List (List ℤ)) (chosen : List ℕ) (j : ℕ) → j < length chosen → get_or (rows_at rows chosen) j [] ≡ get_or rows (get_or chosen j 0) []
chosen-row rows chosen j below = get_or-map (λ p. get_or rows p []) chosen j 0 [] below

-- the place of a number that is chosen
place : (chosen : List ℕ) (p : ℕ) → Contains chosen p → (j : ℕ) × (j < length chosen) × (get_or chosen j 0 ≡ p)
place chosen p has = (has.0, has.1, get_or_default chosen has.0 0 p has.1 ∙ has.2)

-- places rise with their numbers
place-before : (chosen : List ℕ) (i j : ℕ) → AreRising chosen → i < length chosen → j < length chosen → get_or chosen i 0 < get_or chosen j 0 → i < j
place-before chosen i j rising at_i at_j before = elim (cases_lt i j) [
  | inl early ↦ early
  | inr past ↦ elim (cases_eq i j) [
    | inl same ↦ absurd (omega (arith, ap (λ k. get_or chosen k 0) same))
    | inr apart ↦ let after : j < i = omega arith in absurd (omega (arith, rising j i after at_i))
  ]
]

-- where no two chosen rows are equal, no two are
pub Unlike-chosen : (rows : List (List ℤ)) (count : ℕ) (chosen : List ℕ) → AreChosen rows count chosen → AreUnlike (rows_at rows chosen) (length chosen) → AreUnlike rows count
Unlike-chosen rows count chosen are unlike p q below before equal =
    let at_p = place chosen p (are.all p below (record { other = q; within = omega arith; apart = λ (e : q ≡ p). omega arith; equal = equal })) in
    let at_q = place chosen q (are.all q (omega arith) (record { other = p; within = below; apart = λ (e : p ≡ q). omega arith; equal = sym equal })) in
    let early : at_q.0 < at_p.0 = place-before chosen at_q.0 at_p.0 are.rising at_q.1 at_p.1 (omega (arith, at_q.2, at_p.2)) in
    unlike at_p.0 at_q.0 at_p.1 early
    (chosen-row rows chosen at_q.0 at_q.1 ∙ ap (λ k. get_or rows k []) at_q.2 ∙ equal ∙ sym (chosen-row rows chosen at_p.0 at_p.1 ∙ ap (λ k. get_or rows k []) at_p.2))

spread-zero : (numbers : List ℕ) (link : ℕ) → spread_link numbers link ≡ 0 → link ≡ 0
spread-zero numbers zero e = refl
spread-zero numbers (suc link) e = absurd (omega (arith, e))

-- a number is among the first n chosen ones, or it isn't
any_place : (chosen : List ℕ) (p n : ℕ) → n ≤ length chosen → ((j : ℕ) × (j < length chosen) × (get_or chosen j 0 ≡ p)) ⊎ ((j : ℕ) → j < n → get_or chosen j 0 ≢ p)
any_place chosen p zero few = inr (λ j low. absurd (omega arith))
any_place chosen p (suc n) few = elim (cases_eq (get_or chosen n 0) p) [
  | inl here ↦ inl (n, omega arith, here)
  | inr other ↦ elim (any_place chosen p n (omega arith)) [
    | inl found ↦ inl found
    | inr nowhere ↦ inr (λ j low e. elim (cases_lt j n) [
      | inl early ↦ nowhere j early e
      | inr past ↦ let same : n ≡ j = omega arith in other (ap (λ k. get_or chosen k 0) same ∙ e)
    ])
  ]
]

-- a row with a link is chosen
chosen-linked : (chosen links twins : List ℕ) (p : ℕ) → AreSpread chosen links twins (length chosen) → get_or twins p 0 ≢ 0 → (j : ℕ) × (j < length chosen) × (get_or chosen j 0 ≡ p)
chosen-linked chosen links twins p spread some = elim (any_place chosen p (length chosen) (omega arith)) [
  | inl found ↦ found
  | inr nowhere ↦ absurd (some (spread.other p nowhere))
]

-- a link leads to an earlier row that is equal
leads : (rows : List (List ℤ)) (chosen links : List ℕ) (twin j link p : ℕ) → AreRising chosen → IsTwin (rows_at rows chosen) j (get_or links j 0) → j < length chosen →
    get_or chosen j 0 ≡ p → get_or links j 0 ≡ link → twin ≡ spread_link chosen link → twin ≢ 0 → (twin ≤ p) × (get_or rows (twin - 1) [] ≡ get_or rows p [])
leads rows chosen links twin j zero p rising is inside at link_is twin_is some = absurd (some twin_is)
leads rows chosen links twin j (suc k) p rising is inside at link_is twin_is some =
    let early : k < j = omega (arith, is.back, link_is) in
    let low : k < length chosen = omega arith in
    let place_is : get_or links j 0 - 1 ≡ k = omega (arith, link_is) in
    let last : twin - 1 ≡ get_or chosen k 0 = omega (arith, twin_is) in (
      omega (arith, twin_is, rising k j early inside, at),
      ap (λ n. get_or rows n []) last
          ∙ sym (ap (λ n. get_or (rows_at rows chosen) n []) place_is ∙ chosen-row rows chosen k low)
          ∙ is.equal (omega (arith, link_is))
          ∙ chosen-row rows chosen j inside
          ∙ ap (λ n. get_or rows n []) at,
    )

linked : (rows : List (List ℤ)) (chosen links twins : List ℕ) (p : ℕ) → AreRising chosen → AreTwins (rows_at rows chosen) (length chosen) links →
    AreSpread chosen links twins (length chosen) → get_or twins p 0 ≢ 0 → (get_or twins p 0 ≤ p) × (get_or rows (get_or twins p 0 - 1) [] ≡ get_or rows p [])
linked rows chosen links twins p rising are spread some =
    let at = chosen-linked chosen links twins p spread some in
    let is : get_or twins p 0 ≡ spread_link chosen (get_or links at.0 0) = ap (λ k. get_or twins k 0) (sym at.2) ∙ spread.at at.0 at.1 in
    leads rows chosen links (get_or twins p 0) at.0 (get_or links at.0 0) p rising (are at.0 at.1) at.1 at.2 refl is some

-- the links of all rows lead to equal rows
pub Twins-spread : (rows : List (List ℤ)) (count : ℕ) (chosen links twins : List ℕ) → AreChosen rows count chosen → AreTwins (rows_at rows chosen) (length chosen) links →
    AreSpread chosen links twins (length chosen) → AreTwins rows count twins
Twins-spread rows count chosen links twins are twin spread p below = record {
  back = elim (cases_eq (get_or twins p 0) 0) [
    | inl none ↦ omega (arith, none)
    | inr some ↦ (linked rows chosen links twins p are.rising twin spread some).0
  ];
  equal = λ more. (linked rows chosen links twins p are.rising twin spread (λ e. omega (arith, e))).1;
  none = λ none q before equal.
      let at_p = place chosen p (are.all p below (record { other = q; within = omega arith; apart = λ (e : q ≡ p). omega arith; equal = equal })) in
      let at_q = place chosen q (are.all q (omega arith) (record { other = p; within = below; apart = λ (e : p ≡ q). omega arith; equal = sym equal })) in
      let early : at_q.0 < at_p.0 = place-before chosen at_q.0 at_p.0 are.rising at_q.1 at_p.1 (omega (arith, at_q.2, at_p.2)) in
      let is : get_or twins p 0 ≡ spread_link chosen (get_or links at_p.0 0) = ap (λ k. get_or twins k 0) (sym at_p.2) ∙ spread.at at_p.0 at_p.1 in
      let no_link : get_or links at_p.0 0 ≡ 0 = spread-zero chosen (get_or links at_p.0 0) (sym is ∙ none) in
      (twin at_p.0 at_p.1).none no_link at_q.0 early
      (chosen-row rows chosen at_q.0 at_q.1 ∙ ap (λ k. get_or rows k []) at_q.2 ∙ equal ∙ sym (chosen-row rows chosen at_p.0 at_p.1 ∙ ap (λ k. get_or rows k []) at_p.2));
}
