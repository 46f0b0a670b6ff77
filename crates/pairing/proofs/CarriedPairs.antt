-- The carried surface is the one with the old pairs, and keeps what fits.
use Rattle.std.proofs.Common.{◌≡◌, ℕ, zero, suc, ◌+◌, ◌-◌, ◌%◌, ◌<◌, ◌≤◌, Bool, not, ◌&&◌, eqb, nat_lt, ℤ, ◌⊎◌, List, length, take, get_or, Some, None, inl, inr, refl, sym, ap, ◌∙◌, subst, arith}
use mathlib.Core.Path.{fun_ext}
use Rattle.std.specs.Prelude.{option_map}
use Rattle.std.specs.List.{position_or_len}
use Rattle.std.proofs.lemmas.Bool.{cases_lt, cond-true, cond-false, eq-eqb, eqb-true, lt-ltb, le-ltb}
use Rattle.std.proofs.lemmas.List.FromFn.{get_or-map-range_with_len}
use Rattle.mesh_model.specs.Parts.{MeshParts, corner}
use Rattle.mesh_model.specs.Same.{SameMesh, named, turn}
use Rattle.mesh_model.specs.Assembled.{same_row}
use Rattle.mesh_model.specs.Renumbering.{inverted}
use Rattle.mesh_model.proofs.Counts.{OnePlace, first-one_place}
use Rattle.corner_table.specs.Sides.{Side, Place, first, second, third, side, place_number, next, prev, Gluing, IsGluing}
use Rattle.corner_table.specs.Carried.{turned, carry, IsRenumbering, IsCarried}
use Rattle.corner_table.proofs.Places.{option_tells, Some_injective}
use Rattle.corner_table.proofs.Carrying.{carry-next, carry-prev, carry_onto, proper_carried}
use Rattle.pairing.specs.Pairing.{first_width, corner_position, same_position}
use Rattle.pairing.specs.CarriedPairs.{carried, InvertedLeadsBack, CarriedIsTheOne, CarriedIsProper, FitIsCarried, MeshFitIsCarried}

-- ---- the way back

abbrev back : List (ℕ × ℕ) → ℕ → ℕ × ℕ
back rows f = let i = position_or_len (λ (row : ℕ × ℕ). eqb row.0 f) rows in (i, (3 - turn rows i) % 3)

-- the row of the face that row i names
back_row : (faces : ℕ) (rows : List (ℕ × ℕ)) → IsRenumbering faces rows → (i : ℕ) → i < faces → get_or (inverted rows) (named rows i) (0, 0) ≡ (i, (3 - turn rows i) % 3)
back_row faces rows R i h =
    let w = R.within i h in
    let l = R.one_each in
    get_or-map-range_with_len (back rows) 0 (length rows) (named rows i) (named rows i) (0, 0) (omega arith) (omega arith)
    ∙ ap (λ (j : ℕ). (j, (3 - turn rows j) % 3)) (first-one_place (λ (row : ℕ × ℕ). eqb row.0 (named rows i)) rows (0, 0) i place)
  where
    place : OnePlace (λ (row : ℕ × ℕ). eqb row.0 (named rows i)) rows (0, 0) i
    place = record {
      inside = (let l = R.one_each in omega arith);
      passes = eq-eqb (named rows i) (named rows i) refl;
      alone = λ k below e. R.apart k i (let l = R.one_each in omega arith) h (eqb-true (named rows k) (named rows i) e);
    }

turned_on : (t : ℕ) (p : Place) → t < 3 → turned ((3 - t) % 3) (turned t p) ≡ p
turned_on zero p h = refl
turned_on (suc zero) first h = refl
turned_on (suc zero) second h = refl
turned_on (suc zero) third h = refl
turned_on (suc (suc zero)) first h = refl
turned_on (suc (suc zero)) second h = refl
turned_on (suc (suc zero)) third h = refl
turned_on (suc (suc (suc t))) p h = absurd (omega arith)

pub inverted_leads_back : InvertedLeadsBack
inverted_leads_back faces rows R x h =
    let e = back_row faces rows R x.face h in
    ap (λ (row : ℕ × ℕ). side row.0 (turned row.1 (turned (turn rows x.face) x.place))) e
    ∙ ap (side x.face) (turned_on (turn rows x.face) x.place (R.turns x.face h))

-- ---- the carried surface

carried_at : (g : Gluing) (rows : List (ℕ × ℕ)) (x : Side) → x.face < length rows → carried g rows x ≡ option_map (carry (inverted rows)) (g (carry rows x))
carried_at g rows x h = cond-true (nat_lt x.face (length rows)) _ _ (lt-ltb x.face (length rows) h)

carried_past : (g : Gluing) (rows : List (ℕ × ℕ)) (x : Side) → length rows ≤ x.face → carried g rows x ≡ None
carried_past g rows x h = cond-false (nat_lt x.face (length rows)) _ _ (le-ltb x.face (length rows) h)

-- what a carried pair says
record Tells (faces : ℕ) (g : Gluing) (rows : List (ℕ × ℕ)) (x y : Side) : Type 0 where
  in_one : x.face < faces
  in_other : y.face < faces
  pair : g (carry rows x) ≡ Some (carry rows y)

tells : (faces : ℕ) (g : Gluing) (rows : List (ℕ × ℕ)) → IsGluing faces g → IsRenumbering faces rows → (x y : Side) → carried g rows x ≡ Some y → Tells faces g rows x y
tells faces g rows G R x y e = elim (cases_lt x.face (length rows)) [
  | inr past ↦ absurd (let no : None ≡ Some y = sym (carried_past g rows x past) ∙ e in cc)
  | inl l ↦ of_pair l (option_tells (g (carry rows x)))
]
  where
    of_pair : x.face < length rows → (g (carry rows x) ≡ None) ⊎ ((z : Side) × (g (carry rows x) ≡ Some z)) → Tells faces g rows x y
    of_pair l (inl none) = absurd (let no : None ≡ Some y = sym (carried_at g rows x l ∙ ap (option_map (carry (inverted rows))) none) ∙ e in cc)
    of_pair l (inr z) =
        let from = carry_onto R z.0 (G.within z.0 (carry rows x) (G.paired (carry rows x) z.0 z.1)) in
        let is : carry (inverted rows) z.0 ≡ y = Some_injective _ _ (sym (carried_at g rows x l ∙ ap (option_map (carry (inverted rows))) z.1) ∙ e) in
        let same : from.0 ≡ y = sym (inverted_leads_back faces rows R from.0 from.1) ∙ ap (carry (inverted rows)) from.2 ∙ is in
        let long = R.one_each in
        record {
          in_one = omega arith;
          in_other = subst (λ (s : Side). s.face < faces) same from.1;
          pair = z.1 ∙ ap {A = Side} Some (sym from.2 ∙ ap (carry rows) same);
        }

the_carried : (faces : ℕ) (g : Gluing) (rows : List (ℕ × ℕ)) → IsGluing faces g → IsRenumbering faces rows → IsCarried faces g rows (carried g rows)
the_carried faces g rows G R = record {
  pairs = λ x y h k. (
    λ e. (tells faces g rows G R x y e).pair,
    λ e. carried_at g rows x (let l = R.one_each in omega arith) ∙ ap (option_map (carry (inverted rows))) e ∙ ap {A = Side} Some (inverted_leads_back faces rows R y k),
  );
  within = λ x y e. (let t = tells faces g rows G R x y e in (t.in_one, t.in_other));
}

-- two surfaces with the same pairs under new numbers are one
same_carried : (faces : ℕ) (g : Gluing) (rows : List (ℕ × ℕ)) (h k : Gluing) → IsCarried faces g rows h → IsCarried faces g rows k → h ≡ k
same_carried faces g rows h k H K = fun_ext (λ x. elim (option_tells (h x)) [
  | inr y ↦ y.1 ∙ sym (moved h k H K x y.0 y.1)
  | inl n ↦ elim (option_tells (k x)) [
    | inl o ↦ n ∙ sym o
    | inr y ↦ absurd (let no : None ≡ Some y.0 = sym n ∙ moved k h K H x y.0 y.1 in cc)
  ]
])
  where
    moved : (a b : Gluing) → IsCarried faces g rows a → IsCarried faces g rows b → (x y : Side) → a x ≡ Some y → b x ≡ Some y
    moved a b A B x y e =
        let w = A.within x y e in
        (B.pairs x y w.0 w.1).1 ((A.pairs x y w.0 w.1).0 e)

pub carried_is_the_one : CarriedIsTheOne
carried_is_the_one faces g rows G R =
    let it = the_carried faces g rows G R in
    (it, λ h H. same_carried faces g rows h (carried g rows) H it)

pub carried_is_proper : CarriedIsProper
carried_is_proper faces g rows P R = proper_carried R (the_carried faces g rows P.gluing R) P

-- ---- pairs that fit

pub fit_is_carried : FitIsCarried
fit_is_carried faces g h rows old new C alike fit x y e =
    let w = C.within x y e in
    let one = alike (next x) (prev y) w.0 w.1 ∙ ap (λ (s : Side). old s (carry rows (prev y))) (carry-next rows x) ∙ ap (old (next (carry rows x))) (carry-prev rows y) in
    let two = alike (prev x) (next y) w.0 w.1 ∙ ap (λ (s : Side). old s (carry rows (next y))) (carry-prev rows x) ∙ ap (old (prev (carry rows x))) (carry-next rows y) in
    ap (λ (b : Bool). b && new (prev x) (next y) && not (new x y)) one
    ∙ ap (λ (b : Bool). old (next (carry rows x)) (prev (carry rows y)) && b && not (new x y)) two
    ∙ ap (λ (b : Bool). old (next (carry rows x)) (prev (carry rows y)) && old (prev (carry rows x)) (next (carry rows y)) && not b) (alike x y w.0 w.1)
    ∙ fit (carry rows x) (carry rows y) ((C.pairs x y w.0 w.1).0 e)

turned_number : (t : ℕ) (p : Place) → t < 3 → place_number (turned t p) ≡ (place_number p + t) % 3
turned_number zero first h = refl
turned_number zero second h = refl
turned_number zero third h = refl
turned_number (suc zero) first h = refl
turned_number (suc zero) second h = refl
turned_number (suc zero) third h = refl
turned_number (suc (suc zero)) first h = refl
turned_number (suc (suc zero)) second h = refl
turned_number (suc (suc zero)) third h = refl
turned_number (suc (suc (suc t))) p h = absurd (omega arith)

place-lt : (p : Place) → place_number p < 3
place-lt first = omega arith
place-lt second = omega arith
place-lt third = omega arith

corner_modulo : (m : MeshParts) (f j k : ℕ) → j % 3 ≡ k % 3 → corner m f j ≡ corner m f k
corner_modulo m f j k e = rw (corner, e) refl

-- a corner of the new mesh has the position of the corner that it is carried to
position_carried : (m n : MeshParts) (rows : List (ℕ × ℕ)) → SameMesh m n rows → (c : Side) → c.face < length n.faces → corner_position n c ≡ corner_position m (carry rows c)
position_carried m n rows S c h =
    let F = S.faces c.face h in
    let at : corner n c.face (place_number c.place) ≡ corner m (named rows c.face) (place_number (turned (turn rows c.face) c.place)) =
    F.1 (place_number c.place) (place-lt c.place) ∙ corner_modulo m (named rows c.face) (place_number c.place + turn rows c.face) (place_number (turned (turn rows c.face) c.place))
    (let e = turned_number (turn rows c.face) c.place F.0 in omega arith) in
    ap (λ (heads : _). take (first_width heads) (corner n c.face (place_number c.place))) (sym S.heads)
    ∙ ap (λ (row : List ℤ). take (first_width m.heads) row) at

pub mesh_fit_is_carried : MeshFitIsCarried
mesh_fit_is_carried m n g h rows S C fit =
    fit_is_carried (length n.faces) g h rows (same_position m) (same_position n) C
    (λ c d u v. ap (λ (p : List ℤ). same_row p (corner_position n d)) (position_carried m n rows S c u) ∙ ap (same_row (corner_position m (carry rows c))) (position_carried m n rows S d v))
    fit
