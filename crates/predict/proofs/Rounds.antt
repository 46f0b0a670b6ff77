-- The way round a vertex meets no corner twice, and no corner of another fan: so the flags that are wanted are no more than corners.
use Rattle.std.proofs.Common.{◌≡◌, ◌≢◌, ℕ, zero, suc, ◌+◌, ◌-◌, ◌*◌, ◌<◌, ◌≤◌, true, false, List, [], ◌∷◌, ◌++◌, length, get_or, Option, Some, None, ◌⊎◌, inl, inr, refl, sym, subst, ◌∙◌, ap, arith, option_map}
use Rattle.std.specs.List.{All, filter_map}
use Rattle.std.proofs.lemmas.Bool.{cases_Bool, cases_eq, cases_lt, cond-true, cond-false}
use Rattle.std.proofs.lemmas.List.{length-append, length-take}
use Rattle.std.proofs.lemmas.List.Elements.{All-nil, All-cons, All-head, All-tail, All-append, All-weaker, All-get_or, filter_map-append}
use Rattle.corner_table.specs.Sides.{Side, first, side, same, number, Gluing, IsGluing}
use Rattle.corner_table.specs.Fans.{swing_left, swing_right, left_by, right_by, InFan}
use Rattle.corner_table.proofs.Numbers.{no_room, number-lt, number_injective}
use Rattle.corner_table.proofs.Places.{option_tells, Some_injective, same-false}
use Rattle.corner_table.proofs.Walks.{left_none, right_none, left_by-zero, left_last, right_last, left_split, right_back, left_by-fan, right_by-fan, left_count, left_more, left_then_right, fan_trans, fan_sym}
use Rattle.corner_table.proofs.Boundary.{left_by-within, right_by-within}
use Rattle.corner_table.specs.declared.corner_lists.FaceAcross.{FaceAcross}
use Rattle.corner_table.specs.Ordered.{Ordered, IsOver, corner_at, at_corner}
use Rattle.predict.specs.Gathered.{Turn, turn_at, rightwards, leftwards_from, round_from, round, gathered}
use Rattle.predict.specs.Multi.{wanted}
use Rattle.predict.specs.Laws.{AreApart, FlagsAreFew}
use Rattle.predict.proofs.Kept.{wanted_here, wanted_there}

-- walks one after the other are one walk
left_add : (g : Gluing) (m n : ℕ) (c d e : Side) → left_by g m c ≡ Some d → left_by g n d ≡ Some e → left_by g (m + n) c ≡ Some e
left_add g zero n c d e p q = let z : n ≡ zero + n = omega arith in rw (← z) (ap (left_by g n) (left_by-zero g c d p) ∙ q)
left_add g (suc m) n c d e p q =
    let s = left_split g m c d p in
    let z : suc (m + n) ≡ suc m + n = omega arith in
    rw (← z) (left_more g (m + n) c s.0 e s.1 (left_add g m n s.0 d e s.2 q))

-- d is met on the way to the left, after i swings with no return
pub record LeftAt (g : Gluing) (s : Side) (i : ℕ) (d : Side) : Type 0 where
  pub met : left_by g i s ≡ Some d
  pub new : (j : ℕ) → 0 < j → j ≤ i → left_by g j s ≡ Some s → ⊥

-- the way to the left comes to an end
record Ends (g : Gluing) (s : Side) : Type 0 where
  pub swings : ℕ
  pub last : Side
  pub met : left_by g swings s ≡ Some last
  pub ends : swing_left g last ≡ None

-- d is met on the way to the right, after i swings
record RightAt (g : Gluing) (s : Side) (i : ℕ) (d : Side) : Type 0 where
  pub met : right_by g i s ≡ Some d
  pub open_fan : Ends g s

-- what is met from i swings to the left on
abbrev FromLeft : Gluing → Side → ℕ → Side → Type 0
FromLeft g s i d = ((a : ℕ) × (i ≤ a) × LeftAt g s a d) ⊎ ((b : ℕ) × (0 < b) × RightAt g s b d)

-- what is met from i swings to the right on
abbrev FromRight : Gluing → Side → ℕ → Side → Type 0
FromRight g s i d = (b : ℕ) × (i ≤ b) × RightAt g s b d

-- an open fan has no way back to its start
no_ring : (g : Gluing) (s : Side) (n : ℕ) → Ends g s → 0 < n → left_by g n s ≡ Some s → ⊥
no_ring g s n E p q =
    let far = left_add g n E.swings s s E.last q E.met in
    let same_count = left_count g E.swings (n + E.swings) s E.last E.ends E.met far in
    absurd (omega arith)

-- all but the last swing of a walk
pub all_but_last : (g : Gluing) (n : ℕ) (c e : Side) → left_by g (suc n) c ≡ Some e → (m : Side) × (left_by g n c ≡ Some m) × (swing_left g m ≡ Some e)
all_but_last g zero c e h = let t = left_split g zero c e h in (c, left_none g c, t.1 ∙ ap {A = Side} Some (left_by-zero g t.0 e t.2))
all_but_last g (suc n) c e h =
    let t = left_split g (suc n) c e h in
    let u = all_but_last g n t.0 e t.2 in
    (u.0, left_more g n c t.0 u.0 t.1 u.1, u.2)

-- one walk to the left that meets a corner twice comes back to its start
left_twice : {faces : ℕ} {g : Gluing} → IsGluing faces g → (i k : ℕ) (s d : Side) → left_by g i s ≡ Some d → left_by g (k + i) s ≡ Some d → left_by g k s ≡ Some s
left_twice {faces} {g} G zero k s d p q = let z : k + zero ≡ k = omega arith in ap (λ (n : ℕ). left_by g n s) (sym z) ∙ q ∙ ap {A = Side} Some (sym (left_by-zero g s d p))
left_twice {faces} {g} G (suc i) k s d p q =
    let z : suc (k + i) ≡ k + suc i = omega arith in
    let a = all_but_last g i s d p in
    let b = all_but_last g (k + i) s d (ap (λ (n : ℕ). left_by g n s) z ∙ q) in
    let e : a.0 ≡ b.0 = Some_injective _ _ (sym (left_then_right G a.0 d a.2) ∙ left_then_right G b.0 d b.2) in
    left_twice G i k s a.0 a.1 (b.1 ∙ ap {A = Side} Some (sym e))

-- the way to the left meets no corner that it has met
left_apart : {faces : ℕ} {g : Gluing} → IsGluing faces g → (s d e : Side) (i : ℕ) → LeftAt g s i d → FromLeft g s (suc i) e → d ≢ e
left_apart {faces} {g} G s d e i D (inl x) same_corner =
    let E = x.2 in
    let far : left_by g ((x.0 - i) + i) s ≡ Some d = (let z : (x.0 - i) + i ≡ x.0 = omega (arith, x.1) in ap (λ (n : ℕ). left_by g n s) z ∙ E.met ∙ ap {A = Side} Some (sym same_corner)) in
    E.new (x.0 - i) (omega (arith, x.1)) (omega (arith, x.1)) (left_twice G i (x.0 - i) s d D.met far)
left_apart {faces} {g} G s d e i D (inr x) same_corner =
    let E = x.2 in
    let back : left_by g x.0 d ≡ Some s = ap (left_by g x.0) same_corner ∙ right_back G x.0 s e E.met in
    no_ring g s (i + x.0) E.open_fan (omega (arith, x.1)) (left_add g i x.0 s d s D.met back)

-- nor does the way to the right
right_apart : {faces : ℕ} {g : Gluing} → IsGluing faces g → (s d e : Side) (i : ℕ) → RightAt g s i d → FromRight g s (suc i) e → d ≢ e
right_apart {faces} {g} G s d e i D x same_corner =
    let E = x.2 in
    let F = E.open_fan in
    let here_left : left_by g i d ≡ Some s = right_back G i s d D.met in
    let z : (x.0 - i) + i ≡ x.0 = omega (arith, x.1) in
    let far : left_by g ((x.0 - i) + i) d ≡ Some s = ap (λ (n : ℕ). left_by g n d) z ∙ ap (left_by g x.0) same_corner ∙ right_back G x.0 s e E.met in
    no_ring g d (x.0 - i) (record { swings = i + F.swings; last = F.last; met = left_add g i F.swings d s F.last here_left F.met; ends = F.ends }) (omega (arith, x.1)) (left_twice G i (x.0 - i) d s here_left far)

-- lists with no item twice
abbrev pub Apart : List Side → Type 0
Apart [] = Unit {0}
Apart (c ∷ cs) = All (λ d. c ≢ d) cs × Apart cs

-- no corner is left
pub round_none : (g : Gluing) (s : Side) (n : ℕ) → round_from g s n None ≡ []
unfolding round_from
round_none g s zero = refl
round_none g s (suc n) = refl

-- a step to the right
right_goes : (g : Gluing) (s c : Side) (i : ℕ) (P : Option Turn → Type 0) → RightAt g s i c → P None → ((d : Side) → RightAt g s (suc i) d → P (Some (turn_at d false))) → P (rightwards g c)
right_goes g s c i P R none some = elim (option_tells (swing_right g c)) [
  | inl e ↦ subst (λ (o : Option Side). P (option_map (λ d. turn_at d false) o)) (sym e) none
  | inr x ↦ subst (λ (o : Option Side). P (option_map (λ d. turn_at d false) o)) (sym x.1) (some x.0 (record { met = right_last g i s c x.0 R.met x.1; open_fan = R.open_fan }))
]

-- what comes to the right is met there, once
record GoodRight (g : Gluing) (s : Side) (i : ℕ) (cs : List Side) : Type 0 where
  pub met : All (FromRight g s i) cs
  pub apart : Apart cs

right_round : {faces : ℕ} {g : Gluing} → IsGluing faces g → (s c : Side) (i n : ℕ) → RightAt g s i c → GoodRight g s i (round_from g s n (Some (turn_at c false)))
unfolding round_from
right_round {faces} {g} G s c i zero R = record { met = All-nil (FromRight g s i); apart = tt }
right_round {faces} {g} G s c i (suc n) R = with_rest (right_goes g s c i (λ o. GoodRight g s (suc i) (round_from g s n o)) R (nothing n) (λ d D. right_round G s d (suc i) n D))
  where
    nothing : (n : ℕ) → GoodRight g s (suc i) (round_from g s n None)
    nothing n = subst (λ (cs : List Side). GoodRight g s (suc i) cs) (sym (round_none g s n)) (record { met = All-nil (FromRight g s (suc i)); apart = tt })

    with_rest : {cs : List Side} → GoodRight g s (suc i) cs → GoodRight g s i (c ∷ cs)
    with_rest {cs} rest = record {
      met = All-cons (FromRight g s i) c cs (i, omega arith, R) (All-weaker (FromRight g s (suc i)) (FromRight g s i) (λ d x. (x.0, omega (arith, x.1), x.2)) cs rest.met);
      apart = (All-weaker (FromRight g s (suc i)) (λ d. c ≢ d) (λ d x. right_apart G s c d i R x) cs rest.met, rest.apart);
    }

-- what comes round is met there, once
record GoodLeft (g : Gluing) (s : Side) (i : ℕ) (cs : List Side) : Type 0 where
  pub met : All (FromLeft g s i) cs
  pub apart : Apart cs

left_round : {faces : ℕ} {g : Gluing} → IsGluing faces g → (s c : Side) (i n : ℕ) → LeftAt g s i c → GoodLeft g s i (round_from g s n (Some (turn_at c true)))
unfolding round_from
left_round {faces} {g} G s c i zero L = record { met = All-nil (FromLeft g s i); apart = tt }
left_round {faces} {g} G s c i (suc n) L = with_rest (rest (λ d D. left_round G s d (suc i) n D) (swing_left g c) refl)
  where
    nothing : (n : ℕ) → GoodLeft g s (suc i) (round_from g s n None)
    nothing n = subst (λ (cs : List Side). GoodLeft g s (suc i) cs) (sym (round_none g s n)) (record { met = All-nil (FromLeft g s (suc i)); apart = tt })

    of_right : {cs : List Side} → GoodRight g s 1 cs → GoodLeft g s (suc i) cs
    of_right {cs} r = record {
      met = All-weaker (FromRight g s 1) (FromLeft g s (suc i)) (λ d x. inr (x.0, (let h = x.1 in omega arith), x.2)) cs r.met;
      apart = r.apart;
    }

    rest : ((d : Side) → LeftAt g s (suc i) d → GoodLeft g s (suc i) (round_from g s n (Some (turn_at d true)))) → (o : Option Side) → swing_left g c ≡ o
        → GoodLeft g s (suc i) (round_from g s n (leftwards_from g s o))
    rest on None e =
        let ends : Ends g s = record { swings = i; last = c; met = L.met; ends = e } in
        right_goes g s s 0 (λ o. GoodLeft g s (suc i) (round_from g s n o)) (record { met = right_none g s; open_fan = ends }) (nothing n) (λ d D. of_right (right_round G s d 1 n D))
    rest on (Some d) e = elim (cases_Bool (same d s)) [
      | inl h ↦ subst (λ (o : Option Turn). GoodLeft g s (suc i) (round_from g s n o)) (sym (cond-true (same d s) None (Some (turn_at d true)) h)) (nothing n)
      | inr h ↦ subst (λ (o : Option Turn). GoodLeft g s (suc i) (round_from g s n o)) (sym (cond-false (same d s) None (Some (turn_at d true)) h)) (on d (record {
        met = left_last g i s c d L.met e;
        new = λ j p q r. elim (cases_eq j (suc i)) [
          | inl z ↦ same-false d s h (Some_injective _ _ (sym (left_last g i s c d L.met e) ∙ ap (λ (k : ℕ). left_by g k s) (sym z) ∙ r))
          | inr z ↦ L.new j p (omega arith) r
        ];
      }))
    ]

    with_rest : {cs : List Side} → GoodLeft g s (suc i) cs → GoodLeft g s i (c ∷ cs)
    with_rest {cs} rest = record {
      met = All-cons (FromLeft g s i) c cs (inl (i, omega arith, L)) (All-weaker (FromLeft g s (suc i)) (FromLeft g s i) weaker cs rest.met);
      apart = (All-weaker (FromLeft g s (suc i)) (λ d. c ≢ d) (λ d x. left_apart G s c d i L x) cs rest.met, rest.apart);
    }
      where
        weaker : (d : Side) → FromLeft g s (suc i) d → FromLeft g s i d
        weaker d (inl x) = inl (x.0, (let h = x.1 in omega arith), x.2)
        weaker d (inr x) = inr x

-- a corner of the fan of s, of one of the faces
pub record Near (faces : ℕ) (g : Gluing) (s d : Side) : Type 0 where
  pub in_fan : InFan g s d
  pub within : d.face < faces

near : {faces : ℕ} {g : Gluing} → IsGluing faces g → (s d : Side) → s.face < faces → FromLeft g s 0 d → Near faces g s d
near {faces} {g} G s d h (inl x) = let L = x.2 in record { in_fan = left_by-fan g x.0 s d L.met; within = left_by-within G x.0 s d h L.met }
near {faces} {g} G s d h (inr x) = let R = x.2 in record { in_fan = right_by-fan g x.0 s d R.met; within = right_by-within G x.0 s d h R.met }

-- the corners round a vertex: of one fan, none of them twice
pub record IsRound (faces : ℕ) (g : Gluing) (s : Side) (cs : List Side) : Type 0 where
  pub near : All (Near faces g s) cs
  pub apart : Apart cs

pub round_is : {faces : ℕ} {g : Gluing} → IsGluing faces g → (s : Side) → s.face < faces → (n : ℕ) → IsRound faces g s (round_from g s n (Some (turn_at s true)))
round_is {faces} {g} G s h n =
    let start : LeftAt g s 0 s = record { met = left_none g s; new = λ j p q r. absurd (omega arith) } in
    let good = left_round G s s 0 n start in
    record { near = All-weaker (FromLeft g s 0) (Near faces g s) (λ d x. near G s d h x) (round_from g s n (Some (turn_at s true))) good.met; apart = good.apart }

-- lists with no item twice, by their places
pub apart_at : (xs : List Side) (i j : ℕ) (d : Side) → Apart xs → i < length xs → j < length xs → get_or xs i d ≡ get_or xs j d → i ≡ j
apart_at [] i j d A p q e = absurd (omega arith)
apart_at (x ∷ xs) zero zero d A p q e = refl
apart_at (x ∷ xs) zero (suc j) d A p q e = absurd (All-get_or (λ y. x ≢ y) xs j d (omega arith) A.0 e)
apart_at (x ∷ xs) (suc i) zero d A p q e = absurd (All-get_or (λ y. x ≢ y) xs i d (omega arith) A.0 (sym e))
apart_at (x ∷ xs) (suc i) (suc j) d A p q e = ap suc (apart_at xs i j d A.1 (omega arith) (omega arith) e)

-- a list of corners of the faces, none twice, is no longer than there are corners
pub few_corners : (faces : ℕ) (xs : List Side) → All (λ c. c.face < faces) xs → Apart xs → length xs ≤ 3 * faces
few_corners faces xs within apart = elim (cases_lt (3 * faces) (length xs)) [
  | inr h ↦ h
  | inl h ↦ absurd (no_room (3 * faces) (λ i. number (get_or xs i (side 0 first)))
      (λ i p. number-lt (get_or xs i (side 0 first)) faces (All-get_or (λ c. c.face < faces) xs i (side 0 first) (omega arith) within))
      (λ i j p q e. apart_at xs i j (side 0 first) apart (omega arith) (omega arith) (number_injective _ _ e)))
]

-- lists with nothing in common, one after the other
Apart-append : (xs ys : List Side) → Apart xs → Apart ys → All (λ x. All (λ y. x ≢ y) ys) xs → Apart (xs ++ ys)
Apart-append [] ys X Y between = Y
Apart-append (x ∷ xs) ys X Y between = (
  All-append (λ d. x ≢ d) xs ys X.0 (All-head (λ x. All (λ y. x ≢ y) ys) x xs between),
  Apart-append xs ys X.1 Y (All-tail (λ x. All (λ y. x ≢ y) ys) x xs between),
)

-- the corners round the vertices of the entries before e
rounds : Ordered → ℕ → List Side
rounds w zero = []
rounds w (suc e) = rounds w e ++ round w (corner_at w e)

-- each is near the corner of an entry before e
abbrev NearSome : ℕ → Ordered → ℕ → Side → Type 0
NearSome faces w e d = (i : ℕ) × (i < e) × Near faces w.gluing (corner_at w i) d

record AreRounds (faces : ℕ) (w : Ordered) (e : ℕ) : Type 0 where
  pub near : All (NearSome faces w e) (rounds w e)
  pub apart : Apart (rounds w e)

rounds_are : {faces : ℕ} (w : Ordered) → IsGluing faces w.gluing → IsOver faces w → AreApart w → (e : ℕ) → e ≤ length w.corners → AreRounds faces w e
unfolding rounds
rounds_are {faces} w G O A zero h = record { near = All-nil (NearSome faces w zero); apart = tt }
rounds_are {faces} w G O A (suc e) h =
    let before = rounds_are w G O A e (omega arith) in
    let within : (corner_at w e).face < faces = All-get_or (λ c. c.face < faces) w.corners e (side 0 first) (omega arith) O.corners in
    let r = round_is G (corner_at w e) within (length w.entries) in
    record {
      near = All-append (NearSome faces w (suc e)) (rounds w e) (round w (corner_at w e))
          (All-weaker (NearSome faces w e) (NearSome faces w (suc e)) (λ d x. (x.0, (let b = x.1 in omega arith), x.2)) (rounds w e) before.near)
          (All-weaker (Near faces w.gluing (corner_at w e)) (NearSome faces w (suc e)) (λ d x. (e, omega arith, x)) (round w (corner_at w e)) r.near);
      apart = Apart-append (rounds w e) (round w (corner_at w e)) before.apart r.apart
          (All-weaker (NearSome faces w e) (λ x. All (λ y. x ≢ y) (round w (corner_at w e)))
          (λ x X. All-weaker (Near faces w.gluing (corner_at w e)) (λ y. x ≢ y) (λ y Y. other x y X Y) (round w (corner_at w e)) r.near) (rounds w e) before.near);
    }
  where
    other : (x y : Side) → NearSome faces w e x → Near faces w.gluing (corner_at w e) y → x ≢ y
    other x y X Y same_corner =
        let i = X.0 in
        let N = X.2 in
        let there : InFan w.gluing (corner_at w i) y = subst (λ (z : Side). InFan w.gluing (corner_at w i) z) same_corner N.in_fan in
        let one = A i e (let b = X.1 in omega arith) (omega arith) (fan_trans there (fan_sym G Y.in_fan)) in
        (let b = X.1 in omega arith)

-- no more faces are gathered than there are corners
found_few : (f : Side → Option FaceAcross) (cs : List Side) → length (filter_map f cs) ≤ length cs
found_few f [] = omega arith
found_few f (c ∷ cs) =
    let rest = found_few f cs in
    let more = length-append (filter_map f (c ∷ [])) (filter_map f cs) in
    let split = ap (λ (l : List FaceAcross). length l) (filter_map-append f (c ∷ []) cs) in
    let one : length (filter_map f (c ∷ [])) ≤ 1 = elim (f c) as (λ (o : Option FaceAcross). length (filter_map (λ (x : Side). o) (c ∷ [])) ≤ 1) [ None ↦ omega arith | Some x ↦ omega arith ] in
    omega arith

gathered_within : (w : Ordered) (e : ℕ) → length (gathered w e) ≤ length (round w (corner_at w e))
unfolding gathered
gathered_within w e =
    let h = found_few (at_corner w e) (round w (corner_at w e)) in
    let t = length-take 4 (filter_map (at_corner w e) (round w (corner_at w e))) in
    omega arith

wanted_within : (w : Ordered) (k e : ℕ) → wanted w k e ≤ length (rounds w e)
unfolding rounds wanted
wanted_within w k zero = omega arith
wanted_within w k (suc e) =
    let before = wanted_within w k e in
    let more = length-append (rounds w e) (round w (corner_at w e)) in
    let few = gathered_within w e in
    elim (cases_eq (length (gathered w e)) k) [
      | inl h ↦ let s = wanted_here w k e h in omega arith
      | inr h ↦ let s = wanted_there w k e h in omega arith
    ]

pub flags_are_few : FlagsAreFew
flags_are_few faces w G O A k =
    let r = rounds_are w G O A (length w.corners) (omega arith) in
    let few = few_corners faces (rounds w (length w.corners)) (All-weaker (NearSome faces w (length w.corners)) (λ c. c.face < faces) (λ c x. let N = x.2 in N.within) (rounds w (length w.corners)) r.near) r.apart in
    let h = wanted_within w k (length w.corners) in
    omega arith
