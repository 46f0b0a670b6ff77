-- Labelling fan after fan.
use Rattle.std.proofs.Common.{◌≡◌, ◌≢◌, ℕ, zero, suc, ◌+◌, ◌*◌, ◌<◌, ◌≤◌, ◌↔◌, Bool, false, IsTrue, List, ◌∷◌, [], ◌++◌, length, get_or, replicate, inl, inr, sym, refl, ap, ◌∙◌, arith, length-append}
use Rattle.std.proofs.lemmas.Bool.{cases_eq, cases_lt}
use Rattle.corner_table.specs.Sides.{Side, number, side_at, Gluing, IsGluing}
use Rattle.corner_table.specs.Fans.{InFan, MeetsBoundary}
use Rattle.corner_table.specs.Table.{free_entry}
use Rattle.corner_table.specs.Labels.{label_at, IsLabelled}
use Rattle.corner_table.specs.Labelling.{IsReady, IsFanLabelled, IsLabelling}
use Rattle.corner_table.proofs.Numbers.{number_injective, number-side_at, side_at-number, number-lt}
use Rattle.corner_table.proofs.Walks.{fan_trans, fan_sym}
use Rattle.corner_table.proofs.TableSteps.{length-replicate, get_or-replicate}

-- no label yet
pub all_begins : (faces : ℕ) (g : Gluing) → IsLabelling faces g 0 0 (replicate (3 * faces) free_entry) []
all_begins faces g = record {
  each_corner = length-replicate (3 * faces) free_entry;
  few = omega arith;
  alike = λ c d p. free c ∙ sym (free d);
  passed = λ c h. absurd (omega arith);
  bounded = λ c h. absurd (h (free c));
  used = λ k h. absurd (omega arith);
  in_order = λ c h. absurd (h (free c));
  one_fan = λ c d h. absurd (h (free c));
  each_label = refl;
  boundary = λ c h. absurd (h (free c));
}
  where
    free : (c : Side) → label_at (replicate (3 * faces) free_entry) c ≡ free_entry
    free c = get_or-replicate (3 * faces) free_entry (number c)

-- a corner that has its label
pub all_skips : (faces : ℕ) (g : Gluing) (i n : ℕ) (labels : List ℕ) (ends : List Bool) → IsLabelling faces g i n labels ends → get_or labels i free_entry ≢ free_entry → IsLabelling faces g (i + 1) n labels ends
all_skips faces g i n labels ends L h = record {
  each_corner = L.each_corner;
  few = (let f = L.few in omega arith);
  alike = L.alike;
  passed = passed;
  bounded = L.bounded;
  used = λ k l. (let b = L.used k l in let s = b.1 in (b.0, omega arith, b.2));
  in_order = L.in_order;
  one_fan = L.one_fan;
  each_label = L.each_label;
  boundary = L.boundary;
}
  where
    passed : (c : Side) → number c < i + 1 → label_at labels c ≢ free_entry
    passed c l = elim (cases_eq (number c) i) [
      | inl e ↦ (λ q. h (ap (λ (j : ℕ). get_or labels j free_entry) (sym e) ∙ q))
      | inr m ↦ L.passed c (omega arith)
    ]

-- a corner without a label, before its fan is labelled
pub all_ready : (faces : ℕ) (g : Gluing) (i n : ℕ) (labels : List ℕ) (ends : List Bool) → IsLabelling faces g i n labels ends → get_or labels i free_entry ≡ free_entry → n < free_entry → IsReady g n labels (side_at i)
all_ready faces g i n labels ends L e h = record {
  alike = L.alike;
  unlabelled = ap (λ (j : ℕ). get_or labels j free_entry) (number-side_at i) ∙ e;
  fresh = fresh;
  real = (λ q. (let no = h in absurd (omega arith)));
}
  where
    fresh : (c : Side) → label_at labels c ≢ n
    fresh c q = let b = L.bounded c (λ f. (let no = h in absurd (omega arith))) in absurd (omega arith)

fan_boundary : {faces : ℕ} {g : Gluing} → IsGluing faces g → (c d : Side) → InFan g c d → MeetsBoundary g d → MeetsBoundary g c
fan_boundary G c d p b = record { corner = b.corner; in_fan = fan_trans p b.in_fan; free = b.free }

get_or-append-first : {A : Type 0} (xs ys : List A) (i : ℕ) (d : A) → i < length xs → get_or (xs ++ ys) i d ≡ get_or xs i d
get_or-append-first [] ys i d h = absurd (omega arith)
get_or-append-first (x ∷ xs) ys zero d h = refl
get_or-append-first (x ∷ xs) ys (suc i) d h = get_or-append-first xs ys i d (omega arith)

get_or-append-last : {A : Type 0} (xs : List A) (y : A) (i : ℕ) (d : A) → length xs ≡ i → get_or (xs ++ (y ∷ [])) i d ≡ y
get_or-append-last [] y zero d h = refl
get_or-append-last [] y (suc i) d h = absurd (omega arith)
get_or-append-last (x ∷ xs) y zero d h = absurd (omega arith)
get_or-append-last (x ∷ xs) y (suc i) d h = get_or-append-last xs y i d (omega arith)

-- one more fan
pub all_steps : {faces : ℕ} {g : Gluing} → IsGluing faces g → (i n : ℕ) (labels new : List ℕ) (ends : List Bool) (open_fan : Bool) → IsLabelling faces g i n labels ends →
    get_or labels i free_entry ≡ free_entry → n < free_entry → IsFanLabelled g n labels new (side_at i) open_fan → IsLabelling faces g (i + 1) (n + 1) new (ends ++ (open_fan ∷ []))
all_steps {faces} {g} G i n labels new ends open_fan L e h F = record {
  each_corner = F.marking.long ∙ L.each_corner;
  few = (let f = L.few in omega arith);
  alike = F.alike;
  passed = passed;
  bounded = bounded;
  used = used;
  in_order = in_order;
  one_fan = one_fan;
  each_label = (let a = length-append ends (open_fan ∷ []) in let b = L.each_label in omega arith);
  boundary = boundary;
}
  where
    start : Side
    start = side_at i

    n_real : n ≢ free_entry
    n_real q = let no = h in absurd (omega arith)

    -- an old label stays
    stays : (b : Side) (k : ℕ) → label_at labels b ≡ k → k < n → label_at new b ≡ k
    stays b k q l = elim (F.marking.marks b) [
      | inl u ↦ u.0 ∙ q
      | inr m ↦ absurd (let r : k ≡ free_entry = sym q ∙ m.1 in let no = h in omega arith)
    ]

    old_real : (c : Side) → (label_at new c ≡ label_at labels c) → label_at new c ≢ free_entry → label_at labels c ≢ free_entry
    old_real c q f r = f (q ∙ r)

    passed : (c : Side) → number c < i + 1 → label_at new c ≢ free_entry
    passed c l = elim (F.marking.marks c) [
      | inr m ↦ (λ q. n_real (sym m.0 ∙ q))
      | inl u ↦ elim (cases_eq (number c) i) [
        | inl q ↦ (let is : c ≡ side_at i = number_injective c (side_at i) (q ∙ sym (number-side_at i)) in absurd (u.1 (ap (label_at new) is ∙ F.marking.begun)))
        | inr m ↦ (λ q. L.passed c (omega arith) (sym u.0 ∙ q))
      ]
    ]

    bounded : (c : Side) → label_at new c ≢ free_entry → label_at new c < n + 1
    bounded c f = elim (F.marking.marks c) [
      | inl u ↦ (let b = L.bounded c (old_real c u.0 f) in let q = u.0 in omega arith)
      | inr m ↦ (let q = m.0 in omega arith)
    ]

    used : (k : ℕ) → k < n + 1 → (b : Side) × (number b < i + 1) × (label_at new b ≡ k)
    used k l = elim (cases_eq k n) [
      | inl q ↦ (side_at i, (let r = number-side_at i in omega arith), F.marking.begun ∙ sym q)
      | inr m ↦ (let b = L.used k (omega arith) in let s = b.1 in (b.0, omega arith, stays b.0 k b.2 (omega arith)))
    ]

    in_order : (c : Side) → label_at new c ≢ free_entry → (k : ℕ) → k < label_at new c → (b : Side) × (number b < number c) × (label_at new b ≡ k)
    in_order c f k l = elim (F.marking.marks c) [
      | inl u ↦ (
          let o = old_real c u.0 f in
          let bound = L.bounded c o in
          let b = L.in_order c o k (let q = u.0 in omega arith) in
          (b.0, b.1, stays b.0 k b.2 (let q = u.0 in omega arith)))
      | inr m ↦ (
          let b = L.used k (let q = m.0 in omega arith) in
          let s = b.1 in
          let far : i ≤ number c = (elim (cases_lt (number c) i) [ inl w ↦ absurd (L.passed c w m.1) | inr w ↦ w ]) in
          (b.0, omega arith, stays b.0 k b.2 (let q = m.0 in omega arith)))
    ]

    one_fan : (c d : Side) → label_at new c ≢ free_entry → label_at new c ≡ label_at new d → InFan g c d
    one_fan c d f q = elim (F.marking.marks c) [
      | inl u ↦ elim (F.marking.marks d) [
        | inl v ↦ L.one_fan c d (old_real c u.0 f) (sym u.0 ∙ q ∙ v.0)
        | inr m ↦ absurd (u.1 (q ∙ m.0))
      ]
      | inr m ↦ elim (F.marking.marks d) [
        | inl v ↦ absurd (v.1 (sym q ∙ m.0))
        | inr k ↦ fan_trans (fan_sym G m.2) k.2
      ]
    ]

    boundary : (c : Side) → label_at new c ≢ free_entry → IsTrue (get_or (ends ++ (open_fan ∷ [])) (label_at new c) false) ↔ MeetsBoundary g c
    boundary c f = elim (F.marking.marks c) [
      | inl u ↦ (
          let o = old_real c u.0 f in
          let bound : label_at labels c < length ends = (let b = L.bounded c o in let q = L.each_label in omega arith) in
          let is : get_or (ends ++ (open_fan ∷ [])) (label_at new c) false ≡ get_or ends (label_at labels c) false =
          ap (λ (j : ℕ). get_or (ends ++ (open_fan ∷ [])) j false) u.0 ∙ get_or-append-first ends (open_fan ∷ []) (label_at labels c) false bound in
          (λ t. (L.boundary c o).0 (sym is ∙ t), λ b. is ∙ (L.boundary c o).1 b))
      | inr m ↦ (
          let is : get_or (ends ++ (open_fan ∷ [])) (label_at new c) false ≡ open_fan =
          ap (λ (j : ℕ). get_or (ends ++ (open_fan ∷ [])) j false) m.0 ∙ get_or-append-last ends open_fan n false L.each_label in
          (λ t. fan_boundary G c (side_at i) (fan_sym G m.2) (F.boundary.0 (sym is ∙ t)), λ b. is ∙ F.boundary.1 (fan_boundary G (side_at i) c m.2 b)))
    ]

-- all corners
pub all_done : (faces : ℕ) (g : Gluing) (n : ℕ) (labels : List ℕ) (ends : List Bool) → IsLabelling faces g (3 * faces) n labels ends → IsLabelled faces g labels n ends
all_done faces g n labels ends L = record {
  each_corner = L.each_corner;
  bounded = λ c h. L.bounded c (real c h);
  used = λ k h. (let b = L.used k h in let s = b.1 in let f = side_at-number b.0 in (b.0, face b.0 s, b.2));
  in_order = λ c h k l. L.in_order c (real c h) k l;
  one_label = λ c d h k p. L.alike c d p;
  one_fan = λ c d h k e. L.one_fan c d (real c h) e;
  each_label = L.each_label;
  boundary = λ c h. L.boundary c (real c h);
}
  where
    real : (c : Side) → c.face < faces → label_at labels c ≢ free_entry
    real c h = L.passed c (number-lt c faces h)

    face : (b : Side) → number b < 3 * faces → b.face < faces
    face b h = omega arith
