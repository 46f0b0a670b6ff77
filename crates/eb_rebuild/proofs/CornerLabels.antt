-- The numbers of the names' roots are the labels by least corners, and the marks tell which of them meet a boundary.
use Rattle.std.proofs.Common.{◌≡◌, ◌≢◌, ℕ, suc, ◌*◌, ◌<◌, Bool, true, false, ◌==◌, IsTrue, List, length, get_or, set, Some, None, inl, inr, sym, refl, ap, ◌∙◌, subst, arith, eqb-true, eq-eqb, get_or-set_other, get_or-set_same}
use Rattle.std.proofs.lemmas.Bool.{cases_Bool, cases_eq, cond-true, cond-false}
use Rattle.std.proofs.lemmas.List.{get_or_default, length-set}
use Rattle.corner_table.specs.Sides.{Side, side_at, number, next, prev, Gluing}
use Rattle.corner_table.specs.Fans.{InFan, MeetsBoundary}
use Rattle.corner_table.specs.Table.{glued_in, other_at, free_entry}
use Rattle.corner_table.specs.Labels.{label_at, IsLabelled}
use Rattle.corner_table.proofs.Numbers.{number-lt, face-lt, number-side_at, side_at-number}
use Rattle.corner_table.proofs.Places.{next-prev, prev-next}
use Rattle.corner_table.proofs.Ends.{fan_is_closed_or_open}
use Rattle.eb_machine.proofs.ManyGlued.{fan_within}
use Rattle.eb_rebuild.specs.JoinedNames.{root_in, Falls, roots_below, number_of}
use Rattle.eb_rebuild.specs.CornerNames.{NamedCorners, name_at, vertex_at, IsNaming, AreNumbers, StartsBelow, marked_start, AreMarked}
use Rattle.eb_rebuild.proofs.Roots.{root_low, root_root, below_more, below_tells, below_found, below_plain}

-- where no names are joined, names are numbers
pub numbers_plain : (names up : List ℕ) → ((x : ℕ) → root_in up x ≡ x) → AreNumbers names up names
numbers_plain names up P = record {
  long = refl;
  number = λ i h. sym (ap (roots_below (root_in up)) (P (get_or names i 0)) ∙ below_plain (root_in up) P (get_or names i 0));
}

-- one side more is marked, if it is free
mark_is : (across labels : List ℕ) (i : ℕ) (ends : List Bool) → get_or across i free_entry ≡ free_entry → marked_start across labels i ends ≡ set ends (get_or labels (number (next (side_at i))) 0) true
mark_is across labels i ends e = cond-true _ _ _ (eq-eqb (get_or across i free_entry) free_entry e)

mark_not : (across labels : List ℕ) (i : ℕ) (ends : List Bool) → get_or across i free_entry ≢ free_entry → marked_start across labels i ends ≡ ends
mark_not across labels i ends ne = elim (cases_Bool (get_or across i free_entry == free_entry)) [
  | inl t ↦ absurd (ne (eqb-true (get_or across i free_entry) free_entry t))
  | inr t ↦ cond-false _ _ _ t
]

pub marked_more : (across labels : List ℕ) (i count : ℕ) (ends now : List Bool) → AreMarked across labels i count ends → get_or labels (number (next (side_at i))) 0 < count → now ≡ marked_start across labels i ends → AreMarked across labels (suc i) count now
marked_more across labels i count ends now M small e = elim (cases_eq (get_or across i free_entry) free_entry) [
  | inl q ↦ marks q
  | inr ne ↦ passes ne
]
  where
    label : ℕ
    label = get_or labels (number (next (side_at i))) 0

    later : (k : ℕ) → StartsBelow across labels i k → StartsBelow across labels (suc i) k
    later k s = let l = s.1 in (s.0, omega arith, s.2, s.3)

    passes : get_or across i free_entry ≢ free_entry → AreMarked across labels (suc i) count now
    passes ne =
        let is : now ≡ ends = e ∙ mark_not across labels i ends ne in
        record {
          each_label = ap {A = List Bool} length is ∙ M.each_label;
          marked = λ k. (
            (λ t. later k ((M.marked k).0 (subst (λ (l : List Bool). IsTrue (get_or l k false)) is t))),
            (λ s. subst (λ (l : List Bool). IsTrue (get_or l k false)) (sym is) ((M.marked k).1 (earlier k s))),
          );
        }
      where
        earlier : (k : ℕ) → StartsBelow across labels (suc i) k → StartsBelow across labels i k
        earlier k s = elim (cases_eq s.0 i) [
          | inl q ↦ absurd (ne (sym (ap (λ (x : ℕ). get_or across x free_entry) q) ∙ s.2))
          | inr q ↦ (let l = s.1 in (s.0, omega arith, s.2, s.3))
        ]

    marks : get_or across i free_entry ≡ free_entry → AreMarked across labels (suc i) count now
    marks q =
        record {
          each_label = ap {A = List Bool} length is ∙ length-set ends label true ∙ M.each_label;
          marked = λ k. ((λ t. forth k t), (λ s. back k s));
        }
      where
        is : now ≡ set ends label true
        is = e ∙ mark_is across labels i ends q

        within : label < length ends
        within = let l = M.each_label in let s = small in omega arith

        at_label : get_or now label false ≡ true
        at_label = ap (λ (l : List Bool). get_or l label false) is ∙ get_or-set_same ends label true false within

        elsewhere : (k : ℕ) → k ≢ label → get_or now k false ≡ get_or ends k false
        elsewhere k ne = ap (λ (l : List Bool). get_or l k false) is ∙ get_or-set_other ends label k true false ne

        forth : (k : ℕ) → IsTrue (get_or now k false) → StartsBelow across labels (suc i) k
        forth k t = elim (cases_eq k label) [
          | inl p ↦ (i, omega arith, q, sym p)
          | inr ne ↦ later k ((M.marked k).0 (subst (λ (b : Bool). IsTrue b) (elsewhere k ne) t))
        ]

        back : (k : ℕ) → StartsBelow across labels (suc i) k → IsTrue (get_or now k false)
        back k s = elim (cases_eq k label) [
          | inl p ↦ subst (λ (j : ℕ). IsTrue (get_or now j false)) (sym p) (subst (λ (b : Bool). IsTrue b) (sym at_label) refl)
          | inr ne ↦ elim (cases_eq s.0 i) [
            | inl o ↦ absurd (ne (sym s.3 ∙ ap (λ (x : ℕ). get_or labels (number (next (side_at x))) 0) o))
            | inr o ↦ subst (λ (b : Bool). IsTrue b) (sym (elsewhere k ne)) ((M.marked k).1 (let l = s.1 in (s.0, omega arith, s.2, s.3)))
          ]
        ]

-- each name was made
pub names_below : {faces : ℕ} {g : Gluing} {v : NamedCorners} → IsNaming faces g v → (i : ℕ) → i < length v.names → get_or v.names i 0 < length v.up
names_below {faces} {g} {v} N i h =
    let e = N.each_corner in
    subst (λ (n : ℕ). get_or v.names n 0 < length v.up) (number-side_at i) (N.below (side_at i) (face-lt i faces (omega arith)))

-- and its number is one of those that are counted
number_below : (up : List ℕ) → Falls up → (x : ℕ) → x < length up → number_of (root_in up) x < roots_below (root_in up) (length up)
number_below up F x h = below_more (root_in up) (root_in up x) (length up) (root_root up F x) (let l = root_low up F x in omega arith)

pub labels_below : {faces : ℕ} {g : Gluing} {v : NamedCorners} → IsNaming faces g v → (labels : List ℕ) (count : ℕ) → AreNumbers v.names v.up labels → count ≡ roots_below (root_in v.up) (length v.up) → (i : ℕ) → i < 3 * faces → get_or labels i 0 < count
labels_below {faces} {g} {v} N labels count A e i h =
    let l = N.each_corner in
    let w : i < length v.names = omega arith in
    let n = A.number i w in
    let b = number_below v.up N.falls (get_or v.names i 0) (names_below N i w) in
    omega arith

free_is : (e : ℕ) → other_at e ≡ None → e ≡ free_entry
free_is e h = elim (cases_Bool (e == free_entry)) [
  | inl t ↦ eqb-true e free_entry t
  | inr t ↦ absurd (let no : Some (side_at e) ≡ None = sym (cond-false (e == free_entry) None (Some (side_at e)) t) ∙ h in cc)
]

is_free : (e : ℕ) → e ≡ free_entry → other_at e ≡ None
is_free e h = cond-true (e == free_entry) None (Some (side_at e)) (eq-eqb e free_entry h)

-- so these are the labels
pub labelled : {faces : ℕ} {v : NamedCorners} (across : List ℕ) → IsNaming faces (glued_in across) v → (labels : List ℕ) (count : ℕ) (ends : List Bool) → AreNumbers v.names v.up labels → count ≡ roots_below (root_in v.up) (length v.up) →
    AreMarked across labels (3 * faces) count ends → IsLabelled faces (glued_in across) labels count ends
labelled {faces} {v} across N labels count ends A counted M = record {
  each_corner = A.long ∙ N.each_corner;
  bounded = λ c h. (let l = label_is c h in let b = number_below v.up N.falls (name_at v c) (N.below c h) in omega arith);
  used = used;
  in_order = in_order;
  one_label = λ c d h k w. label_is c h ∙ ap (roots_below root) (N.one_vertex c d w) ∙ sym (label_is d k);
  one_fan = one_fan;
  each_label = M.each_label;
  boundary = λ c h. ((λ t. forth c h t), (λ m. back c h m));
}
  where
    g : Gluing
    g = glued_in across

    root : ℕ → ℕ
    root = root_in v.up

    within : (c : Side) → c.face < faces → number c < length labels
    within c h = let l = number-lt c faces h in let a = A.long in let b = N.each_corner in omega arith

    plain : (c : Side) → c.face < faces → label_at labels c ≡ get_or labels (number c) 0
    plain c h = get_or_default labels (number c) free_entry 0 (within c h)

    label_is : (c : Side) → c.face < faces → label_at labels c ≡ number_of root (name_at v c)
    label_is c h = plain c h ∙ A.number (number c) (let l = within c h in let a = A.long in omega arith)

    -- a root is the number of its own
    root_number : (r : ℕ) → root r ≡ r → number_of root r ≡ roots_below root r
    root_number r e = ap (roots_below root) e

    used : (k : ℕ) → k < count → (c : Side) × (c.face < faces) × (label_at labels c ≡ k)
    used k h =
        let u = below_found root (length v.up) k (omega arith) in
        let m = N.met u.0 u.1 in
        (m.0, m.1, label_is m.0 m.1 ∙ ap (number_of root) m.2 ∙ root_number u.0 u.2 ∙ u.3)

    in_order : (c : Side) → c.face < faces → (k : ℕ) → k < label_at labels c → (b : Side) × (number b < number c) × (label_at labels b ≡ k)
    in_order c h k l =
        let is = label_is c h in
        let u = below_found root (root (name_at v c)) k (omega arith) in
        let low = root_low v.up N.falls (name_at v c) in
        let r = u.1 in
        let m = N.in_order c h u.0 (omega arith) in
        let n = number-lt c faces h in
        let b = m.1 in
        let f : m.0.face < faces = omega arith in
        (m.0, m.1, label_is m.0 f ∙ ap (number_of root) m.2 ∙ root_number u.0 u.2 ∙ u.3)

    one_fan : (c d : Side) → c.face < faces → d.face < faces → label_at labels c ≡ label_at labels d → InFan g c d
    one_fan c d h k e = N.one_fan c d h k
        (below_tells root (vertex_at v c) (vertex_at v d) (root_root v.up N.falls (name_at v c)) (root_root v.up N.falls (name_at v d)) (sym (label_is c h) ∙ e ∙ label_is d k))

    forth : (c : Side) → c.face < faces → IsTrue (get_or ends (label_at labels c) false) → MeetsBoundary g c
    forth c h t =
        let s = (M.marked (label_at labels c)).0 t in
        let x = side_at s.0 in
        let f : x.face < faces = face-lt s.0 faces s.1 in
        let free : g x ≡ None = is_free (get_or across (number x) free_entry) (ap (λ (n : ℕ). get_or across n free_entry) (number-side_at s.0) ∙ s.2) in
        record {
          corner = next x;
          in_fan = one_fan c (next x) h f (sym (plain (next x) f ∙ s.3));
          free = inr (ap g (prev-next x) ∙ free);
        }

    -- the label of the vertex at which a free side starts is marked
    start : (c : Side) → c.face < faces → (x : Side) → x.face < faces → g x ≡ None → InFan g c (next x) → IsTrue (get_or ends (label_at labels c) false)
    start c h x f free w = (M.marked (label_at labels c)).1 (
      number x,
      number-lt x faces f,
      free_is (get_or across (number x) free_entry) free,
      ap (λ (y : Side). get_or labels (number (next y)) 0) (side_at-number x) ∙ sym (plain (next x) f) ∙ label_is (next x) f ∙ sym (ap (roots_below root) (N.one_vertex c (next x) w)) ∙ sym (label_is c h),
    )

    fan_face : (c d : Side) → c.face < faces → InFan g c d → d.face < faces
    fan_face c d h w = elim (fan_within N.gluing w) [ inl e ↦ subst (λ (x : Side). x.face < faces) e h | inr l ↦ l.1 ]

    back : (c : Side) → c.face < faces → MeetsBoundary g c → IsTrue (get_or ends (label_at labels c) false)
    back c h m = elim m.free [
      | inr free ↦ start c h (prev m.corner) (fan_face c m.corner h m.in_fan) free (subst (InFan g c) (sym (next-prev m.corner)) m.in_fan)
      | inl free ↦ elim (fan_is_closed_or_open faces g N.gluing c h) [
        | inl closed ↦ absurd ((closed m.corner m.in_fan).0 free)
        | inr o ↦ start c h o.0 o.2.within o.2.free o.4
      ]
    ]
