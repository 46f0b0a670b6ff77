-- Labelling one fan: a walk to the left and one to the right reach exactly the corners of the fan.
use Rattle.std.proofs.Common.{◌≡◌, ◌≢◌, ℕ, ◌+◌, ◌<◌, true, false, cond, List, length, get_or, set, Some, None, ◌⊎◌, inl, inr, sym, refl, ap, ◌∙◌, subst, arith, length-set, get_or-set_other, get_or-set_same, option_map, eqb, eqb-true}
use Rattle.std.proofs.lemmas.Bool.{cases_Bool, cond-false}
use Rattle.std.proofs.lemmas.List.Sums.{sum_by-set}
use Rattle.corner_table.specs.Sides.{Side, next, prev, number, side_at, Gluing, IsGluing}
use Rattle.corner_table.specs.Fans.{swing_left, swing_right, InFan, here, leftwards, rightwards, MeetsBoundary}
use Rattle.corner_table.specs.Table.{free_entry}
use Rattle.corner_table.specs.Labels.{label_at}
use Rattle.corner_table.specs.Labelling.{unlabelled, GoesLeft, GoesRight, Marks, IsMarking, IsReady, IsLeftwards, IsLeftDone, IsRightwards, IsWhole, IsFanLabelled}
use Rattle.corner_table.proofs.Places.{same_tells, Some_injective}
use Rattle.corner_table.proofs.Numbers.{number_injective, number-side_at}
use Rattle.corner_table.proofs.Walks.{left_then_right, right_then_left, fan_trans, fan_sym}
use Rattle.corner_table.proofs.Boundary.{left-free}

-- one more label, read at its corner and elsewhere
label_here : (l : List ℕ) (x : Side) (v : ℕ) → number x < length l → label_at (set l (number x) v) x ≡ v
label_here l x v h = get_or-set_same l (number x) v free_entry h

label_else : (l : List ℕ) (x y : Side) (v : ℕ) → y ≢ x → label_at (set l (number x) v) y ≡ label_at l y
label_else l x y v h = get_or-set_other l (number x) (number y) v free_entry (λ e. h (number_injective y x e))

-- what carries the label goes on carrying it
label_stays : (l : List ℕ) (x y : Side) (v : ℕ) → number x < length l → label_at l y ≡ v → label_at (set l (number x) v) y ≡ v
label_stays l x y v h e = elim (same_tells y x) [
  | inl q ↦ ap (label_at (set l (number x) v)) q ∙ label_here l x v h
  | inr n ↦ label_else l x y v n ∙ e
]

-- a corner that carries the label lies in the fan of the start, and had none
marked : {g : Gluing} {label : ℕ} {old new : List ℕ} {start : Side} → IsMarking g label old new start → (c : Side) → label_at new c ≡ label → (label_at old c ≡ free_entry) × InFan g start c
marked M c e = elim (M.marks c) [ inl u ↦ absurd (u.1 e) | inr m ↦ (m.1, m.2) ]

-- the first label
pub left_begins : (g : Gluing) (label : ℕ) (old : List ℕ) (start : Side) → IsReady g label old start → number start < length old →
    IsLeftwards g label old (set old (number start) label) start start
left_begins g label old start R h = record {
  marking = record { long = length-set old (number start) label; begun = label_here old start label h; marks = marks };
  here = label_here old start label h;
  lefts = λ c e n. absurd (R.fresh c (sym (label_else old start c label n) ∙ e));
  rights = λ c e n. absurd (R.fresh c (sym (label_else old start c label n) ∙ e));
  ahead = λ c e n s. R.fresh c (sym (label_else old start c label n) ∙ e);
}
  where
    marks : (c : Side) → Marks g label old (set old (number start) label) start c
    marks c = elim (same_tells c start) [
      | inl q ↦ inr (ap (label_at (set old (number start) label)) q ∙ label_here old start label h, ap (label_at old) q ∙ R.unlabelled, subst (InFan g start) (sym q) here)
      | inr n ↦ inl (label_else old start c label n, λ e. R.fresh c (sym (label_else old start c label n) ∙ e))
    ]

-- one more marked corner next to a marked one
more_marking : (g : Gluing) (label : ℕ) (old l : List ℕ) (start at found : Side) → IsReady g label old start → IsMarking g label old l start → label_at l at ≡ label →
    InFan g at found → number found < length l → label_at l found ≡ free_entry → IsMarking g label old (set l (number found) label) start
more_marking g label old l start at found R M e p h f = record {
  long = length-set l (number found) label ∙ M.long;
  begun = label_stays l found start label h M.begun;
  marks = marks;
}
  where
    was_free : label_at old found ≡ free_entry
    was_free = elim (M.marks found) [ inl u ↦ sym u.0 ∙ f | inr m ↦ m.1 ]

    marks : (c : Side) → Marks g label old (set l (number found) label) start c
    marks c = elim (same_tells c found) [
      | inl q ↦ inr (
        ap (label_at (set l (number found) label)) q ∙ label_here l found label h,
        ap (label_at old) q ∙ was_free,
        subst (InFan g start) (sym q) (fan_trans (marked M at e).1 p),
      )
      | inr n ↦ elim (M.marks c) [
        | inl u ↦ inl (label_else l found c label n ∙ u.0, λ k. u.1 (sym (label_else l found c label n) ∙ k))
        | inr m ↦ inr (label_else l found c label n ∙ m.0, m.1, m.2)
      ]
    ]

goes_left_stays : (g : Gluing) (label : ℕ) (l : List ℕ) (x c : Side) → number x < length l → GoesLeft g label l c → GoesLeft g label (set l (number x) label) c
goes_left_stays g label l x c h t = (t.0, t.1, label_stays l x t.0 label h t.2)

goes_right_stays : (g : Gluing) (label : ℕ) (l : List ℕ) (x c : Side) → number x < length l → GoesRight g label l c → GoesRight g label (set l (number x) label) c
goes_right_stays g label l x c h t = (t.0, t.1, label_stays l x t.0 label h t.2)

pub left_steps : {faces : ℕ} {g : Gluing} → IsGluing faces g → (label : ℕ) (old l : List ℕ) (start at found : Side) → IsReady g label old start → IsLeftwards g label old l start at →
    swing_left g at ≡ Some found → number found < length l → label_at l found ≡ free_entry → IsLeftwards g label old (set l (number found) label) start found
left_steps {faces} {g} G label old l start at found R L s h f = record {
  marking = more_marking g label old l start at found R L.marking L.here (leftwards s here) h f;
  here = label_here l found label h;
  lefts = lefts;
  rights = rights;
  ahead = ahead;
}
  where
    lefts : (c : Side) → label_at (set l (number found) label) c ≡ label → c ≢ found → GoesLeft g label (set l (number found) label) c
    lefts c e n = elim (same_tells c at) [
      | inl q ↦ (found, ap (swing_left g) q ∙ s, label_here l found label h)
      | inr m ↦ goes_left_stays g label l found c h (L.lefts c (sym (label_else l found c label n) ∙ e) m)
    ]

    rights : (c : Side) → label_at (set l (number found) label) c ≡ label → c ≢ start → GoesRight g label (set l (number found) label) c
    rights c e n = elim (same_tells c found) [
      | inl q ↦ (at, ap (swing_right g) q ∙ left_then_right G at found s, label_stays l found at label h L.here)
      | inr m ↦ goes_right_stays g label l found c h (L.rights c (sym (label_else l found c label m) ∙ e) n)
    ]

    -- the corner that was found had no label before
    had_label : label_at l found ≡ label → ⊥
    had_label e = R.real (sym e ∙ f)

    ahead : (c : Side) → label_at (set l (number found) label) c ≡ label → c ≢ start → swing_left g found ≢ Some c
    ahead c e n t = elim (same_tells c found) [
      | inl q ↦ (
          let right : Some at ≡ Some c = sym (left_then_right G at found s) ∙ ap (swing_right g) (sym q) ∙ left_then_right G c c (ap (swing_left g) q ∙ t) in
          had_label (ap (label_at l) (sym (Some_injective _ _ right ∙ q)) ∙ L.here))
      | inr m ↦ (
          let before = L.rights c (sym (label_else l found c label m) ∙ e) n in
          let right : Some before.0 ≡ Some found = sym before.1 ∙ left_then_right G found c t in
          had_label (ap (label_at l) (sym (Some_injective _ _ right)) ∙ before.2))
    ]

-- a labelled corner met again carries the new label
met_again : (g : Gluing) (label : ℕ) (old l : List ℕ) (start at found : Side) → IsReady g label old start → IsMarking g label old l start → label_at l at ≡ label →
    InFan g at found → label_at l found ≢ free_entry → label_at l found ≡ label
met_again g label old l start at found R M e p f = elim (M.marks found) [
  | inl u ↦ absurd (f (u.0 ∙ sym (R.alike at found p) ∙ (marked M at e).0))
  | inr m ↦ m.0
]

-- where the walk meets a labelled corner, that is its start
pub left_comes_round : {faces : ℕ} {g : Gluing} → IsGluing faces g → (label : ℕ) (old l : List ℕ) (start at found : Side) → IsReady g label old start → IsLeftwards g label old l start at →
    swing_left g at ≡ Some found → label_at l found ≢ free_entry → IsLeftDone g label old l start false
left_comes_round {faces} {g} G label old l start at found R L s f = record {
  marking = L.marking;
  lefts = λ c e. inr (left c e);
  rights = L.rights;
  round = λ q c e. (left c e, right c e);
  ended = λ q. absurd (cc);
}
  where
    again : label_at l found ≡ label
    again = met_again g label old l start at found R L.marking L.here (leftwards s here) f

    left : (c : Side) → label_at l c ≡ label → GoesLeft g label l c
    left c e = elim (same_tells c at) [
      | inl q ↦ (found, ap (swing_left g) q ∙ s, again)
      | inr m ↦ L.lefts c e m
    ]

    is_start : found ≡ start
    is_start = elim (same_tells found start) [ inl q ↦ q | inr m ↦ absurd (L.ahead found again m s) ]

    right : (c : Side) → label_at l c ≡ label → GoesRight g label l c
    right c e = elim (same_tells c start) [
      | inl q ↦ (at, ap (swing_right g) (q ∙ sym is_start) ∙ left_then_right G at found s, L.here)
      | inr m ↦ L.rights c e m
    ]

pub left_ends : (g : Gluing) (label : ℕ) (old l : List ℕ) (start at : Side) → IsLeftwards g label old l start at → swing_left g at ≡ None → IsLeftDone g label old l start true
left_ends g label old l start at L s = record {
  marking = L.marking;
  lefts = lefts;
  rights = L.rights;
  round = λ q. absurd (cc);
  ended = λ q. record { corner = at; in_fan = (marked L.marking at L.here).1; free = inl (left-free g at s) };
}
  where
    lefts : (c : Side) → label_at l c ≡ label → (swing_left g c ≡ None) ⊎ GoesLeft g label l c
    lefts c e = elim (same_tells c at) [ inl q ↦ inl (ap (swing_left g) q ∙ s) | inr m ↦ inr (L.lefts c e m) ]

-- the walk to the right
pub right_begins : (g : Gluing) (label : ℕ) (old mid : List ℕ) (start : Side) → IsLeftDone g label old mid start true → IsRightwards g label old mid start start
right_begins g label old mid start D = record { marking = D.marking; here = D.marking.begun; lefts = D.lefts; rights = D.rights }

pub right_steps : {faces : ℕ} {g : Gluing} → IsGluing faces g → (label : ℕ) (old l : List ℕ) (start at found : Side) → IsReady g label old start → IsRightwards g label old l start at →
    swing_right g at ≡ Some found → number found < length l → label_at l found ≡ free_entry → IsRightwards g label old (set l (number found) label) start found
right_steps {faces} {g} G label old l start at found R L s h f = record {
  marking = more_marking g label old l start at found R L.marking L.here (rightwards s here) h f;
  here = label_here l found label h;
  lefts = lefts;
  rights = rights;
}
  where
    lefts : (c : Side) → label_at (set l (number found) label) c ≡ label → (swing_left g c ≡ None) ⊎ GoesLeft g label (set l (number found) label) c
    lefts c e = elim (same_tells c found) [
      | inl q ↦ inr (at, ap (swing_left g) q ∙ right_then_left G at found s, label_stays l found at label h L.here)
      | inr m ↦ elim (L.lefts c (sym (label_else l found c label m) ∙ e)) [ inl n ↦ inl n | inr t ↦ inr (goes_left_stays g label l found c h t) ]
    ]

    rights : (c : Side) → label_at (set l (number found) label) c ≡ label → c ≢ found → GoesRight g label (set l (number found) label) c
    rights c e n = elim (same_tells c at) [
      | inl q ↦ (found, ap (swing_right g) q ∙ s, label_here l found label h)
      | inr m ↦ goes_right_stays g label l found c h (L.rights c (sym (label_else l found c label n) ∙ e) m)
    ]

-- the walk to the right is over where each swing to the right from its last corner leads to a labelled one
right_over : (g : Gluing) (label : ℕ) (old l : List ℕ) (start at : Side) → IsRightwards g label old l start at → (swing_right g at ≡ None) ⊎ GoesRight g label l at → IsWhole g label old l start
right_over g label old l start at L last = record { marking = L.marking; lefts = L.lefts; rights = rights }
  where
    rights : (c : Side) → label_at l c ≡ label → (swing_right g c ≡ None) ⊎ GoesRight g label l c
    rights c e = elim (same_tells c at) [
      | inl q ↦ subst (λ x. (swing_right g x ≡ None) ⊎ GoesRight g label l x) (sym q) last
      | inr m ↦ inr (L.rights c e m)
    ]

pub right_meets : (g : Gluing) (label : ℕ) (old l : List ℕ) (start at found : Side) → IsReady g label old start → IsRightwards g label old l start at →
    swing_right g at ≡ Some found → label_at l found ≢ free_entry → IsWhole g label old l start
right_meets g label old l start at found R L s f =
    right_over g label old l start at L (inr (found, s, met_again g label old l start at found R L.marking L.here (rightwards s here) f))

pub right_ends : (g : Gluing) (label : ℕ) (old l : List ℕ) (start at : Side) → IsRightwards g label old l start at → swing_right g at ≡ None → IsWhole g label old l start
right_ends g label old l start at L s = right_over g label old l start at L (inl s)

-- where each swing from a labelled corner leads to a labelled one, the whole fan is labelled
spreads : {g : Gluing} {label : ℕ} {old new : List ℕ} {start : Side} → IsWhole g label old new start → (c d : Side) → InFan g c d → label_at new c ≡ label → label_at new d ≡ label
spreads E c d here e = e
spreads {new = new} E c d (leftwards {d = x} s p) e = elim (E.lefts c e) [
  | inl n ↦ absurd (let no : None ≡ Some x = sym n ∙ s in cc)
  | inr t ↦ (let q : Some t.0 ≡ Some x = sym t.1 ∙ s in spreads E x d p (ap (label_at new) (sym (Some_injective _ _ q)) ∙ t.2))
]
spreads {new = new} E c d (rightwards {d = x} s p) e = elim (E.rights c e) [
  | inl n ↦ absurd (let no : None ≡ Some x = sym n ∙ s in cc)
  | inr t ↦ (let q : Some t.0 ≡ Some x = sym t.1 ∙ s in spreads E x d p (ap (label_at new) (sym (Some_injective _ _ q)) ∙ t.2))
]

alike_again : {faces : ℕ} {g : Gluing} → IsGluing faces g → (label : ℕ) (old new : List ℕ) (start : Side) → IsReady g label old start → IsWhole g label old new start →
    (c d : Side) → InFan g c d → label_at new c ≡ label_at new d
alike_again {faces} {g} G label old new start R E c d p = elim (E.marking.marks c) [
  | inr m ↦ m.0 ∙ sym (spreads E c d p m.0)
  | inl u ↦ elim (E.marking.marks d) [
    | inl v ↦ u.0 ∙ R.alike c d p ∙ sym v.0
    | inr m ↦ absurd (u.1 (spreads E d c (fan_sym G p) m.0))
  ]
]

-- a fan that the walk to the left came to the end of, when the walk to the right is over
pub open_labelled : {faces : ℕ} {g : Gluing} → IsGluing faces g → (label : ℕ) (old mid new : List ℕ) (start : Side) → IsReady g label old start →
    IsLeftDone g label old mid start true → IsWhole g label old new start → IsFanLabelled g label old new start true
open_labelled {faces} {g} G label old mid new start R D E =
    record { marking = E.marking; alike = alike_again G label old new start R E; boundary = (λ t. D.ended refl, λ b. refl) }

-- a fan that the walk to the left came round
pub closed_labelled : {faces : ℕ} {g : Gluing} → IsGluing faces g → (label : ℕ) (old new : List ℕ) (start : Side) → IsReady g label old start →
    IsLeftDone g label old new start false → IsFanLabelled g label old new start false
closed_labelled {faces} {g} G label old new start R D =
    record { marking = D.marking; alike = alike_again G label old new start R whole; boundary = (λ t. absurd (let no : false ≡ true = t in cc), λ b. absurd (none_free b)) }
  where
    whole : IsWhole g label old new start
    whole = record { marking = D.marking; lefts = D.lefts; rights = λ c e. inr (D.round refl c e).1 }

    none_free : MeetsBoundary g start → ⊥
    none_free b =
        let t = D.round refl b.corner (spreads whole start b.corner b.in_fan D.marking.begun) in
        elim b.free [
          | inl f ↦ (let q = t.0 in let no : None ≡ Some q.0 = sym (ap (option_map next) f) ∙ q.1 in cc)
          | inr f ↦ (let q = t.1 in let no : None ≡ Some q.0 = sym (ap (option_map prev) f) ∙ q.1 in cc)
        ]

-- one for a corner without a label
abbrev one_unlabelled : ℕ → ℕ
one_unlabelled v = cond (eqb v free_entry) 1 0

-- a label leaves one corner less without one
pub fewer_unlabelled : (l : List ℕ) (i v : ℕ) → i < length l → get_or l i free_entry ≡ free_entry → v ≢ free_entry → unlabelled (set l i v) + 1 ≡ unlabelled l
fewer_unlabelled l i v h e n =
    let s = sum_by-set one_unlabelled l i v free_entry h in
    let a : one_unlabelled (get_or l i free_entry) ≡ 1 = ap one_unlabelled e in
    let b : one_unlabelled v ≡ 0 = (elim (cases_Bool (eqb v free_entry)) [ inl t ↦ absurd (n (eqb-true v free_entry t)) | inr t ↦ cond-false _ _ _ t ]) in
    omega arith

-- the same by numbers
pub left_begins_at : (g : Gluing) (label : ℕ) (old : List ℕ) (start : ℕ) → IsReady g label old (side_at start) → start < length old →
    IsLeftwards g label old (set old start label) (side_at start) (side_at start)
left_begins_at g label old start R h =
    subst (λ (n : ℕ). IsLeftwards g label old (set old n label) (side_at start) (side_at start)) (number-side_at start)
    (left_begins g label old (side_at start) R (let e = number-side_at start in omega arith))

pub left_steps_at : {faces : ℕ} {g : Gluing} → IsGluing faces g → (label : ℕ) (old l : List ℕ) (start : Side) (at found : ℕ) → IsReady g label old start → IsLeftwards g label old l start (side_at at) →
    Some (side_at found) ≡ swing_left g (side_at at) → found < length l → free_entry ≡ get_or l found free_entry → IsLeftwards g label old (set l found label) start (side_at found)
left_steps_at {faces} {g} G label old l start at found R L s h f =
    let e = number-side_at found in
    subst (λ (n : ℕ). IsLeftwards g label old (set l n label) start (side_at found)) e
    (left_steps G label old l start (side_at at) (side_at found) R L (sym s) (omega arith) (ap (λ (n : ℕ). get_or l n free_entry) e ∙ sym f))

pub left_comes_round_at : {faces : ℕ} {g : Gluing} → IsGluing faces g → (label : ℕ) (old l : List ℕ) (start : Side) (at found v : ℕ) → IsReady g label old start → IsLeftwards g label old l start (side_at at) →
    Some (side_at found) ≡ swing_left g (side_at at) → v ≡ get_or l found free_entry → v ≢ free_entry → IsLeftDone g label old l start false
left_comes_round_at G label old l start at found v R L s e h =
    left_comes_round G label old l start (side_at at) (side_at found) R L (sym s) (λ q. h (e ∙ ap (λ (n : ℕ). get_or l n free_entry) (sym (number-side_at found)) ∙ q))

pub right_steps_at : {faces : ℕ} {g : Gluing} → IsGluing faces g → (label : ℕ) (old l : List ℕ) (start : Side) (at found : ℕ) → IsReady g label old start → IsRightwards g label old l start (side_at at) →
    Some (side_at found) ≡ swing_right g (side_at at) → found < length l → free_entry ≡ get_or l found free_entry → IsRightwards g label old (set l found label) start (side_at found)
right_steps_at {faces} {g} G label old l start at found R L s h f =
    let e = number-side_at found in
    subst (λ (n : ℕ). IsRightwards g label old (set l n label) start (side_at found)) e
    (right_steps G label old l start (side_at at) (side_at found) R L (sym s) (omega arith) (ap (λ (n : ℕ). get_or l n free_entry) e ∙ sym f))

pub right_meets_at : (g : Gluing) (label : ℕ) (old l : List ℕ) (start : Side) (at found v : ℕ) → IsReady g label old start → IsRightwards g label old l start (side_at at) →
    Some (side_at found) ≡ swing_right g (side_at at) → v ≡ get_or l found free_entry → v ≢ free_entry → IsWhole g label old l start
right_meets_at g label old l start at found v R L s e h =
    right_meets g label old l start (side_at at) (side_at found) R L (sym s) (λ q. h (e ∙ ap (λ (n : ℕ). get_or l n free_entry) (sym (number-side_at found)) ∙ q))
