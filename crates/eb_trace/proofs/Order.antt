-- The order of decoding lists each face once.
use Rattle.std.proofs.Common.{◌≡◌, ℕ, zero, suc, ◌+◌, ◌-◌, ◌<◌, ◌≤◌, true, false, ◌==◌, List, [], ◌∷◌, map, reverse, length, get_or, Some, ◌⊎◌, inl, inr, sym, refl, ap, ◌∙◌, subst, arith, length-append, eq-eqb, eqb-true}
use Rattle.std.proofs.lemmas.Bool.{cases_lt, or_cases}
use Rattle.std.proofs.lemmas.List.{get_or-map, get_or-reverse, get_or_append_left, get_or-append-add, length-map, length-reverse}
use Rattle.std.proofs.lemmas.List.Folds.{list_any_at}
use Rattle.corner_table.specs.Sides.{Side, Place, first, second, third, side, next, prev, place_after, place_before, place_number, Gluing, IsGluing}
use Rattle.corner_table.specs.Fans.{HasThreeFans}
use Rattle.corner_table.specs.Carried.{carry, turned, IsRenumbering}
use Rattle.corner_table.proofs.Numbers.{no_room}
use Rattle.eb_trace.specs.Trace.{TracedEntry, trace, order_of}
use Rattle.eb_trace.proofs.Visited.{is_inside, entry_at, no_entry, at_top, at_rest, visited_tells}
use Rattle.eb_trace.proofs.Moments.{true_not_false}
use Rattle.eb_trace.proofs.Walking.{Insides, InsideRing}
use Rattle.eb_trace.proofs.Walked.{entries_of, insides_of, trace_ok}

pub entry_of : (entries : List TracedEntry) (i k : ℕ) → suc (i + k) ≡ length entries → get_or entries i no_entry ≡ entry_at entries k
entry_of [] i k e = absurd (let q : suc (i + k) ≡ 0 = e in omega arith)
entry_of (x ∷ entries) zero k e =
    let q : suc (0 + k) ≡ suc (length entries) = e in
    sym (ap (entry_at (x ∷ entries)) (let m : k ≡ length entries = omega arith in m) ∙ at_top x entries)
entry_of (x ∷ entries) (suc i) k e =
    let q : suc (suc i + k) ≡ suc (length entries) = e in
    entry_of entries i k (omega arith) ∙ sym (at_rest x entries k (λ m. (omega arith)))

abbrev row_of : TracedEntry → ℕ × ℕ
row_of e = (e.corner.face, place_number e.corner.place)

abbrev inner_row : ℕ → ℕ × ℕ
inner_row f = (f, 1)

turns_first : (q : Place) → turned (place_number q) first ≡ q
turns_first first = refl
turns_first second = refl
turns_first third = refl

turns_second : (q : Place) → turned (place_number q) second ≡ place_after q
turns_second first = refl
turns_second second = refl
turns_second third = refl

turns_third : (q : Place) → turned (place_number q) third ≡ place_before q
turns_third first = refl
turns_third second = refl
turns_third third = refl

turn_less : (q : Place) → place_number q < 3
turn_less first = omega arith
turn_less second = omega arith
turn_less third = omega arith

pub inside_is : (fs : List ℕ) (r : ℕ) → r < length fs → is_inside fs (get_or fs r 0) ≡ true
inside_is fs r h = list_any_at (λ (k : ℕ). k == get_or fs r 0) fs r 0 h (eq-eqb (get_or fs r 0) (get_or fs r 0) refl)

pub inside_tells : (fs : List ℕ) (f : ℕ) → is_inside fs f ≡ true → (r : ℕ) × (r < length fs) × (get_or fs r 0 ≡ f)
inside_tells [] f h = absurd (let no : false ≡ true = h in cc)
inside_tells (x ∷ fs) f h = elim (or_cases (x == f) (is_inside fs f) h) [
  | inl a ↦ (0, omega arith, eqb-true x f a)
  | inr b ↦ (let t = inside_tells fs f b in let l = t.1 in (suc t.0, omega arith, t.2))
]

module _ (faces : ℕ) (g : Gluing) (G : IsGluing faces g) (F : HasThreeFans faces g) where
  abbrev pub at : ℕ → Side
  at k = (entry_at (entries_of faces g) k).corner

  -- the row of a symbol, and of an interior start face
  symbol_row : (i k : ℕ) → suc (i + k) ≡ length (entries_of faces g) → get_or (order_of (trace faces g)) i (0, 0) ≡ row_of (entry_at (entries_of faces g) k)
  symbol_row i k e =
      let l = length-map (entries_of faces g) row_of in
      get_or_append_left (map row_of (entries_of faces g)) (map inner_row (reverse (insides_of faces g))) (0, 0) i (omega arith)
      ∙ get_or-map row_of (entries_of faces g) i no_entry (0, 0) (omega arith)
      ∙ ap row_of (entry_of (entries_of faces g) i k e)

  inner_row_is : (q r : ℕ) → suc (q + r) ≡ length (insides_of faces g) → get_or (order_of (trace faces g)) (length (entries_of faces g) + q) (0, 0) ≡ inner_row (get_or (insides_of faces g) r 0)
  inner_row_is q r e =
      let l = length-map (entries_of faces g) row_of in
      let m = length-reverse (insides_of faces g) in
      ap (λ (i : ℕ). get_or (order_of (trace faces g)) i (0, 0)) (let s : length (entries_of faces g) + q ≡ length (map row_of (entries_of faces g)) + q = omega arith in s)
      ∙ get_or-append-add (map row_of (entries_of faces g)) (map inner_row (reverse (insides_of faces g))) q (0, 0)
      ∙ get_or-map inner_row (reverse (insides_of faces g)) q 0 (0, 0) (omega arith)
      ∙ ap inner_row (get_or-reverse (insides_of faces g) q 0 (omega arith) ∙ ap (λ (j : ℕ). get_or (insides_of faces g) j 0) (let s : length (insides_of faces g) - 1 - q ≡ r = omega arith in s))

  -- the corners of decoded faces
  pub first_is : (i k : ℕ) → suc (i + k) ≡ length (entries_of faces g) → carry (order_of (trace faces g)) (side i first) ≡ at k
  first_is i k e = ap (λ (row : ℕ × ℕ). side row.0 (turned row.1 first)) (symbol_row i k e) ∙ ap (side (at k).face) (turns_first (at k).place)

  pub second_is : (i k : ℕ) → suc (i + k) ≡ length (entries_of faces g) → carry (order_of (trace faces g)) (side i second) ≡ next (at k)
  second_is i k e = ap (λ (row : ℕ × ℕ). side row.0 (turned row.1 second)) (symbol_row i k e) ∙ ap (side (at k).face) (turns_second (at k).place)

  pub third_is : (i k : ℕ) → suc (i + k) ≡ length (entries_of faces g) → carry (order_of (trace faces g)) (side i third) ≡ prev (at k)
  third_is i k e = ap (λ (row : ℕ × ℕ). side row.0 (turned row.1 third)) (symbol_row i k e) ∙ ap (side (at k).face) (turns_third (at k).place)

  pub inner_is : (q r : ℕ) (p : Place) → suc (q + r) ≡ length (insides_of faces g) → carry (order_of (trace faces g)) (side (length (entries_of faces g) + q) p) ≡ side (get_or (insides_of faces g) r 0) (place_after p)
  inner_is q r p e = ap (λ (row : ℕ × ℕ). side row.0 (turned row.1 p)) (inner_row_is q r e)

  -- interior start faces by their places in the list
  pub record InnerFacts (bound r : ℕ) (fs : List ℕ) : Type 0 where
    pub run : ℕ
    pub is_run : run < bound
    pub within : get_or fs r 0 < faces
    pub across : g (side (get_or fs r 0) second) ≡ Some (at run)
    pub rings : (p : Place) → InsideRing faces g G F (entries_of faces g) (insides_of faces g) (side (get_or fs r 0) p)

  inner_facts : (bound : ℕ) (fs : List ℕ) → Insides faces g G F (entries_of faces g) (insides_of faces g) bound fs → (r : ℕ) → r < length fs → InnerFacts bound r fs
  inner_facts bound [] I r h = absurd (let l : r < 0 = h in omega arith)
  inner_facts bound (f ∷ fs) (a, l, w, e, rings, n, rest) zero h = record { run = a; is_run = l; within = w; across = e; rings = rings }
  inner_facts bound (f ∷ fs) (a, l, w, e, rings, n, rest) (suc r) h =
      let m : suc r < suc (length fs) = h in
      let t = inner_facts a fs rest r (omega arith) in
      record { run = t.run; is_run = (let s = t.is_run in omega arith); within = t.within; across = t.across; rings = t.rings }

  -- a later one in the list was begun before
  inner_order : (bound : ℕ) (fs : List ℕ) → Insides faces g G F (entries_of faces g) (insides_of faces g) bound fs → (r s : ℕ) → r < s → s < length fs →
      (a : ℕ) × (b : ℕ) × (b < a) × (a < bound) × (g (side (get_or fs r 0) second) ≡ Some (at a)) × (g (side (get_or fs s 0) second) ≡ Some (at b))
  inner_order bound [] I r s h l = absurd (let m : s < 0 = l in omega arith)
  inner_order bound (f ∷ fs) I r zero h l = absurd (omega arith)
  inner_order bound (f ∷ fs) (a, l, w, e, rings, n, rest) zero (suc s) h m =
      let m2 : suc s < suc (length fs) = m in
      let t = inner_facts a fs rest s (omega arith) in
      (a, t.run, t.is_run, l, e, t.across)
  inner_order bound (f ∷ fs) (a, l, w, e, rings, n, rest) (suc r) (suc s) h m =
      let m2 : suc s < suc (length fs) = m in
      let t = inner_order a fs rest r s (omega arith) (omega arith) in
      (t.0, t.1, t.2, (let u = t.3 in omega arith), t.4, t.5)

  inner_apart : (bound : ℕ) (fs : List ℕ) → Insides faces g G F (entries_of faces g) (insides_of faces g) bound fs → (r s : ℕ) → r < s → s < length fs → get_or fs r 0 ≡ get_or fs s 0 → ⊥
  inner_apart bound [] I r s h l e = absurd (let m : s < 0 = l in omega arith)
  inner_apart bound (f ∷ fs) I r zero h l e = absurd (omega arith)
  inner_apart bound (f ∷ fs) (a, l, w, x, rings, n, rest) zero (suc s) h m e =
      let m2 : suc s < suc (length fs) = m in
      true_not_false (is_inside fs f) (ap (is_inside fs) e ∙ inside_is fs s (omega arith)) n
  inner_apart bound (f ∷ fs) (a, l, w, x, rings, n, rest) (suc r) (suc s) h m e =
      let m2 : suc s < suc (length fs) = m in
      inner_apart a fs rest r s (omega arith) (omega arith) e

  pub facts_of : (r : ℕ) → r < length (insides_of faces g) → InnerFacts (length (entries_of faces g)) r (insides_of faces g)
  facts_of r h = inner_facts (length (entries_of faces g)) (insides_of faces g) (trace_ok faces g G F).0.inner r h

  pub order_facts : (r s : ℕ) → r < s → s < length (insides_of faces g) →
      (a : ℕ) × (b : ℕ) × (b < a) × (a < length (entries_of faces g)) × (g (side (get_or (insides_of faces g) r 0) second) ≡ Some (at a)) × (g (side (get_or (insides_of faces g) s 0) second) ≡ Some (at b))
  order_facts r s h l = inner_order (length (entries_of faces g)) (insides_of faces g) (trace_ok faces g G F).0.inner r s h l

  -- what a number of the order is: of a symbol, or of an interior start face
  abbrev pub face_of : ℕ → ℕ
  face_of i = (get_or (order_of (trace faces g)) i (0, 0)).0

  pub data Numbered (i : ℕ) : Type 0 where
    of_symbol : (k : ℕ) → suc (i + k) ≡ length (entries_of faces g) → (get_or (order_of (trace faces g)) i (0, 0)).0 ≡ (at k).face → Numbered i
    of_inside : (q r : ℕ) → i ≡ length (entries_of faces g) + q → suc (q + r) ≡ length (insides_of faces g) → (get_or (order_of (trace faces g)) i (0, 0)).0 ≡ get_or (insides_of faces g) r 0 → Numbered i

  pub numbered : (i : ℕ) → i < length (entries_of faces g) + length (insides_of faces g) → Numbered i
  numbered i h = elim (cases_lt i (length (entries_of faces g))) [
    | inl l ↦ (let k = length (entries_of faces g) - suc i in let e : suc (i + k) ≡ length (entries_of faces g) = omega arith in of_symbol k e (ap (λ (row : ℕ × ℕ). row.0) (symbol_row i k e)))
    | inr l ↦ (
        let q = i - length (entries_of faces g) in
        let r = length (insides_of faces g) - suc q in
        let s : i ≡ length (entries_of faces g) + q = omega arith in
        let e : suc (q + r) ≡ length (insides_of faces g) = omega arith in
        of_inside q r s e (ap (λ (j : ℕ). (get_or (order_of (trace faces g)) j (0, 0)).0) s ∙ ap (λ (row : ℕ × ℕ). row.0) (inner_row_is q r e)))
  ]

  not_both : (k r : ℕ) → k < length (entries_of faces g) → r < length (insides_of faces g) → (at k).face ≡ get_or (insides_of faces g) r 0 → ⊥
  not_both k r h l e = true_not_false (is_inside (insides_of faces g) (at k).face) (ap (is_inside (insides_of faces g)) e ∙ inside_is (insides_of faces g) r l) ((trace_ok faces g G F).0.logged.outside k h)

  faces_apart : (i j : ℕ) → i < length (entries_of faces g) + length (insides_of faces g) → j < length (entries_of faces g) + length (insides_of faces g) → face_of i ≡ face_of j → i ≡ j
  faces_apart i j h l e = go (numbered i h) (numbered j l)
    where
      go : Numbered i → Numbered j → i ≡ j
      go (of_symbol k a b) (of_symbol m c d) = (let s : k ≡ m = (trace_ok faces g G F).0.logged.apart k m (omega arith) (omega arith) (sym b ∙ e ∙ d) in omega arith)
      go (of_symbol k a b) (of_inside q r s c d) = absurd (not_both k r (omega arith) (omega arith) (sym b ∙ e ∙ d))
      go (of_inside q r s c d) (of_symbol k a b) = absurd (not_both k r (omega arith) (omega arith) (sym b ∙ sym e ∙ d))
      go (of_inside q r s c d) (of_inside q2 r2 s2 c2 d2) = elim (cases_lt r r2) [
        | inl u ↦ absurd (inner_apart (length (entries_of faces g)) (insides_of faces g) (trace_ok faces g G F).0.inner r r2 u (omega arith) (sym d ∙ e ∙ d2))
        | inr u ↦ elim (cases_lt r2 r) [
          | inl v ↦ absurd (inner_apart (length (entries_of faces g)) (insides_of faces g) (trace_ok faces g G F).0.inner r2 r v (omega arith) (sym d2 ∙ sym e ∙ d))
          | inr v ↦ omega arith
        ]
      ]

  faces_within : (i : ℕ) → i < length (entries_of faces g) + length (insides_of faces g) → face_of i < faces
  faces_within i h = go (numbered i h)
    where
      go : Numbered i → face_of i < faces
      go (of_symbol k a b) = subst (λ (f : ℕ). f < faces) (sym b) ((trace_ok faces g G F).0.logged.bounded k (omega arith))
      go (of_inside q r s c d) = subst (λ (f : ℕ). f < faces) (sym d) (facts_of r (omega arith)).within

  -- each face has a number
  found : (f : ℕ) → f < faces → (i : ℕ) × (i < length (entries_of faces g) + length (insides_of faces g)) × (face_of i ≡ f)
  found f h = elim (visited_tells (entries_of faces g) (trace faces g) ([], refl) f ((trace_ok faces g G F).1 f h)) [
    | inl t ↦ (
        let l = t.1 in
        let i = length (entries_of faces g) - suc t.0 in
        let e : suc (i + t.0) ≡ length (entries_of faces g) = omega arith in
        (i, omega arith, ap (λ (row : ℕ × ℕ). row.0) (symbol_row i t.0 e) ∙ t.2))
    | inr b ↦ (
        let t = inside_tells (insides_of faces g) f b in
        let l = t.1 in
        let q = length (insides_of faces g) - suc t.0 in
        let e : suc (q + t.0) ≡ length (insides_of faces g) = omega arith in
        (length (entries_of faces g) + q, omega arith, ap (λ (row : ℕ × ℕ). row.0) (inner_row_is q t.0 e) ∙ t.2))
  ]

  pick : (f : ℕ) → (f < faces) ⊎ (faces ≤ f) → ℕ
  pick f (inl h) = (found f h).0
  pick f (inr h) = 0

  pick_is : (f : ℕ) (t : (f < faces) ⊎ (faces ≤ f)) → f < faces → (pick f t < length (entries_of faces g) + length (insides_of faces g)) × (face_of (pick f t) ≡ f)
  unfolding pick
  pick_is f (inl h) l = ((found f h).1, (found f h).2)
  pick_is f (inr h) l = absurd (omega arith)

  pub total_is : length (entries_of faces g) + length (insides_of faces g) ≡ faces
  total_is = elim (cases_lt faces (length (entries_of faces g) + length (insides_of faces g))) [
    | inl more ↦ absurd (no_room faces face_of (λ i h. faces_within i (omega arith)) (λ i j h l e. faces_apart i j (omega arith) (omega arith) e))
    | inr a ↦ elim (cases_lt (length (entries_of faces g) + length (insides_of faces g)) faces) [
      | inr b ↦ omega arith
      | inl less ↦ absurd (no_room (length (entries_of faces g) + length (insides_of faces g)) (λ f. pick f (cases_lt f faces))
          (λ f h. (pick_is f (cases_lt f faces) (omega arith)).0)
          (λ e f h l q. sym (pick_is e (cases_lt e faces) (omega arith)).1 ∙ ap face_of q ∙ (pick_is f (cases_lt f faces) (omega arith)).1))
    ]
  ]

  pub renumbers : IsRenumbering faces (order_of (trace faces g))
  renumbers =
      let t = total_is in
      let l = length-map (entries_of faces g) row_of in
      let m = length-map (reverse (insides_of faces g)) inner_row in
      let r = length-reverse (insides_of faces g) in
      let a = length-append (map row_of (entries_of faces g)) (map inner_row (reverse (insides_of faces g))) in
      record {
        one_each = omega arith;
        within = λ i h. faces_within i (omega arith);
        turns = λ i h. turn i (numbered i (omega arith));
        apart = λ i j h k e. faces_apart i j (omega arith) (omega arith) e;
      }
    where
      turn : (i : ℕ) → Numbered i → (get_or (order_of (trace faces g)) i (0, 0)).1 < 3
      turn i (of_symbol k a b) = subst (λ (row : ℕ × ℕ). row.1 < 3) (sym (symbol_row i k a)) (turn_less (at k).place)
      turn i (of_inside q r s c d) = subst (λ (row : ℕ × ℕ). row.1 < 3) (sym (ap (λ (j : ℕ). get_or (order_of (trace faces g)) j (0, 0)) s ∙ inner_row_is q r c)) (let z : 1 < 3 = omega arith in z)
