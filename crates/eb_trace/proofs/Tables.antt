-- Surfaces by lists: what is found across, which vertices are new, and which corners give a start.
use Rattle.std.proofs.Common.{◌≡◌, ◌||◌, ◌≢◌, ℕ, zero, suc, ◌+◌, ◌*◌, ◌<◌, ◌≤◌, Bool, true, false, not, eqb, is_none, List, [], ◌∷◌, ◌++◌, length, get_or, Option, Some, None, option_map, inl, inr, sym, refl, ap, ◌∙◌, arith, eqb-true, vec_len}
use Rattle.std.proofs.lemmas.Bool.{cases_Bool, cases_eq, cases_lt, cond-true, cond-false, false_from_ne_true}
use Rattle.std.proofs.lemmas.List.{get_or_past, get_or_append_left}
use Rattle.std.proofs.Math.Seq.{get_or-append_seam}
use Rattle.std.specs.Option.{MatchOption, IfSome}
use Rattle.drc_base.specs.declared.limits.TheConstants.{MAX_FACES}
use Rattle.drc_base.specs.declared.sides.Side.{Side as NumberedSide}
use Rattle.corner_table.specs.Sides.{Side, Place, first, second, third, side, next, prev, place_number, number, side_at, Gluing, IsGluing}
use Rattle.corner_table.specs.Fans.{InFan, MeetsBoundary, rightmost, swing_right}
use Rattle.corner_table.specs.Table.{side_of, glued_in, other_at, free_entry}
use Rattle.corner_table.specs.Labels.{IsLabelled, label_at}
use Rattle.corner_table.proofs.Numbers.{side_at-number, number-lt}
use Rattle.corner_table.proofs.Places.{option_tells}
use Rattle.corner_table.proofs.Gluings.{new_free}
use Rattle.corner_table.proofs.Walks.{right_by-fan}
use Rattle.corner_table.proofs.Boundary.{rightmost_tells}
use Rattle.eb_trace.specs.Trace.{TraceWalk, is_face_visited, is_new_vertex, start_by, start_corner, or_else}
use Rattle.eb_trace.specs.Stored.{AreMarkedBy, IsTracedSurface}
use Rattle.eb_trace.specs.declared.surface.Surface.{Surface}
use Rattle.eb_trace.proofs.Rings.{ring_of, ring_has, long_walk}
use Rattle.eb_trace.proofs.Visited.{new_tells, old_tells, fan_within}
use Rattle.eb_trace.proofs.Moments.{true_not_false}

-- an entry that isn't free gives a side
pub other_some : (v : ℕ) → v ≢ free_entry → other_at v ≡ Some (side_at v)
other_some v h = cond-false (eqb v free_entry) None (Some (side_at v)) (false_from_ne_true (eqb v free_entry) (λ t. h (eqb-true v free_entry t)))

place_less : (q : Place) → place_number q < 3
place_less first = omega arith
place_less second = omega arith
place_less third = omega arith

pub number_told : (x : Side) → x.face < MAX_FACES → other_at (number x) ≡ Some x
number_told x h = other_some (number x) (let p = place_less x.place in λ e. (let q : 3 * x.face + place_number x.place ≡ 4294967295 = e in absurd (omega arith))) ∙ ap {A = Side} Some (side_at-number x)

-- what is found across is a side of the surface
pub found_within : {faces : ℕ} (entries : List ℕ) → IsGluing faces (glued_in entries) → (x : Side) (v : ℕ) → glued_in entries x ≡ Some (side_at v) → v < 3 * faces
found_within {faces} entries G x v e = let w = G.within (side_at v) x (G.paired x (side_at v) e) in omega arith

-- the entries of all sides give the gluing
pub all_told : {faces : ℕ} {g : Gluing} → IsGluing faces g → (entries : List ℕ) → length entries ≡ 3 * faces → ((k : ℕ) → k < 3 * faces → other_at (get_or entries k free_entry) ≡ g (side_at k)) → (x : Side) → glued_in entries x ≡ g x
all_told {faces} {g} G entries long told x = elim (cases_lt x.face faces) [
  | inl h ↦ told (number x) (number-lt x faces h) ∙ ap g (side_at-number x)
  | inr h ↦ (let past : length entries ≤ number x = omega arith in ap other_at (get_or_past entries (number x) free_entry past)) ∙ sym (new_free G x h)
]

-- whether a vertex is new is shown by its label
pub new_is : {faces : ℕ} {g : Gluing} {labels : List ℕ} {count : ℕ} {ends : List Bool} → IsGluing faces g → IsLabelled faces g labels count ends → (visited met : List Bool) (w : TraceWalk) → AreMarkedBy faces labels visited met (is_face_visited w) →
    (c : Side) → c.face < faces → (at_end old : Bool) → at_end ≡ get_or ends (label_at labels c) false → old ≡ get_or met (label_at labels c) false → not (at_end || old) ≡ is_new_vertex faces g w c
new_is {faces} {g} {labels} {count} {ends} G L visited met w M c h at_end old e o = elim (cases_Bool (is_new_vertex faces g w c)) [
  | inl new ↦ neither at_end old (λ t. end_not new (sym e ∙ t)) (λ t. met_not new (sym o ∙ t)) ∙ sym new
  | inr known ↦ (let t = old_tells faces g w c known in elim t.2 [
    | inl a ↦ ended at_end old (e ∙ (L.boundary c h).1 (record { corner = t.0; in_fan = t.1; free = inl a }))
    | inr b ↦ elim b [
      | inl a ↦ ended at_end old (e ∙ (L.boundary c h).1 (record { corner = t.0; in_fan = t.1; free = inr a }))
      | inr v ↦ (let within = fan_within G t.1 h in seen at_end old (o ∙ ap (λ (k : ℕ). get_or met k false) (L.one_label c t.0 h within t.1) ∙ M.met_has t.0 within v))
    ]
  ]) ∙ sym known
]
  where
    neither : (a b : Bool) → (a ≡ true → ⊥) → (b ≡ true → ⊥) → not (a || b) ≡ true
    neither true b p q = absurd (p refl)
    neither false true p q = absurd (q refl)
    neither false false p q = refl

    ended : (a b : Bool) → a ≡ true → not (a || b) ≡ false
    ended true b p = refl
    ended false b p = absurd (let no : false ≡ true = p in cc)

    seen : (a b : Bool) → b ≡ true → not (a || b) ≡ false
    seen true b p = refl
    seen false true p = refl
    seen false false p = absurd (let no : false ≡ true = p in cc)

    end_not : is_new_vertex faces g w c ≡ true → get_or ends (label_at labels c) false ≡ true → ⊥
    end_not new t = (let m = (L.boundary c h).0 t in let n = new_tells G w c m.corner h new m.in_fan in elim m.free [ inl a ↦ n.0 a | inr a ↦ n.1 a ])

    met_not : is_new_vertex faces g w c ≡ true → get_or met (label_at labels c) false ≡ true → ⊥
    met_not new t = (let m = M.met_tells (label_at labels c) t in let n = new_tells G w c m.0 h new (L.one_fan c m.0 h m.1 (sym m.3)) in true_not_false (is_face_visited w m.0.face) m.2 n.2)

-- what one corner of a face gives
none_is : (o : Option Side) → is_none o ≡ true → o ≡ None
none_is None h = refl
none_is (Some x) h = absurd (let no : false ≡ true = h in cc)

some_is : (o : Option Side) → is_none o ≡ false → o ≢ None
some_is o h e = true_not_false (is_none o) (ap {A = Option Side} is_none e) h

pub start_free : (faces : ℕ) (g : Gluing) (c : Side) → g c ≡ None → start_by faces g c ≡ Some c
start_free faces g c e = cond-true (is_none (g c)) _ _ (ap {A = Option Side} is_none e)

not_none : (o : Option Side) (y : Side) → o ≡ Some y → is_none o ≡ false
not_none o y e = ap {A = Option Side} is_none e

last_in_fan : (faces : ℕ) (g : Gluing) (x : Side) → InFan g x (rightmost g (3 * faces) x)
last_in_fan faces g x = elim (rightmost_tells g (3 * faces) x) [ inl t ↦ right_by-fan g t.0 x _ t.1 | inr p ↦ right_by-fan g (3 * faces) x _ p ]

pub start_closed : (faces : ℕ) (g : Gluing) (c y : Side) → g c ≡ Some y → (MeetsBoundary g c → ⊥) → start_by faces g c ≡ None
start_closed faces g c y e closed = cond-false (is_none (g c)) _ _ (not_none (g c) y e) ∙ cond-false (is_none (g (prev (rightmost g (3 * faces) c)))) _ _
    (false_from_ne_true _ (λ t. closed (record { corner = rightmost g (3 * faces) c; in_fan = last_in_fan faces g c; free = inr (none_is _ t) })))

-- a fan with a boundary has a right end
pub start_open : {faces : ℕ} {g : Gluing} → IsGluing faces g → (c y : Side) → c.face < faces → g c ≡ Some y → MeetsBoundary g c → start_by faces g c ≡ Some (prev (rightmost g (3 * faces) c))
start_open {faces} {g} G c y h e b = cond-false (is_none (g c)) _ _ (not_none (g c) y e) ∙ elim (cases_Bool (is_none (g (prev (rightmost g (3 * faces) c))))) [
  | inl t ↦ cond-true (is_none (g (prev (rightmost g (3 * faces) c)))) _ _ t
  | inr f ↦ absurd (elim (rightmost_tells g (3 * faces) c) [
    | inr p ↦ (let r = ring_has G _ c b.corner (ring_of G c h (long_walk G c (rightmost g (3 * faces) c) h p)) b.in_fan in elim b.free [
      | inl a ↦ (let no : None ≡ Some r.1.0 = sym (ap (option_map next) a) ∙ r.1.1 in cc)
      | inr a ↦ (let no : None ≡ Some r.2.0 = sym (ap (option_map prev) a) ∙ r.2.1 in cc)
    ])
    | inl q ↦ elim (option_tells (g (prev (rightmost g (3 * faces) c)))) [
      | inl n ↦ some_is _ f n
      | inr z ↦ (let no : Some (prev z.0) ≡ None = sym (ap (option_map prev) z.1) ∙ q.2 in cc)
    ]
  ])
]

-- turns to the right
pub right_ends : (g : Gluing) (n : ℕ) (c : Side) → swing_right g c ≡ None → rightmost g n c ≡ c
unfolding rightmost
right_ends g zero c e = refl
right_ends g (suc n) c e = ap (λ (o : Option Side). let x : Side = elim o [ None ↦ c | Some d ↦ rightmost g n d ] in x) e

pub right_goes_on : (g : Gluing) (n : ℕ) (c d : Side) → swing_right g c ≡ Some d → rightmost g (suc n) c ≡ rightmost g n d
unfolding rightmost
right_goes_on g n c d e = ap (λ (o : Option Side). let x : Side = elim o [ None ↦ c | Some d ↦ rightmost g n d ] in x) e

pub right_none : (g : Gluing) (c : Side) → rightmost g zero c ≡ c
unfolding rightmost
right_none g c = refl

-- corners of a face by their numbers
pub corner_at : (f : ℕ) (p : Place) (n : ℕ) → n ≡ 3 * f + place_number p → side_at n ≡ side f p
corner_at f p n e = ap side_at e ∙ side_at-number (side f p)

-- the first corner that gives a start
pub started_first : (faces : ℕ) (g : Gluing) (f : ℕ) (o : Option Side) → o ≡ start_by faces g (side_at (3 * f)) → (c : Side) → o ≡ Some c → o ≡ start_corner faces g f
started_first faces g f o e c s =
    let first_is : start_by faces g (side f first) ≡ Some c = ap (start_by faces g) (sym (corner_at f first (3 * f) (omega arith))) ∙ sym e ∙ s in
    s ∙ sym (ap (λ (a : Option Side). or_else a (or_else (start_by faces g (side f second)) (start_by faces g (side f third)))) first_is)

pub started_second : (faces : ℕ) (g : Gluing) (f : ℕ) (o p : Option Side) → o ≡ start_by faces g (side_at (3 * f)) → o ≡ None → p ≡ start_by faces g (side_at (3 * f + 1)) → (c : Side) → p ≡ Some c → p ≡ start_corner faces g f
started_second faces g f o p e n q c s =
    let first_is : start_by faces g (side f first) ≡ None = ap (start_by faces g) (sym (corner_at f first (3 * f) (omega arith))) ∙ sym e ∙ n in
    let second_is : start_by faces g (side f second) ≡ Some c = ap (start_by faces g) (sym (corner_at f second (3 * f + 1) refl)) ∙ sym q ∙ s in
    s ∙ sym (ap (λ (a : Option Side). or_else a (or_else (start_by faces g (side f second)) (start_by faces g (side f third)))) first_is ∙ ap (λ (a : Option Side). or_else a (start_by faces g (side f third))) second_is)

pub started_third : (faces : ℕ) (g : Gluing) (f : ℕ) (o p q : Option Side) → o ≡ start_by faces g (side_at (3 * f)) → o ≡ None → p ≡ start_by faces g (side_at (3 * f + 1)) → p ≡ None → q ≡ start_by faces g (side_at (3 * f + 2)) → q ≡ start_corner faces g f
started_third faces g f o p q e n d m u =
    let first_is : start_by faces g (side f first) ≡ None = ap (start_by faces g) (sym (corner_at f first (3 * f) (omega arith))) ∙ sym e ∙ n in
    let second_is : start_by faces g (side f second) ≡ None = ap (start_by faces g) (sym (corner_at f second (3 * f + 1) refl)) ∙ sym d ∙ m in
    u ∙ ap (start_by faces g) (corner_at f third (3 * f + 2) refl)
    ∙ sym (ap (λ (a : Option Side). or_else a (or_else (start_by faces g (side f second)) (start_by faces g (side f third)))) first_is ∙ ap (λ (a : Option Side). or_else a (start_by faces g (side f third))) second_is)

-- the number of what a table answers
pub across_number : (o : Option NumberedSide) (v : ℕ) (x : Option Side) → option_map side_of o ≡ x → ((y : Side) → x ≡ Some y → y.face < MAX_FACES) → MatchOption o (v ≡ free_entry) (λ s. v ≡ number (side_of s)) → other_at v ≡ x
across_number None v x e w m = ap other_at m ∙ e
across_number (Some s) v x e w m = ap other_at m ∙ number_told (side_of s) (w (side_of s) (sym e)) ∙ e

-- one entry more
pub one_more : (g : Gluing) (entries new : List ℕ) (n v : ℕ) → length entries ≡ n → new ≡ entries ++ v ∷ [] → other_at v ≡ g (side_at n) → ((k : ℕ) → k < n → other_at (get_or entries k free_entry) ≡ g (side_at k)) →
    (k : ℕ) → k < n + 1 → other_at (get_or new k free_entry) ≡ g (side_at k)
one_more g entries new n v l e q told k h = elim (cases_eq k n) [
  | inl is ↦ ap (λ (xs : List ℕ). other_at (get_or xs k free_entry)) e
      ∙ ap (λ (j : ℕ). other_at (get_or (entries ++ v ∷ []) j free_entry)) (is ∙ sym l) ∙ ap other_at (get_or-append_seam entries v [] free_entry) ∙ q ∙ ap (λ (j : ℕ). g (side_at j)) (sym is)
  | inr ne ↦ ap (λ (xs : List ℕ). other_at (get_or xs k free_entry)) e ∙ ap other_at (get_or_append_left entries (v ∷ []) free_entry k (omega arith)) ∙ told k (omega arith)
]

pub across_small : (o : Option NumberedSide) (x : Option Side) → option_map side_of o ≡ x → ((y : Side) → x ≡ Some y → y.face < MAX_FACES) → IfSome o (λ s. s.face < MAX_FACES)
across_small None x e w = tt
across_small (Some s) x e w = w (side_of s) (sym e)

-- the lists of a table are a surface
pub surface_is : (s : Surface) (faces : ℕ) (g : Gluing) (labels : List ℕ) (count : ℕ) (ends : List Bool) → s.faces ≡ faces → s.faces ≤ MAX_FACES → 3 * faces ≤ length s.across.now → glued_in s.across.now ≡ g → IsGluing faces g →
    IsLabelled faces g labels count ends → s.labels.items ≡ labels → s.ends.items ≡ ends → s.vertices ≡ count → IsTracedSurface s
surface_is s faces g labels count ends f most long e G L l d v = record {
  limit = most;
  long = rw f long;
  vertices = v ∙ sym (s.ends.ok.0 ∙ ap length d ∙ L.each_label);
  gluing = rw (f, e) G;
  labelled = (let n : vec_len s.ends ≡ count = s.ends.ok.0 ∙ ap length d ∙ L.each_label in rw (n, f, e, l, d) L);
}
