-- Visited faces, the numbers of symbols, and what the tests of a walk say.
use Rattle.std.proofs.Common.{◌≡◌, ◌≢◌, ℕ, zero, suc, ◌<◌, ◌≤◌, Bool, true, false, not, ◌||◌, ◌&&◌, ◌==◌, cond, is_none, List, [], ◌∷◌, ◌++◌, length, Option, Some, None, ◌⊎◌, inl, inr, sym, refl, ap, ◌∙◌, subst, arith, append_assoc, length-append, eq-eqb, ne_eqb, eqb-true}
use Rattle.std.proofs.lemmas.Bool.{cases_Bool, cases_eq, cond-true, cond-false, or_cases, or_left, or_right, or_parts, and_parts, and_from}
use Rattle.std.proofs.lemmas.List.Folds.{list_any-append}
use Rattle.std.specs.List.{list_any}
use Rattle.corner_table.specs.declared.symbols.Symbol.{Symbol}
use Rattle.corner_table.specs.declared.symbols.Symbol.TheVariants.{C, S, L, R, E}
use Rattle.corner_table.specs.Sides.{Side, Place, first, second, third, side, next, prev, Gluing, IsGluing}
use Rattle.corner_table.specs.Fans.{InFan, here, leftwards, rightwards, meets, corners_of}
use Rattle.corner_table.proofs.Places.{option_tells, Some_injective}
use Rattle.corner_table.proofs.Walks.{left-within, right-within}
use Rattle.corner_table.proofs.Meeting.{fan_meets, meets-fan}
use Rattle.eb_trace.specs.Trace.{TracedEntry, TraceWalk, is_face_visited, is_visited_across, is_new_vertex, symbol_for, symbol_at_corner, after_symbol, go_back, take_kept, entered_by, trace_visit, run, events_noted}
use Rattle.eb_trace.proofs.Covered.{IsVisiting, IsFaceOf}

-- whether a face is one of the interior start faces
abbrev pub is_inside : List ℕ → ℕ → Bool
is_inside insides f = list_any (λ (k : ℕ). k == f) insides

abbrev pub has_entry : List TracedEntry → ℕ → Bool
has_entry entries f = list_any (λ (e : TracedEntry). e.corner.face == f) entries

pub entered_visits : (w : TraceWalk) (c : Side) (s : Symbol) → IsVisiting (is_face_visited w) c.face (is_face_visited (entered_by w c s))
entered_visits w c s = record {
  old = λ x h. elim (or_cases (has_entry w.entries x) (is_inside w.interior x) h) [
    | inl b ↦ or_left ((c.face == x) || has_entry w.entries x) (is_inside w.interior x) (or_right (c.face == x) (has_entry w.entries x) b)
    | inr d ↦ or_right ((c.face == x) || has_entry w.entries x) (is_inside w.interior x) d
  ];
  new = or_left ((c.face == c.face) || has_entry w.entries c.face) (is_inside w.interior c.face) (or_left (c.face == c.face) (has_entry w.entries c.face) (eq-eqb c.face c.face refl));
  only = λ x h. elim (or_cases ((c.face == x) || has_entry w.entries x) (is_inside w.interior x) h) [
    | inl b ↦ elim (or_cases (c.face == x) (has_entry w.entries x) b) [
      | inl a ↦ inr (sym (eqb-true c.face x a))
      | inr d ↦ inl (or_left (has_entry w.entries x) (is_inside w.interior x) d)
    ]
    | inr d ↦ inl (or_right (has_entry w.entries x) (is_inside w.interior x) d)
  ];
}

-- an interior start face is visited
pub inside_visits : (w : TraceWalk) (f : ℕ) (bits : List Bool) → IsVisiting (is_face_visited w) f (is_face_visited (record w { interior = f ∷ w.interior; bits = bits }))
inside_visits w f bits = record {
  old = λ x h. elim (or_cases (has_entry w.entries x) (is_inside w.interior x) h) [
    | inl b ↦ or_left (has_entry w.entries x) ((f == x) || is_inside w.interior x) b
    | inr d ↦ or_right (has_entry w.entries x) ((f == x) || is_inside w.interior x) (or_right (f == x) (is_inside w.interior x) d)
  ];
  new = or_right (has_entry w.entries f) ((f == f) || is_inside w.interior f) (or_left (f == f) (is_inside w.interior f) (eq-eqb f f refl));
  only = λ x h. elim (or_cases (has_entry w.entries x) ((f == x) || is_inside w.interior x) h) [
    | inl b ↦ inl (or_left (has_entry w.entries x) (is_inside w.interior x) b)
    | inr d ↦ elim (or_cases (f == x) (is_inside w.interior x) d) [
      | inl a ↦ inr (sym (eqb-true f x a))
      | inr e ↦ inl (or_right (has_entry w.entries x) (is_inside w.interior x) e)
    ]
  ];
}

-- the entry of symbol number k, counted in the order of the walk
abbrev pub no_entry : TracedEntry
no_entry = record { corner = side 0 first; symbol = E }

unfoldable pub entry_at : List TracedEntry → ℕ → TracedEntry
entry_at [] k = no_entry
entry_at (e ∷ entries) k = cond (k == length entries) e (entry_at entries k)

pub at_top : (e : TracedEntry) (entries : List TracedEntry) → entry_at (e ∷ entries) (length entries) ≡ e
unfolding entry_at
at_top e entries = cond-true (length entries == length entries) _ _ (eq-eqb (length entries) (length entries) refl)

pub at_rest : (e : TracedEntry) (entries : List TracedEntry) (k : ℕ) → k ≢ length entries → entry_at (e ∷ entries) k ≡ entry_at entries k
unfolding entry_at
at_rest e entries k n = cond-false (k == length entries) _ _ (ne_eqb k (length entries) n)

-- a walk that goes on keeps its entries
abbrev pub Extends : List TracedEntry → List TracedEntry → Type 0
Extends all entries = (more : List TracedEntry) × (all ≡ more ++ entries)

pub extends_rest : (all : List TracedEntry) (e : TracedEntry) (entries : List TracedEntry) → Extends all (e ∷ entries) → Extends all entries
extends_rest all e entries x = (x.0 ++ (e ∷ []), x.1 ∙ sym (append_assoc x.0 (e ∷ []) entries))

pub extends_trans : (all some entries : List TracedEntry) → Extends all some → Extends some entries → Extends all entries
extends_trans all some entries x y = (x.0 ++ y.0, x.1 ∙ ap (λ (l : List TracedEntry). x.0 ++ l) y.1 ∙ sym (append_assoc x.0 y.0 entries))

more_at : (more entries : List TracedEntry) (k : ℕ) → k < length entries → entry_at (more ++ entries) k ≡ entry_at entries k
more_at [] entries k h = refl
more_at (e ∷ more) entries k h =
    let l = length-append more entries in
    at_rest e (more ++ entries) k (λ q. (omega arith)) ∙ more_at more entries k h

pub extends_at : (all entries : List TracedEntry) → Extends all entries → (k : ℕ) → k < length entries → entry_at all k ≡ entry_at entries k
extends_at all entries x k h = ap (λ (l : List TracedEntry). entry_at l k) x.1 ∙ more_at x.0 entries k h

pub extends_top : (all : List TracedEntry) (e : TracedEntry) (entries : List TracedEntry) → Extends all (e ∷ entries) → entry_at all (length entries) ≡ e
extends_top all e entries x = extends_at all (e ∷ entries) x (length entries) (omega arith) ∙ at_top e entries

pub extends_length : (all entries : List TracedEntry) → Extends all entries → length entries ≤ length all
extends_length all entries x = (let l = length-append x.0 entries in let e : length all ≡ length (x.0 ++ entries) = ap length x.1 in omega arith)

-- what is visited has a symbol or is an interior start face
has_entry_tells : (entries : List TracedEntry) (f : ℕ) → has_entry entries f ≡ true → (j : ℕ) × (j < length entries) × ((entry_at entries j).corner.face ≡ f)
has_entry_tells [] f h = absurd (let no : false ≡ true = h in cc)
has_entry_tells (e ∷ entries) f h = elim (or_cases (e.corner.face == f) (has_entry entries f) h) [
  | inl a ↦ (length entries, omega arith, ap (λ (x : TracedEntry). x.corner.face) (at_top e entries) ∙ eqb-true e.corner.face f a)
  | inr b ↦ (
      let t = has_entry_tells entries f b in
      let l = t.1 in
      (t.0, omega arith, ap (λ (x : TracedEntry). x.corner.face) (at_rest e entries t.0 (λ q. (omega arith))) ∙ t.2))
]

entry_has : (entries : List TracedEntry) (j : ℕ) → j < length entries → has_entry entries (entry_at entries j).corner.face ≡ true
entry_has [] j h = absurd (let no : j < 0 = h in omega arith)
entry_has (e ∷ entries) j h = elim (cases_eq j (length entries)) [
  | inl q ↦ (
      let face : (entry_at (e ∷ entries) j).corner.face ≡ e.corner.face = ap (λ (k : ℕ). (entry_at (e ∷ entries) k).corner.face) q ∙ ap (λ (x : TracedEntry). x.corner.face) (at_top e entries) in
      or_left (e.corner.face == (entry_at (e ∷ entries) j).corner.face) _ (eq-eqb _ _ (sym face)))
  | inr n ↦ (
      let l : j < suc (length entries) = h in
      let same : entry_at (e ∷ entries) j ≡ entry_at entries j = at_rest e entries j n in
      or_right (e.corner.face == (entry_at (e ∷ entries) j).corner.face) _ (ap (λ (x : TracedEntry). has_entry entries x.corner.face) same ∙ entry_has entries j (omega arith)))
]

pub visited_tells : (all : List TracedEntry) (w : TraceWalk) → Extends all w.entries → (f : ℕ) → is_face_visited w f ≡ true → ((j : ℕ) × (j < length w.entries) × ((entry_at all j).corner.face ≡ f)) ⊎ (is_inside w.interior f ≡ true)
visited_tells all w x f h = elim (or_cases (has_entry w.entries f) (is_inside w.interior f) h) [
  | inl a ↦ (let t = has_entry_tells w.entries f a in inl (t.0, t.1, ap (λ (e : TracedEntry). e.corner.face) (extends_at all w.entries x t.0 t.1) ∙ t.2))
  | inr b ↦ inr b
]

pub number_visited : (all : List TracedEntry) (w : TraceWalk) → Extends all w.entries → (j : ℕ) → j < length w.entries → is_face_visited w (entry_at all j).corner.face ≡ true
number_visited all w x j h =
    ap (λ (e : TracedEntry). is_face_visited w e.corner.face) (extends_at all w.entries x j h)
    ∙ or_left (has_entry w.entries (entry_at w.entries j).corner.face) _ (entry_has w.entries j h)

pub inside_visited : (w : TraceWalk) (f : ℕ) → is_inside w.interior f ≡ true → is_face_visited w f ≡ true
inside_visited w f h = or_right (has_entry w.entries f) (is_inside w.interior f) h

pub not_inside : (w : TraceWalk) (f : ℕ) → is_face_visited w f ≡ false → is_inside w.interior f ≡ false
not_inside w f h = (or_parts (has_entry w.entries f) (is_inside w.interior f) h).1

-- what is closed across a side
pub closed_tells : (w : TraceWalk) (o : Option Side) → is_visited_across w o ≡ true → (y : Side) → o ≡ Some y → is_face_visited w y.face ≡ true
closed_tells w o h y e = sym (ap (is_visited_across w) e) ∙ h

pub open_tells : (w : TraceWalk) (o : Option Side) → is_visited_across w o ≡ false → (y : Side) × (o ≡ Some y) × (is_face_visited w y.face ≡ false)
open_tells w None h = absurd (let no : true ≡ false = h in cc)
open_tells w (Some y) h = (y, refl, h)

-- what each symbol says of the tests
abbrev pub SymbolTells : Symbol → Bool → Bool → Bool → Type 0
SymbolTells C new right left = new ≡ true
SymbolTells S new right left = (new ≡ false) × (right ≡ false) × (left ≡ false)
SymbolTells L new right left = (new ≡ false) × (right ≡ false) × (left ≡ true)
SymbolTells R new right left = (new ≡ false) × (right ≡ true) × (left ≡ false)
SymbolTells E new right left = (new ≡ false) × (right ≡ true) × (left ≡ true)

pub symbol_tells : (new right left : Bool) → SymbolTells (symbol_for new right left) new right left
symbol_tells true right left = refl
symbol_tells false false false = (refl, refl, refl)
symbol_tells false false true = (refl, refl, refl)
symbol_tells false true false = (refl, refl, refl)
symbol_tells false true true = (refl, refl, refl)

-- all corners of the faces are listed
pub any_corner : (test : Side → Bool) (faces : ℕ) (d : Side) → d.face < faces → test d ≡ true → list_any test (corners_of faces) ≡ true
unfolding corners_of
any_corner test zero d h e = absurd (omega arith)
any_corner test (suc f) d h e =
    list_any-append test (corners_of f) (side f first ∷ side f second ∷ side f third ∷ [])
    ∙ elim (cases_eq d.face f) [
      | inr n ↦ or_left (list_any test (corners_of f)) (list_any test (side f first ∷ side f second ∷ side f third ∷ [])) (any_corner test f d (omega arith) e)
      | inl q ↦ or_right (list_any test (corners_of f)) (list_any test (side f first ∷ side f second ∷ side f third ∷ [])) (go d.place (ap test (ap (λ (k : ℕ). side k d.place) (sym q)) ∙ e))
    ]
  where
    go : (p : Place) → test (side f p) ≡ true → list_any test (side f first ∷ side f second ∷ side f third ∷ []) ≡ true
    go first t = or_left (test (side f first)) _ t
    go second t = or_right (test (side f first)) _ (or_left (test (side f second)) _ t)
    go third t = or_right (test (side f first)) _ (or_right (test (side f second)) _ (or_left (test (side f third)) _ t))

pub any_tells : {A : Type 0} (test : A → Bool) (xs : List A) → list_any test xs ≡ true → (x : A) × (test x ≡ true)
any_tells test [] h = absurd (let no : false ≡ true = h in cc)
any_tells test (x ∷ xs) h = elim (or_cases (test x) (list_any test xs) h) [ inl a ↦ (x, a) | inr b ↦ any_tells test xs b ]

not_true : (b : Bool) → not b ≡ true → b ≡ false
not_true true h = absurd (let no : false ≡ true = h in cc)
not_true false h = refl

not_false : (b : Bool) → not b ≡ false → b ≡ true
not_false true h = refl
not_false false h = absurd (let no : true ≡ false = h in cc)

pub fan_within : {faces : ℕ} {g : Gluing} → IsGluing faces g → {c d : Side} → InFan g c d → c.face < faces → d.face < faces
fan_within G here h = h
fan_within G (leftwards {c = c} {d = d} s p) h = fan_within G p (left-within G c d s)
fan_within G (rightwards {c = c} {d = d} s p) h = fan_within G p (right-within G c d s)

none_is : (o : Option Side) → is_none o ≡ true → o ≡ None
none_is None h = refl
none_is (Some x) h = absurd (let no : false ≡ true = h in cc)

-- a new vertex: its corners have both sides glued, and are of unvisited faces
pub new_tells : {faces : ℕ} {g : Gluing} → IsGluing faces g → (w : TraceWalk) (c d : Side) → c.face < faces → is_new_vertex faces g w c ≡ true → InFan g c d → (g (next d) ≢ None) × (g (prev d) ≢ None) × (is_face_visited w d.face ≡ false)
new_tells {faces} {g} G w c d h new p = (
  λ e. wrong (or_left ((is_none (g (next d))) || (is_none (g (prev d)))) _ (or_left (is_none (g (next d))) _ (ap {A = Option Side} is_none e))),
  λ e. wrong (or_left ((is_none (g (next d))) || (is_none (g (prev d)))) _ (or_right (is_none (g (next d))) _ (ap {A = Option Side} is_none e))),
  elim (cases_Bool (is_face_visited w d.face)) [ inr f ↦ f | inl t ↦ absurd (wrong (or_right ((is_none (g (next d))) || (is_none (g (prev d)))) _ t)) ],
)
  where
    wrong : ((is_none (g (next d)) || is_none (g (prev d))) || is_face_visited w d.face) ≡ true → ⊥
    wrong t =
        let all = not_true _ new in
        let found = any_corner (λ (d : Side). meets faces g c d && (is_none (g (next d)) || is_none (g (prev d)) || is_face_visited w d.face)) faces d (fan_within G p h)
        (and_from (meets faces g c d) _ (fan_meets G c d h (fan_within G p h) p) t) in
        (let no : false ≡ true = sym all ∙ found in cc)

-- one that isn't new has a free side, or a visited face
pub old_tells : (faces : ℕ) (g : Gluing) (w : TraceWalk) (c : Side) → is_new_vertex faces g w c ≡ false → (d : Side) × InFan g c d × ((g (next d) ≡ None) ⊎ ((g (prev d) ≡ None) ⊎ (is_face_visited w d.face ≡ true)))
old_tells faces g w c old =
    let t = any_tells (λ (d : Side). meets faces g c d && (is_none (g (next d)) || is_none (g (prev d)) || is_face_visited w d.face)) (corners_of faces) (not_false _ old) in
    let p = and_parts (meets faces g c t.0) _ t.1 in (
      t.0,
      meets-fan faces g c t.0 p.0,
      elim (or_cases ((is_none (g (next t.0))) || (is_none (g (prev t.0)))) _ p.1) [
        | inl a ↦ elim (or_cases (is_none (g (next t.0))) _ a) [ inl b ↦ inl (none_is _ b) | inr b ↦ inr (inl (none_is _ b)) ]
        | inr v ↦ inr (inr v)
      ],
    )

-- kept corners that are passed over are of visited faces
pub take_none : (w : TraceWalk) (kept : List Side) → take_kept w kept ≡ None → (f : ℕ) → IsFaceOf f kept → is_face_visited w f ≡ true
unfolding take_kept
take_none w [] e f q = absurd q
take_none w (c ∷ kept) e f q = elim (cases_Bool (is_face_visited w c.face)) [
  | inr u ↦ absurd (let no : Some (c, kept) ≡ None = sym (cond-false (is_face_visited w c.face) _ _ u) ∙ e in cc)
  | inl v ↦ elim q [
    | inl z ↦ ap (is_face_visited w) (sym z) ∙ v
    | inr z ↦ take_none w kept (sym (cond-true (is_face_visited w c.face) _ _ v) ∙ e) f z
  ]
]

-- what is taken is of an unvisited face
pub take_some : (w : TraceWalk) (kept : List Side) (d : Side) (rest : List Side) → take_kept w kept ≡ Some (d, rest) → (is_face_visited w d.face ≡ false) × ((f : ℕ) → IsFaceOf f kept → IsFaceOf f (d ∷ rest) ⊎ (is_face_visited w f ≡ true))
unfolding take_kept
take_some w [] d rest e = absurd (let no : None ≡ Some (d, rest) = e in cc)
take_some w (c ∷ kept) d rest e = elim (cases_Bool (is_face_visited w c.face)) [
  | inr u ↦ (
      let q : (c, kept) ≡ (d, rest) = Some_injective _ _ (sym (cond-false (is_face_visited w c.face) _ _ u) ∙ e) in
      (ap (λ (p : Side × List Side). is_face_visited w p.0.face) (sym q) ∙ u, λ f h. inl (subst (λ (p : Side × List Side). IsFaceOf f (p.0 ∷ p.1)) q h)))
  | inl v ↦ (
      let t = take_some w kept d rest (sym (cond-true (is_face_visited w c.face) _ _ v) ∙ e) in
      (t.0, λ f h. elim h [ inl z ↦ inr (ap (is_face_visited w) (sym z) ∙ v) | inr z ↦ t.1 f z ]))
]

pub same_visited : (v w : TraceWalk) → v.entries ≡ w.entries → v.interior ≡ w.interior → (f : ℕ) → is_face_visited v f ≡ is_face_visited w f
same_visited v w e i f = ap (λ (l : List TracedEntry). has_entry l f || is_inside v.interior f) e ∙ ap (λ (l : List ℕ). has_entry w.entries f || is_inside l f) i

-- what one symbol leaves as it was
back_entries : (w : TraceWalk) (o : Option (Side × List Side)) → (go_back w o).0.entries ≡ w.entries
back_entries w None = refl
back_entries w (Some c) = refl

back_interior : (w : TraceWalk) (o : Option (Side × List Side)) → (go_back w o).0.interior ≡ w.interior
back_interior w None = refl
back_interior w (Some c) = refl

pub after_entries : (g : Gluing) (w : TraceWalk) (c : Side) (s : Symbol) → (after_symbol g w c s).0.entries ≡ record { corner = c; symbol = s } ∷ w.entries
after_entries g w c C = refl
after_entries g w c S = refl
after_entries g w c L = refl
after_entries g w c R = refl
after_entries g w c E = back_entries (record (entered_by w c E) { events = events_noted g w.entries c ++ w.events }) (take_kept (entered_by w c E) w.kept)

back_bits : (w : TraceWalk) (o : Option (Side × List Side)) → (go_back w o).0.bits ≡ w.bits
back_bits w None = refl
back_bits w (Some c) = refl

pub after_bits : (g : Gluing) (w : TraceWalk) (c : Side) (s : Symbol) → (after_symbol g w c s).0.bits ≡ w.bits
after_bits g w c C = refl
after_bits g w c S = refl
after_bits g w c L = refl
after_bits g w c R = refl
after_bits g w c E = back_bits (record (entered_by w c E) { events = events_noted g w.entries c ++ w.events }) (take_kept (entered_by w c E) w.kept)

pub after_interior : (g : Gluing) (w : TraceWalk) (c : Side) (s : Symbol) → (after_symbol g w c s).0.interior ≡ w.interior
after_interior g w c C = refl
after_interior g w c S = refl
after_interior g w c L = refl
after_interior g w c R = refl
after_interior g w c E = back_interior (record (entered_by w c E) { events = events_noted g w.entries c ++ w.events }) (take_kept (entered_by w c E) w.kept)

-- one turn of a run
pub run_none : (faces : ℕ) (g : Gluing) (w : TraceWalk) (c : Side) → run faces g zero w c ≡ w
unfolding run
run_none faces g w c = refl

pub run_ends : (faces : ℕ) (g : Gluing) (turns : ℕ) (w : TraceWalk) (c : Side) → (trace_visit faces g w c).1 ≡ None → run faces g (suc turns) w c ≡ (trace_visit faces g w c).0
unfolding run
run_ends faces g turns w c e = ap (λ (o : Option Side). let x : TraceWalk = elim o [ None ↦ (trace_visit faces g w c).0 | Some d ↦ run faces g turns (trace_visit faces g w c).0 d ] in x) e

pub run_goes_on : (faces : ℕ) (g : Gluing) (turns : ℕ) (w : TraceWalk) (c d : Side) → (trace_visit faces g w c).1 ≡ Some d → run faces g (suc turns) w c ≡ run faces g turns (trace_visit faces g w c).0 d
unfolding run
run_goes_on faces g turns w c d e = ap (λ (o : Option Side). let x : TraceWalk = elim o [ None ↦ (trace_visit faces g w c).0 | Some d ↦ run faces g turns (trace_visit faces g w c).0 d ] in x) e

-- a run keeps the entries before it, and the interior start faces
pub run_extends : (faces : ℕ) (g : Gluing) (turns : ℕ) (w : TraceWalk) (c : Side) → Extends (run faces g turns w c).entries w.entries
run_extends faces g zero w c = ([], ap (λ (x : TraceWalk). x.entries) (run_none faces g w c))
run_extends faces g (suc turns) w c =
    let e : TracedEntry = record { corner = c; symbol = symbol_at_corner faces g w c } in
    let at = after_entries g w c (symbol_at_corner faces g w c) in
    elim (option_tells (trace_visit faces g w c).1) [
      | inl n ↦ (e ∷ [], ap (λ (x : TraceWalk). x.entries) (run_ends faces g turns w c n) ∙ at)
      | inr d ↦ (
          let t = run_extends faces g turns (trace_visit faces g w c).0 d.0 in
          extends_rest (run faces g (suc turns) w c).entries e w.entries
          (t.0, ap (λ (x : TraceWalk). x.entries) (run_goes_on faces g turns w c d.0 d.1) ∙ t.1 ∙ ap (λ (l : List TracedEntry). t.0 ++ l) at))
    ]

pub run_interior : (faces : ℕ) (g : Gluing) (turns : ℕ) (w : TraceWalk) (c : Side) → (run faces g turns w c).interior ≡ w.interior
run_interior faces g zero w c = ap (λ (x : TraceWalk). x.interior) (run_none faces g w c)
run_interior faces g (suc turns) w c =
    let at = after_interior g w c (symbol_at_corner faces g w c) in
    elim (option_tells (trace_visit faces g w c).1) [
      | inl n ↦ ap (λ (x : TraceWalk). x.interior) (run_ends faces g turns w c n) ∙ at
      | inr d ↦ ap (λ (x : TraceWalk). x.interior) (run_goes_on faces g turns w c d.0 d.1) ∙ run_interior faces g turns (trace_visit faces g w c).0 d.0 ∙ at
    ]

pub run_bits : (faces : ℕ) (g : Gluing) (turns : ℕ) (w : TraceWalk) (c : Side) → (run faces g turns w c).bits ≡ w.bits
run_bits faces g zero w c = ap (λ (x : TraceWalk). x.bits) (run_none faces g w c)
run_bits faces g (suc turns) w c =
    let at = after_bits g w c (symbol_at_corner faces g w c) in
    elim (option_tells (trace_visit faces g w c).1) [
      | inl n ↦ ap (λ (x : TraceWalk). x.bits) (run_ends faces g turns w c n) ∙ at
      | inr d ↦ ap (λ (x : TraceWalk). x.bits) (run_goes_on faces g turns w c d.0 d.1) ∙ run_bits faces g turns (trace_visit faces g w c).0 d.0 ∙ at
    ]
