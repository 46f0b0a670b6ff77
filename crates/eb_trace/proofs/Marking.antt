-- What marking a face changes, and what entering it notes.
use Rattle.std.proofs.Common.{◌≡◌, ◌≢◌, ℕ, ◌+◌, ◌*◌, ◌/◌, ◌<◌, ◌≤◌, Bool, true, false, ◌==◌, cond, eqb, List, [], ◌∷◌, length, get_or, set, replicate, reverse, All, Some, None, ◌⊎◌, inl, inr, sym, refl, ap, ◌∙◌, subst, arith, eq-eqb, ne_eqb, length-set, get_or-set_other, get_or-set_same, vec_len, Vec}
use Rattle.std.proofs.lemmas.Bool.{cases_Bool, cases_eq, cases_lt, cond-true, cond-false}
use Rattle.std.proofs.lemmas.List.{get_or_past, length-map, length-reverse, length-replicate, get_or-replicate}
use Rattle.std.proofs.lemmas.List.Elements.{All-nil}
use Rattle.corner_table.specs.declared.symbols.Symbol.{Symbol}
use Rattle.corner_table.specs.declared.symbols.Symbol.TheVariants.{C, S, L, R, E}
use Rattle.corner_table.specs.Sides.{Side, Place, first, second, third, side, place_number, side_at, Gluing}
use Rattle.corner_table.specs.Table.{free_entry}
use Rattle.corner_table.specs.Labels.{IsLabelled, label_at}
use Rattle.eb_trace.specs.declared.surface.Surface.{Surface}
use Rattle.eb_trace.specs.declared.marks.Marks.{Marks}
use Rattle.eb_trace.specs.declared.notes.Notes.{Notes}
use Rattle.eb_machine.specs.Shown.{is_split}
use Rattle.eb_trace.specs.Trace.{TracedEntry, is_face_visited, split_of_face, entered_by, nothing_walked}
use Rattle.eb_trace.specs.Stored.{IsTracedSurface, noted_walk, entry_of, AreSized, split_told, split_entry, AreMarkedBy, AreMarksOf, met_after, IsTraceStored}
use Rattle.eb_trace.proofs.Covered.{IsVisiting, not_yet}
use Rattle.eb_trace.proofs.Visited.{entered_visits, inside_visits}

-- a list with one item true
true_stays : (xs : List Bool) (i k : ℕ) → get_or xs k false ≡ true → get_or (set xs i true) k false ≡ true
true_stays xs i k t = elim (cases_eq k i) [
  | inr ne ↦ get_or-set_other xs i k true false ne ∙ t
  | inl is ↦ elim (cases_lt i (length xs)) [
    | inl h ↦ ap (λ (j : ℕ). get_or (set xs i true) j false) is ∙ get_or-set_same xs i true false h
    | inr h ↦ absurd (let past : length xs ≤ k = omega arith in let no : false ≡ true = sym (get_or_past xs k false past) ∙ t in cc)
  ]
]

true_at : (xs : List Bool) (i k : ℕ) → i < length xs → k ≡ i → get_or (set xs i true) k false ≡ true
true_at xs i k h is = ap (λ (j : ℕ). get_or (set xs i true) j false) is ∙ get_or-set_same xs i true false h

true_from : (xs : List Bool) (i k : ℕ) → get_or (set xs i true) k false ≡ true → (k ≡ i) ⊎ (get_or xs k false ≡ true)
true_from xs i k t = elim (cases_eq k i) [ inl is ↦ inl is | inr ne ↦ inr (sym (get_or-set_other xs i k true false ne) ∙ t) ]

-- the label of a corner of a face
label_is : (labels : List ℕ) (f : ℕ) (p : Place) (n : ℕ) → n ≡ 3 * f + place_number p → label_at labels (side f p) ≡ get_or labels n free_entry
label_is labels f p n e = ap (λ (k : ℕ). get_or labels k free_entry) (sym e)

-- one face more is marked
pub marked_more : {faces : ℕ} {g : Gluing} {labels : List ℕ} {count : ℕ} {ends : List Bool} → IsLabelled faces g labels count ends → {visited met : List Bool} {P Q : ℕ → Bool} (f : ℕ) → f < faces → IsVisiting P f Q →
    length visited ≡ faces → length met ≡ count → AreMarkedBy faces labels visited met P → AreMarkedBy faces labels (set visited f true) (met_after labels f met) Q
marked_more {faces} {g} {labels} {count} {ends} K {visited} {met} {P} {Q} f h N long room M = record { visited_is = visited_is; met_has = met_has; met_tells = met_tells }
  where
    visited_is : (k : ℕ) → k < faces → get_or (set visited f true) k false ≡ Q k
    visited_is k l = elim (cases_eq k f) [
      | inl is ↦ true_at visited f k (omega arith) is ∙ sym (ap Q is ∙ N.new)
      | inr ne ↦ get_or-set_other visited f k true false ne ∙ M.visited_is k l ∙ elim (cases_Bool (P k)) [
        | inl t ↦ t ∙ sym (N.old k t)
        | inr u ↦ u ∙ sym (not_yet N k u ne)
      ]
    ]

    a : ℕ
    a = get_or labels (3 * f) free_entry

    b : ℕ
    b = get_or labels (3 * f + 1) free_entry

    d : ℕ
    d = get_or labels (3 * f + 2) free_entry

    label_first : label_at labels (side f first) ≡ get_or labels (3 * f) free_entry
    label_first = label_is labels f first (3 * f) (omega arith)

    label_second : label_at labels (side f second) ≡ get_or labels (3 * f + 1) free_entry
    label_second = label_is labels f second (3 * f + 1) refl

    label_third : label_at labels (side f third) ≡ get_or labels (3 * f + 2) free_entry
    label_third = label_is labels f third (3 * f + 2) refl

    one : List Bool
    one = set met (get_or labels (3 * f) free_entry) true

    two : List Bool
    two = set (set met (get_or labels (3 * f) free_entry) true) (get_or labels (3 * f + 1) free_entry) true

    has_here : (p : Place) → get_or (met_after labels f met) (label_at labels (side f p)) false ≡ true
    has_here first =
        let w = K.bounded (side f first) h in
        true_stays (set (set met (get_or labels (3 * f) free_entry) true) (get_or labels (3 * f + 1) free_entry) true) _ _
        (true_stays (set met (get_or labels (3 * f) free_entry) true) _ _ (true_at met _ _ (let e = label_first in omega arith) label_first))
    has_here second =
        let w = K.bounded (side f second) h in
        true_stays (set (set met (get_or labels (3 * f) free_entry) true) (get_or labels (3 * f + 1) free_entry) true) _ _
        (true_at (set met (get_or labels (3 * f) free_entry) true) _ _ (let e = label_second in let l = length-set met (get_or labels (3 * f) free_entry) true in omega arith) label_second)
    has_here third =
        let w = K.bounded (side f third) h in
        true_at (set (set met (get_or labels (3 * f) free_entry) true) (get_or labels (3 * f + 1) free_entry) true) _ _
        (let e = label_third in
        let l = length-set met (get_or labels (3 * f) free_entry) true in
        let m = length-set (set met (get_or labels (3 * f) free_entry) true) (get_or labels (3 * f + 1) free_entry) true in omega arith) label_third

    met_has : (x : Side) → x.face < faces → Q x.face ≡ true → get_or (met_after labels f met) (label_at labels x) false ≡ true
    met_has x l q = elim (cases_eq x.face f) [
      | inl is ↦ ap (λ (k : ℕ). get_or (met_after labels f met) (label_at labels (side k x.place)) false) is ∙ has_here x.place
      | inr ne ↦ elim (N.only x.face q) [
        | inr is ↦ absurd (ne is)
        | inl v ↦ true_stays (set (set met (get_or labels (3 * f) free_entry) true) (get_or labels (3 * f + 1) free_entry) true) _ _
            (true_stays (set met (get_or labels (3 * f) free_entry) true) _ _ (true_stays met _ _ (M.met_has x l v)))
      ]
    ]

    met_tells : (k : ℕ) → get_or (met_after labels f met) k false ≡ true → (x : Side) × (x.face < faces) × (Q x.face ≡ true) × (label_at labels x ≡ k)
    met_tells k t = elim (true_from (set (set met (get_or labels (3 * f) free_entry) true) (get_or labels (3 * f + 1) free_entry) true) _ k t) [
      | inl is ↦ (side f third, h, N.new, label_third ∙ sym is)
      | inr u ↦ elim (true_from (set met (get_or labels (3 * f) free_entry) true) _ k u) [
        | inl is ↦ (side f second, h, N.new, label_second ∙ sym is)
        | inr v ↦ elim (true_from met _ k v) [
          | inl is ↦ (side f first, h, N.new, label_first ∙ sym is)
          | inr w ↦ (let m = M.met_tells k w in (m.0, m.1, N.old m.0.face m.2, m.3))
        ]
      ]
    ]

-- the number of a face's S
told_is : (k : ℕ) (s : Symbol) → k < free_entry → split_told (split_entry k s) ≡ cond (is_split s) (Some k) None
told_is k S h = cond-false (eqb k free_entry) None (Some k) (ne_eqb k free_entry (let ne : k ≢ 4294967295 = omega arith in ne))
told_is k C h = refl
told_is k L h = refl
told_is k R h = refl
told_is k E h = refl

split_here : (e : TracedEntry) (entries : List TracedEntry) (f : ℕ) → f ≡ e.corner.face → split_of_face (e ∷ entries) f ≡ cond (is_split e.symbol) (Some (length entries)) None
unfolding split_of_face
split_here e entries f is = cond-true (e.corner.face == f) _ _ (eq-eqb e.corner.face f (sym is))

split_there : (e : TracedEntry) (entries : List TracedEntry) (f : ℕ) → f ≢ e.corner.face → split_of_face (e ∷ entries) f ≡ split_of_face entries f
unfolding split_of_face
split_there e entries f ne = cond-false (e.corner.face == f) _ _ (ne_eqb e.corner.face f (λ is. ne (sym is)))

pub splits_more : (splits : List ℕ) (entries : List TracedEntry) (e : TracedEntry) (faces f : ℕ) → length splits ≡ faces → e.corner.face < faces → length entries < free_entry →
    ((x : ℕ) → x < faces → split_told (get_or splits x free_entry) ≡ split_of_face entries x) → f < faces →
    split_told (get_or (set splits e.corner.face (split_entry (length entries) e.symbol)) f free_entry) ≡ split_of_face (e ∷ entries) f
splits_more splits entries e faces f long within few told h = elim (cases_eq f e.corner.face) [
  | inl is ↦ ap split_told (ap (λ (j : ℕ). get_or (set splits e.corner.face (split_entry (length entries) e.symbol)) j free_entry) is ∙ get_or-set_same splits e.corner.face _ free_entry (omega arith))
      ∙ told_is (length entries) e.symbol few ∙ sym (split_here e entries f is)
  | inr ne ↦ ap split_told (get_or-set_other splits e.corner.face f _ free_entry ne) ∙ told f h ∙ sym (split_there e entries f ne)
]

-- how many entries there are
pub entries_length : (n : Notes) → length (noted_walk n).entries ≡ vec_len n.entries
entries_length n = length-map (reverse n.entries.items) entry_of ∙ length-reverse n.entries.items ∙ sym n.entries.ok.0

-- a face that is entered
pub stored_entered : {s : Surface} {m : Marks} {n : Notes} (mm : Marks) (nn : Notes) (corner : ℕ) (symbol : Symbol) → IsTracedSurface s → IsTraceStored s m n → corner < 3 * s.faces → vec_len n.entries < s.faces →
    mm.visited.items ≡ set m.visited.items (corner / 3) true → mm.met.items ≡ met_after s.labels.items (corner / 3) m.met.items → mm.splits.items ≡ set m.splits.items (corner / 3) (split_entry (vec_len n.entries) symbol) → AreSized s mm →
    nn.kept.items ≡ n.kept.items → noted_walk nn ≡ entered_by (noted_walk n) (side_at corner) symbol → IsTraceStored s mm nn
stored_entered {s} {m} {n} mm nn corner symbol V T within few visited met splits sized kept walk = record {
  sized = sized;
  within = (let P : List ℕ → Type 0 = λ xs. All (λ (k : ℕ). k < 3 * s.faces) xs in subst P (sym kept) T.within);
  marks = subst (AreMarksOf s mm) (sym walk) (record {
    marked = (
        let M = marked_more V.labelled (corner / 3) face (entered_visits (noted_walk n) (side_at corner) symbol) (sym m.visited.ok.0 ∙ T.sized.faces) (sym m.met.ok.0 ∙ T.sized.vertices) T.marks.marked in
        let A : List Bool → Type 0 = λ v. AreMarkedBy s.faces s.labels.items v (met_after s.labels.items (corner / 3) m.met.items) (is_face_visited (entered_by (noted_walk n) (side_at corner) symbol)) in
        let B : List Bool → Type 0 = λ v. AreMarkedBy s.faces s.labels.items mm.visited.items v (is_face_visited (entered_by (noted_walk n) (side_at corner) symbol)) in
        subst B (sym met) (subst A (sym visited) M)
        );
    splits = λ f h.
        (let few2 : length (noted_walk n).entries < 4294967295 = (let e = entries_length n in let l = V.limit in omega arith) in
        ap (λ (xs : List ℕ). split_told (get_or xs f free_entry)) (splits ∙ ap (λ (k : ℕ). set m.splits.items (corner / 3) (split_entry k symbol)) (sym (entries_length n)))
        ∙ splits_more m.splits.items (noted_walk n).entries (record { corner = side_at corner; symbol = symbol }) s.faces f (sym m.splits.ok.0 ∙ T.sized.splits) face few2 T.marks.splits h);
  });
}
  where
    face : corner / 3 < s.faces
    face = omega arith

-- an interior start face
pub stored_inside : {s : Surface} {m : Marks} {n : Notes} (mm : Marks) (nn : Notes) (face : ℕ) (bits : List Bool) → IsTracedSurface s → IsTraceStored s m n → face < s.faces →
    mm.visited.items ≡ set m.visited.items face true → mm.met.items ≡ met_after s.labels.items face m.met.items → mm.splits ≡ m.splits → AreSized s mm →
    nn.kept.items ≡ n.kept.items → noted_walk nn ≡ record (noted_walk n) { interior = face ∷ (noted_walk n).interior; bits = bits } → IsTraceStored s mm nn
stored_inside {s} {m} {n} mm nn face bits V T within visited met splits sized kept walk = record {
  sized = sized;
  within = (let P : List ℕ → Type 0 = λ xs. All (λ (k : ℕ). k < 3 * s.faces) xs in subst P (sym kept) T.within);
  marks = subst (AreMarksOf s mm) (sym walk) (record {
    marked = (
        let Q : ℕ → Bool = is_face_visited (record (noted_walk n) { interior = face ∷ (noted_walk n).interior; bits = bits }) in
        let M = marked_more V.labelled face within (inside_visits (noted_walk n) face bits) (sym m.visited.ok.0 ∙ T.sized.faces) (sym m.met.ok.0 ∙ T.sized.vertices) T.marks.marked in
        let A : List Bool → Type 0 = λ v. AreMarkedBy s.faces s.labels.items v (met_after s.labels.items face m.met.items) Q in
        let B : List Bool → Type 0 = λ v. AreMarkedBy s.faces s.labels.items mm.visited.items v Q in
        subst B (sym met) (subst A (sym visited) M)
        );
    splits = λ f h. ap (λ (v : _). split_told (get_or v.items f free_entry)) splits ∙ T.marks.splits f h;
  });
}

-- before the first run
no_split : (f : ℕ) → split_of_face [] f ≡ None
unfolding split_of_face
no_split f = refl

none_true : (n k : ℕ) → get_or (replicate n false) k false ≡ true → ⊥
none_true n k t = elim (cases_lt k n) [
  | inl h ↦ (let no : false ≡ true = sym (get_or-replicate n k false false h) ∙ t in cc)
  | inr h ↦ (let past : length (replicate n false) ≤ k = (let l = length-replicate n false in omega arith) in let no : false ≡ true = sym (get_or_past (replicate n false) k false past) ∙ t in cc)
]

pub stored_nothing : (s : Surface) (m : Marks) (n : Notes) → m.visited.items ≡ replicate s.faces false → m.met.items ≡ replicate (vec_len s.ends) false → m.splits.items ≡ replicate s.faces free_entry →
    noted_walk n ≡ nothing_walked → n.kept.items ≡ [] → IsTraceStored s m n
stored_nothing s m n visited met splits walk kept = record {
  sized = record {
    faces = m.visited.ok.0 ∙ ap length visited ∙ length-replicate s.faces false;
    vertices = m.met.ok.0 ∙ ap length met ∙ length-replicate (vec_len s.ends) false;
    splits = m.splits.ok.0 ∙ ap length splits ∙ length-replicate s.faces free_entry;
  };
  within = (let P : List ℕ → Type 0 = λ xs. All (λ (k : ℕ). k < 3 * s.faces) xs in subst P (sym kept) (All-nil (λ (k : ℕ). k < 3 * s.faces)));
  marks = subst (AreMarksOf s m) (sym walk) (record {
    marked = record {
      visited_is = λ f h. ap (λ (xs : List Bool). get_or xs f false) visited ∙ get_or-replicate s.faces f false false h;
      met_has = λ d h t. absurd (let no : false ≡ true = t in cc);
      met_tells = λ k t. absurd (none_true (vec_len s.ends) k (sym (ap (λ (xs : List Bool). get_or xs k false) met) ∙ t));
    };
    splits = λ f h. ap (λ (xs : List ℕ). split_told (get_or xs f free_entry)) splits ∙ ap split_told (get_or-replicate s.faces f free_entry free_entry h) ∙ sym (no_split f);
  });
}

pub same_items : {A Z : Type 0} {v w : Vec A Z} → v ≡ w → v.items ≡ w.items
same_items {A} {Z} e = ap (λ (x : Vec A Z). x.items) e
