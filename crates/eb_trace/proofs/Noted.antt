-- The events that the walk notes are those that the decoded table determines.
use Rattle.std.proofs.Common.{◌≡◌, ◌≢◌, ℕ, zero, suc, ◌+◌, ◌-◌, ◌<◌, Bool, true, false, ◌&&◌, ◌==◌, cond, nat_lt, List, [], ◌∷◌, ◌++◌, length, Option, Some, None, inl, inr, sym, refl, ap, ◌∙◌, subst, arith, append_assoc, eq-eqb, ne_eqb, lt-ltb, le-ltb}
use Rattle.std.proofs.lemmas.Bool.{cases_Bool, cases_eq, cases_lt, cond-true, cond-false}
use Rattle.corner_table.specs.declared.symbols.Symbol.{Symbol}
use Rattle.corner_table.specs.declared.symbols.Symbol.TheVariants.{C, S, L, R, E}
use Rattle.corner_table.specs.declared.symbols.Event.{Event}
use Rattle.corner_table.specs.Sides.{Side, first, second, third, side, next, prev, Gluing, IsGluing}
use Rattle.corner_table.specs.Fans.{HasThreeFans}
use Rattle.corner_table.specs.Carried.{carry, IsCarried}
use Rattle.corner_table.proofs.Places.{option_tells}
use Rattle.corner_table.proofs.Prefixing.{gap}
use Rattle.eb_machine.specs.Shown.{is_split}
use Rattle.eb_trace.specs.Readable.{IsNewTip, IsSplit, Says}
use Rattle.eb_trace.specs.Front.{split_met, event_told, events_of_face, events_left}
use Rattle.eb_trace.specs.Rebuilt.{word_symbol}
use Rattle.eb_trace.specs.Trace.{TracedEntry, TraceWalk, trace, order_of, word_of, split_of_face, split_across, event_noted, events_noted, after_symbol, go_back, take_kept, entered_by, trace_visit, run, symbol_at_corner, is_face_visited, start_corner, begun, begun_inside, traced_runs}
use Rattle.eb_trace.proofs.Reserved.{three_first, three_second}
use Rattle.eb_trace.proofs.Events.{left_zero, left_suc, tells_none}
use Rattle.eb_trace.proofs.Visited.{is_inside, entry_at, at_top, at_rest, Extends, extends_rest, extends_top, extends_at, extends_length, run_none, run_ends, run_goes_on}
use Rattle.eb_trace.proofs.Moments.{true_not_false}
use Rattle.eb_trace.proofs.Walked.{entries_of, insides_of, walked_none, walked_more}
use Rattle.eb_trace.proofs.Order.{Numbered, of_symbol, of_inside, inside_is, second_is, third_is}
use Rattle.eb_trace.proofs.Decoded.{cor, sym_of, H, apart_of, outside_of, down, up, number_of, word_is, readable}

-- the events of one symbol, and of all
abbrev pub entry_events : Gluing → Symbol → List TracedEntry → Side → List Event
entry_events g C entries c = []
entry_events g S entries c = []
entry_events g L entries c = events_noted g entries c
entry_events g R entries c = events_noted g entries c
entry_events g E entries c = events_noted g entries c

pub all_events : Gluing → List TracedEntry → List Event
all_events g [] = []
all_events g (e ∷ entries) = entry_events g e.symbol entries e.corner ++ all_events g entries

events_none : (g : Gluing) → all_events g [] ≡ []
unfolding all_events
events_none g = refl

events_more : (g : Gluing) (e : TracedEntry) (entries : List TracedEntry) → all_events g (e ∷ entries) ≡ entry_events g e.symbol entries e.corner ++ all_events g entries
unfolding all_events
events_more g e entries = refl

abbrev NotesAll : Gluing → TraceWalk → Type 0
NotesAll g w = w.events ≡ all_events g w.entries

back_notes : (g : Gluing) (w : TraceWalk) (o : Option (Side × List Side)) → NotesAll g w → NotesAll g (go_back w o).0
back_notes g w None h = h
back_notes g w (Some c) h = h

visit_notes : (g : Gluing) (w : TraceWalk) (c : Side) (s : Symbol) → NotesAll g w → NotesAll g (after_symbol g w c s).0
unfolding all_events
visit_notes g w c C h = h
visit_notes g w c S h = h
visit_notes g w c L h = ap (λ (l : List Event). events_noted g w.entries c ++ l) h
visit_notes g w c R h = ap (λ (l : List Event). events_noted g w.entries c ++ l) h
visit_notes g w c E h = back_notes g (record (entered_by w c E) { events = events_noted g w.entries c ++ w.events }) (take_kept (entered_by w c E) w.kept) (ap (λ (l : List Event). events_noted g w.entries c ++ l) h)

run_notes : (faces : ℕ) (g : Gluing) (turns : ℕ) (w : TraceWalk) (c : Side) → NotesAll g w → NotesAll g (run faces g turns w c)
run_notes faces g zero w c h = subst (NotesAll g) (sym (run_none faces g w c)) h
run_notes faces g (suc turns) w c h =
    let noted = visit_notes g w c (symbol_at_corner faces g w c) h in
    elim (option_tells (trace_visit faces g w c).1) [
      | inl n ↦ subst (NotesAll g) (sym (run_ends faces g turns w c n)) noted
      | inr d ↦ subst (NotesAll g) (sym (run_goes_on faces g turns w c d.0 d.1)) (run_notes faces g turns (trace_visit faces g w c).0 d.0 noted)
    ]

begun_notes : (faces : ℕ) (g : Gluing) (f : ℕ) (w : TraceWalk) (o : Option Side) → NotesAll g w → NotesAll g (begun faces g f w o)
begun_notes faces g f w (Some c) h = run_notes faces g faces (record w { bits = false ∷ w.bits }) c h
begun_notes faces g f w None h = elim (option_tells (g (side f second))) [
  | inl n ↦ subst (λ (o : Option Side). NotesAll g (begun_inside faces g f w o)) (sym n) h
  | inr c ↦ subst (λ (o : Option Side). NotesAll g (begun_inside faces g f w o)) (sym c.1) (run_notes faces g faces (record w { interior = f ∷ w.interior; bits = true ∷ w.bits }) c.0 h)
]

walked_notes : (faces : ℕ) (g : Gluing) (f : ℕ) → NotesAll g (traced_runs faces g f)
walked_notes faces g zero = subst (NotesAll g) (sym (walked_none faces g)) (sym (events_none g))
walked_notes faces g (suc f) = subst (NotesAll g) (sym (walked_more faces g f)) (elim (cases_Bool (is_face_visited (traced_runs faces g f) f)) [
  | inl t ↦ subst (NotesAll g) (sym (cond-true (is_face_visited (traced_runs faces g f) f) _ _ t)) (walked_notes faces g f)
  | inr t ↦ subst (NotesAll g) (sym (cond-false (is_face_visited (traced_runs faces g f) f) _ _ t)) (begun_notes faces g f (traced_runs faces g f) (start_corner faces g f) (walked_notes faces g f))
])

-- the S of a face among some entries
split_miss : (entries : List TracedEntry) (f : ℕ) → ((j : ℕ) → j < length entries → (entry_at entries j).corner.face ≢ f) → split_of_face entries f ≡ None
unfolding split_of_face
split_miss [] f h = refl
split_miss (e ∷ entries) f h =
    cond-false (e.corner.face == f) _ _ (ne_eqb e.corner.face f (λ q. h (length entries) (omega arith) (ap (λ (x : TracedEntry). x.corner.face) (at_top e entries) ∙ q)))
    ∙ split_miss entries f (λ j l q. h j (omega arith) (ap (λ (x : TracedEntry). x.corner.face) (at_rest e entries j (λ r. (omega arith))) ∙ q))

split_hit : (entries : List TracedEntry) (f j : ℕ) → j < length entries → (entry_at entries j).corner.face ≡ f → ((i : ℕ) → i < length entries → (entry_at entries i).corner.face ≡ f → i ≡ j) →
    split_of_face entries f ≡ cond (is_split (entry_at entries j).symbol) (Some j) None
unfolding split_of_face
split_hit [] f j h e only = absurd (let l : j < 0 = h in omega arith)
split_hit (e ∷ entries) f j h q only = elim (cases_eq j (length entries)) [
  | inl s ↦ (
      let top : entry_at (e ∷ entries) j ≡ e = ap (entry_at (e ∷ entries)) s ∙ at_top e entries in
      cond-true (e.corner.face == f) _ _ (eq-eqb e.corner.face f (sym (ap (λ (x : TracedEntry). x.corner.face) top) ∙ q))
      ∙ ap (λ (k : ℕ). cond (is_split e.symbol) (Some k) None) (sym s)
      ∙ ap (λ (x : TracedEntry). cond (is_split x.symbol) (Some j) None) (sym top))
  | inr s ↦ (
      let l : j < suc (length entries) = h in
      let same : entry_at (e ∷ entries) j ≡ entry_at entries j = at_rest e entries j s in
      cond-false (e.corner.face == f) _ _ (ne_eqb e.corner.face f (λ r. s (sym (only (length entries) (omega arith) (ap (λ (x : TracedEntry). x.corner.face) (at_top e entries) ∙ r)))))
      ∙ split_hit entries f j (omega arith) (sym (ap (λ (x : TracedEntry). x.corner.face) same) ∙ q) (λ i u v. only i (omega arith) (ap (λ (x : TracedEntry). x.corner.face) (at_rest e entries i (λ r. (omega arith))) ∙ v))
      ∙ ap (λ (x : TracedEntry). cond (is_split x.symbol) (Some j) None) (sym same))
]

three_last : (a b c : Bool) → a ≡ true → b ≡ true → (a && b && c) ≡ c
three_last true true true e f = refl
three_last true true false e f = refl
three_last false b c e f = absurd (cc)
three_last true false c e f = absurd (cc)

module _ (faces : ℕ) (g : Gluing) (G : IsGluing faces g) (F : HasThreeFans faces g) (h : Gluing) (K : IsCarried faces g (order_of (trace faces g)) h) where
  abbrev count : ℕ
  count = length (entries_of faces g)

  abbrev word : ℕ → Symbol
  word i = word_symbol (word_of (trace faces g)) i

  abbrev noted_at : List TracedEntry → Bool → Side → List Event
  noted_at entries right x = event_noted (length entries) right (split_across entries (g (carry (order_of (trace faces g)) x)))

  abbrev told_at : ℕ → Bool → Side → List Event
  told_at i right x = event_told count i right (split_met count word i (h x))

  no_split : (i : ℕ) (y : Side) → ((nat_lt i y.face && nat_lt y.face count && is_split (word y.face)) ≡ false) → (entries : List TracedEntry) (right : Bool) (f : ℕ) → split_of_face entries f ≡ None →
      event_noted (length entries) right (split_of_face entries f) ≡ event_told count i right (split_met count word i (Some y))
  no_split i y t entries right f n =
      ap (event_noted (length entries) right) n ∙ sym (ap (event_told count i right) (cond-false (nat_lt i y.face && nat_lt y.face count && is_split (word y.face)) (Some y.face) None t))

  side_told : (i : ℕ) (entries : List TracedEntry) → Extends (entries_of faces g) entries → suc (i + length entries) ≡ count → (right : Bool) (x : Side) → x.face < faces → noted_at entries right x ≡ told_at i right x
  side_told i entries E2 e right x l = elim (option_tells (h x)) [
    | inl n ↦ (elim (option_tells (g (carry (order_of (trace faces g)) x))) [
      | inl o ↦ ap (λ (s : Option Side). event_noted (length entries) right (split_across entries s)) o ∙ sym (ap (λ (s : Option Side). event_told count i right (split_met count word i s)) n)
      | inr z ↦ absurd (let u = up faces g G F h K x z.0 l z.1 in let no : None ≡ Some u.0 = sym n ∙ u.3 in cc)
    ])
    | inr y ↦ ap (λ (s : Option Side). event_noted (length entries) right (split_across entries s)) (down faces g G F h K x y.0 y.1)
        ∙ go y.0 (number_of faces g G F h K y.0.face (K.within x y.0 y.1).1)
        ∙ sym (ap (λ (s : Option Side). event_told count i right (split_met count word i s)) y.1)
  ]
    where
      go : (y : Side) → Numbered faces g G F y.face → event_noted (length entries) right (split_of_face entries (carry (order_of (trace faces g)) y).face) ≡ event_told count i right (split_met count word i (Some y))
      go y (of_inside q r s c d) = no_split i y (three_second (nat_lt i y.face) (nat_lt y.face count) (is_split (word y.face)) (le-ltb y.face count (omega arith))) entries right (carry (order_of (trace faces g)) y).face
          (split_miss entries (carry (order_of (trace faces g)) y).face (λ j u v. (
          let len = extends_length (entries_of faces g) entries E2 in
          true_not_false (is_inside (insides_of faces g) (cor faces g G F h K j).face)
          (ap (is_inside (insides_of faces g)) (ap (λ (z : TracedEntry). z.corner.face) (extends_at (entries_of faces g) entries E2 j u) ∙ v ∙ d) ∙ inside_is (insides_of faces g) r (omega arith)) (outside_of faces g G F h K j (omega arith)))))
      go y (of_symbol j a b) = elim (cases_lt j (length entries)) [
        | inr m ↦ no_split i y (three_first (nat_lt i y.face) (nat_lt y.face count) (is_split (word y.face)) (le-ltb i y.face (omega arith))) entries right (carry (order_of (trace faces g)) y).face
            (split_miss entries (carry (order_of (trace faces g)) y).face (λ k u v. (
            let len = extends_length (entries_of faces g) entries E2 in
            let s : k ≡ j = apart_of faces g G F h K k j (omega arith) (omega arith) (ap (λ (z : TracedEntry). z.corner.face) (extends_at (entries_of faces g) entries E2 k u) ∙ v ∙ b) in
            omega arith)))
        | inl m ↦ (
            let len = extends_length (entries_of faces g) entries E2 in
            let same = extends_at (entries_of faces g) entries E2 j m in
            let hit = split_hit entries (carry (order_of (trace faces g)) y).face j m (sym (ap (λ (z : TracedEntry). z.corner.face) same) ∙ sym b)
            (λ k u v. apart_of faces g G F h K k j (omega arith) (omega arith) (ap (λ (z : TracedEntry). z.corner.face) (extends_at (entries_of faces g) entries E2 k u) ∙ v ∙ b)) in
            let symbol : is_split (word y.face) ≡ is_split (sym_of faces g G F h K j) = ap is_split (word_is faces g G F h K y.face j a) in
            let test : (nat_lt i y.face && nat_lt y.face count && is_split (word y.face)) ≡ is_split (sym_of faces g G F h K j) =
            three_last (nat_lt i y.face) (nat_lt y.face count) (is_split (word y.face)) (lt-ltb i y.face (omega arith)) (lt-ltb y.face count (omega arith)) ∙ symbol in
            ap (event_noted (length entries) right) (hit ∙ ap (λ (z : TracedEntry). cond (is_split z.symbol) (Some j) None) (sym same))
            ∙ by_symbol (is_split (sym_of faces g G F h K j)) y.face j a
            ∙ sym (ap (λ (t : Bool). event_told count i right (cond t (Some y.face) None)) test))
      ]
        where
          by_symbol : (t : Bool) (f j : ℕ) → suc (f + j) ≡ count → event_noted (length entries) right (cond t (Some j) None) ≡ event_told count i right (cond t (Some f) None)
          by_symbol false f j a = refl
          by_symbol true f j a =
              let p : length entries ≡ count - suc i = omega arith in
              let q : j ≡ count - suc f = omega arith in
              ap (λ (k : ℕ). let z : List Event = record { source = k; split = j; right = right } ∷ [] in z) p
              ∙ ap (λ (k : ℕ). let z : List Event = record { source = count - suc i; split = k; right = right } ∷ [] in z) q

  -- all of them
  all_told : (entries : List TracedEntry) → Extends (entries_of faces g) entries → all_events g entries ≡ events_left count h word (length entries)
  all_told [] E2 = events_none g ∙ sym (left_zero count h word)
  all_told (e ∷ entries) E2 =
      let len = extends_length (entries_of faces g) (e ∷ entries) E2 in
      let rest = all_told entries (extends_rest (entries_of faces g) e entries E2) in
      let i = count - suc (length entries) in
      let number : suc (i + length entries) ≡ count = omega (arith, len) in
      events_more g e entries ∙ go e.symbol refl i number (omega arith) rest
    where
      top : entry_at (entries_of faces g) (length entries) ≡ e
      top = extends_top (entries_of faces g) e entries E2

      before : Extends (entries_of faces g) entries
      before = extends_rest (entries_of faces g) e entries E2

      noting : (i : ℕ) → suc (i + length entries) ≡ count → i < faces → all_events g entries ≡ events_left count h word (length entries) → events_noted g entries e.corner ++ all_events g entries ≡ events_left count h word (suc (length entries))
      noting i number l rest =
          let corner_is : e.corner ≡ cor faces g G F h K (length entries) = sym (ap (λ (z : TracedEntry). z.corner) top) in
          let left_is : noted_at entries false (side i third) ≡ told_at i false (side i third) = side_told i entries before number false (side i third) l in
          let right_is : noted_at entries true (side i second) ≡ told_at i true (side i second) = side_told i entries before number true (side i second) l in
          append_assoc (event_noted (length entries) false (split_across entries (g (prev e.corner)))) (event_noted (length entries) true (split_across entries (g (next e.corner)))) (all_events g entries)
          ∙ ap (λ (c : Side). event_noted (length entries) false (split_across entries (g c)) ++ (event_noted (length entries) true (split_across entries (g (next e.corner))) ++ all_events g entries))
          (ap prev corner_is ∙ sym (third_is faces g G F i (length entries) number))
          ∙ ap (λ (c : Side). noted_at entries false (side i third) ++ (event_noted (length entries) true (split_across entries (g c)) ++ all_events g entries))
          (ap next corner_is ∙ sym (second_is faces g G F i (length entries) number))
          ∙ ap (λ (l : List Event). l ++ (noted_at entries true (side i second) ++ all_events g entries)) left_is
          ∙ ap (λ (l : List Event). told_at i false (side i third) ++ (l ++ all_events g entries)) right_is
          ∙ ap (λ (l : List Event). told_at i false (side i third) ++ (told_at i true (side i second) ++ l)) rest
          ∙ sym (left_suc count h word (length entries) ∙ ap (λ (j : ℕ). events_of_face count h word j false ++ (events_of_face count h word j true ++ events_left count h word (length entries))) (let q : count - suc (length entries) ≡ i = omega arith in q))

      word_here : (i : ℕ) → suc (i + length entries) ≡ count → word i ≡ e.symbol
      word_here i number = word_is faces g G F h K i (length entries) number ∙ ap (λ (z : TracedEntry). z.symbol) top

      quiet : (i : ℕ) → suc (i + length entries) ≡ count → (x y : Side) → h (side i second) ≡ Some x → x.face < i → h (side i third) ≡ Some y → y.face < i → all_events g entries ≡ events_left count h word (length entries) →
          all_events g entries ≡ events_left count h word (suc (length entries))
      quiet i number x y a b c d rest =
          rest
          ∙ ap (events_left count h word) (let q : length entries ≡ count - suc i = omega arith in q)
          ∙ sym (tells_none faces h count word (readable faces g G F h K) i (omega arith) x y a b c d)
          ∙ ap (events_left count h word) (let q : count - i ≡ suc (length entries) = omega arith in q)

      go : (s : Symbol) → e.symbol ≡ s → (i : ℕ) → suc (i + length entries) ≡ count → i < count → all_events g entries ≡ events_left count h word (length entries) → entry_events g e.symbol entries e.corner ++ all_events g entries ≡ events_left count h word (suc (length entries))
      go C q i number l rest =
          let t : IsNewTip h i = subst (Says h i) (word_here i number ∙ q) ((readable faces g G F h K).symbols i l) in
          let u = gap i (side i first) (H faces g G F h K) (omega arith) t.ring in
          ap (λ (s : Symbol). entry_events g s entries e.corner ++ all_events g entries) q ∙ quiet i number u.0 u.1 u.2.right_is u.2.right_below u.2.left_is u.2.left_below rest
      go S q i number l rest =
          let t : IsSplit h i = subst (Says h i) (word_here i number ∙ q) ((readable faces g G F h K).symbols i l) in
          let r = t.right.is_before in
          ap (λ (s : Symbol). entry_events g s entries e.corner ++ all_events g entries) q ∙ quiet i number (side t.right.before first) t.across t.right.onto (omega arith) t.left t.below rest
      go L q i number l rest = ap (λ (s : Symbol). entry_events g s entries e.corner ++ all_events g entries) q ∙ noting i number (let f = (readable faces g G F h K).fewer in omega arith) rest
      go R q i number l rest = ap (λ (s : Symbol). entry_events g s entries e.corner ++ all_events g entries) q ∙ noting i number (let f = (readable faces g G F h K).fewer in omega arith) rest
      go E q i number l rest = ap (λ (s : Symbol). entry_events g s entries e.corner ++ all_events g entries) q ∙ noting i number (let f = (readable faces g G F h K).fewer in omega arith) rest

  pub events_told : (trace faces g).events ≡ events_left (length (entries_of faces g)) h (word_symbol (word_of (trace faces g))) (length (entries_of faces g))
  events_told = walked_notes faces g faces ∙ all_told (entries_of faces g) ([], refl)
