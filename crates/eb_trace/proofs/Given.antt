-- What is given out: the vertices are the fans, the events fit the symbols, and reverse decoding of it keeps the surface.
use Rattle.std.proofs.Common.{◌≡◌, ℕ, ◌<◌, ◌≤◌, Bool, false, List, length, reverse, get_or, Some, None, All, inl, inr, refl, sym, ap, ◌∙◌, subst, arith, vec_len, Result, Ok, Err, count_by, ◌+◌}
use mathlib.Core.Path.{fun_ext}
use Rattle.std.proofs.lemmas.Bool.{cases_lt}
use Rattle.std.proofs.lemmas.List.{reverse-reverse, length-map, length-reverse}
use Rattle.std.proofs.lemmas.List.Elements.{All-weaker}
use Rattle.corner_table.specs.declared.symbols.Symbol.{Symbol}
use Rattle.corner_table.specs.declared.symbols.Event.{Event}
use Rattle.corner_table.specs.Sides.{Side, Gluing, IsGluing}
use Rattle.corner_table.specs.Fans.{HasThreeFans}
use Rattle.corner_table.specs.Carried.{IsRenumbering, IsCarried}
use Rattle.corner_table.proofs.Places.{option_tells}
use Rattle.corner_table.proofs.Numbers.{no_room}
use Rattle.drc_base.specs.declared.faults.Fault.{Fault}
use Rattle.eb_machine.specs.Machine.{State, Plan, rebuild}
use Rattle.eb_machine.specs.Named.{NamedState, named_rebuild}
use Rattle.eb_machine.specs.Shown.{Shows, Agree, is_split}
use Rattle.eb_machine.specs.Events.{IsEventOf}
use Rattle.eb_machine.proofs.NamedLaw.{runs_agree}
use Rattle.eb_machine.proofs.NamesMade.{made_at_end}
use Rattle.eb_trace.specs.Front.{made_by, start_bits}
use Rattle.eb_trace.specs.Rebuilt.{word_symbol, finished}
use Rattle.eb_trace.specs.declared.surface.Surface.{Surface}
use Rattle.eb_trace.specs.Trace.{TracedEntry, TraceWalk, trace, word_of, order_of, fan_count}
use Rattle.eb_trace.specs.Stored.{IsTracedSurface, traced_gluing}
use Rattle.eb_trace.specs.Events.{IsSplitEvent, AreSplitEvents}
use Rattle.eb_trace.specs.FromTrace.{CarriesOne, CarriesFans, IsRebuiltFrom, AreStartBits, EndsNamed, NamesVertices}
use Rattle.eb_trace.specs.Kept.{WalkCarries, WalkIsKept}
use Rattle.eb_trace.proofs.Vertices.{labels_are_fans, renumbered_alike}
use Rattle.eb_trace.proofs.Walked.{entries_of}
use Rattle.eb_trace.proofs.Order.{total_is, renumbers}
use Rattle.eb_trace.proofs.Counted.{is_renumbered, walk_is_counted, walk_rebuilds}
use Rattle.eb_trace.proofs.StartBits.{word_bits}
use Rattle.eb_trace.proofs.Splits.{walk_notes_splits}

-- the vertices of a surface
pub vertices_are : (s : Surface) (faces : ℕ) (g : Gluing) → IsTracedSurface s → s.faces ≡ faces → traced_gluing s ≡ g → s.vertices ≡ fan_count faces g
vertices_are s faces g V e q =
    V.vertices ∙ labels_are_fans s.faces (traced_gluing s) s.labels.items (vec_len s.ends) s.ends.items V.gluing V.labelled
    ∙ ap (λ (k : ℕ). fan_count k (traced_gluing s)) e ∙ ap (λ (x : Gluing). fan_count faces x) q

pub walk_is_kept : WalkIsKept
walk_is_kept faces g G F created h K made =
    let back = reverse-reverse (word_of (trace faces g)) in
    let events = reverse-reverse (trace faces g).events in
    let long = length-reverse (word_of (trace faces g)) in
    rw (back, events, long) (walk_rebuilds (record { faces = faces; created = created; symbols = length (word_of (trace faces g)) }) g h G F K refl (rw back at made))

pub rebuilt_from : (faces : ℕ) (g : Gluing) → IsGluing faces g → HasThreeFans faces g → (symbols : List Symbol) (events : List Event) (starts : List Bool) (order : List (ℕ × ℕ)) (vertices : ℕ) →
    symbols ≡ reverse (word_of (trace faces g)) → events ≡ reverse (trace faces g).events → starts ≡ reverse (trace faces g).bits → order ≡ order_of (trace faces g) → vertices ≡ fan_count faces g →
    IsRebuiltFrom faces g symbols events starts order vertices
rebuilt_from faces g G F symbols events starts order vertices a b c d e =
    let w : TraceWalk = trace faces g in
    let p1 : List Symbol → Type 0 = λ x. IsRebuiltFrom faces g x (reverse (trace faces g).events) (reverse (trace faces g).bits) (order_of (trace faces g)) (fan_count faces g) in
    let p2 : List Event → Type 0 = λ x. IsRebuiltFrom faces g symbols x (reverse (trace faces g).bits) (order_of (trace faces g)) (fan_count faces g) in
    let p3 : List Bool → Type 0 = λ x. IsRebuiltFrom faces g symbols events x (order_of (trace faces g)) (fan_count faces g) in
    let p4 : List (ℕ × ℕ) → Type 0 = λ x. IsRebuiltFrom faces g symbols events starts x (fan_count faces g) in
    let p5 : ℕ → Type 0 = λ x. IsRebuiltFrom faces g symbols events starts order x in
    subst p5 (sym e) (subst p4 (sym d) (subst p3 (sym c) (subst p2 (sym b) (subst p1 (sym a) (walk_is_kept faces g G F)))))

-- the events are those of the walk
pub events_given : (faces : ℕ) (g : Gluing) → IsGluing faces g → HasThreeFans faces g → (symbols : List Symbol) (events : List Event) → symbols ≡ reverse (word_of (trace faces g)) → events ≡ reverse (trace faces g).events → AreSplitEvents symbols events
events_given faces g G F symbols events a b =
    subst (λ (x : List Event). AreSplitEvents symbols x) (sym b) (subst (λ (x : List Symbol). AreSplitEvents x (reverse (trace faces g).events)) (sym a) (walk_notes_splits faces g G F))

-- a rebuilding takes them
pub events_taken : (symbols : List Symbol) (events : List Event) → AreSplitEvents symbols events → All (IsEventOf (length symbols)) events
events_taken symbols events s = All-weaker (IsSplitEvent symbols) (IsEventOf (length symbols)) (λ e t. (t.within, (let l = t.earlier in omega arith))) events s.fit

-- each has a split of its own
abbrev no_event : Event
no_event = record { source = 0; split = 0; right = false }

abbrev split_number : List Event → ℕ → ℕ
split_number events i = (get_or events i no_event).split

few_splits : (symbols : List Symbol) (events : List Event) → AreSplitEvents symbols events → length symbols < length events → ⊥
few_splits symbols events s more = no_room (length symbols) (split_number events) small apart
  where
    small : (i : ℕ) → i ≤ length symbols → split_number events i < length symbols
    small i h = let t = s.fit i no_event (omega arith) in let w = t.within in let l = t.earlier in omega arith

    apart : (i j : ℕ) → i ≤ length symbols → j ≤ length symbols → split_number events i ≡ split_number events j → i ≡ j
    apart i j h k e = elim (cases_lt i j) [
      | inl l ↦ absurd (s.once i j no_event l (omega arith) e)
      | inr l ↦ elim (cases_lt j i) [
        | inl m ↦ absurd (s.once j i no_event m (omega arith) (sym e))
        | inr m ↦ omega arith
      ]
    ]

pub few_events : (symbols : List Symbol) (events : List Event) → AreSplitEvents symbols events → length events ≤ length symbols
few_events symbols events s = elim (cases_lt (length symbols) (length events)) [ inl h ↦ absurd (few_splits symbols events s h) | inr h ↦ h ]

-- each symbol has a face of its own
pub few_symbols : (faces : ℕ) (g : Gluing) → IsGluing faces g → HasThreeFans faces g → (symbols : List Symbol) → symbols ≡ reverse (word_of (trace faces g)) → length symbols ≤ faces
few_symbols faces g G F symbols a =
    let t = total_is faces g G F in
    let l : length symbols ≡ length (entries_of faces g) =
    ap (λ (x : List Symbol). length x) a ∙ length-reverse (word_of (trace faces g)) ∙ length-map (entries_of faces g) (λ (e : TracedEntry). e.symbol) in
    omega arith

-- new numbers leave one surface
same_carried : (faces : ℕ) (g : Gluing) (rows : List (ℕ × ℕ)) (h k : Gluing) → IsCarried faces g rows h → IsCarried faces g rows k → h ≡ k
same_carried faces g rows h k H K = fun_ext (λ x. elim (option_tells (h x)) [
  | inr y ↦ y.1 ∙ sym (moved h k H K x y.0 y.1)
  | inl n ↦ elim (option_tells (k x)) [
    | inl o ↦ n ∙ sym o
    | inr y ↦ absurd (let no : None ≡ Some y.0 = sym n ∙ moved k h K H x y.0 y.1 in cc)
  ]
])
  where
    moved : (a b : Gluing) → IsCarried faces g rows a → IsCarried faces g rows b → (x y : Side) → a x ≡ Some y → b x ≡ Some y
    moved a b A B x y e =
        let w = A.within x y e in
        (B.pairs x y w.0 w.1).1 ((A.pairs x y w.0 w.1).0 e)

one_carried : (faces : ℕ) (g : Gluing) (rows : List (ℕ × ℕ)) → IsGluing faces g → IsRenumbering faces rows → CarriesOne faces g rows
one_carried faces g rows G R =
    let t = is_renumbered faces g rows G R in
    record { carried = t.0; is_carried = t.1; only = λ h K. same_carried faces g rows h t.0 K t.1 }

pub walk_carries : WalkCarries
walk_carries faces g G F =
    let R = renumbers faces g G F in
    (one_carried faces g (order_of (trace faces g)) G R, λ h K. renumbered_alike faces g h (order_of (trace faces g)) G R K)

pub carried_given : (faces : ℕ) (g : Gluing) → IsGluing faces g → HasThreeFans faces g → (order : List (ℕ × ℕ)) (vertices : ℕ) → order ≡ order_of (trace faces g) → vertices ≡ fan_count faces g →
    CarriesOne faces g order × CarriesFans faces g order vertices
carried_given faces g G F order vertices d e =
    subst (λ (k : ℕ). CarriesOne faces g order × CarriesFans faces g order k) (sym e)
    (subst (λ (x : List (ℕ × ℕ)). CarriesOne faces g x × CarriesFans faces g x (fan_count faces g)) (sym d) (walk_carries faces g G F))

-- the start bits are those that the surface determines
pub bits_given : (faces : ℕ) (g : Gluing) → IsGluing faces g → HasThreeFans faces g → (symbols : List Symbol) (starts : List Bool) (order : List (ℕ × ℕ)) →
    symbols ≡ reverse (word_of (trace faces g)) → starts ≡ reverse (trace faces g).bits → order ≡ order_of (trace faces g) → AreStartBits faces g symbols starts order
bits_given faces g G F symbols starts order a c d h K =
    let long : length symbols ≡ length (word_of (trace faces g)) = ap (λ (x : List Symbol). length x) a ∙ length-reverse (word_of (trace faces g)) in
    c ∙ word_bits faces g G F h (subst (λ (x : List (ℕ × ℕ)). IsCarried faces g x h) d K) ∙ ap (λ (n : ℕ). start_bits n h) (sym long)

-- the answer of the machine with names, where the one without has an answer
named_answer : (r : Result NamedState Fault) (s : Result State Fault) (t : State) → Agree Shows r s → s ≡ Ok t → (x : NamedState) × (r ≡ Ok x) × Shows x t
named_answer (Ok x) s t h e = (x, refl, subst (λ (k : Result State Fault). Agree Shows (Ok x) k) e h)
named_answer (Err f) s t h e = absurd (subst (λ (k : Result State Fault). Agree Shows (Err f) k) e h)

made_given : (faces : ℕ) (g : Gluing) → IsGluing faces g → HasThreeFans faces g → (symbols : List Symbol) (vertices : ℕ) → symbols ≡ reverse (word_of (trace faces g)) → vertices ≡ fan_count faces g →
    made_by (word_symbol (reverse symbols)) (length (reverse symbols)) ≡ vertices + count_by is_split (reverse symbols)
made_given faces g G F symbols vertices a e =
    let w : List Symbol = word_of (trace faces g) in
    let back : reverse symbols ≡ w = ap (λ (x : List Symbol). reverse x) a ∙ reverse-reverse (word_of (trace faces g)) in
    subst (λ (x : List Symbol). made_by (word_symbol x) (length x) ≡ vertices + count_by is_split x) (sym back)
    (subst (λ (k : ℕ). made_by (word_symbol w) (length w) ≡ k + count_by is_split w) (sym e) (walk_is_counted faces g G F))

-- names of its vertices
pub names_given : (faces : ℕ) (g : Gluing) (symbols : List Symbol) (events : List Event) (starts : List Bool) (order : List (ℕ × ℕ)) (vertices : ℕ) →
    CarriesOne faces g order → IsRebuiltFrom faces g symbols events starts order vertices → made_by (word_symbol (reverse symbols)) (length (reverse symbols)) ≡ vertices + count_by is_split (reverse symbols) →
    NamesVertices faces g symbols events starts order vertices
names_given faces g symbols events starts order vertices one kept count created enough = go (named_answer (named_rebuild plan word told bits) (rebuild plan word told bits) last (runs_agree plan word told bits) (kept created one.carried one.is_carried enough))
  where
    plan : Plan
    plan = record { faces = faces; created = created; symbols = length symbols }

    word : List Symbol
    word = reverse symbols

    told : List Event
    told = reverse events

    bits : ℕ → Bool
    bits k = get_or starts k false

    last : State
    last = finished faces one.carried word

    go : (x : NamedState) × (named_rebuild plan word told bits ≡ Ok x) × Shows x last → EndsNamed faces created g symbols events starts order vertices
    go (x, e, V) = record {
      last = x;
      no_fault = e;
      shows = λ h K. subst (λ (k : Gluing). Shows x (finished faces k word)) (sym (one.only h K)) V;
      names = (
          let made : x.made ≡ made_by (word_symbol word) (length word) = ap (λ (t : State). t.made) V.state in
          let names = made_at_end plan word told bits x e in
          omega (arith, count));
    }

pub named_given : (faces : ℕ) (g : Gluing) → IsGluing faces g → HasThreeFans faces g → (symbols : List Symbol) (events : List Event) (starts : List Bool) (order : List (ℕ × ℕ)) (vertices : ℕ) →
    symbols ≡ reverse (word_of (trace faces g)) → events ≡ reverse (trace faces g).events → starts ≡ reverse (trace faces g).bits → order ≡ order_of (trace faces g) → vertices ≡ fan_count faces g →
    NamesVertices faces g symbols events starts order vertices
named_given faces g G F symbols events starts order vertices a b c d e =
    names_given faces g symbols events starts order vertices (carried_given faces g G F order vertices d e).0 (rebuilt_from faces g G F symbols events starts order vertices a b c d e) (made_given faces g G F symbols vertices a e)
