-- How the run goes on: kept corners, turns, and how many symbols there are.
use Rattle.std.proofs.Common.{◌≡◌, ℕ, zero, suc, ◌+◌, ◌-◌, ◌/◌, ◌%◌, ◌<◌, ◌≤◌, true, false, cond, List, [], ◌∷◌, ◌++◌, length, map, reverse, Option, Some, None, option_map, inl, inr, sym, refl, ap, ◌∙◌, arith}
use Rattle.std.proofs.lemmas.Bool.{cond-true, cond-false}
use Rattle.std.proofs.lemmas.List.{reverse-append, reverse-reverse, map-append}
use Rattle.corner_table.specs.declared.symbols.Symbol.{Symbol}
use Rattle.corner_table.specs.declared.symbols.Symbol.TheVariants.{E}
use Rattle.corner_table.specs.declared.symbols.Event.{Event}
use Rattle.corner_table.specs.Sides.{Side, side_at, place_number, place_of, Gluing, IsGluing}
use Rattle.corner_table.specs.Fans.{HasThreeFans}
use Rattle.corner_table.proofs.Places.{option_tells}
use Rattle.eb_trace.specs.Trace.{TracedEntry, TraceWalk, is_face_visited, take_kept, go_back, entered_by, events_noted, after_symbol, trace_visit, run, symbol_at_corner, traced_runs, face_run, order_of, trace}
use Rattle.eb_trace.specs.declared.notes.Notes.{Notes}
use Rattle.eb_trace.specs.declared.notes.Entered.{Entered}
use Rattle.eb_trace.specs.Stored.{noted_walk, entry_of, entered_row}
use Rattle.eb_trace.proofs.Visited.{extends_length, run_extends, run_ends, run_goes_on, run_none, after_entries}
use Rattle.eb_trace.proofs.Walked.{walked_more, from_on, entries_of, insides_of}
use Rattle.eb_trace.proofs.Order.{total_is}

-- the last item is taken off
pub taken_off : (items rest : List ℕ) (x : ℕ) → items ≡ rest ++ x ∷ [] → map side_at (reverse items) ≡ side_at x ∷ map side_at (reverse rest)
taken_off items rest x e = ap (λ (l : List ℕ). map side_at (reverse l)) e ∙ ap (map side_at) (reverse-append rest (x ∷ []))

pub take_nothing : (w : TraceWalk) → take_kept w [] ≡ None
unfolding take_kept
take_nothing w = refl

pub take_visited : (w : TraceWalk) (c : Side) (kept : List Side) → is_face_visited w c.face ≡ true → take_kept w (c ∷ kept) ≡ take_kept w kept
unfolding take_kept
take_visited w c kept t = cond-true (is_face_visited w c.face) _ _ t

pub take_unvisited : (w : TraceWalk) (c : Side) (kept : List Side) → is_face_visited w c.face ≡ false → take_kept w (c ∷ kept) ≡ Some (c, kept)
unfolding take_kept
take_unvisited w c kept t = cond-false (is_face_visited w c.face) _ _ t

-- events don't matter
pub take_events : (w : TraceWalk) (events : List Event) (kept : List Side) → take_kept (record w { events = events }) kept ≡ take_kept w kept
unfolding take_kept
take_events w events [] = refl
take_events w events (c ∷ kept) = ap (λ (r : Option (Side × List Side)). cond (is_face_visited w c.face) r (Some (c, kept))) (take_events w events kept)

-- a run with a turn left has a symbol more
pub run_longer : (faces : ℕ) (g : Gluing) (turns : ℕ) (w : TraceWalk) (c : Side) → suc (length w.entries) ≤ length (run faces g (suc turns) w c).entries
run_longer faces g turns w c =
    let e = after_entries g w c (symbol_at_corner faces g w c) in
    let l : length (trace_visit faces g w c).0.entries ≡ suc (length w.entries) = ap length e in
    elim (option_tells (trace_visit faces g w c).1) [
      | inl n ↦ (let r : length (run faces g (suc turns) w c).entries ≡ length (trace_visit faces g w c).0.entries = ap (λ (x : TraceWalk). length x.entries) (run_ends faces g turns w c n) in omega arith)
      | inr d ↦ (
          let r : length (run faces g (suc turns) w c).entries ≡ length (run faces g turns (trace_visit faces g w c).0 d.0).entries = ap (λ (x : TraceWalk). length x.entries) (run_goes_on faces g turns w c d.0 d.1) in
          let x = extends_length _ _ (run_extends faces g turns (trace_visit faces g w c).0 d.0) in omega arith)
    ]

-- the walk grows
pub walked_grows : (faces : ℕ) (g : Gluing) (f d : ℕ) → length (traced_runs faces g f).entries ≤ length (traced_runs faces g (f + d)).entries
walked_grows faces g f zero = (let e : length (traced_runs faces g f).entries ≡ length (traced_runs faces g (f + zero)).entries = ap (λ (k : ℕ). length (traced_runs faces g k).entries) (let q : f ≡ f + zero = omega arith in q) in omega arith)
walked_grows faces g f (suc d) =
    let before = walked_grows faces g f d in
    let more = extends_length _ _ (from_on faces g (f + d) (traced_runs faces g (f + d))).0 in
    let e : length (traced_runs faces g (f + suc d)).entries ≡ length (face_run faces g (f + d) (traced_runs faces g (f + d))).entries =
    ap (λ (k : ℕ). length (traced_runs faces g k).entries) (let q : f + suc d ≡ suc (f + d) = omega arith in q) ∙ ap (λ (w : TraceWalk). length w.entries) (walked_more faces g (f + d)) in
    omega arith

pub walked_few : (faces : ℕ) (g : Gluing) (f : ℕ) → f < faces → length (face_run faces g f (traced_runs faces g f)).entries ≤ length (trace faces g).entries
walked_few faces g f h =
    let more = walked_grows faces g (suc f) (faces - suc f) in
    let e : length (traced_runs faces g (suc f + (faces - suc f))).entries ≡ length (trace faces g).entries = ap (λ (k : ℕ). length (traced_runs faces g k).entries) (let q : suc f + (faces - suc f) ≡ faces = omega arith in q) in
    let m : length (traced_runs faces g (suc f)).entries ≡ length (face_run faces g f (traced_runs faces g f)).entries = ap (λ (w : TraceWalk). length w.entries) (walked_more faces g f) in
    omega arith

-- there are no more symbols than faces
pub few_symbols : (faces : ℕ) (g : Gluing) → IsGluing faces g → HasThreeFans faces g → length (trace faces g).entries ≤ faces
few_symbols faces g G F = (let t : length (entries_of faces g) + length (insides_of faces g) ≡ faces = total_is faces g G F in omega arith)

-- lists that grow at their ends, read from there
pub pushed_last : {A : Type 0} (items new : List A) (x : A) → new ≡ items ++ x ∷ [] → reverse new ≡ x ∷ reverse items
pushed_last {A} items new x e = ap (λ (l : List A). reverse l) e ∙ reverse-append items (x ∷ [])

pub last_first : {A B : Type 0} (f : A → B) (items new : List A) (x : A) → new ≡ items ++ x ∷ [] → map f (reverse new) ≡ f x ∷ map f (reverse items)
last_first {A} f items new x e = ap (λ (l : List A). map f l) (pushed_last items new x e)

pub nothing_in : {A : Type 0} (xs : List A) → length xs ≡ 0 → xs ≡ []
nothing_in [] e = refl
nothing_in (x ∷ xs) e = absurd (omega arith)

-- where no kept corner is left
pub took_none : (n t : Notes) → t ≡ record n { kept = t.kept } → take_kept (noted_walk n) (map side_at (reverse n.kept.items)) ≡ take_kept (noted_walk n) [] → t.kept.items ≡ [] →
    go_back (noted_walk n) (take_kept (noted_walk n) (map side_at (reverse n.kept.items))) ≡ (noted_walk t, None)
took_none n t rest same none =
    ap (go_back (noted_walk n)) (same ∙ take_nothing (noted_walk n))
    ∙ sym (ap (λ (x : Notes). let r : TraceWalk × Option Side = (noted_walk x, None) in r) rest ∙ ap (λ (l : List ℕ). let r : TraceWalk × Option Side = (record (noted_walk n) { kept = map side_at (reverse l) }, None) in r) none)

-- the first kept corner of an unvisited face
pub took_some : (n t : Notes) (x : ℕ) → t ≡ record n { kept = t.kept } → take_kept (noted_walk n) (map side_at (reverse n.kept.items)) ≡ take_kept (noted_walk n) (side_at x ∷ map side_at (reverse t.kept.items)) →
    is_face_visited (noted_walk n) (side_at x).face ≡ false → go_back (noted_walk n) (take_kept (noted_walk n) (map side_at (reverse n.kept.items))) ≡ (noted_walk t, Some (side_at x))
took_some n t x rest same new =
    ap (go_back (noted_walk n)) (same ∙ take_unvisited (noted_walk n) (side_at x) (map side_at (reverse t.kept.items)) new)
    ∙ sym (ap (λ (y : Notes). let r : TraceWalk × Option Side = (noted_walk y, Some (side_at x)) in r) rest)

-- the end of a branch
pub branch_ends : (g : Gluing) (n m : Notes) (w : TraceWalk) (c : Side) (s : Symbol) (r : TraceWalk × Option Side) → s ≡ E → m ≡ record n { events = m.events } → reverse m.events.items ≡ events_noted g (noted_walk n).entries c ++ reverse n.events.items →
    w ≡ entered_by (noted_walk m) c s → go_back w (take_kept w w.kept) ≡ r → after_symbol g (noted_walk n) c s ≡ r
branch_ends g n m w c s r is rest events walk done =
    let noted : List Event = events_noted g (noted_walk n).entries c ++ reverse n.events.items in
    let now : TraceWalk = record (entered_by (noted_walk n) c E) { events = noted } in
    let before : noted_walk m ≡ record (noted_walk n) { events = noted } = ap noted_walk rest ∙ ap (λ (l : List Event). record (noted_walk n) { events = l }) events in
    let w_is : w ≡ now = walk ∙ ap (λ (t : Symbol). entered_by (noted_walk m) c t) is ∙ ap (λ (x : TraceWalk). entered_by x c E) before in
    ap (after_symbol g (noted_walk n) c) is
    ∙ ap (go_back now) (sym (take_events (entered_by (noted_walk n) c E) noted (noted_walk n).kept))
    ∙ ap (λ (x : TraceWalk). go_back x (take_kept x x.kept)) (sym w_is) ∙ done

-- the turns of a run
pub turn_ends : (faces : ℕ) (g : Gluing) (n k : ℕ) (w : TraceWalk) (c : Side) (v : TraceWalk) (o : Option ℕ) → n ≡ suc k → trace_visit faces g w c ≡ (v, option_map side_at o) → o ≡ None → run faces g n w c ≡ v
turn_ends faces g n k w c v o e t is =
    ap (λ (j : ℕ). run faces g j w c) e
    ∙ run_ends faces g k w c (ap (λ (x : TraceWalk × Option Side). x.1) t ∙ ap (option_map side_at) is)
    ∙ ap (λ (x : TraceWalk × Option Side). x.0) t

pub turn_goes_on : (faces : ℕ) (g : Gluing) (n k : ℕ) (w : TraceWalk) (c : Side) (v : TraceWalk) (o : Option ℕ) (d : ℕ) → n ≡ suc k → trace_visit faces g w c ≡ (v, option_map side_at o) → o ≡ Some d → run faces g n w c ≡ run faces g k v (side_at d)
turn_goes_on faces g n k w c v o d e t is =
    ap (λ (j : ℕ). run faces g j w c) e
    ∙ run_goes_on faces g k w c (side_at d) (ap (λ (x : TraceWalk × Option Side). x.1) t ∙ ap (option_map side_at) is)
    ∙ ap (λ (x : TraceWalk × Option Side). run faces g k x.0 (side_at d)) t

pub turns_over : (faces : ℕ) (g : Gluing) (n : ℕ) (w : TraceWalk) (c : Side) → n ≡ 0 → run faces g n w c ≡ w
turns_over faces g n w c e = ap (λ (j : ℕ). run faces g j w c) e ∙ run_none faces g w c

pub few_at_turn : (faces : ℕ) (g : Gluing) (n k : ℕ) (w v : TraceWalk) (c d : Side) → n ≡ suc k → run faces g faces v d ≡ run faces g n w c → length (run faces g faces v d).entries ≤ faces → length w.entries < faces
few_at_turn faces g n k w v c d e same few =
    let l = run_longer faces g k w c in
    let a : length (run faces g faces v d).entries ≡ length (run faces g (suc k) w c).entries = ap (λ (x : TraceWalk). length x.entries) (same ∙ ap (λ (j : ℕ). run faces g j w c) e) in
    omega arith

-- the faces in turn
pub few_from : (faces : ℕ) (g : Gluing) (f : ℕ) (w : TraceWalk) → w ≡ traced_runs faces g f → f < faces → length (trace faces g).entries ≤ faces → length (face_run faces g f w).entries ≤ faces
few_from faces g f w e h few =
    let m = walked_few faces g f h in
    let q : length (face_run faces g f w).entries ≡ length (face_run faces g f (traced_runs faces g f)).entries = ap (λ (x : TraceWalk). length (face_run faces g f x).entries) e in
    omega arith

pub one_walked : (faces : ℕ) (g : Gluing) (f : ℕ) (v w : TraceWalk) → w ≡ traced_runs faces g f → v ≡ face_run faces g f w → v ≡ traced_runs faces g (f + 1)
one_walked faces g f v w e p = p ∙ ap (face_run faces g f) e ∙ sym (walked_more faces g f) ∙ ap (λ (k : ℕ). traced_runs faces g k) (let q : suc f ≡ f + 1 = omega arith in q)

-- what is given out
place_is : (k : ℕ) → k < 3 → place_number (place_of k) ≡ k
place_is zero h = refl
place_is (suc zero) h = refl
place_is (suc (suc zero)) h = refl
place_is (suc (suc (suc k))) h = absurd (omega arith)

rows_are : (xs : List Entered) → map entered_row xs ≡ map (λ (e : TracedEntry). (e.corner.face, place_number e.corner.place)) (map entry_of xs)
rows_are [] = refl
rows_are (x ∷ xs) =
    ap (λ (k : ℕ). (x.corner / 3, k) ∷ map entered_row xs) (sym (place_is (x.corner % 3) (omega arith)))
    ∙ ap (λ (l : List (ℕ × ℕ)). (x.corner / 3, place_number (place_of (x.corner % 3))) ∷ l) (rows_are xs)

-- the rows of what was noted are the order of the walk
pub rows_noted : (n : Notes) → map entered_row (reverse n.entries.items) ++ map (λ (f : ℕ). (f, 1)) n.interior.items ≡ order_of (noted_walk n)
rows_noted n =
    ap (λ (l : List (ℕ × ℕ)). l ++ map (λ (f : ℕ). (f, 1)) n.interior.items) (rows_are (reverse n.entries.items))
    ∙ ap (λ (l : List ℕ). map (λ (e : TracedEntry). (e.corner.face, place_number e.corner.place)) (map entry_of (reverse n.entries.items)) ++ map (λ (f : ℕ). (f, 1)) l) (sym (reverse-reverse n.interior.items))

map_reverse : {A B : Type 0} (f : A → B) (xs : List A) → map f (reverse xs) ≡ reverse (map f xs)
map_reverse f [] = refl
map_reverse {A} {B} f (x ∷ xs) =
    ap (map f) (reverse-append (x ∷ []) xs) ∙ map-append f (reverse xs) (x ∷ []) ∙ ap (λ (l : List B). l ++ (f x ∷ [])) (map_reverse f xs) ∙ sym (reverse-append (f x ∷ []) (map f xs))

symbols_map : (xs : List Entered) → map (λ (e : TracedEntry). e.symbol) (map entry_of xs) ≡ map (λ (e : Entered). e.symbol) xs
symbols_map [] = refl
symbols_map (x ∷ xs) = ap (λ (l : List Symbol). x.symbol ∷ l) (symbols_map xs)

pub symbols_are : (xs : List Entered) → map (λ (e : Entered). e.symbol) xs ≡ reverse (map (λ (e : TracedEntry). e.symbol) (map entry_of (reverse xs)))
symbols_are xs = sym (ap (λ (l : List Symbol). reverse l) (symbols_map (reverse xs) ∙ map_reverse (λ (e : Entered). e.symbol) xs) ∙ reverse-reverse (map (λ (e : Entered). e.symbol) xs))

-- a table's walk has no more symbols than faces
pub few_of : (f faces : ℕ) (h g : Gluing) → f ≡ faces → h ≡ g → IsGluing faces g → HasThreeFans faces g → length (trace f h).entries ≤ f
few_of f faces h g e q G F =
    let a = few_symbols faces g G F in
    let b : length (trace f h).entries ≡ length (trace faces g).entries = ap (λ (k : ℕ). length (trace k h).entries) e ∙ ap (λ (x : Gluing). length (trace faces x).entries) q in
    omega arith

pub trace_same : (f faces : ℕ) (h g : Gluing) (w : TraceWalk) → f ≡ faces → h ≡ g → w ≡ trace f h → w ≡ trace faces g
trace_same f faces h g w e q t = t ∙ ap (λ (k : ℕ). trace k h) e ∙ ap (λ (x : Gluing). trace faces x) q
