-- What noting events does to a list of kept sides.
use Rattle.std.proofs.Common.{◌≡◌, ◌≢◌, ℕ, zero, suc, ◌+◌, ◌-◌, ◌*◌, ◌<◌, Bool, true, false, cond, eqb, List, ◌∷◌, length, get_or, set, All, Some, None, Ok, Err, inl, inr, sym, refl, ap, ◌∙◌, subst, arith, get_or-set_other, get_or-set_same, eq-eqb, ne_eqb, eqb-true}
use Rattle.std.proofs.lemmas.Bool.{cases_Bool, cases_eq, cond-true, cond-false}
use mathlib.Core.Path.{fun_ext}
use Rattle.drc_base.specs.declared.kinds.Kind.TheVariants as kind
use Rattle.drc_base.specs.declared.limits.TheConstants.{MAX_FACES}
use Rattle.corner_table.specs.declared.symbols.Event.{Event}
use Rattle.corner_table.specs.Sides.{Side, side, number, side_at}
use Rattle.corner_table.specs.Table.{other_at, free_entry}
use Rattle.corner_table.proofs.TableSteps.{entry_taken}
use Rattle.eb_machine.specs.Machine.{note_events, fault, reserve, event_place}
use Rattle.eb_machine.specs.Events.{IsEventOf}
use Rattle.eb_machine.proofs.NotedEvents.{note_none, note_later, note_passed, note_taken, note_more}
use Rattle.eb_rebuild.specs.Kept.{counted_down, no_event, kept_in, split_number, HasRoomFor, AreKeptBelow}

-- a kept entry that is none, and one that is a side
pub kept-none : (kept : List ℕ) (k : ℕ) → get_or kept k free_entry ≡ free_entry → kept_in kept k ≡ None
kept-none kept k h = ap other_at h

pub kept-some : (kept : List ℕ) (k : ℕ) → get_or kept k free_entry ≢ free_entry → kept_in kept k ≡ Some (side_at (get_or kept k free_entry))
kept-some kept k h = elim (cases_Bool (eqb (get_or kept k free_entry) free_entry)) [ inl t ↦ absurd (h (eqb-true (get_or kept k free_entry) free_entry t)) | inr t ↦ cond-false _ _ _ t ]

-- a write keeps a side for one symbol
pub kept_in-set : (kept : List ℕ) (j : ℕ) (a : Side) → j < length kept → a.face < MAX_FACES → kept_in (set kept j (number a)) ≡ reserve j a (kept_in kept)
kept_in-set kept j a h l = fun_ext (λ k. elim (cases_eq k j) [
  | inl e ↦ ap (λ (m : ℕ). kept_in (set kept j (number a)) m) e ∙ ap other_at (get_or-set_same kept j (number a) free_entry h) ∙ entry_taken a MAX_FACES l (omega arith) ∙ sym (cond-true _ _ _ (eq-eqb k j e))
  | inr n ↦ ap other_at (get_or-set_other kept j k (number a) free_entry n) ∙ sym (cond-false _ _ _ (ne_eqb k j n))
])

pub event_number : (face : ℕ) (right : Bool) → number (side face (event_place right)) ≡ 3 * face + cond right 1 2
event_number face true = refl
event_number face false = refl

-- the kept sides stay among the faces
pub kept_below-set : (faces : ℕ) (kept : List ℕ) (j v : ℕ) → j < length kept → AreKeptBelow faces kept → v < 3 * suc faces → AreKeptBelow (suc faces) (set kept j v)
kept_below-set faces kept j v h K b k n = elim (cases_eq k j) [
  | inl e ↦ (let q : get_or (set kept j v) k free_entry ≡ v = ap (λ (m : ℕ). get_or (set kept j v) m free_entry) e ∙ get_or-set_same kept j v free_entry h in omega arith)
  | inr m ↦ (
      let q = get_or-set_other kept j k v free_entry m in
      let old : get_or kept k free_entry < 3 * faces = K k (λ w. n (q ∙ w)) in
      omega arith)
]

pub kept_below-set_more : (faces : ℕ) (kept : List ℕ) (j v : ℕ) → j < length kept → AreKeptBelow (suc faces) kept → v < 3 * suc faces → AreKeptBelow (suc faces) (set kept j v)
kept_below-set_more faces kept j v h K b k n = elim (cases_eq k j) [
  | inl e ↦ (let q : get_or (set kept j v) k free_entry ≡ v = ap (λ (m : ℕ). get_or (set kept j v) m free_entry) e ∙ get_or-set_same kept j v free_entry h in omega arith)
  | inr m ↦ (
      let q = get_or-set_other kept j k v free_entry m in
      let old : get_or kept k free_entry < 3 * suc faces = K k (λ w. n (q ∙ w)) in
      omega arith)
]

pub kept_below_more : (faces : ℕ) (kept : List ℕ) → AreKeptBelow faces kept → AreKeptBelow (suc faces) kept
kept_below_more faces kept K k n = let h = K k n in omega arith

-- the last event that is left
pub last_event : (left : ℕ) (events : List Event) (e : Event) → (left ≡ 0 → ⊥) → e ≡ get_or events (left - 1) no_event → counted_down no_event left events ≡ e ∷ counted_down no_event (left - 1) events
last_event zero events e h q = absurd (h refl)
last_event (suc n) events e h q =
    let m : suc n - 1 ≡ n = omega arith in
    let r : get_or events n no_event ≡ e = ap (λ (k : ℕ). get_or events k no_event) (sym m) ∙ sym q in
    ap (λ (a : Event). a ∷ counted_down no_event n events) r ∙ ap (λ (k : ℕ). e ∷ counted_down no_event k events) (sym m)

-- the four ways on, from what is left and kept in lists
pub left_none : (n i left : ℕ) (events : List Event) (kept : List ℕ) → left ≡ 0 → note_events n i (counted_down no_event left events) (kept_in kept) ≡ Ok (counted_down no_event left events, kept_in kept)
left_none n i left events kept h =
    let P : ℕ → Type 0 = λ m. note_events n i (counted_down no_event m events) (kept_in kept) ≡ Ok (counted_down no_event m events, kept_in kept) in
    subst P (sym h) (note_none n i (kept_in kept))

pub left_later : (n i left : ℕ) (events : List Event) (kept : List ℕ) (e : Event) → (left ≡ 0 → ⊥) → e ≡ get_or events (left - 1) no_event → e.source < n - 1 - i →
    note_events n i (counted_down no_event left events) (kept_in kept) ≡ Ok (counted_down no_event left events, kept_in kept)
left_later n i left events kept e h q l =
    let P : List Event → Type 0 = λ es. note_events n i es (kept_in kept) ≡ Ok (es, kept_in kept) in
    subst P (sym (last_event left events e h q)) (note_later n i e (counted_down no_event (left - 1) events) (kept_in kept) (omega arith))

pub left_passed : (n i left : ℕ) (events : List Event) (kept : List ℕ) (e : Event) → (left ≡ 0 → ⊥) → e ≡ get_or events (left - 1) no_event → n - 1 - i < e.source →
    note_events n i (counted_down no_event left events) (kept_in kept) ≡ Err (fault kind.EventOrder i)
left_passed n i left events kept e h q l =
    let P : List Event → Type 0 = λ es. note_events n i es (kept_in kept) ≡ Err (fault kind.EventOrder i) in
    subst P (sym (last_event left events e h q)) (note_passed n i e (counted_down no_event (left - 1) events) (kept_in kept) (omega arith))

pub left_taken : (n i left : ℕ) (events : List Event) (kept : List ℕ) (e : Event) (j : ℕ) → (left ≡ 0 → ⊥) → e ≡ get_or events (left - 1) no_event → (e.source < n - 1 - i → ⊥) → (n - 1 - i < e.source → ⊥) →
    j ≡ split_number n e → get_or kept j free_entry ≢ free_entry → note_events n i (counted_down no_event left events) (kept_in kept) ≡ Err (fault kind.Taken i)
left_taken n i left events kept e j h q l m s f =
    let P : List Event → Type 0 = λ es. note_events n i es (kept_in kept) ≡ Err (fault kind.Taken i) in
    let w : j ≡ n - suc e.split = omega arith in
    subst P (sym (last_event left events e h q))
    (note_taken n i e (counted_down no_event (left - 1) events) (kept_in kept) (side_at (get_or kept j free_entry)) (omega arith) (ap (kept_in kept) (sym w) ∙ kept-some kept j f))

pub left_more : (n i left : ℕ) (events : List Event) (kept more : List ℕ) (e : Event) (j w : ℕ) → (left ≡ 0 → ⊥) → e ≡ get_or events (left - 1) no_event → (e.source < n - 1 - i → ⊥) → (n - 1 - i < e.source → ⊥) →
    j ≡ split_number n e → get_or kept j free_entry ≡ free_entry → w ≡ number (side i (event_place e.right)) → more ≡ set kept j w → j < length kept → i < MAX_FACES →
    note_events n i (counted_down no_event left events) (kept_in kept) ≡ note_events n i (counted_down no_event (left - 1) events) (kept_in more)
left_more n i left events kept more e j w h q l m p f s d t u =
    let k : n - suc e.split ≡ j = omega arith in
    let rest = counted_down no_event (left - 1) events in
    let a = side i (event_place e.right) in
    ap (λ (es : List Event). note_events n i es (kept_in kept)) (last_event left events e h q)
    ∙ note_more n i e rest (kept_in kept) (omega arith) (ap (kept_in kept) k ∙ kept-none kept j f)
    ∙ ap (λ (x : ℕ). note_events n i rest (reserve x a (kept_in kept))) k
    ∙ ap (note_events n i rest) (sym (kept_in-set kept j a t u))
    ∙ ap (λ (x : ℕ). note_events n i rest (kept_in (set kept j x))) (sym s)
    ∙ ap (λ (l : List ℕ). note_events n i rest (kept_in l)) (sym d)

-- what holds of the events holds with another list of as many entries
pub still_events : (old more : List ℕ) (events : List Event) → length more ≡ length old → All (IsEventOf (length old)) events → All (IsEventOf (length more)) events
still_events old more events e h = subst (λ (n : ℕ). All (IsEventOf n) events) (sym e) h

pub still_room : (old more a b : List ℕ) (events : List Event) → length more ≡ length old → b ≡ a → All (HasRoomFor a (length old)) events → All (HasRoomFor b (length more)) events
still_room old more a b events e f h = subst (λ (n : ℕ). All (HasRoomFor b n) events) (sym e) (subst (λ (l : List ℕ). All (HasRoomFor l (length old)) events) (sym f) h)

-- a kept side is one of a symbol
pub split_below : (n : ℕ) (e : Event) → IsEventOf n e → split_number n e < n
split_below n e h = let a = h.0 in omega arith
