-- Both machines answer alike: call by call, and over whole runs.
use Rattle.std.proofs.Common.{◌≡◌, ◌≢◌, ℕ, zero, suc, ◌+◌, ◌-◌, ◌<◌, ◌≤◌, Bool, true, false, not, ◌&&◌, ◌||◌, ◌==◌, nat_le, nat_lt, cond, is_none, List, [], ◌∷◌, ◌++◌, length, get_or, map, Option, Some, None, Result, Ok, Err, inl, inr, sym, refl, ap, ◌∙◌, subst, arith, length-append, eqb-true, eq-eqb}
use Rattle.std.proofs.lemmas.Bool.{cases_Bool, cond-true, cond-false, and_parts}
use Rattle.std.proofs.lemmas.List.{length-map}
use Rattle.drc_base.specs.declared.kinds.Kind.{Kind}
use Rattle.drc_base.specs.declared.kinds.Kind.TheVariants as kind
use Rattle.drc_base.specs.declared.faults.Fault.{Fault}
use Rattle.drc_base.specs.Steps.{◌>>=◌}
use Rattle.corner_table.specs.declared.symbols.Symbol.{Symbol}
use Rattle.corner_table.specs.declared.symbols.Symbol.TheVariants.{C, S, L, R, E}
use Rattle.corner_table.specs.declared.symbols.Event.{Event}
use Rattle.corner_table.specs.Sides.{Side, Place, first, second, third, side, same, next, prev, Gluing, glue, IsFree}
use Rattle.corner_table.specs.Fans.{side_before, meets}
use Rattle.corner_table.proofs.Places.{option_tells, Some_injective, same-true, same-false}
use Rattle.corner_table.proofs.Meeting.{fan_meets, meets-fan}
use Rattle.eb_machine.specs.Machine.{State, Plan, start, step, close, close_top, finish, rebuild, take_symbols, close_all, first_degenerate, is_degenerate, fault, must_be, top, pushed, reserve, release, event_place, note_events, with_events, grown}
use Rattle.eb_machine.specs.Named.{Triangle, no_triangle, Row, new_row, row_at_side, row_before, without, renamed, renamed_triangle, renamed_row, NamedState, named_start, row_or_gone, top_row, named_events, named_rule, named_step, named_fill, named_close_top, named_close, has_equal, first_with_equal, named_finish, named_symbols, named_closes, named_rebuild}
use Rattle.eb_machine.specs.Shown.{name_of, row_named, AreNames, without_names, AreBelow, KeptBelow, Shows, Agree}
use Rattle.eb_machine.proofs.Steps.{same_state, tip_rest, split_rest, split_last, loop_test, fill_loop, fill_count, filled_state}
use Rattle.eb_machine.proofs.NamedRules.{row_is, no_row, row_before_is, before_ends, one_point_is, names_start, end_names, right_names, left_names, tip_names, split_names, fill_names}

-- two first parts that agree, and what follows them
pub agree_then : {A B A' B' : Type 0} (P : A → B → Type 0) (Q : A' → B' → Type 0) (r : Result A Fault) (s : Result B Fault) (f : A → Result A' Fault) (h : B → Result B' Fault) →
    Agree P r s → ((a : A) (b : B) → P a b → Agree Q (f a) (h b)) → Agree Q (r >>= f) (s >>= h)
agree_then P Q (Ok a) (Ok b) f h p k = k a b p
agree_then P Q (Err e) (Err x) f h p k = p
agree_then P Q (Ok a) (Err x) f h p k = absurd p
agree_then P Q (Err e) (Ok b) f h p k = absurd p

-- one first part
pub agree_one : {A A' B' : Type 0} (Q : A' → B' → Type 0) (r : Result A Fault) (f : A → Result A' Fault) (h : A → Result B' Fault) →
    ((a : A) → r ≡ Ok a → Agree Q (f a) (h a)) → Agree Q (r >>= f) (r >>= h)
agree_one Q (Ok a) f h k = k a refl
agree_one Q (Err e) f h k = refl

-- two tests that are one
pub agree_must : {A' B' : Type 0} (Q : A' → B' → Type 0) (t u : Bool) (k : Kind) (n : ℕ) (f : Unit {0} → Result A' Fault) (h : Unit {0} → Result B' Fault) →
    t ≡ u → (t ≡ true → Agree Q (f tt) (h tt)) → Agree Q (must_be t k n >>= f) (must_be u k n >>= h)
agree_must Q true true k n f h e go = go refl
agree_must Q false false k n f h e go = refl
agree_must Q true false k n f h e go = absurd (cc)
agree_must Q false true k n f h e go = absurd (cc)

-- the two tops
abbrev pub Tops : List Triangle → Gluing → Row × List Side → Side × List Side → Type 0
Tops ts g y z = (y ≡ (row_named ts z.0, z.1)) × IsFree (length ts) g z.0 × AreBelow (length ts) z.1

top_case : {ts : List Triangle} {rows : List Row} {g : Gluing} {made : ℕ} → AreNames ts rows g made → (i : ℕ) (a : Side) (rest : List Side) → a.face < length ts → AreBelow (length ts) rest →
    Agree (Tops ts g) (row_or_gone i (row_at_side a rows) >>= λ r. let x : Result (Row × List Side) Fault = Ok (r, rest) in x) (must_be (is_none (g a)) kind.Gone i >>= λ u. let x : Result (Side × List Side) Fault = Ok (a, rest) in x)
top_case {ts} {rows} {g} {made} N i a rest h B = elim (option_tells (g a)) [
  | inl n ↦ (
      let A : IsFree (length ts) g a = record { within = h; free = n } in
      subst (λ (o : Option Row). Agree (Tops ts g) (row_or_gone i o >>= λ r. let x : Result (Row × List Side) Fault = Ok (r, rest) in x) (must_be (is_none (g a)) kind.Gone i >>= λ u. let x : Result (Side × List Side) Fault = Ok (a, rest) in x)) (sym (row_is N a A))
      (subst (λ (o : Option Side). Agree (Tops ts g) (let x : Result (Row × List Side) Fault = Ok (row_named ts a, rest) in x) (must_be (is_none o) kind.Gone i >>= λ u. let x : Result (Side × List Side) Fault = Ok (a, rest) in x)) (sym n)
      (refl, A, B)))
  | inr b ↦ (
      subst (λ (o : Option Row). Agree (Tops ts g) (row_or_gone i o >>= λ r. let x : Result (Row × List Side) Fault = Ok (r, rest) in x) (must_be (is_none (g a)) kind.Gone i >>= λ u. let x : Result (Side × List Side) Fault = Ok (a, rest) in x)) (sym (no_row N a b.0 b.1))
      (subst (λ (o : Option Side). Agree (Tops ts g) (let x : Result (Row × List Side) Fault = Err (fault kind.Gone i) in x) (must_be (is_none o) kind.Gone i >>= λ u. let x : Result (Side × List Side) Fault = Ok (a, rest) in x)) (sym b.1) refl))
]

pub top_agrees : {ts : List Triangle} {rows : List Row} {g : Gluing} {made : ℕ} → AreNames ts rows g made → (i : ℕ) (stack : List Side) → AreBelow (length ts) stack → Agree (Tops ts g) (top_row i rows stack) (top i g stack)
top_agrees N i [] B = refl
top_agrees N i (a ∷ rest) B = top_case N i a rest B.0 B.1

-- the sides that wait and that are kept are of built faces
below_more : (f : ℕ) (stack : List Side) → AreBelow f stack → AreBelow (suc f) stack
below_more f [] h = tt
below_more f (a ∷ rest) h = (let l = h.0 in omega arith, below_more f rest h.1)

kept_more : (f : ℕ) (kept : ℕ → Option Side) → KeptBelow f kept → KeptBelow (suc f) kept
kept_more f kept K k a e = let l = K k a e in omega arith

pushed_below : (f : ℕ) (kept : ℕ → Option Side) (k : ℕ) (stack : List Side) → KeptBelow f kept → AreBelow f stack → AreBelow f (pushed (kept k) stack)
pushed_below f kept k stack K B = go (kept k) refl
  where
    go : (o : Option Side) → kept k ≡ o → AreBelow f (pushed o stack)
    go None e = B
    go (Some a) e = (K k a e, B)

reserve_below : (f j : ℕ) (a : Side) (kept : ℕ → Option Side) → a.face < f → KeptBelow f kept → KeptBelow f (reserve j a kept)
reserve_below f j a kept h K k b e = elim (cases_Bool (k == j)) [
  | inl t ↦ subst (λ (x : Side). x.face < f) (Some_injective a b (sym (cond-true (k == j) (Some a) (kept k) t) ∙ e)) h
  | inr t ↦ K k b (sym (cond-false (k == j) (Some a) (kept k) t) ∙ e)
]

release_below : (f j : ℕ) (kept : ℕ → Option Side) → KeptBelow f kept → KeptBelow f (release j kept)
release_below f j kept K k b e = elim (cases_Bool (k == j)) [
  | inl t ↦ absurd (let no : None ≡ Some b = sym (cond-true (k == j) None (kept k) t) ∙ e in cc)
  | inr t ↦ K k b (sym (cond-false (k == j) None (kept k) t) ∙ e)
]

abbrev Noted : Type 0
Noted = Result (List Event × (ℕ → Option Side)) Fault

abbrev NotedBelow : ℕ → Noted → Type 0
NotedBelow f (Ok noted) = KeptBelow f noted.1
NotedBelow f (Err e) = Unit {0}

must_noted : (f : ℕ) (t : Bool) (k : Kind) (n : ℕ) (h : Unit {0} → Noted) → NotedBelow f (h tt) → NotedBelow f (must_be t k n >>= h)
must_noted f true k n h p = p
must_noted f false k n h p = tt

cond_noted : (f : ℕ) (t : Bool) (x y : Noted) → NotedBelow f x → NotedBelow f y → NotedBelow f (cond t x y)
cond_noted f true x y p q = p
cond_noted f false x y p q = q

note_below : (f n i : ℕ) (events : List Event) (kept : ℕ → Option Side) → i < f → KeptBelow f kept → NotedBelow f (note_events n i events kept)
unfolding note_events
note_below f n i [] kept h K = K
note_below f n i (e ∷ events) kept h K =
    let rest : Unit {0} → Noted = λ u. note_events n i events (reserve (n - suc e.split) (side i (event_place e.right)) kept) in
    cond_noted f (nat_lt e.source (n - suc i)) _ _ K
    (must_noted f (not (nat_lt (n - suc i) e.source)) kind.EventOrder i (λ u. must_be (is_none (kept (n - suc e.split))) kind.Taken i >>= rest)
    (must_noted f (is_none (kept (n - suc e.split))) kind.Taken i rest
    (note_below f n i events (reserve (n - suc e.split) (side i (event_place e.right)) kept) h (reserve_below f (n - suc e.split) (side i (event_place e.right)) kept h K))))

-- events are noted alike
noted_agrees : (n i : ℕ) (before : State) (x : NamedState) (after : State) → Shows x after → before.built ≡ i → i < length x.triangles → Agree Shows (named_events n i x) (with_events n before after)
noted_agrees n i before x after W e h =
    subst (λ (t : State). Agree Shows (named_events n i x) (with_events n before t)) W.state
    (subst (λ (j : ℕ). Agree Shows (named_events n i x) (note_events n j x.events x.reserved >>= λ noted. let r : Result State Fault = Ok (record (without_names x) { events = noted.0; reserved = noted.1 }) in r)) (sym e)
    (agree_one Shows (note_events n i x.events x.reserved) (λ noted. Ok (record x { events = noted.0; reserved = noted.1 })) (λ noted. Ok (record (without_names x) { events = noted.0; reserved = noted.1 }))
    (λ noted q. record { names = W.names; waiting = W.waiting; kept = subst (NotedBelow (length x.triangles)) q (note_below (length x.triangles) n i x.events x.reserved h W.kept); state = refl })))

length-one_more : (ts : List Triangle) (t : Triangle) → length (ts ++ (t ∷ [])) ≡ suc (length ts)
length-one_more ts t = let a = length-append ts (t ∷ []) in omega arith

first_waits : (ts us : List Triangle) (stack : List Side) → length us ≡ suc (length ts) → AreBelow (length ts) stack → AreBelow (length us) (side (length ts) first ∷ stack)
first_waits ts us stack e B = subst (λ (n : ℕ). AreBelow n (side (length ts) first ∷ stack)) (sym e) (omega arith, below_more (length ts) stack B)

kept_stays : (ts us : List Triangle) (kept : ℕ → Option Side) → length us ≡ suc (length ts) → KeptBelow (length ts) kept → KeptBelow (length us) kept
kept_stays ts us kept e K = subst (λ (n : ℕ). KeptBelow n kept) (sym e) (kept_more (length ts) kept K)

-- what a named state shows by itself
pub record Stands (x : NamedState) : Type 0 where
  pub names : AreNames x.triangles x.rows x.glued x.made
  pub waiting : AreBelow (length x.triangles) x.stack
  pub kept : KeptBelow (length x.triangles) x.reserved

-- E
end_agrees : (n : ℕ) (x : NamedState) → Stands x → Agree Shows (named_step n E x) (step n E (without_names x))
unfolding named_rule step
end_agrees n x W =
    let f = length x.triangles in
    let t : Triangle = (x.made, x.made + 1, x.made + 2) in
    let s = without_names x in
    let long = length-one_more x.triangles t in
    noted_agrees n f s
    (record x {
      triangles = x.triangles ++ (t ∷ []);
      rows = x.rows ++ (new_row f t first ∷ new_row f t second ∷ new_row f t third ∷ []);
      stack = side f first ∷ x.stack;
      made = x.made + 3;
    })
    (grown s s.glued s.stack 3)
    (record {
      names = end_names W.names;
      waiting = first_waits x.triangles (x.triangles ++ (t ∷ [])) x.stack long W.waiting;
      kept = kept_stays x.triangles (x.triangles ++ (t ∷ [])) x.reserved long W.kept;
      state = same_state long refl refl refl refl refl refl;
    })
    refl (omega arith)

abbrev pub named_right : ℕ → NamedState → Row × List Side → Result NamedState Fault
named_right n x a =
    let i = length x.triangles in
    let t : Triangle = (a.0.to, a.0.from, x.made) in
    named_events n i (record x {
      triangles = x.triangles ++ (t ∷ []);
      rows = without a.0.side x.rows ++ (new_row i t first ∷ new_row i t second ∷ []);
      glued = glue (side i third) a.0.side x.glued;
      stack = side i first ∷ a.1;
      made = x.made + 1;
    })

abbrev plain_right : ℕ → State → Side × List Side → Result State Fault
plain_right n s a = with_events n s (grown s (glue (side s.built third) a.0 s.glued) a.1 1)

right_goes : (n : ℕ) (x : NamedState) → Stands x → (z : Side × List Side) → IsFree (length x.triangles) x.glued z.0 → AreBelow (length x.triangles) z.1 →
    Agree Shows (named_right n x (row_named x.triangles z.0, z.1)) (plain_right n (without_names x) z)
right_goes n x W z A B =
    let f = length x.triangles in
    let t : Triangle = (name_of x.triangles (prev z.0), name_of x.triangles (next z.0), x.made) in
    let s = without_names x in
    let long = length-one_more x.triangles t in
    noted_agrees n f s
    (record x {
      triangles = x.triangles ++ (t ∷ []);
      rows = without z.0 x.rows ++ (new_row f t first ∷ new_row f t second ∷ []);
      glued = glue (side f third) z.0 x.glued;
      stack = side f first ∷ z.1;
      made = x.made + 1;
    })
    (grown s (glue (side f third) z.0 s.glued) z.1 1)
    (record {
      names = right_names W.names z.0 A;
      waiting = first_waits x.triangles (x.triangles ++ (t ∷ [])) z.1 long B;
      kept = kept_stays x.triangles (x.triangles ++ (t ∷ [])) x.reserved long W.kept;
      state = same_state long refl refl refl refl refl refl;
    })
    refl (omega arith)

-- R
right_agrees : (n : ℕ) (x : NamedState) → Stands x → Agree Shows (named_step n R x) (step n R (without_names x))
unfolding named_rule step
right_agrees n x W =
    agree_then (Tops x.triangles x.glued) Shows (top_row (length x.triangles) x.rows x.stack) (top (length x.triangles) x.glued x.stack) (named_right n x) (plain_right n (without_names x))
    (top_agrees W.names (length x.triangles) x.stack W.waiting)
    (λ y z T. subst (λ (a : Row × List Side). Agree Shows (named_right n x a) (plain_right n (without_names x) z)) (sym T.0) (right_goes n x W z T.1 T.2))

abbrev pub named_left : ℕ → NamedState → Row × List Side → Result NamedState Fault
named_left n x a =
    let i = length x.triangles in
    let t : Triangle = (a.0.from, x.made, a.0.to) in
    named_events n i (record x {
      triangles = x.triangles ++ (t ∷ []);
      rows = without a.0.side x.rows ++ (new_row i t first ∷ new_row i t third ∷ []);
      glued = glue (side i second) a.0.side x.glued;
      stack = side i first ∷ a.1;
      made = x.made + 1;
    })

abbrev plain_left : ℕ → State → Side × List Side → Result State Fault
plain_left n s a = with_events n s (grown s (glue (side s.built second) a.0 s.glued) a.1 1)

left_goes : (n : ℕ) (x : NamedState) → Stands x → (z : Side × List Side) → IsFree (length x.triangles) x.glued z.0 → AreBelow (length x.triangles) z.1 →
    Agree Shows (named_left n x (row_named x.triangles z.0, z.1)) (plain_left n (without_names x) z)
left_goes n x W z A B =
    let f = length x.triangles in
    let t : Triangle = (name_of x.triangles (next z.0), x.made, name_of x.triangles (prev z.0)) in
    let s = without_names x in
    let long = length-one_more x.triangles t in
    noted_agrees n f s
    (record x {
      triangles = x.triangles ++ (t ∷ []);
      rows = without z.0 x.rows ++ (new_row f t first ∷ new_row f t third ∷ []);
      glued = glue (side f second) z.0 x.glued;
      stack = side f first ∷ z.1;
      made = x.made + 1;
    })
    (grown s (glue (side f second) z.0 s.glued) z.1 1)
    (record {
      names = left_names W.names z.0 A;
      waiting = first_waits x.triangles (x.triangles ++ (t ∷ [])) z.1 long B;
      kept = kept_stays x.triangles (x.triangles ++ (t ∷ [])) x.reserved long W.kept;
      state = same_state long refl refl refl refl refl refl;
    })
    refl (omega arith)

-- L
left_agrees : (n : ℕ) (x : NamedState) → Stands x → Agree Shows (named_step n L x) (step n L (without_names x))
unfolding named_rule step
left_agrees n x W =
    agree_then (Tops x.triangles x.glued) Shows (top_row (length x.triangles) x.rows x.stack) (top (length x.triangles) x.glued x.stack) (named_left n x) (plain_left n (without_names x))
    (top_agrees W.names (length x.triangles) x.stack W.waiting)
    (λ y z T. subst (λ (a : Row × List Side). Agree Shows (named_left n x a) (plain_left n (without_names x) z)) (sym T.0) (left_goes n x W z T.1 T.2))

not_true : (b : Bool) → not b ≡ true → b ≡ false
not_true true e = absurd (cc)
not_true false e = refl

apart_sides : (a b : Side) → not (same a b) ≡ true → a ≢ b
apart_sides a b e = same-false a b (not_true (same a b) e)

-- C
abbrev pub tip_made : NamedState → Row → List Side → Row → Result NamedState Fault
tip_made x a rest b =
    let i = length x.triangles in
    let t : Triangle = (a.from, b.from, a.to) in
    Ok (record x {
      triangles = x.triangles ++ (t ∷ []);
      rows = without b.side (without a.side x.rows) ++ (new_row i t first ∷ []);
      glued = glue (side i third) b.side (glue (side i second) a.side x.glued);
      stack = side i first ∷ rest;
    })

abbrev pub tip_found : NamedState → Row → List Side → Row → Result NamedState Fault
tip_found x a rest b = must_be (not (same b.side a.side)) kind.Alone (length x.triangles) >>= λ u. tip_made x a rest b

abbrev pub named_tip : NamedState → Row × List Side → Result NamedState Fault
named_tip x a = tip_found x a.0 a.1 (row_before a.0 x.rows)

tip_shows : (x : NamedState) → Stands x → (a b : Side) (rest : List Side) → IsFree (length x.triangles) x.glued a → IsFree (length x.triangles) x.glued b → AreBelow (length x.triangles) rest → b ≢ a →
    name_of x.triangles (prev b) ≡ name_of x.triangles (next a) →
    Agree Shows (tip_made x (row_named x.triangles a) rest (row_named x.triangles b))
    (let r : Result State Fault = Ok (grown (without_names x) (glue (side (length x.triangles) third) b (glue (side (length x.triangles) second) a x.glued)) rest 0) in r)
tip_shows x W a b rest A B K ne e =
    let t : Triangle = (name_of x.triangles (next a), name_of x.triangles (next b), name_of x.triangles (prev a)) in
    let long = length-one_more x.triangles t in
    record {
      names = tip_names W.names a b A B ne e;
      waiting = first_waits x.triangles (x.triangles ++ (t ∷ [])) rest long K;
      kept = kept_stays x.triangles (x.triangles ++ (t ∷ [])) x.reserved long W.kept;
      state = same_state long refl refl refl refl (let q : x.made ≡ x.made + 0 = omega arith in q) refl;
    }

tip_goes : (x : NamedState) → Stands x → (z : Side × List Side) → IsFree (length x.triangles) x.glued z.0 → AreBelow (length x.triangles) z.1 →
    Agree Shows (named_tip x (row_named x.triangles z.0, z.1)) (tip_rest (without_names x) z)
tip_goes x W z A B =
    let ts = x.triangles in
    let b = side_before (length ts) x.glued z.0 in
    let F = before_ends W.names z.0 A in
    subst (λ (r : Row). Agree Shows (tip_found x (row_named ts z.0) z.1 r) (tip_rest (without_names x) z)) (sym (row_before_is W.names z.0 A))
    (agree_must Shows (not (same b z.0)) (not (same b z.0)) kind.Alone (length ts) (λ u. tip_made x (row_named ts z.0) z.1 (row_named ts b))
    (λ u. Ok (grown (without_names x) (glue (side (length ts) third) b (glue (side (length ts) second) z.0 x.glued)) z.1 0)) refl
    (λ e. tip_shows x W z.0 b z.1 A F.0 B (apart_sides b z.0 e) F.1))

tip_agrees : (n : ℕ) (x : NamedState) → Stands x → Agree Shows (named_step n C x) (step n C (without_names x))
unfolding named_rule step
tip_agrees n x W =
    agree_then (Tops x.triangles x.glued) Shows (top_row (length x.triangles) x.rows x.stack) (top (length x.triangles) x.glued x.stack) (named_tip x) (tip_rest (without_names x))
    (top_agrees W.names (length x.triangles) x.stack W.waiting)
    (λ y z T. subst (λ (a : Row × List Side). Agree Shows (named_tip x a) (tip_rest (without_names x) z)) (sym T.0) (tip_goes x W z T.1 T.2))

-- S
abbrev pub split_made : NamedState → Row → Row → List Side → Result NamedState Fault
split_made x b a rest =
    let i = length x.triangles in
    let rename = renamed b.from a.to in
    let t : Triangle = (rename a.to, rename a.from, rename b.to) in
    Ok (record x {
      triangles = map (renamed_triangle rename) x.triangles ++ (t ∷ []);
      rows = map (renamed_row rename) (without b.side (without a.side x.rows)) ++ (new_row i t first ∷ []);
      glued = glue (side i second) b.side (glue (side i third) a.side x.glued);
      stack = side i first ∷ rest;
      reserved = release i x.reserved;
    })

abbrev pub named_split_last : NamedState → Row → Row × List Side → Result NamedState Fault
named_split_last x b a =
    must_be (not (same a.0.side b.side)) kind.Gone (length x.triangles) >>= λ u.
    must_be (not (b.from == a.0.to)) kind.SamePoint (length x.triangles) >>= λ v.
    split_made x b a.0 a.1

abbrev pub named_split : NamedState → Row × List Side → Result NamedState Fault
named_split x b = top_row (length x.triangles) x.rows (pushed (x.reserved (length x.triangles)) b.1) >>= named_split_last x b.0

abbrev split_state : State → Side → Side → List Side → Result State Fault
split_state s b a rest = Ok (record (grown s (glue (side s.built second) b (glue (side s.built third) a s.glued)) rest 0) { reserved = release s.built s.reserved })

split_shows : (x : NamedState) → Stands x → (b a : Side) (rest : List Side) → IsFree (length x.triangles) x.glued b → IsFree (length x.triangles) x.glued a → AreBelow (length x.triangles) rest → b ≢ a →
    Agree Shows (split_made x (row_named x.triangles b) (row_named x.triangles a) rest) (split_state (without_names x) b a rest)
split_shows x W b a rest B A K ne =
    let ts = x.triangles in
    let rename = renamed (name_of ts (next b)) (name_of ts (prev a)) in
    let t : Triangle = (rename (name_of ts (prev a)), rename (name_of ts (next a)), rename (name_of ts (prev b))) in
    let long : length (map (renamed_triangle rename) ts ++ (t ∷ [])) ≡ suc (length ts) = (let p = length-append (map (renamed_triangle rename) ts) (t ∷ []) in let q = length-map ts (renamed_triangle rename) in omega arith) in
    record {
      names = split_names W.names b a B A ne;
      waiting = first_waits ts (map (renamed_triangle rename) ts ++ (t ∷ [])) rest long K;
      kept = kept_stays ts (map (renamed_triangle rename) ts ++ (t ∷ [])) (release (length ts) x.reserved) long (release_below (length ts) (length ts) x.reserved W.kept);
      state = same_state long refl refl refl refl (let q : x.made ≡ x.made + 0 = omega arith in q) refl;
    }

split_ends : (x : NamedState) → Stands x → (b : Side) → IsFree (length x.triangles) x.glued b → (z : Side × List Side) → IsFree (length x.triangles) x.glued z.0 → AreBelow (length x.triangles) z.1 →
    Agree Shows (named_split_last x (row_named x.triangles b) (row_named x.triangles z.0, z.1)) (split_last (without_names x) b z)
split_ends x W b B z A K =
    let ts = x.triangles in
    let before = side_before (length ts) x.glued b in
    agree_must Shows (not (same z.0 b)) (not (same z.0 b)) kind.Gone (length ts)
    (λ u. must_be (not (name_of ts (next b) == name_of ts (prev z.0))) kind.SamePoint (length ts) >>= λ v. split_made x (row_named ts b) (row_named ts z.0) z.1)
    (λ u. must_be (not (same before z.0)) kind.SamePoint (length ts) >>= λ v. split_state (without_names x) b z.0 z.1) refl
    (λ e. agree_must Shows (not (name_of ts (next b) == name_of ts (prev z.0))) (not (same before z.0)) kind.SamePoint (length ts)
    (λ v. split_made x (row_named ts b) (row_named ts z.0) z.1) (λ v. split_state (without_names x) b z.0 z.1) (ap not (one_point_is W.names b z.0 B A))
    (λ q. split_shows x W b z.0 z.1 B A K (λ h. apart_sides z.0 b e (sym h))))

split_goes : (x : NamedState) → Stands x → (z : Side × List Side) → IsFree (length x.triangles) x.glued z.0 → AreBelow (length x.triangles) z.1 →
    Agree Shows (named_split x (row_named x.triangles z.0, z.1)) (split_rest (without_names x) z)
split_goes x W z B K =
    let f = length x.triangles in
    let under = pushed (x.reserved f) z.1 in
    agree_then (Tops x.triangles x.glued) Shows (top_row f x.rows under) (top f x.glued under) (named_split_last x (row_named x.triangles z.0)) (split_last (without_names x) z.0)
    (top_agrees W.names f under (pushed_below f x.reserved f z.1 W.kept K))
    (λ y a T. subst (λ (q : Row × List Side). Agree Shows (named_split_last x (row_named x.triangles z.0) q) (split_last (without_names x) z.0 a)) (sym T.0) (split_ends x W z.0 B a T.1 T.2))

split_agrees : (n : ℕ) (x : NamedState) → Stands x → Agree Shows (named_step n S x) (step n S (without_names x))
unfolding named_rule step
split_agrees n x W =
    agree_then (Tops x.triangles x.glued) Shows (top_row (length x.triangles) x.rows x.stack) (top (length x.triangles) x.glued x.stack) (named_split x) (split_rest (without_names x))
    (top_agrees W.names (length x.triangles) x.stack W.waiting)
    (λ y z T. subst (λ (a : Row × List Side). Agree Shows (named_split x a) (split_rest (without_names x) z)) (sym T.0) (split_goes x W z T.1 T.2))

step_agrees : (n : ℕ) (symbol : Symbol) (x : NamedState) → Stands x → Agree Shows (named_step n symbol x) (step n symbol (without_names x))
step_agrees n E x W = end_agrees n x W
step_agrees n R x W = right_agrees n x W
step_agrees n L x W = left_agrees n x W
step_agrees n C x W = tip_agrees n x W
step_agrees n S x W = split_agrees n x W

pub stands : {x : NamedState} {s : State} → Shows x s → Stands x
stands W = record { names = W.names; waiting = W.waiting; kept = W.kept }

-- each symbol
pub symbols_agree : (n : ℕ) (symbol : Symbol) (x : NamedState) (s : State) → Shows x s → Agree Shows (named_step n symbol x) (step n symbol s)
symbols_agree n symbol x s W = subst (λ (t : State). Agree Shows (named_step n symbol x) (step n symbol t)) W.state (step_agrees n symbol x (stands W))

-- a close
abbrev pub fill_made : Plan → NamedState → Row → Row → Row → List Side → Result NamedState Fault
fill_made p x a b c rest =
    let i = length x.triangles in
    let t : Triangle = (b.from, a.to, a.from) in
    Ok (record x {
      triangles = x.triangles ++ (t ∷ []);
      rows = without c.side (without b.side (without a.side x.rows));
      glued = glue (side i third) c.side (glue (side i second) b.side (glue (side i first) a.side x.glued));
      stack = rest;
      closes = suc x.closes;
    })

abbrev pub fill_from : ℕ → Plan → NamedState → Row → List Side → Row → Row → Result NamedState Fault
fill_from n p x a rest b c =
    must_be (not (same b.side a.side) && not (same c.side a.side) && (c.from == a.to)) kind.Loop n >>= λ u.
    must_be (not (length x.triangles == p.faces)) kind.FaceCount (length x.triangles) >>= λ v.
    fill_made p x a b c rest

fill_shows : (p : Plan) (x : NamedState) → Stands x → (a : Side) (rest : List Side) → IsFree (length x.triangles) x.glued a → AreBelow (length x.triangles) rest → loop_test (without_names x) a ≡ true →
    let b = side_before (length x.triangles) x.glued a in
    let c = side_before (length x.triangles) x.glued b in
    Agree Shows (fill_made p x (row_named x.triangles a) (row_named x.triangles b) (row_named x.triangles c) rest) (let r : Result State Fault = Ok (filled_state a rest (without_names x)) in r)
fill_shows p x W a rest A K test =
    let ts = x.triangles in
    let f = length ts in
    let b = side_before f x.glued a in
    let c = side_before f x.glued b in
    let F = before_ends W.names a A in
    let H = before_ends W.names b F.0 in
    let T = before_ends W.names c H.0 in
    let parts = and_parts (not (same b a) && not (same c a)) (same (side_before f x.glued c) a) test in
    let more = and_parts (not (same b a)) (not (same c a)) parts.0 in
    let back : side_before f x.glued c ≡ a = same-true (side_before f x.glued c) a parts.1 in
    let ba = apart_sides b a more.0 in
    let cb : c ≢ b = λ q. ba (sym q ∙ sym (ap (side_before f x.glued) q) ∙ back) in
    let t : Triangle = (name_of ts (next b), name_of ts (prev a), name_of ts (next a)) in
    let long = length-one_more ts t in
    record {
      names = fill_names W.names a b c A F.0 H.0 ba (apart_sides c a more.1) cb F.1 H.1 (sym T.1 ∙ ap (λ (y : Side). name_of ts (prev y)) back);
      waiting = subst (λ (m : ℕ). AreBelow m rest) (sym long) (below_more f rest K);
      kept = kept_stays ts (ts ++ (t ∷ [])) x.reserved long W.kept;
      state = same_state long refl refl refl refl refl refl;
    }

-- the tests of a close, from a free side on
fill_goes : (n : ℕ) (p : Plan) (x : NamedState) → Stands x → (a : Side) (rest : List Side) → IsFree (length x.triangles) x.glued a → AreBelow (length x.triangles) rest →
    Agree Shows (named_fill n p (row_named x.triangles a) rest x) (fill_loop n p a rest (without_names x) tt)
fill_goes n p x W a rest A K =
    let ts = x.triangles in
    let f = length ts in
    let b = side_before f x.glued a in
    let c = side_before f x.glued b in
    let F = before_ends W.names a A in
    let H = before_ends W.names b F.0 in
    let r = row_named ts a in
    subst (λ (q : Row). Agree Shows (fill_from n p x r rest q (row_before q x.rows)) (fill_loop n p a rest (without_names x) tt)) (sym (row_before_is W.names a A))
    (subst (λ (q : Row). Agree Shows (fill_from n p x r rest (row_named ts b) q) (fill_loop n p a rest (without_names x) tt)) (sym (row_before_is W.names b F.0))
    (agree_must Shows (not (same b a) && not (same c a) && (name_of ts (next c) == name_of ts (prev a))) (loop_test (without_names x) a) kind.Loop n
    (λ u. must_be (not (f == p.faces)) kind.FaceCount f >>= λ v. fill_made p x r (row_named ts b) (row_named ts c) rest)
    (fill_count p a rest (without_names x))
    (ap (λ (t : Bool). not (same b a) && not (same c a) && t) (one_point_is W.names c a H.0 A))
    (λ e. agree_must Shows (not (f == p.faces)) (not (f == p.faces)) kind.FaceCount f (λ v. fill_made p x r (row_named ts b) (row_named ts c) rest) (λ v. Ok (filled_state a rest (without_names x))) refl
    (λ q. fill_shows p x W a rest A K (sym (ap (λ (t : Bool). not (same b a) && not (same c a) && t) (one_point_is W.names c a H.0 A)) ∙ e)))))

fill_case : (n : ℕ) (p : Plan) (x : NamedState) → Stands x → (a : Side) (rest : List Side) → a.face < length x.triangles → AreBelow (length x.triangles) rest →
    Agree Shows (row_or_gone n (row_at_side a x.rows) >>= λ r. named_fill n p r rest x) (must_be (is_none (x.glued a)) kind.Gone n >>= fill_loop n p a rest (without_names x))
fill_case n p x W a rest h K = elim (option_tells (x.glued a)) [
  | inl e ↦ (
      let A : IsFree (length x.triangles) x.glued a = record { within = h; free = e } in
      subst (λ (o : Option Row). Agree Shows (row_or_gone n o >>= λ r. named_fill n p r rest x) (must_be (is_none (x.glued a)) kind.Gone n >>= fill_loop n p a rest (without_names x))) (sym (row_is W.names a A))
      (subst (λ (o : Option Side). Agree Shows (named_fill n p (row_named x.triangles a) rest x) (must_be (is_none o) kind.Gone n >>= fill_loop n p a rest (without_names x))) (sym e)
      (fill_goes n p x W a rest A K)))
  | inr b ↦ (
      subst (λ (o : Option Row). Agree Shows (row_or_gone n o >>= λ r. named_fill n p r rest x) (must_be (is_none (x.glued a)) kind.Gone n >>= fill_loop n p a rest (without_names x))) (sym (no_row W.names a b.0 b.1))
      (subst (λ (o : Option Side). Agree Shows (let r : Result NamedState Fault = Err (fault kind.Gone n) in r) (must_be (is_none o) kind.Gone n >>= fill_loop n p a rest (without_names x))) (sym b.1) refl))
]

close_case : (n : ℕ) (p : Plan) (interior : Bool) (stack : List Side) (x : NamedState) → Stands x → AreBelow (length x.triangles) stack → Agree Shows (named_close_top n p interior stack x) (close_top n p interior stack (without_names x))
close_case n p true [] x W B = record { names = W.names; waiting = W.waiting; kept = W.kept; state = refl }
close_case n p false [] x W B = record { names = W.names; waiting = W.waiting; kept = W.kept; state = refl }
close_case n p true (a ∷ rest) x W B = fill_case n p x W a rest B.0 B.1
close_case n p false (a ∷ rest) x W B = record { names = W.names; waiting = B.1; kept = W.kept; state = refl }

close_agrees : (p : Plan) (interior : Bool) (x : NamedState) → Stands x → Agree Shows (named_close p interior x) (close p interior (without_names x))
unfolding named_close close
close_agrees p interior x W = close_case (p.symbols + x.closes) p interior x.stack x W W.waiting

-- each close
pub closes_agree : (p : Plan) (interior : Bool) (x : NamedState) (s : State) → Shows x s → Agree Shows (named_close p interior x) (close p interior s)
closes_agree p interior x s W = subst (λ (t : State). Agree Shows (named_close p interior x) (close p interior t)) W.state (close_agrees p interior x (stands W))

-- one name is one fan
pub name_test : {x : NamedState} → Stands x → (c d : Side) → c.face < length x.triangles → d.face < length x.triangles → (name_of x.triangles c == name_of x.triangles d) ≡ meets (length x.triangles) x.glued c d
name_test {x} W c d h k = one_truth _ _
    (λ e. fan_meets W.names.gluing c d h k (W.names.one_fan c d h k (eqb-true (name_of x.triangles c) (name_of x.triangles d) e)))
    (λ e. eq-eqb (name_of x.triangles c) (name_of x.triangles d) (W.names.one_name c d (meets-fan (length x.triangles) x.glued c d e)))
  where
    one_truth : (t u : Bool) → (t ≡ true → u ≡ true) → (u ≡ true → t ≡ true) → t ≡ u
    one_truth true u f h = sym (f refl)
    one_truth false true f h = h refl
    one_truth false false f h = refl

equal_is : {x : NamedState} → Stands x → (f : ℕ) → f < length x.triangles → has_equal (get_or x.triangles f no_triangle) ≡ is_degenerate (length x.triangles) x.glued f
equal_is {x} W f h =
    let test : (j k : Place) → (name_of x.triangles (side f j) == name_of x.triangles (side f k)) ≡ meets (length x.triangles) x.glued (side f j) (side f k) = λ j k. name_test W (side f j) (side f k) h h in
    let m : Place → Place → Bool = λ j k. meets (length x.triangles) x.glued (side f j) (side f k) in
    let e : Place → Place → Bool = λ j k. name_of x.triangles (side f j) == name_of x.triangles (side f k) in
    ap (λ (t : Bool). t || e second third || e third first) (test first second)
    ∙ ap (λ (t : Bool). m first second || t || e third first) (test second third)
    ∙ ap (λ (t : Bool). m first second || m second third || t) (test third first)

pub first_is : {x : NamedState} → Stands x → (n : ℕ) → n ≤ length x.triangles → first_with_equal x.triangles n ≡ first_degenerate (length x.triangles) x.glued n
unfolding first_with_equal first_degenerate
first_is W zero h = refl
first_is {x} W (suc n) h =
    ap (λ (o : Option ℕ). let r : Option ℕ = elim o [ Some f ↦ Some f | None ↦ cond (has_equal (get_or x.triangles n no_triangle)) (Some n) None ] in r) (first_is W n (omega arith))
    ∙ ap (λ (t : Bool). let r : Option ℕ = elim (first_degenerate (length x.triangles) x.glued n) [ Some f ↦ Some f | None ↦ cond t (Some n) None ] in r) (equal_is W n (omega arith))

end_case : (x : NamedState) → Stands x → (o : Option ℕ) →
    Agree Shows (let r : Result NamedState Fault = elim o [ None ↦ Ok x | Some f ↦ Err (fault kind.Degenerate f) ] in r) (let r : Result State Fault = elim o [ None ↦ Ok (without_names x) | Some f ↦ Err (fault kind.Degenerate f) ] in r)
end_case x W None = record { names = W.names; waiting = W.waiting; kept = W.kept; state = refl }
end_case x W (Some f) = refl

finish_agrees : (p : Plan) (x : NamedState) → Stands x → Agree Shows (named_finish p x) (finish p (without_names x))
unfolding named_finish finish
finish_agrees p x W =
    let f = length x.triangles in
    let named_last : Option ℕ → Result NamedState Fault = λ o. elim o [ None ↦ Ok x | Some f ↦ Err (fault kind.Degenerate f) ] in
    let plain_last : Option ℕ → Result State Fault = λ o. elim o [ None ↦ Ok (without_names x) | Some f ↦ Err (fault kind.Degenerate f) ] in
    agree_must Shows (f == p.faces) (f == p.faces) kind.FaceCount f
    (λ u. must_be (nat_le x.made p.created) kind.VertexCount x.made >>= λ v. named_last (first_with_equal x.triangles f))
    (λ u. must_be (nat_le x.made p.created) kind.VertexCount x.made >>= λ v. plain_last (first_degenerate f x.glued f)) refl
    (λ e. agree_must Shows (nat_le x.made p.created) (nat_le x.made p.created) kind.VertexCount x.made (λ v. named_last (first_with_equal x.triangles f)) (λ v. plain_last (first_degenerate f x.glued f)) refl
    (λ q. subst (λ (o : Option ℕ). Agree Shows (named_last o) (plain_last (first_degenerate f x.glued f))) (sym (first_is W f (omega arith))) (end_case x W (first_degenerate f x.glued f))))

-- the end
pub ends_agree : (p : Plan) (x : NamedState) (s : State) → Shows x s → Agree Shows (named_finish p x) (finish p s)
ends_agree p x s W = subst (λ (t : State). Agree Shows (named_finish p x) (finish p t)) W.state (finish_agrees p x (stands W))

-- runs
run_symbols : (n : ℕ) (symbols : List Symbol) (x : NamedState) (s : State) → Shows x s → Agree Shows (named_symbols n symbols x) (take_symbols n symbols s)
unfolding named_symbols take_symbols
run_symbols n [] x s W = W
run_symbols n (symbol ∷ symbols) x s W = agree_then Shows Shows (named_step n symbol x) (step n symbol s) (named_symbols n symbols) (take_symbols n symbols) (symbols_agree n symbol x s W) (λ y t V. run_symbols n symbols y t V)

run_closes : (p : Plan) (bits : ℕ → Bool) (left : ℕ) (x : NamedState) (s : State) → Shows x s → Agree Shows (named_closes p bits left x) (close_all p bits left s)
unfolding named_closes close_all
run_closes p bits zero x s W = W
run_closes p bits (suc left) x s W =
    subst (λ (k : ℕ). Agree Shows (named_close p (bits x.closes) x >>= named_closes p bits left) (close p (bits k) s >>= close_all p bits left)) (ap (λ (t : State). t.closes) W.state)
    (agree_then Shows Shows (named_close p (bits x.closes) x) (close p (bits x.closes) s) (named_closes p bits left) (close_all p bits left) (closes_agree p (bits x.closes) x s W) (λ y t V. run_closes p bits left y t V))

pub shows_start : (events : List Event) → Shows (named_start events) (start events)
shows_start events = record { names = names_start; waiting = tt; kept = λ k a e. absurd (let no : None ≡ Some a = e in cc); state = refl }

pub runs_agree : (p : Plan) (symbols : List Symbol) (events : List Event) (bits : ℕ → Bool) → Agree Shows (named_rebuild p symbols events bits) (rebuild p symbols events bits)
unfolding named_rebuild rebuild
runs_agree p symbols events bits =
    agree_then Shows Shows (named_symbols p.symbols symbols (named_start events)) (take_symbols p.symbols symbols (start events))
    (λ x. named_closes p bits (length x.stack) x >>= named_finish p) (λ s. close_all p bits (length s.stack) s >>= finish p)
    (run_symbols p.symbols symbols (named_start events) (start events) (shows_start events))
    (λ x s W. subst (λ (k : ℕ). Agree Shows (named_closes p bits (length x.stack) x >>= named_finish p) (close_all p bits k s >>= finish p)) (ap (λ (t : State). length t.stack) W.state)
    (agree_then Shows Shows (named_closes p bits (length x.stack) x) (close_all p bits (length x.stack) s) (named_finish p) (finish p) (run_closes p bits (length x.stack) x s W) (λ y t V. ends_agree p y t V)))

pub stops_agree : (p : Plan) (symbols : List Symbol) (events : List Event) (bits : ℕ → Bool) (closed : ℕ) →
    Agree Shows
    (named_symbols p.symbols symbols (named_start events) >>= named_closes p bits closed)
    (take_symbols p.symbols symbols (start events) >>= close_all p bits closed)
stops_agree p symbols events bits closed =
    agree_then Shows Shows (named_symbols p.symbols symbols (named_start events)) (take_symbols p.symbols symbols (start events)) (named_closes p bits closed) (close_all p bits closed)
    (run_symbols p.symbols symbols (named_start events) (start events) (shows_start events))
    (λ x s W. run_closes p bits closed x s W)
