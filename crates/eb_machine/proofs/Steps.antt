-- The rules of the machine, one outcome at a time.
use Rattle.std.proofs.Common.{◌≡◌, ◌≢◌, ℕ, suc, ◌+◌, Bool, true, false, not, ◌&&◌, ◌==◌, is_none, List, [], ◌∷◌, Option, Some, None, Result, Ok, Err, refl, ap, ◌∙◌, eq-eqb, ne_eqb}
use Rattle.drc_base.specs.declared.kinds.Kind.{Kind}
use Rattle.drc_base.specs.declared.kinds.Kind.TheVariants as kind
use Rattle.drc_base.specs.declared.faults.Fault.{Fault}
use Rattle.drc_base.specs.Steps.{◌>>=◌}
use Rattle.corner_table.specs.declared.symbols.Symbol.TheVariants.{C, S, L, R, E}
use Rattle.corner_table.specs.declared.symbols.Event.{Event}
use Rattle.corner_table.specs.Sides.{Side, first, second, third, side, same, Gluing, glue}
use Rattle.corner_table.specs.Fans.{side_before}
use Rattle.corner_table.proofs.Places.{not_same, same_refl}
use Rattle.eb_machine.specs.declared.beside.Beside.{Beside}
use Rattle.eb_machine.specs.declared.beside.Beside.TheVariants.{Left, Right}
use Rattle.eb_machine.specs.Beside.{symbol_in, glued_place}
use Rattle.eb_machine.specs.Machine.{State, Plan, step, close, close_top, fill, top, pushed, release, must_be, fault, with_events, grown, note_events}

-- a state from its parts
abbrev pub the_state : ℕ → Gluing → List Side → (ℕ → Option Side) → List Event → ℕ → ℕ → State
the_state b g t r e m c = record { built = b; glued = g; stack = t; reserved = r; events = e; made = m; closes = c }

pub same_state : {b b' : ℕ} {g g' : Gluing} {t t' : List Side} {r r' : ℕ → Option Side} {e e' : List Event} {m m' c c' : ℕ} →
    b ≡ b' → g ≡ g' → t ≡ t' → r ≡ r' → e ≡ e' → m ≡ m' → c ≡ c' → the_state b g t r e m c ≡ the_state b' g' t' r' e' m' c'
same_state pb pg pt pr pe pm pc = λ i. the_state (pb i) (pg i) (pt i) (pr i) (pe i) (pm i) (pc i)

abbrev pub Next : Type 0
Next = Result State Fault

-- a first part that is known
pub then_ok : {A : Type 0} (r : Result A Fault) (x : A) (f : A → Next) → r ≡ Ok x → (r >>= f) ≡ f x
then_ok r x f e = ap (λ (s : Result _ Fault). s >>= f) e

pub then_err : {A : Type 0} (r : Result A Fault) (x : Fault) (f : A → Next) → r ≡ Err x → (r >>= f) ≡ Err x
then_err r x f e = ap (λ (s : Result _ Fault). s >>= f) e

-- a test that is known
pub must_hold : (t : Bool) (k : Kind) (n : ℕ) (f : Unit {0} → Next) → t ≡ true → (must_be t k n >>= f) ≡ f tt
must_hold t k n f e = ap (λ (b : Bool). must_be b k n >>= f) e

pub must_fail : (t : Bool) (k : Kind) (n : ℕ) (f : Unit {0} → Next) → t ≡ false → (must_be t k n >>= f) ≡ Err (fault k n)
must_fail t k n f e = ap (λ (b : Bool). must_be b k n >>= f) e

-- the top of a stack
pub top_none : (i : ℕ) (g : Gluing) → top i g [] ≡ Err (fault kind.NoActive i)
top_none i g = refl

pub top_free : (i : ℕ) (g : Gluing) (a : Side) (rest : List Side) → g a ≡ None → top i g (a ∷ rest) ≡ Ok (a, rest)
top_free i g a rest e = ap (λ (o : Option Side). must_be (is_none o) kind.Gone i >>= λ u. let x : Result (Side × List Side) Fault = Ok (a, rest) in x) e

pub top_gone : (i : ℕ) (g : Gluing) (a b : Side) (rest : List Side) → g a ≡ Some b → top i g (a ∷ rest) ≡ Err (fault kind.Gone i)
top_gone i g a b rest e = ap (λ (o : Option Side). must_be (is_none o) kind.Gone i >>= λ u. let x : Result (Side × List Side) Fault = Ok (a, rest) in x) e

-- after E, L and R the events are noted
pub events_noted : (n : ℕ) (before after : State) (events : List Event) (kept : ℕ → Option Side) → note_events n before.built after.events after.reserved ≡ Ok (events, kept) →
    with_events n before after ≡ Ok (record after { events = events; reserved = kept })
events_noted n before after events kept e = ap (λ (r : Result (List Event × (ℕ → Option Side)) Fault). r >>= λ noted. let x : Next = Ok (record after { events = noted.0; reserved = noted.1 }) in x) e

pub events_refused : (n : ℕ) (before after : State) (f : Fault) → note_events n before.built after.events after.reserved ≡ Err f → with_events n before after ≡ Err f
events_refused n before after f e = ap (λ (r : Result (List Event × (ℕ → Option Side)) Fault). r >>= λ noted. let x : Next = Ok (record after { events = noted.0; reserved = noted.1 }) in x) e

-- E
pub end_steps : (n : ℕ) (s : State) (events : List Event) (kept : ℕ → Option Side) → note_events n s.built s.events s.reserved ≡ Ok (events, kept) →
    step n E s ≡ Ok (the_state (suc s.built) s.glued (side s.built first ∷ s.stack) kept events (s.made + 3) s.closes)
unfolding step
end_steps n s events kept e = events_noted n s (grown s s.glued s.stack 3) events kept e

pub end_refused : (n : ℕ) (s : State) (f : Fault) → note_events n s.built s.events s.reserved ≡ Err f → step n E s ≡ Err f
unfolding step
end_refused n s f e = events_refused n s (grown s s.glued s.stack 3) f e

-- L and R
step_beside : (b : Beside) (n : ℕ) (s : State) → step n (symbol_in b) s ≡ (top s.built s.glued s.stack >>= λ a. with_events n s (grown s (glue (side s.built (glued_place b)) a.0 s.glued) a.1 1))
unfolding step
step_beside Left n s = refl
step_beside Right n s = refl

pub beside_steps : (b : Beside) (n : ℕ) (s : State) (a : Side) (rest : List Side) (events : List Event) (kept : ℕ → Option Side) → top s.built s.glued s.stack ≡ Ok (a, rest) → note_events n s.built s.events s.reserved ≡ Ok (events, kept) →
    step n (symbol_in b) s ≡ Ok (the_state (suc s.built) (glue (side s.built (glued_place b)) a s.glued) (side s.built first ∷ rest) kept events (s.made + 1) s.closes)
beside_steps b n s a rest events kept t e =
    step_beside b n s
    ∙ then_ok (top s.built s.glued s.stack) (a, rest) (λ x. with_events n s (grown s (glue (side s.built (glued_place b)) x.0 s.glued) x.1 1)) t
    ∙ events_noted n s (grown s (glue (side s.built (glued_place b)) a s.glued) rest 1) events kept e

-- each of them by its own name, for the crates above
pub right_steps : (n : ℕ) (s : State) (a : Side) (rest : List Side) (events : List Event) (kept : ℕ → Option Side) → top s.built s.glued s.stack ≡ Ok (a, rest) → note_events n s.built s.events s.reserved ≡ Ok (events, kept) →
    step n R s ≡ Ok (the_state (suc s.built) (glue (side s.built third) a s.glued) (side s.built first ∷ rest) kept events (s.made + 1) s.closes)
right_steps = beside_steps Right

pub left_steps : (n : ℕ) (s : State) (a : Side) (rest : List Side) (events : List Event) (kept : ℕ → Option Side) → top s.built s.glued s.stack ≡ Ok (a, rest) → note_events n s.built s.events s.reserved ≡ Ok (events, kept) →
    step n L s ≡ Ok (the_state (suc s.built) (glue (side s.built second) a s.glued) (side s.built first ∷ rest) kept events (s.made + 1) s.closes)
left_steps = beside_steps Left

pub beside_refused : (b : Beside) (n : ℕ) (s : State) (a : Side) (rest : List Side) (f : Fault) → top s.built s.glued s.stack ≡ Ok (a, rest) → note_events n s.built s.events s.reserved ≡ Err f → step n (symbol_in b) s ≡ Err f
beside_refused b n s a rest f t e =
    step_beside b n s
    ∙ then_ok (top s.built s.glued s.stack) (a, rest) (λ x. with_events n s (grown s (glue (side s.built (glued_place b)) x.0 s.glued) x.1 1)) t
    ∙ events_refused n s (grown s (glue (side s.built (glued_place b)) a s.glued) rest 1) f e

pub beside_no_top : (b : Beside) (n : ℕ) (s : State) (f : Fault) → top s.built s.glued s.stack ≡ Err f → step n (symbol_in b) s ≡ Err f
beside_no_top b n s f t = step_beside b n s ∙ then_err (top s.built s.glued s.stack) f (λ x. with_events n s (grown s (glue (side s.built (glued_place b)) x.0 s.glued) x.1 1)) t

-- C
abbrev pub tip_rest : State → Side × List Side → Next
tip_rest s a =
    let t = side_before s.built s.glued a.0 in
    must_be (not (same t a.0)) kind.Alone s.built >>= λ u.
    Ok (grown s (glue (side s.built third) t (glue (side s.built second) a.0 s.glued)) a.1 0)

pub tip_steps : (n : ℕ) (s : State) (a : Side) (rest : List Side) → top s.built s.glued s.stack ≡ Ok (a, rest) → side_before s.built s.glued a ≢ a →
    step n C s ≡ Ok (the_state (suc s.built) (glue (side s.built third) (side_before s.built s.glued a) (glue (side s.built second) a s.glued)) (side s.built first ∷ rest) s.reserved s.events (s.made + 0) s.closes)
unfolding step
tip_steps n s a rest t h =
    then_ok (top s.built s.glued s.stack) (a, rest) (tip_rest s) t
    ∙ must_hold (not (same (side_before s.built s.glued a) a)) kind.Alone s.built (λ u. Ok (grown s (glue (side s.built third) (side_before s.built s.glued a) (glue (side s.built second) a s.glued)) rest 0)) (ap not (not_same (side_before s.built s.glued a) a h))

pub tip_alone : (n : ℕ) (s : State) (a : Side) (rest : List Side) → top s.built s.glued s.stack ≡ Ok (a, rest) → side_before s.built s.glued a ≡ a → step n C s ≡ Err (fault kind.Alone s.built)
unfolding step
tip_alone n s a rest t h =
    then_ok (top s.built s.glued s.stack) (a, rest) (tip_rest s) t
    ∙ must_fail (not (same (side_before s.built s.glued a) a)) kind.Alone s.built (λ u. Ok (grown s (glue (side s.built third) (side_before s.built s.glued a) (glue (side s.built second) a s.glued)) rest 0)) (ap not (ap (λ (x : Side). same x a) h ∙ same_refl a))

pub tip_no_top : (n : ℕ) (s : State) (f : Fault) → top s.built s.glued s.stack ≡ Err f → step n C s ≡ Err f
unfolding step
tip_no_top n s f t = then_err (top s.built s.glued s.stack) f (tip_rest s) t

-- S
abbrev pub split_last : State → Side → Side × List Side → Next
split_last s b a =
    must_be (not (same a.0 b)) kind.Gone s.built >>= λ u.
    must_be (not (same (side_before s.built s.glued b) a.0)) kind.SamePoint s.built >>= λ v.
    Ok (record (grown s (glue (side s.built second) b (glue (side s.built third) a.0 s.glued)) a.1 0) { reserved = release s.built s.reserved })

abbrev pub split_rest : State → Side × List Side → Next
split_rest s b = top s.built s.glued (pushed (s.reserved s.built) b.1) >>= split_last s b.0

pub split_no_top : (n : ℕ) (s : State) (f : Fault) → top s.built s.glued s.stack ≡ Err f → step n S s ≡ Err f
unfolding step
split_no_top n s f t = then_err (top s.built s.glued s.stack) f (split_rest s) t

pub split_no_second : (n : ℕ) (s : State) (b : Side) (rest : List Side) (f : Fault) → top s.built s.glued s.stack ≡ Ok (b, rest) → top s.built s.glued (pushed (s.reserved s.built) rest) ≡ Err f → step n S s ≡ Err f
unfolding step
split_no_second n s b rest f t u = then_ok (top s.built s.glued s.stack) (b, rest) (split_rest s) t ∙ then_err (top s.built s.glued (pushed (s.reserved s.built) rest)) f (split_last s b) u

split_to_last : (n : ℕ) (s : State) (b a : Side) (rest left : List Side) → top s.built s.glued s.stack ≡ Ok (b, rest) → top s.built s.glued (pushed (s.reserved s.built) rest) ≡ Ok (a, left) → step n S s ≡ split_last s b (a, left)
unfolding step
split_to_last n s b a rest left t u = then_ok (top s.built s.glued s.stack) (b, rest) (split_rest s) t ∙ then_ok (top s.built s.glued (pushed (s.reserved s.built) rest)) (a, left) (split_last s b) u

pub split_one_side : (n : ℕ) (s : State) (b a : Side) (rest left : List Side) → top s.built s.glued s.stack ≡ Ok (b, rest) → top s.built s.glued (pushed (s.reserved s.built) rest) ≡ Ok (a, left) → a ≡ b → step n S s ≡ Err (fault kind.Gone s.built)
split_one_side n s b a rest left t u h =
    split_to_last n s b a rest left t u
    ∙ must_fail (not (same a b)) kind.Gone s.built (λ u. must_be (not (same (side_before s.built s.glued b) a)) kind.SamePoint s.built >>= λ v.
    Ok (record (grown s (glue (side s.built second) b (glue (side s.built third) a s.glued)) left 0) { reserved = release s.built s.reserved })) (ap not (ap (λ (x : Side). same x b) h ∙ same_refl b))

split_to_point : (n : ℕ) (s : State) (b a : Side) (rest left : List Side) → top s.built s.glued s.stack ≡ Ok (b, rest) → top s.built s.glued (pushed (s.reserved s.built) rest) ≡ Ok (a, left) → a ≢ b →
    step n S s ≡ (must_be (not (same (side_before s.built s.glued b) a)) kind.SamePoint s.built >>= λ v. Ok (record (grown s (glue (side s.built second) b (glue (side s.built third) a s.glued)) left 0) { reserved = release s.built s.reserved }))
split_to_point n s b a rest left t u h =
    split_to_last n s b a rest left t u
    ∙ must_hold (not (same a b)) kind.Gone s.built (λ u. must_be (not (same (side_before s.built s.glued b) a)) kind.SamePoint s.built >>= λ v.
    Ok (record (grown s (glue (side s.built second) b (glue (side s.built third) a s.glued)) left 0) { reserved = release s.built s.reserved })) (ap not (not_same a b h))

pub split_one_point : (n : ℕ) (s : State) (b a : Side) (rest left : List Side) → top s.built s.glued s.stack ≡ Ok (b, rest) → top s.built s.glued (pushed (s.reserved s.built) rest) ≡ Ok (a, left) → a ≢ b → side_before s.built s.glued b ≡ a →
    step n S s ≡ Err (fault kind.SamePoint s.built)
split_one_point n s b a rest left t u h e =
    split_to_point n s b a rest left t u h
    ∙ must_fail (not (same (side_before s.built s.glued b) a)) kind.SamePoint s.built (λ v. Ok (record (grown s (glue (side s.built second) b (glue (side s.built third) a s.glued)) left 0) { reserved = release s.built s.reserved }))
    (ap not (ap (λ (x : Side). same x a) e ∙ same_refl a))

pub split_steps : (n : ℕ) (s : State) (b a : Side) (rest left : List Side) → top s.built s.glued s.stack ≡ Ok (b, rest) → top s.built s.glued (pushed (s.reserved s.built) rest) ≡ Ok (a, left) → a ≢ b → side_before s.built s.glued b ≢ a →
    step n S s ≡ Ok (the_state (suc s.built) (glue (side s.built second) b (glue (side s.built third) a s.glued)) (side s.built first ∷ left) (release s.built s.reserved) s.events (s.made + 0) s.closes)
split_steps n s b a rest left t u h e =
    split_to_point n s b a rest left t u h
    ∙ must_hold (not (same (side_before s.built s.glued b) a)) kind.SamePoint s.built (λ v. Ok (record (grown s (glue (side s.built second) b (glue (side s.built third) a s.glued)) left 0) { reserved = release s.built s.reserved }))
    (ap not (not_same (side_before s.built s.glued b) a e))

-- a side is closed as a boundary
pub close_boundary : (p : Plan) (s : State) (a : Side) (rest : List Side) → s.stack ≡ a ∷ rest → close p false s ≡ Ok (the_state s.built s.glued rest s.reserved s.events s.made (suc s.closes))
unfolding close
close_boundary p s a rest e = ap (λ (t : List Side). close_top (p.symbols + s.closes) p false t s) e

-- or its loop is filled
pub close_interior : (p : Plan) (s : State) (a : Side) (rest : List Side) → s.stack ≡ a ∷ rest → close p true s ≡ fill (p.symbols + s.closes) p a rest s
unfolding close
close_interior p s a rest e = ap (λ (t : List Side). close_top (p.symbols + s.closes) p true t s) e

abbrev pub loop_test : State → Side → Bool
loop_test s a =
    let b = side_before s.built s.glued a in
    let c = side_before s.built s.glued b in
    not (same b a) && not (same c a) && same (side_before s.built s.glued c) a

abbrev pub filled_state : Side → List Side → State → State
filled_state a rest s =
    let b = side_before s.built s.glued a in
    let c = side_before s.built s.glued b in
    the_state (suc s.built) (glue (side s.built third) c (glue (side s.built second) b (glue (side s.built first) a s.glued))) rest s.reserved s.events s.made (suc s.closes)

abbrev pub fill_count : Plan → Side → List Side → State → Unit {0} → Next
fill_count p a rest s u = must_be (not (s.built == p.faces)) kind.FaceCount s.built >>= λ v. Ok (filled_state a rest s)

abbrev pub fill_loop : ℕ → Plan → Side → List Side → State → Unit {0} → Next
fill_loop n p a rest s u = must_be (loop_test s a) kind.Loop n >>= fill_count p a rest s

pub fill_gone : (n : ℕ) (p : Plan) (s : State) (a x : Side) (rest : List Side) → s.glued a ≡ Some x → fill n p a rest s ≡ Err (fault kind.Gone n)
fill_gone n p s a x rest e = must_fail (is_none (s.glued a)) kind.Gone n (fill_loop n p a rest s) (ap {A = Option Side} is_none e)

pub fill_no_loop : (n : ℕ) (p : Plan) (s : State) (a : Side) (rest : List Side) → s.glued a ≡ None → loop_test s a ≡ false → fill n p a rest s ≡ Err (fault kind.Loop n)
fill_no_loop n p s a rest e h =
    must_hold (is_none (s.glued a)) kind.Gone n (fill_loop n p a rest s) (ap {A = Option Side} is_none e)
    ∙ must_fail (loop_test s a) kind.Loop n (fill_count p a rest s) h

pub fill_full : (n : ℕ) (p : Plan) (s : State) (a : Side) (rest : List Side) → s.glued a ≡ None → loop_test s a ≡ true → s.built ≡ p.faces → fill n p a rest s ≡ Err (fault kind.FaceCount s.built)
fill_full n p s a rest e h q =
    must_hold (is_none (s.glued a)) kind.Gone n (fill_loop n p a rest s) (ap {A = Option Side} is_none e)
    ∙ must_hold (loop_test s a) kind.Loop n (fill_count p a rest s) h
    ∙ must_fail (not (s.built == p.faces)) kind.FaceCount s.built (λ v. Ok (filled_state a rest s)) (ap not (eq-eqb s.built p.faces q))

pub fill_steps : (n : ℕ) (p : Plan) (s : State) (a : Side) (rest : List Side) → s.glued a ≡ None → loop_test s a ≡ true → s.built ≢ p.faces → fill n p a rest s ≡ Ok (filled_state a rest s)
fill_steps n p s a rest e h q =
    must_hold (is_none (s.glued a)) kind.Gone n (fill_loop n p a rest s) (ap {A = Option Side} is_none e)
    ∙ must_hold (loop_test s a) kind.Loop n (fill_count p a rest s) h
    ∙ must_hold (not (s.built == p.faces)) kind.FaceCount s.built (λ v. Ok (filled_state a rest s)) (ap not (ne_eqb s.built p.faces q))
