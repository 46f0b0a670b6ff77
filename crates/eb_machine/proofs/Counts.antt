-- What each call counts: a symbol builds one face, and a close takes one side off the stack.
use Rattle.std.proofs.Common.{◌≡◌, ℕ, suc, ◌+◌, ◌<◌, ◌≤◌, Bool, true, false, not, ◌==◌, is_none, List, [], ◌∷◌, length, map, Result, Ok, Err, sym, refl, ap, subst, arith}
use Rattle.drc_base.specs.declared.kinds.Kind.TheVariants as kind
use Rattle.drc_base.specs.declared.faults.Fault.{Fault}
use Rattle.drc_base.specs.Steps.{◌>>=◌}
use Rattle.corner_table.specs.declared.symbols.Symbol.{Symbol}
use Rattle.corner_table.specs.declared.symbols.Symbol.TheVariants.{C, S, L, R, E}
use Rattle.corner_table.specs.Sides.{Side, side_at, second, third, side, same, glue}
use Rattle.eb_machine.specs.Machine.{State, Plan, step, close, close_top, must_be, top, pushed, release, with_events, grown, note_events}
use Rattle.corner_table.specs.Fans.{side_before}
use Rattle.eb_machine.proofs.Steps.{Next, tip_rest, split_rest, split_last, loop_test, fill_loop, fill_count, filled_state}

-- what holds of a state, if there is one
abbrev pub If : (State → Type 0) → Next → Type 0
If P (Ok t) = P t
If P (Err f) = Unit {0}

pub if_ok : (P : State → Type 0) (r : Next) (t : State) → r ≡ Ok t → If P r → P t
if_ok P r t e h = subst (If P) e h

-- a first part that may be a fault
pub if_then : {A : Type 0} (P : State → Type 0) (r : Result A Fault) (f : A → Next) → ((x : A) → If P (f x)) → If P (r >>= f)
if_then P (Ok x) f h = h x
if_then P (Err e) f h = tt

-- one face more, no side closed
abbrev pub OneFace : State → State → Type 0
OneFace s t = (t.built ≡ suc s.built) × (t.closes ≡ s.closes)

one_face_noted : (n : ℕ) (s after : State) → OneFace s after → If (OneFace s) (with_events n s after)
one_face_noted n s after h =
    if_then (OneFace s) (note_events n s.built after.events after.reserved) (λ noted. let x : Next = Ok (record after { events = noted.0; reserved = noted.1 }) in x) (λ noted. h)

one_face : (n : ℕ) (x : Symbol) (s : State) → If (OneFace s) (step n x s)
unfolding step
one_face n E s = one_face_noted n s (grown s s.glued s.stack 3) (refl, refl)
one_face n R s = if_then (OneFace s) (top s.built s.glued s.stack) (λ a. with_events n s (grown s (glue (side s.built third) a.0 s.glued) a.1 1))
    (λ a. one_face_noted n s (grown s (glue (side s.built third) a.0 s.glued) a.1 1) (refl, refl))
one_face n L s = if_then (OneFace s) (top s.built s.glued s.stack) (λ a. with_events n s (grown s (glue (side s.built second) a.0 s.glued) a.1 1))
    (λ a. one_face_noted n s (grown s (glue (side s.built second) a.0 s.glued) a.1 1) (refl, refl))
one_face n C s = if_then (OneFace s) (top s.built s.glued s.stack) (tip_rest s)
    (λ a. if_then (OneFace s) (must_be (not (same (side_before s.built s.glued a.0) a.0)) kind.Alone s.built)
    (λ u. let x : Next = Ok (grown s (glue (side s.built third) (side_before s.built s.glued a.0) (glue (side s.built second) a.0 s.glued)) a.1 0) in x) (λ u. (refl, refl)))
one_face n S s = if_then (OneFace s) (top s.built s.glued s.stack) (split_rest s)
    (λ b. if_then (OneFace s) (top s.built s.glued (pushed (s.reserved s.built) b.1)) (split_last s b.0)
    (λ a. if_then (OneFace s) (must_be (not (same a.0 b.0)) kind.Gone s.built)
    (λ u. must_be (not (same (side_before s.built s.glued b.0) a.0)) kind.SamePoint s.built >>= λ v. let x : Next = Ok (record (grown s (glue (side s.built second) b.0 (glue (side s.built third) a.0 s.glued)) a.1 0) { reserved = release s.built s.reserved }) in x)
    (λ u. if_then (OneFace s) (must_be (not (same (side_before s.built s.glued b.0) a.0)) kind.SamePoint s.built)
    (λ v. let x : Next = Ok (record (grown s (glue (side s.built second) b.0 (glue (side s.built third) a.0 s.glued)) a.1 0) { reserved = release s.built s.reserved }) in x) (λ v. (refl, refl)))))

-- a symbol builds one face
pub step_counts : (n : ℕ) (x : Symbol) (s t : State) → step n x s ≡ Ok t → (t.built ≡ suc s.built) × (t.closes ≡ s.closes)
step_counts n x s t e = if_ok (OneFace s) (step n x s) t e (one_face n x s)

-- one side less, no face less
abbrev pub OneSide : State → List Side → State → Type 0
OneSide s rest t = (t.stack ≡ rest) × (s.built ≤ t.built) × (t.closes ≡ suc s.closes)

one_side : (n : ℕ) (p : Plan) (b : Bool) (s : State) (a : Side) (rest : List Side) → If (OneSide s rest) (close_top n p b (a ∷ rest) s)
one_side n p false s a rest = (refl, omega arith, refl)
one_side n p true s a rest =
    if_then (OneSide s rest) (must_be (is_none (s.glued a)) kind.Gone n) (fill_loop n p a rest s)
    (λ u. if_then (OneSide s rest) (must_be (loop_test s a) kind.Loop n) (fill_count p a rest s)
    (λ v. if_then (OneSide s rest) (must_be (not (s.built == p.faces)) kind.FaceCount s.built) (λ w. let x : Next = Ok (filled_state a rest s) in x)
    (λ w. (refl, omega arith, refl))))

-- a close takes the top side off
pub close_counts : (p : Plan) (b : Bool) (s t : State) (a : Side) (rest : List Side) → s.stack ≡ a ∷ rest → close p b s ≡ Ok t → (t.stack ≡ rest) × (s.built ≤ t.built) × (t.closes ≡ suc s.closes)
unfolding close
close_counts p b s t a rest q e =
    if_ok (OneSide s rest) (close p b s) t e (subst (λ (l : List Side). If (OneSide s rest) (close_top (p.symbols + s.closes) p b l s)) (sym q) (one_side (p.symbols + s.closes) p b s a rest))

-- so fewer sides wait
pub close_shorter : (p : Plan) (b : Bool) (s t : State) → close p b s ≡ Ok t → 0 < length s.stack → (length t.stack < length s.stack) × (s.built ≤ t.built)
close_shorter p b s t e h = go s.stack refl h
  where
    go : (l : List Side) → s.stack ≡ l → 0 < length l → (length t.stack < length s.stack) × (s.built ≤ t.built)
    go [] q h = absurd (omega arith)
    go (a ∷ rest) q h =
        let k = close_counts p b s t a rest q e in
        let x = ap {A = List Side} length k.0 in
        let y = ap {A = List Side} length q in
        (omega arith, k.1)

pub length-sides : (sides : List ℕ) → length (map side_at sides) ≡ length sides
length-sides [] = refl
length-sides (x ∷ xs) = ap suc (length-sides xs)
