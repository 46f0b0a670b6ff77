-- Each vertex starts at most one row and ends at most one; and the top side after a symbol is free.
use Rattle.std.proofs.Common.{◌≡◌, ◌≢◌, ℕ, ◌<◌, not, is_none, List, [], ◌∷◌, Option, Some, None, Result, Ok, Err, sym, refl, ap, ◌∙◌, subst, arith}
use Rattle.drc_base.specs.declared.kinds.Kind.TheVariants as kind
use Rattle.drc_base.specs.declared.faults.Fault.{Fault}
use Rattle.drc_base.specs.Steps.{◌>>=◌}
use Rattle.corner_table.specs.declared.symbols.Symbol.{Symbol}
use Rattle.corner_table.specs.declared.symbols.Symbol.TheVariants.{C, S, L, R, E}
use Rattle.corner_table.specs.Sides.{Side, Place, first, second, third, side, same, next, prev, Gluing, glue, IsGluing, IsFree}
use Rattle.corner_table.specs.Fans.{side_before}
use Rattle.corner_table.proofs.Places.{glue_other, next_injective, prev_injective}
use Rattle.corner_table.proofs.Gluings.{new_free}
use Rattle.corner_table.proofs.Walks.{starts_once, ends_once}
use Rattle.corner_table.proofs.Boundary.{free-left, free-right, side_before-follows}
use Rattle.eb_machine.specs.Machine.{State, step, top, pushed, release, must_be, with_events, grown, note_events}
use Rattle.eb_machine.specs.Named.{Row, NamedState}
use Rattle.eb_machine.specs.Shown.{name_of, row_named, Among, AreBelow, KeptBelow, Shows}
use Rattle.eb_machine.proofs.Steps.{Next, tip_rest, split_rest, split_last}
use Rattle.eb_machine.proofs.Counts.{If, if_ok, if_then}

start_once : (x : NamedState) (s : State) → Shows x s → (r q : Row) → Among r x.rows → Among q x.rows → r.from ≡ q.from → r ≡ q
start_once x s W r q m k e =
    let N = W.names in
    let u = N.rows_are r m in
    let w = N.rows_are q k in
    let names : name_of x.triangles (next r.side) ≡ name_of x.triangles (next q.side) = ap (λ (z : Row). z.from) (sym u.1) ∙ e ∙ ap (λ (z : Row). z.from) w.1 in
    let is : r.side ≡ q.side = next_injective r.side q.side (starts_once N.gluing (N.one_fan (next r.side) (next q.side) u.0.within w.0.within names) (free-right x.glued r.side u.0.free) (free-right x.glued q.side w.0.free)) in
    u.1 ∙ ap (row_named x.triangles) is ∙ sym w.1

end_once : (x : NamedState) (s : State) → Shows x s → (r q : Row) → Among r x.rows → Among q x.rows → r.to ≡ q.to → r ≡ q
end_once x s W r q m k e =
    let N = W.names in
    let u = N.rows_are r m in
    let w = N.rows_are q k in
    let names : name_of x.triangles (prev r.side) ≡ name_of x.triangles (prev q.side) = ap (λ (z : Row). z.to) (sym u.1) ∙ e ∙ ap (λ (z : Row). z.to) w.1 in
    let is : r.side ≡ q.side = prev_injective r.side q.side (ends_once N.gluing (N.one_fan (prev r.side) (prev q.side) u.0.within w.0.within names) (free-left x.glued r.side u.0.free) (free-left x.glued q.side w.0.free)) in
    u.1 ∙ ap (row_named x.triangles) is ∙ sym w.1

pub one_row_each : (x : NamedState) (s : State) → Shows x s → (r q : Row) → Among r x.rows → Among q x.rows → (r.from ≡ q.from → r ≡ q) × (r.to ≡ q.to → r ≡ q)
one_row_each x s W r q m k = (start_once x s W r q m k, end_once x s W r q m k)

-- a state's top is side 0 of face f, and is free
abbrev HasFreeTop : ℕ → State → Type 0
HasFreeTop f t = (rest : List Side) × (t.stack ≡ side f first ∷ rest) × (t.glued (side f first) ≡ None)

-- a first part of which something is known
abbrev IfValue : {A : Type 0} → (A → Type 0) → Result A Fault → Type 0
IfValue P (Ok x) = P x
IfValue P (Err f) = Unit {0}

if_also : {A : Type 0} (Q : A → Type 0) (P : State → Type 0) (r : Result A Fault) (f : A → Next) → IfValue Q r → ((x : A) → Q x → If P (f x)) → If P (r >>= f)
if_also Q P (Ok x) f q h = h x q
if_also Q P (Err e) f q h = tt

abbrev TopWithin : ℕ → Gluing → Side × List Side → Type 0
TopWithin f g a = IsFree f g a.0 × AreBelow f a.1

top_free_case : (f i : ℕ) (g : Gluing) (a : Side) (rest : List Side) (o : Option Side) → g a ≡ o → a.face < f → AreBelow f rest →
    IfValue (TopWithin f g) (must_be (is_none o) kind.Gone i >>= λ u. let x : Result (Side × List Side) Fault = Ok (a, rest) in x)
top_free_case f i g a rest None e h B = (record { within = h; free = e }, B)
top_free_case f i g a rest (Some b) e h B = tt

top_within : (f i : ℕ) (g : Gluing) (stack : List Side) → AreBelow f stack → IfValue (TopWithin f g) (top i g stack)
top_within f i g [] B = tt
top_within f i g (a ∷ rest) B = top_free_case f i g a rest (g a) refl B.0 B.1

kept_pushed : (f : ℕ) (o : Option Side) (stack : List Side) → ((a : Side) → o ≡ Some a → a.face < f) → AreBelow f stack → AreBelow f (pushed o stack)
kept_pushed f None stack K B = B
kept_pushed f (Some a) stack K B = (K a refl, B)

-- side 0 of the new face is not the one that is glued
stays_free : (f : ℕ) (k : Place) (a : Side) (g : Gluing) → first ≢ k → a.face < f → g (side f first) ≡ None → glue (side f k) a g (side f first) ≡ None
stays_free f k a g ne h e =
    glue_other (side f k) a (side f first) g (λ q. ne (ap (λ (x : Side). x.place) q)) (λ q. absurd (let w : f ≡ a.face = ap (λ (x : Side). x.face) q in omega arith)) ∙ e

noted_top : (n : ℕ) (s after : State) → HasFreeTop s.built after → If (HasFreeTop s.built) (with_events n s after)
noted_top n s after h =
    if_then (HasFreeTop s.built) (note_events n s.built after.events after.reserved) (λ noted. let x : Next = Ok (record after { events = noted.0; reserved = noted.1 }) in x) (λ noted. h)

-- what a state has to be
abbrev Sound : State → Type 0
Sound s = IsGluing s.built s.glued × AreBelow s.built s.stack × KeptBelow s.built s.reserved

new_is_free : (s : State) → IsGluing s.built s.glued → s.glued (side s.built first) ≡ None
new_is_free s G = new_free G (side s.built first) (omega arith)

free_top : (n : ℕ) (symbol : Symbol) (s : State) → Sound s → If (HasFreeTop s.built) (step n symbol s)
unfolding step
free_top n E s W = noted_top n s (grown s s.glued s.stack 3) (s.stack, refl, new_is_free s W.0)
free_top n R s W =
    if_also (TopWithin s.built s.glued) (HasFreeTop s.built) (top s.built s.glued s.stack) (λ a. with_events n s (grown s (glue (side s.built third) a.0 s.glued) a.1 1)) (top_within s.built s.built s.glued s.stack W.1)
    (λ a A. noted_top n s (grown s (glue (side s.built third) a.0 s.glued) a.1 1) (a.1, refl, stays_free s.built third a.0 s.glued (λ q. (cc)) A.0.within (new_is_free s W.0)))
free_top n L s W =
    if_also (TopWithin s.built s.glued) (HasFreeTop s.built) (top s.built s.glued s.stack) (λ a. with_events n s (grown s (glue (side s.built second) a.0 s.glued) a.1 1)) (top_within s.built s.built s.glued s.stack W.1)
    (λ a A. noted_top n s (grown s (glue (side s.built second) a.0 s.glued) a.1 1) (a.1, refl, stays_free s.built second a.0 s.glued (λ q. (cc)) A.0.within (new_is_free s W.0)))
free_top n C s W =
    if_also (TopWithin s.built s.glued) (HasFreeTop s.built) (top s.built s.glued s.stack) (tip_rest s) (top_within s.built s.built s.glued s.stack W.1)
    (λ a A.
    let t = side_before s.built s.glued a.0 in
    if_then (HasFreeTop s.built) (must_be (not (same t a.0)) kind.Alone s.built)
    (λ u. let x : Next = Ok (grown s (glue (side s.built third) t (glue (side s.built second) a.0 s.glued)) a.1 0) in x)
    (λ u. (
      a.1,
      refl,
      stays_free s.built third t (glue (side s.built second) a.0 s.glued) (λ q. (cc)) (side_before-follows W.0 a.0 A.0).0.within
          (stays_free s.built second a.0 s.glued (λ q. (cc)) A.0.within (new_is_free s W.0)),
    )))
free_top n S s W =
    if_also (TopWithin s.built s.glued) (HasFreeTop s.built) (top s.built s.glued s.stack) (split_rest s) (top_within s.built s.built s.glued s.stack W.1)
    (λ b B. if_also (TopWithin s.built s.glued) (HasFreeTop s.built) (top s.built s.glued (pushed (s.reserved s.built) b.1)) (split_last s b.0)
    (top_within s.built s.built s.glued (pushed (s.reserved s.built) b.1) (kept_pushed s.built (s.reserved s.built) b.1 (W.2 s.built) B.1))
    (λ a A. if_then (HasFreeTop s.built) (must_be (not (same a.0 b.0)) kind.Gone s.built)
    (λ u. must_be (not (same (side_before s.built s.glued b.0) a.0)) kind.SamePoint s.built >>= λ v. let x : Next = Ok (record (grown s (glue (side s.built second) b.0 (glue (side s.built third) a.0 s.glued)) a.1 0) { reserved = release s.built s.reserved }) in x)
    (λ u. if_then (HasFreeTop s.built) (must_be (not (same (side_before s.built s.glued b.0) a.0)) kind.SamePoint s.built)
    (λ v. let x : Next = Ok (record (grown s (glue (side s.built second) b.0 (glue (side s.built third) a.0 s.glued)) a.1 0) { reserved = release s.built s.reserved }) in x)
    (λ v. (
      a.1,
      refl,
      stays_free s.built second b.0 (glue (side s.built third) a.0 s.glued) (λ q. (cc)) B.0.within
          (stays_free s.built third a.0 s.glued (λ q. (cc)) A.0.within (new_is_free s W.0)),
    )))))

pub sound : (x : NamedState) (s : State) → Shows x s → Sound s
sound x s W = subst Sound W.state (W.names.gluing, W.waiting, W.kept)

pub top_is_free : (n : ℕ) (symbol : Symbol) (x : NamedState) (s t : State) → Shows x s → step n symbol s ≡ Ok t → (rest : List Side) × (t.stack ≡ side s.built first ∷ rest) × (t.glued (side s.built first) ≡ None)
top_is_free n symbol x s t W e = if_ok (HasFreeTop s.built) (step n symbol s) t e (free_top n symbol s (sound x s W))
