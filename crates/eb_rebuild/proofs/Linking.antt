-- A rebuilding by links after a step: its lists, its room and its state.
use Rattle.std.proofs.Common.{◌≡◌, ◌≢◌, ℕ, suc, ◌+◌, ◌*◌, ◌<◌, ◌≤◌, min, Bool, true, false, not, ◌&&◌, List, [], ◌∷◌, length, map, Option, Some, None, Result, Ok, Err, MatchResult, sym, refl, ap, ◌∙◌, subst, arith, add-zero}
use Rattle.drc_base.specs.declared.faults.Fault.{Fault}
use Rattle.drc_base.specs.declared.limits.TheConstants.{MAX_FACES}
use Rattle.corner_table.specs.declared.symbols.Event.{Event}
use Rattle.corner_table.specs.declared.symbols.Symbol.TheVariants.{C, S}
use Rattle.corner_table.specs.Sides.{Side, Place, first, second, third, side, side_at, Gluing, glue, same, IsFree}
use Rattle.corner_table.proofs.Places.{same-true, same-false, not_same, same_refl}
use Rattle.std.proofs.lemmas.Bool.{and_parts, not-true}
use Rattle.corner_table.specs.Fans.{side_before}
use Rattle.corner_table.proofs.Gluings.{free_after}
use Rattle.drc_base.specs.declared.kinds.Kind.TheVariants as kind
use Rattle.corner_table.specs.Table.{Table, gluing_of, glued_in, room_of}
use Rattle.corner_table.proofs.Numbers.{side_at-number}
use Rattle.eb_machine.specs.declared.beside.Beside.{Beside}
use Rattle.eb_machine.specs.declared.beside.Beside.TheVariants.{Left, Right}
use Rattle.eb_machine.specs.Beside.{symbol_in, glued_place}
use Rattle.eb_machine.specs.Machine.{State, Plan, close, fill, top, pushed, release, note_events, step, fault}
use Rattle.eb_machine.specs.OneFaceMore.{PairsAreApart}
use Rattle.eb_machine.proofs.Steps.{close_boundary, close_interior, loop_test, fill_gone, fill_no_loop, fill_full, fill_steps, split_no_second, split_one_side, split_one_point, split_steps, tip_alone, tip_steps, Next, top_free, the_state, same_state, beside_steps, beside_refused}
use Rattle.eb_rebuild.specs.Kept.{StackValue, SplitsValue, kept_in, AreSidesBelow, AreKeptBelow}
use Rattle.eb_rebuild.specs.Linked.{LinkValue, IsLinkState, IsLoopOf, state_of, Does}

-- side 0 of a face
pub side_at_first : (f : ℕ) → side_at (3 * f) ≡ side f first
side_at_first f = ap side_at (let e : 3 * f ≡ 3 * f + 0 = omega arith in e) ∙ side_at-number (side f first)

-- the top of a list of side numbers
pub top_of : (i : ℕ) (g : Gluing) (sides rest : List ℕ) (a : ℕ) → sides ≡ a ∷ rest → g (side_at a) ≡ None → top i g (map side_at sides) ≡ Ok (side_at a, map side_at rest)
top_of i g sides rest a e h = ap (λ (l : List ℕ). top i g (map side_at l)) e ∙ top_free i g (side_at a) (map side_at rest) h

pub sides_below_more : (f : ℕ) (xs : List ℕ) → AreSidesBelow f xs → AreSidesBelow (suc f) xs
sides_below_more f [] h = tt
sides_below_more f (x ∷ xs) h = (let a = h.0 in omega arith, sides_below_more f xs h.1)

-- what a step keeps
pub record Grown (old new : LinkValue) : Type 0 where
  pub plan : new.plan ≡ old.plan
  pub more : old.table.faces < old.plan.symbols
  pub faces : new.table.faces ≡ suc old.table.faces
  pub room : room_of new.table ≡ room_of old.table
  pub stack_room : new.stack.room ≡ old.stack.room
  pub rest : List ℕ
  pub below : AreSidesBelow old.table.faces rest
  pub shorter : length rest ≤ length old.stack.sides
  pub sides : new.stack.sides ≡ (3 * old.table.faces) ∷ rest
  pub slots : length new.splits.kept ≡ length old.splits.kept
  pub kept : AreKeptBelow (suc old.table.faces) new.splits.kept
  pub made : new.made ≤ old.made + 3
  pub closes : new.closes ≡ old.closes

-- the room of a stack, where plan and table have as much as before
same_least : {stack room more : ℕ} {plan same : Plan} → stack ≡ min plan.symbols room → plan ≡ same → room ≡ more → stack ≡ min same.symbols more
same_least {stack} {room} {more} {plan} {same} e p r = e ∙ ap (λ (p : Plan). min p.symbols room) p ∙ ap (min same.symbols) r

pub link_grown : {old new : LinkValue} → IsLinkState old → Grown old new → IsLinkState new
link_grown {old} {new} I W = record {
  limit = subst (λ (p : Plan). p.faces ≤ MAX_FACES) (sym W.plan) I.limit;
  room = (let r = W.room in let i = I.room in let p = ap (λ (p : Plan). p.faces) W.plan in omega arith);
  fewer = subst (λ (p : Plan). p.symbols ≤ p.faces) (sym W.plan) I.fewer;
  slots = W.slots ∙ I.slots ∙ ap (λ (p : Plan). p.symbols) (sym W.plan);
  stack_room = W.stack_room ∙ same_least I.stack_room (sym W.plan) (sym W.room);
  low = (let a = ap {A = List ℕ} length W.sides in let b = W.shorter in let c = I.low in let d = W.faces in let e = W.closes in omega arith);
  few = (let a = ap {A = List ℕ} length W.sides in let b = W.shorter in let c = I.low in let d = W.more in let e = W.closes in let f = ap (λ (p : Plan). p.symbols) W.plan in omega arith);
  sides = subst (λ (n : ℕ). AreSidesBelow n new.stack.sides) (sym W.faces) (subst (AreSidesBelow (suc old.table.faces)) (sym W.sides) (omega arith, sides_below_more old.table.faces W.rest W.below));
  kept = subst (λ (n : ℕ). AreKeptBelow n new.splits.kept) (sym W.faces) W.kept;
  made = (let a = W.made in let b = I.made in let c = W.faces in omega arith);
}

-- a step that notes events at its end
pub noted_does : (next : Next) (t : State) (n f m i : ℕ) (events events' : List Event) (kept kept' : ℕ → Option Side) (r : Result (Unit {0}) Fault) → m ≡ n → i ≡ f →
    MatchResult r (λ u. note_events m i events kept ≡ Ok (events', kept')) (λ x. note_events m i events kept ≡ Err x) →
    (note_events n f events kept ≡ Ok (events', kept') → next ≡ Ok t) → ((x : Fault) → note_events n f events kept ≡ Err x → next ≡ Err x) → Does next t r
noted_does next t n f m i events events' kept kept' (Ok u) p q h good bad = good (sym (ap (λ (a : ℕ). note_events a f events kept) p) ∙ sym (ap (λ (a : ℕ). note_events m a events kept) q) ∙ h)
noted_does next t n f m i events events' kept kept' (Err x) p q h good bad = bad x (sym (ap (λ (a : ℕ). note_events a f events kept) p) ∙ sym (ap (λ (a : ℕ). note_events m a events kept) q) ∙ h)

-- the state before a side was taken off, from the values after it
pub before_taken : (old mid value : LinkValue) (a : ℕ) → mid ≡ record old { stack = mid.stack } → value ≡ mid → old.stack.sides ≡ a ∷ mid.stack.sides →
    state_of old ≡ record (state_of value) { stack = side_at a ∷ map side_at value.stack.sides }
before_taken old mid value a r v e =
    let m : value ≡ record old { stack = mid.stack } = v ∙ r in
    same_state
    (sym (ap (λ (x : LinkValue). x.table.faces) m))
    (sym (ap (λ (x : LinkValue). gluing_of x.table) m))
    (ap (map side_at) e ∙ ap (λ (x : LinkValue). side_at a ∷ map side_at x.stack.sides) (sym v))
    (sym (ap (λ (x : LinkValue). (state_of x).reserved) m))
    (sym (ap (λ (x : LinkValue). x.splits.events) m))
    (sym (ap (λ (x : LinkValue). x.made) m))
    (sym (ap (λ (x : LinkValue). x.closes) m))

-- so a step from there is one from the values after it
pub from_taken : (old mid value : LinkValue) (a : ℕ) (step_from : ℕ → State → Next) (t : State) (r : Result (Unit {0}) Fault) → mid ≡ record old { stack = mid.stack } → value ≡ mid → old.stack.sides ≡ a ∷ mid.stack.sides →
    Does (step_from value.plan.symbols (record (state_of value) { stack = side_at a ∷ map side_at value.stack.sides })) t r → Does (step_from old.plan.symbols (state_of old)) t r
from_taken old mid value a step_from t r k v e h =
    let n : value.plan.symbols ≡ old.plan.symbols = ap (λ (x : LinkValue). x.plan.symbols) (v ∙ k) in
    subst (λ (m : ℕ). Does (step_from m (state_of old)) t r) n
    (subst (λ (s : State). Does (step_from value.plan.symbols s) t r) (sym (before_taken old mid value a k v e)) h)

-- a face that is glued to the side just taken off
pub record Attached (old mid value new : LinkValue) (a : ℕ) (k : Place) : Type 0 where
  pub rest : mid ≡ record old { stack = mid.stack }
  pub view : value ≡ mid
  pub sides : old.stack.sides ≡ a ∷ mid.stack.sides
  pub free : gluing_of old.table (side_at a) ≡ None
  pub faces : new.table.faces ≡ suc value.table.faces
  pub glued : gluing_of new.table ≡ glue (side value.table.faces k) (side_at a) (gluing_of value.table)
  pub stack : new.stack.sides ≡ (3 * value.table.faces) ∷ value.stack.sides
  pub made : new.made ≡ value.made + 1
  pub closes : new.closes ≡ value.closes

-- what the list of a new side 0 reads as
pub raised : (f : ℕ) (sides new : List ℕ) → new ≡ (3 * f) ∷ sides → side f first ∷ map side_at sides ≡ map side_at new
raised f sides new e = sym (ap (map side_at) e ∙ ap (λ (x : Side). x ∷ map side_at sides) (side_at_first f))

attached_state : (old mid value new : LinkValue) (a : ℕ) (k : Place) → Attached old mid value new a k →
    the_state (suc value.table.faces) (glue (side value.table.faces k) (side_at a) (gluing_of value.table)) (side value.table.faces first ∷ map side_at value.stack.sides) (kept_in new.splits.kept) new.splits.events (value.made + 1) value.closes ≡ state_of new
attached_state old mid value new a k A = same_state (sym A.faces) (sym A.glued) (raised value.table.faces value.stack.sides new.stack.sides A.stack) refl refl (sym A.made) (sym A.closes)

abbrev pub NotedBy : LinkValue → LinkValue → ℕ → ℕ → Result (Unit {0}) Fault → Type 0
NotedBy value new m i r =
    MatchResult r (λ u. note_events m i value.splits.events (kept_in value.splits.kept) ≡ Ok (new.splits.events, kept_in new.splits.kept))
    (λ x. note_events m i value.splits.events (kept_in value.splits.kept) ≡ Err x)

pub beside_does : (b : Beside) (old mid value new : LinkValue) (a : ℕ) → Attached old mid value new a (glued_place b) → (m i : ℕ) (r : Result (Unit {0}) Fault) → m ≡ value.plan.symbols → i ≡ value.table.faces → NotedBy value new m i r →
    Does (step old.plan.symbols (symbol_in b) (state_of old)) (state_of new) r
beside_does b old mid value new a A m i r p q h =
    let s : State = record (state_of value) { stack = side_at a ∷ map side_at value.stack.sides } in
    let free : gluing_of value.table (side_at a) ≡ None = ap (λ (v : LinkValue). gluing_of v.table (side_at a)) (A.view ∙ A.rest) ∙ A.free in
    let t = top_free value.table.faces (gluing_of value.table) (side_at a) (map side_at value.stack.sides) free in
    from_taken old mid value a (λ n x. step n (symbol_in b) x) (state_of new) r A.rest A.view A.sides
    (noted_does (step value.plan.symbols (symbol_in b) s) (state_of new) value.plan.symbols value.table.faces m i value.splits.events new.splits.events (kept_in value.splits.kept) (kept_in new.splits.kept) r p q h
    (λ e. beside_steps b value.plan.symbols s (side_at a) (map side_at value.stack.sides) new.splits.events (kept_in new.splits.kept) t e ∙ ap {A = State} Ok (attached_state old mid value new a (glued_place b) A))
    (λ x e. beside_refused b value.plan.symbols s (side_at a) (map side_at value.stack.sides) x t e))

-- side 0 isn't the glued one
pub first_apart : (b : Beside) → first ≢ glued_place b
first_apart Left e = cc
first_apart Right e = cc

-- what stays free when two others are glued
pub still_free : (faces : ℕ) (g : Gluing) (new : Table) (a b x : Side) → new.faces ≡ faces → gluing_of new ≡ glue a b g → IsFree faces g x → x ≢ a → x ≢ b → IsFree new.faces (gluing_of new) x
still_free faces g new a b x e h X p q =
    subst (λ (n : ℕ). IsFree n (gluing_of new) x) (sym e) (subst (λ (k : Gluing). IsFree faces k x) (sym h) (free_after a b x p q X))

-- a free side of a table is free when a face is added
pub free_grown : (old new : Table) (x : Side) → new.faces ≡ old.faces + 1 → new.entries ≡ old.entries → IsFree old.faces (gluing_of old) x → IsFree new.faces (gluing_of new) x
free_grown old new x e h X = record { within = (let w = X.within in omega arith); free = ap (λ (l : List ℕ). glued_in l x) h ∙ X.free }

-- the side just taken off
pub record Taken (old mid value : LinkValue) (a : ℕ) : Type 0 where
  pub rest : mid ≡ record old { stack = mid.stack }
  pub view : value ≡ mid
  pub sides : old.stack.sides ≡ a ∷ mid.stack.sides
  pub free : gluing_of old.table (side_at a) ≡ None
  pub below : a < 3 * old.table.faces

pub taken_free : {old mid value : LinkValue} {a : ℕ} → Taken old mid value a → IsFree value.table.faces (gluing_of value.table) (side_at a)
taken_free {old} {mid} {value} {a} T = record {
  within = (let b = T.below in let e = ap (λ (v : LinkValue). v.table.faces) (T.view ∙ T.rest) in omega arith);
  free = ap (λ (v : LinkValue). gluing_of v.table (side_at a)) (T.view ∙ T.rest) ∙ T.free;
}

abbrev taken_state : LinkValue → ℕ → State
taken_state value a = record (state_of value) { stack = side_at a ∷ map side_at value.stack.sides }

taken_top : (old mid value : LinkValue) (a : ℕ) → Taken old mid value a → top value.table.faces (gluing_of value.table) (side_at a ∷ map side_at value.stack.sides) ≡ Ok (side_at a, map side_at value.stack.sides)
taken_top old mid value a T = top_free value.table.faces (gluing_of value.table) (side_at a) (map side_at value.stack.sides) (taken_free T).free

-- a step from the values after a side was taken off is one from those before
steps_taken : (old mid value : LinkValue) (a : ℕ) (step_from : ℕ → State → Next) (r : Next) → Taken old mid value a → step_from value.plan.symbols (taken_state value a) ≡ r → step_from old.plan.symbols (state_of old) ≡ r
steps_taken old mid value a step_from r T h =
    ap (λ (m : ℕ). step_from m (state_of old)) (sym (ap (λ (x : LinkValue). x.plan.symbols) (T.view ∙ T.rest)))
    ∙ ap (step_from value.plan.symbols) (before_taken old mid value a T.rest T.view T.sides) ∙ h

-- C
pub tip_alone_does : (old mid value : LinkValue) (a : ℕ) (t : Side) (n : ℕ) → Taken old mid value a → t ≡ side_before value.table.faces (gluing_of value.table) (side_at a) → t ≡ side_at a → n ≡ value.table.faces →
    step old.plan.symbols C (state_of old) ≡ Err (fault kind.Alone n)
tip_alone_does old mid value a t n T e h q =
    steps_taken old mid value a (λ m s. step m C s) (Err (fault kind.Alone n)) T
    (tip_alone value.plan.symbols (taken_state value a) (side_at a) (map side_at value.stack.sides) (taken_top old mid value a T) (sym e ∙ h) ∙ ap (λ (m : ℕ). let x : Next = Err (fault kind.Alone m) in x) (sym q))

pub record TipGrown (value new : LinkValue) (a : ℕ) (t : Side) : Type 0 where
  pub faces : new.table.faces ≡ suc value.table.faces
  pub glued : gluing_of new.table ≡ glue (side value.table.faces third) t (glue (side value.table.faces second) (side_at a) (gluing_of value.table))
  pub stack : new.stack.sides ≡ (3 * value.table.faces) ∷ value.stack.sides
  pub splits : new.splits ≡ value.splits
  pub made : new.made ≡ value.made
  pub closes : new.closes ≡ value.closes

pub tip_does : (old mid value new : LinkValue) (a : ℕ) (t : Side) → Taken old mid value a → TipGrown value new a t → t ≡ side_before value.table.faces (gluing_of value.table) (side_at a) → t ≢ side_at a →
    step old.plan.symbols C (state_of old) ≡ Ok (state_of new)
tip_does old mid value new a t T N e h =
    steps_taken old mid value a (λ m s. step m C s) (Ok (state_of new)) T
    (tip_steps value.plan.symbols (taken_state value a) (side_at a) (map side_at value.stack.sides) (taken_top old mid value a T) (λ q. h (e ∙ q))
    ∙ ap {A = State} Ok (same_state (sym N.faces)
    (ap (λ (x : Side). glue (side value.table.faces third) x (glue (side value.table.faces second) (side_at a) (gluing_of value.table))) (sym e) ∙ sym N.glued)
    (raised value.table.faces value.stack.sides new.stack.sides N.stack)
    (ap (λ (x : SplitsValue). kept_in x.kept) (sym N.splits)) (ap (λ (x : SplitsValue). x.events) (sym N.splits)) (add-zero value.made ∙ sym N.made) (sym N.closes)))

-- other sides are kept
pub link_kept : (v : LinkValue) (splits : SplitsValue) → IsLinkState v → length splits.kept ≡ length v.splits.kept → AreKeptBelow v.table.faces splits.kept → IsLinkState (record v { splits = splits })
link_kept v splits I e K = record {
  limit = I.limit;
  room = I.room;
  fewer = I.fewer;
  slots = e ∙ I.slots;
  stack_room = I.stack_room;
  low = I.low;
  few = I.few;
  sides = I.sides;
  kept = K;
  made = I.made;
}

-- both sides of an S just taken off
pub record TakenTwo (old one two value : LinkValue) (b a : ℕ) : Type 0 where
  pub first_taken : Taken old one one b
  pub second_top : top one.table.faces (gluing_of one.table) (pushed (kept_in one.splits.kept one.table.faces) (map side_at one.stack.sides)) ≡ Ok (side_at a, map side_at two.stack.sides)
  pub second_free : gluing_of one.table (side_at a) ≡ None
  pub second_below : a < 3 * one.table.faces
  pub kept : kept_in two.splits.kept ≡ release one.table.faces (kept_in one.splits.kept)
  pub events : two.splits.events ≡ one.splits.events
  pub rest : two ≡ record one { stack = two.stack; splits = two.splits }
  pub view : value ≡ two

-- the table is the same all along
pub same_table : {old one two value : LinkValue} {b a : ℕ} → TakenTwo old one two value b a → value.table ≡ one.table
same_table T = ap (λ (v : LinkValue). v.table) (T.view ∙ T.rest)

pub second_is_free : {old one two value : LinkValue} {b a : ℕ} → TakenTwo old one two value b a → IsFree value.table.faces (gluing_of value.table) (side_at a)
second_is_free {old} {one} {two} {value} {b} {a} T =
    subst (λ (t : Table). IsFree t.faces (gluing_of t) (side_at a)) (sym (same_table T)) (record { within = (let h = T.second_below in omega arith); free = T.second_free })

pub first_is_free : {old one two value : LinkValue} {b a : ℕ} → TakenTwo old one two value b a → IsFree value.table.faces (gluing_of value.table) (side_at b)
first_is_free {old} {one} {two} {value} {b} {a} T = subst (λ (t : Table). IsFree t.faces (gluing_of t) (side_at b)) (sym (same_table T)) (taken_free T.first_taken)

pub split_no_second_does : (old one : LinkValue) (b : ℕ) (f : Fault) → Taken old one one b → top one.table.faces (gluing_of one.table) (pushed (kept_in one.splits.kept one.table.faces) (map side_at one.stack.sides)) ≡ Err f →
    step old.plan.symbols S (state_of old) ≡ Err f
split_no_second_does old one b f T e =
    steps_taken old one one b (λ m s. step m S s) (Err f) T
    (split_no_second one.plan.symbols (taken_state one b) (side_at b) (map side_at one.stack.sides) f (taken_top old one one b T) e)

pub split_one_side_does : (old one two value : LinkValue) (b a : ℕ) (n : ℕ) → TakenTwo old one two value b a → side_at a ≡ side_at b → n ≡ value.table.faces → step old.plan.symbols S (state_of old) ≡ Err (fault kind.Gone n)
split_one_side_does old one two value b a n T h q =
    steps_taken old one one b (λ m s. step m S s) (Err (fault kind.Gone n)) T.first_taken
    (split_one_side one.plan.symbols (taken_state one b) (side_at b) (side_at a) (map side_at one.stack.sides) (map side_at two.stack.sides) (taken_top old one one b T.first_taken) T.second_top h
    ∙ ap (λ (m : ℕ). let x : Next = Err (fault kind.Gone m) in x) (sym (q ∙ ap (λ (t : Table). t.faces) (same_table T))))

pub split_one_point_does : (old one two value : LinkValue) (b a : ℕ) (t : Side) (n : ℕ) → TakenTwo old one two value b a → side_at a ≢ side_at b → t ≡ side_before value.table.faces (gluing_of value.table) (side_at b) → t ≡ side_at a → n ≡ value.table.faces →
    step old.plan.symbols S (state_of old) ≡ Err (fault kind.SamePoint n)
split_one_point_does old one two value b a t n T h e k q =
    steps_taken old one one b (λ m s. step m S s) (Err (fault kind.SamePoint n)) T.first_taken
    (split_one_point one.plan.symbols (taken_state one b) (side_at b) (side_at a) (map side_at one.stack.sides) (map side_at two.stack.sides) (taken_top old one one b T.first_taken) T.second_top h
    (ap (λ (u : Table). side_before u.faces (gluing_of u) (side_at b)) (sym (same_table T)) ∙ sym e ∙ k)
    ∙ ap (λ (m : ℕ). let x : Next = Err (fault kind.SamePoint m) in x) (sym (q ∙ ap (λ (t : Table). t.faces) (same_table T))))

pub record SplitGrown (value new : LinkValue) (b a : ℕ) : Type 0 where
  pub faces : new.table.faces ≡ suc value.table.faces
  pub glued : gluing_of new.table ≡ glue (side value.table.faces second) (side_at b) (glue (side value.table.faces third) (side_at a) (gluing_of value.table))
  pub stack : new.stack.sides ≡ (3 * value.table.faces) ∷ value.stack.sides
  pub splits : new.splits ≡ value.splits
  pub made : new.made ≡ value.made
  pub closes : new.closes ≡ value.closes

pub split_does : (old one two value new : LinkValue) (b a : ℕ) (t : Side) → TakenTwo old one two value b a → SplitGrown value new b a → side_at a ≢ side_at b → t ≡ side_before value.table.faces (gluing_of value.table) (side_at b) → t ≢ side_at a →
    step old.plan.symbols S (state_of old) ≡ Ok (state_of new)
split_does old one two value new b a t T N h e k =
    steps_taken old one one b (λ m s. step m S s) (Ok (state_of new)) T.first_taken
    (split_steps one.plan.symbols (taken_state one b) (side_at b) (side_at a) (map side_at one.stack.sides) (map side_at two.stack.sides) (taken_top old one one b T.first_taken) T.second_top h
    (λ q. k (e ∙ ap (λ (u : Table). side_before u.faces (gluing_of u) (side_at b)) (same_table T) ∙ q))
    ∙ ap {A = State} Ok (same_state
    (ap (λ (u : Table). suc u.faces) (sym (same_table T)) ∙ sym N.faces)
    (ap (λ (u : Table). glue (side u.faces second) (side_at b) (glue (side u.faces third) (side_at a) (gluing_of u))) (sym (same_table T)) ∙ sym N.glued)
    (ap (λ (u : Table). side u.faces first ∷ map side_at two.stack.sides) (sym (same_table T)) ∙ ap (λ (v : LinkValue). side value.table.faces first ∷ map side_at v.stack.sides) (sym T.view) ∙ raised value.table.faces value.stack.sides new.stack.sides N.stack)
    (sym T.kept ∙ ap (λ (v : LinkValue). kept_in v.splits.kept) (sym T.view) ∙ ap (λ (x : SplitsValue). kept_in x.kept) (sym N.splits))
    (sym T.events ∙ ap (λ (v : LinkValue). v.splits.events) (sym T.view) ∙ ap (λ (x : SplitsValue). x.events) (sym N.splits))
    (add-zero one.made ∙ ap (λ (v : LinkValue). v.made) (sym (T.view ∙ T.rest)) ∙ sym N.made)
    (ap (λ (v : LinkValue). v.closes) (sym (T.view ∙ T.rest)) ∙ sym N.closes)))

-- a close: what the top side's loop is
loop_test_is : (s : State) (a b c d : Side) → b ≡ side_before s.built s.glued a → c ≡ side_before s.built s.glued b → d ≡ side_before s.built s.glued c →
    loop_test s a ≡ (not (same b a) && not (same c a) && same d a)
loop_test_is s a b c d p q r =
    let before : Side → Side = side_before s.built s.glued in
    let q' : c ≡ before (before a) = q ∙ ap before p in
    let r' : d ≡ before (before (before a)) = r ∙ ap before q' in
    ap (λ (x : Side). not (same x a) && not (same (before (before a)) a) && same (before (before (before a))) a) (sym p)
    ∙ ap (λ (x : Side). not (same b a) && not (same x a) && same (before (before (before a))) a) (sym q')
    ∙ ap (λ (x : Side). not (same b a) && not (same c a) && same x a) (sym r')

-- the sides of a loop that is to be filled
pub record IsLoop (v : LinkValue) (a : ℕ) (rest : List ℕ) (b c d : Side) : Type 0 where
  pub stack : v.stack.sides ≡ a ∷ rest
  pub free : gluing_of v.table (side_at a) ≡ None
  pub first_before : b ≡ side_before v.table.faces (gluing_of v.table) (side_at a)
  pub second_before : c ≡ side_before v.table.faces (gluing_of v.table) b
  pub third_before : d ≡ side_before v.table.faces (gluing_of v.table) c

-- the same without the stack
pub record IsRound (v : LinkValue) (a : ℕ) (b c d : Side) : Type 0 where
  pub free : gluing_of v.table (side_at a) ≡ None
  pub first_before : b ≡ side_before v.table.faces (gluing_of v.table) (side_at a)
  pub second_before : c ≡ side_before v.table.faces (gluing_of v.table) b
  pub third_before : d ≡ side_before v.table.faces (gluing_of v.table) c

pub to_fill : (v : LinkValue) (a : ℕ) (rest : List ℕ) → v.stack.sides ≡ a ∷ rest → close v.plan true (state_of v) ≡ fill (v.plan.symbols + v.closes) v.plan (side_at a) (map side_at rest) (state_of v)
to_fill v a rest e = close_interior v.plan (state_of v) (side_at a) (map side_at rest) (ap (map side_at) e)

pub fill_gone_is : (v : LinkValue) (a : ℕ) (rest : List ℕ) (x : Side) (n : ℕ) → gluing_of v.table (side_at a) ≡ Some x → n ≡ v.plan.symbols + v.closes → fill (v.plan.symbols + v.closes) v.plan (side_at a) (map side_at rest) (state_of v) ≡ Err (fault kind.Gone n)
fill_gone_is v a rest x n h q = fill_gone (v.plan.symbols + v.closes) v.plan (state_of v) (side_at a) x (map side_at rest) h ∙ ap (λ (m : ℕ). let y : Next = Err (fault kind.Gone m) in y) (sym q)

pub fill_no_loop_is : (v : LinkValue) (a : ℕ) (rest : List ℕ) (b c d : Side) (t : Bool) (n : ℕ) → IsRound v a b c d → t ≡ (not (same b (side_at a)) && not (same c (side_at a)) && same d (side_at a)) → t ≡ false → n ≡ v.plan.symbols + v.closes →
    fill (v.plan.symbols + v.closes) v.plan (side_at a) (map side_at rest) (state_of v) ≡ Err (fault kind.Loop n)
fill_no_loop_is v a rest b c d t n W h f q =
    fill_no_loop (v.plan.symbols + v.closes) v.plan (state_of v) (side_at a) (map side_at rest) W.free (loop_test_is (state_of v) (side_at a) b c d W.first_before W.second_before W.third_before ∙ sym h ∙ f)
    ∙ ap (λ (m : ℕ). let y : Next = Err (fault kind.Loop m) in y) (sym q)

pub fill_full_is : (v : LinkValue) (a : ℕ) (rest : List ℕ) (b c d : Side) (t : Bool) (n : ℕ) → IsRound v a b c d → t ≡ (not (same b (side_at a)) && not (same c (side_at a)) && same d (side_at a)) → t ≡ true → v.table.faces ≡ v.plan.faces → n ≡ v.table.faces →
    fill (v.plan.symbols + v.closes) v.plan (side_at a) (map side_at rest) (state_of v) ≡ Err (fault kind.FaceCount n)
fill_full_is v a rest b c d t n W h f e q =
    fill_full (v.plan.symbols + v.closes) v.plan (state_of v) (side_at a) (map side_at rest) W.free (loop_test_is (state_of v) (side_at a) b c d W.first_before W.second_before W.third_before ∙ sym h ∙ f) e
    ∙ ap (λ (m : ℕ). let y : Next = Err (fault kind.FaceCount m) in y) (sym q)

pub record Filled (v new : LinkValue) (a : ℕ) (rest : List ℕ) (b c : Side) : Type 0 where
  pub faces : new.table.faces ≡ suc v.table.faces
  pub glued : gluing_of new.table ≡ glue (side v.table.faces third) c (glue (side v.table.faces second) b (glue (side v.table.faces first) (side_at a) (gluing_of v.table)))
  pub stack : new.stack.sides ≡ rest
  pub splits : new.splits ≡ v.splits
  pub made : new.made ≡ v.made
  pub closes : new.closes ≡ suc v.closes

pub fill_does : (v new : LinkValue) (a : ℕ) (rest : List ℕ) (b c d : Side) (t : Bool) → IsLoop v a rest b c d → Filled v new a rest b c → t ≡ (not (same b (side_at a)) && not (same c (side_at a)) && same d (side_at a)) → t ≡ true → v.table.faces ≢ v.plan.faces →
    close v.plan true (state_of v) ≡ Ok (state_of new)
fill_does v new a rest b c d t W N h f e =
    to_fill v a rest W.stack
    ∙ fill_steps (v.plan.symbols + v.closes) v.plan (state_of v) (side_at a) (map side_at rest) W.free (loop_test_is (state_of v) (side_at a) b c d W.first_before W.second_before W.third_before ∙ sym h ∙ f) e
    ∙ ap {A = State} Ok (same_state
    (sym N.faces)
    (ap (λ (x : Side). glue (side v.table.faces third) (side_before v.table.faces (gluing_of v.table) x) (glue (side v.table.faces second) x (glue (side v.table.faces first) (side_at a) (gluing_of v.table)))) (sym W.first_before)
    ∙ ap (λ (x : Side). glue (side v.table.faces third) x (glue (side v.table.faces second) b (glue (side v.table.faces first) (side_at a) (gluing_of v.table)))) (sym W.second_before) ∙ sym N.glued)
    (ap (map side_at) (sym N.stack))
    (ap (λ (x : SplitsValue). kept_in x.kept) (sym N.splits)) (ap (λ (x : SplitsValue). x.events) (sym N.splits)) (sym N.made) (sym N.closes))

-- the tests of a loop that passes
pub loop_tells : (a b c d : Side) (t : Bool) → t ≡ (not (same b a) && not (same c a) && same d a) → t ≡ true → (b ≢ a) × (c ≢ a) × (d ≡ a)
loop_tells a b c d t h e =
    let both = and_parts (not (same b a) && not (same c a)) (same d a) (sym h ∙ e) in
    let two = and_parts (not (same b a)) (not (same c a)) both.0 in
    (same-false b a (not-true (same b a) two.0), same-false c a (not-true (same c a) two.1), same-true d a both.1)

-- and what passes them
pub loop_passes : (a b c d : Side) → b ≢ a → c ≢ a → d ≡ a → true ≡ (not (same b a) && not (same c a) && same d a)
loop_passes a b c d p q r =
    ap (λ (t : Bool). not t && not false && true) (sym (not_same b a p)) ∙ ap (λ (t : Bool). not (same b a) && not t && true) (sym (not_same c a q))
    ∙ ap (λ (t : Bool). not (same b a) && not (same c a) && t) (sym (ap (λ (x : Side). same x a) r ∙ same_refl a))

-- the pairs of the face that fills a loop
pub loop_apart : {t : Table} {a b c : Side} → IsLoopOf t a b c → PairsAreApart t.faces (gluing_of t) ((third, c) ∷ (second, b) ∷ (first, a) ∷ [])
loop_apart {t} {a} {b} {c} W = (
  W.three,
  ((λ q. W.apart (sym q ∙ W.joined_again ∙ sym (ap (side_before t.faces (gluing_of t)) q) ∙ W.joined_round)), (W.apart_again, tt)),
  ((λ q. (cc)), ((λ q. (cc)), tt)),
  (W.two, (W.apart, tt), ((λ q. (cc)), tt), (W.one, tt, tt, tt)),
)

-- what closing keeps
pub link_closed : {v new : LinkValue} → IsLinkState v → (a : ℕ) (rest : List ℕ) (more : ℕ) → v.stack.sides ≡ a ∷ rest → new.plan ≡ v.plan → room_of new.table ≡ room_of v.table → new.table.faces ≡ v.table.faces + more → new.stack.sides ≡ rest → new.stack.room ≡ v.stack.room →
    new.splits ≡ v.splits → new.made ≡ v.made → new.closes ≡ suc v.closes → AreSidesBelow new.table.faces rest → AreKeptBelow new.table.faces v.splits.kept → IsLinkState new
link_closed {v} {new} I a rest more e p r f s t u m c K B = record {
  limit = subst (λ (p : Plan). p.faces ≤ MAX_FACES) (sym p) I.limit;
  room = (let i = I.room in let f = ap (λ (p : Plan). p.faces) p in omega arith);
  fewer = subst (λ (p : Plan). p.symbols ≤ p.faces) (sym p) I.fewer;
  slots = ap (λ (x : SplitsValue). length x.kept) u ∙ I.slots ∙ ap (λ (p : Plan). p.symbols) (sym p);
  stack_room = t ∙ same_least I.stack_room (sym p) (sym r);
  low = (let h = ap {A = List ℕ} length e in let k = ap {A = List ℕ} length s in let l = I.low in omega arith);
  few = (let h = ap {A = List ℕ} length e in let k = ap {A = List ℕ} length s in let l = I.few in let q = ap (λ (p : Plan). p.symbols) p in omega arith);
  sides = subst (AreSidesBelow new.table.faces) (sym s) K;
  kept = subst (λ (x : SplitsValue). AreKeptBelow new.table.faces x.kept) (sym u) B;
  made = (let l = I.made in omega arith);
}

-- the top side of a list of sides, and the rest
pub sides_rest : (f : ℕ) (sides : List ℕ) (a : ℕ) (rest : List ℕ) → sides ≡ a ∷ rest → AreSidesBelow f sides → AreSidesBelow f (a ∷ rest)
sides_rest f sides a rest e h = subst (AreSidesBelow f) e h

-- a side is taken off
pub link_popped : (v : LinkValue) (popped : StackValue) (a : ℕ) → IsLinkState v → v.stack.sides ≡ a ∷ popped.sides → popped.room ≡ v.stack.room → IsLinkState (record v { stack = popped })
link_popped v popped a I e r = record {
  limit = I.limit;
  room = I.room;
  fewer = I.fewer;
  slots = I.slots;
  stack_room = r ∙ I.stack_room;
  low = (let h = ap {A = List ℕ} length e in let l = I.low in omega arith);
  few = (let h = ap {A = List ℕ} length e in let l = I.few in omega arith);
  sides = (sides_rest v.table.faces v.stack.sides a popped.sides e I.sides).1;
  kept = I.kept;
  made = I.made;
}

-- a boundary is left
pub close_boundary_does : (v : LinkValue) (popped : StackValue) (a : ℕ) → v.stack.sides ≡ a ∷ popped.sides → close v.plan false (state_of v) ≡ Ok (state_of (record v { stack = popped; closes = suc v.closes }))
close_boundary_does v popped a e = close_boundary v.plan (state_of v) (side_at a) (map side_at popped.sides) (ap (map side_at) e)
