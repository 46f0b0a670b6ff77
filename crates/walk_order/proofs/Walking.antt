-- The loop over the stack is the recursion.
use Rattle.std.proofs.Common.{◌≡◌, ℕ, suc, ◌+◌, ◌*◌, ◌<◌, ◌≤◌, Bool, List, [], ◌∷◌, ◌++◌, length, map, reverse, Option, Some, None, option_map, inl, inr, sym, refl, ap, ◌∙◌, subst, arith}
use Rattle.std.proofs.lemmas.List.{length-map, length-reverse, reverse-append}
use Rattle.corner_table.specs.Sides.{Side, side_at, Gluing}
use Rattle.walk_order.specs.declared.surface.Surface.{Surface}
use Rattle.walk_order.specs.declared.marks.Marks.{Marks}
use Rattle.walk_order.specs.Visits.{Walk, unwalked, unvisited}
use Rattle.walk_order.specs.DepthFirst.{walk, walked_from, depth_walked}
use Rattle.walk_order.specs.Stored.{marked_walk, before, turn_step, walks_in_turn, gluing_in, IsSurface, IsStored, AllHaveEntries, marked_entries}
use Rattle.walk_order.proofs.Fuel.{unvisited_few}
use Rattle.walk_order.proofs.Turns.{turn_walks, turn_falls, in_turn_none, in_turn_one}
use Rattle.walk_order.proofs.Covering.{depth_first_has_all}

-- no more unvisited faces than faces
pub stored_few : {s : Surface} {m : Marks} → IsStored s m → unvisited m.visited.items ≤ s.faces
stored_few {s} {m} M = let l = unvisited_few m.visited.items in let z = M.sized in let e = m.visited.ok.0 in omega arith

pub nothing_in : {A : Type 0} (xs : List A) → length xs ≡ 0 → xs ≡ []
nothing_in [] e = refl
nothing_in (x ∷ xs) e = absurd (omega arith)

-- a stack as the walk has it, the last one first
abbrev pub waiting : List ℕ → List Side
waiting xs = map side_at (reverse xs)

waiting_count : (xs : List ℕ) → length (waiting xs) ≡ length xs
waiting_count xs = length-map (reverse xs) side_at ∙ length-reverse xs

pub taken_off : (xs ys : List ℕ) (n : ℕ) → xs ≡ ys ++ (n ∷ []) → waiting xs ≡ side_at n ∷ waiting ys
taken_off xs ys n e = ap waiting e ∙ ap (map side_at) (reverse-append ys (n ∷ []))

module _ (g : Gluing) (labels : List ℕ) (ends : List Bool) (n : ℕ) where
  -- all that is to come, where the walk is at a corner and others wait
  abbrev Comes : Walk → ℕ → List ℕ → Walk
  Comes w at xs = walks_in_turn g labels ends n w (side_at at ∷ waiting xs)

  pub comes_first : (w : Walk) (at : ℕ) (xs : List ℕ) → length xs ≡ 0 → walk g labels ends n w (Some (side_at at)) ≡ Comes w at xs
  comes_first w at xs e = in_turn_one g labels ends n w (side_at at) ∙ ap (λ (ys : List ℕ). Comes w at ys) (sym (nothing_in xs e))

  pub comes_next : (w v : Walk) (at next : ℕ) (xs ys : List ℕ) (o : Option ℕ) → unvisited w.visited ≤ n → turn_step g labels ends w (waiting xs) (side_at at) ≡ (v, waiting ys, option_map side_at o) → o ≡ Some next →
      Comes w at xs ≡ Comes v next ys
  comes_next w v at next xs ys o h e i =
      turn_walks g labels ends n w (waiting xs) (side_at at) (v, waiting ys, option_map side_at o) h e
      ∙ ap (λ (p : Option ℕ). walks_in_turn g labels ends n v (before (option_map side_at p) (waiting ys))) i

  pub comes_back : (w v : Walk) (at last : ℕ) (xs ys zs : List ℕ) (o : Option ℕ) → unvisited w.visited ≤ n → turn_step g labels ends w (waiting xs) (side_at at) ≡ (v, waiting ys, option_map side_at o) → o ≡ None → ys ≡ zs ++ (last ∷ []) →
      Comes w at xs ≡ Comes v last zs
  comes_back w v at last xs ys zs o h e i t =
      turn_walks g labels ends n w (waiting xs) (side_at at) (v, waiting ys, option_map side_at o) h e
      ∙ ap (λ (p : Option ℕ). walks_in_turn g labels ends n v (before (option_map side_at p) (waiting ys))) i
      ∙ ap (walks_in_turn g labels ends n v) (taken_off ys zs last t)

  pub comes_to_end : (w v : Walk) (at : ℕ) (xs ys : List ℕ) (o : Option ℕ) → unvisited w.visited ≤ n → turn_step g labels ends w (waiting xs) (side_at at) ≡ (v, waiting ys, option_map side_at o) → o ≡ None → length ys ≡ 0 →
      Comes w at xs ≡ v
  comes_to_end w v at xs ys o h e i t =
      turn_walks g labels ends n w (waiting xs) (side_at at) (v, waiting ys, option_map side_at o) h e
      ∙ ap (λ (p : Option ℕ). walks_in_turn g labels ends n v (before (option_map side_at p) (waiting ys))) i
      ∙ ap (λ (zs : List ℕ). walks_in_turn g labels ends n v (waiting zs)) (nothing_in ys t)
      ∙ in_turn_none g labels ends n v

module _ (g : Gluing) (labels : List ℕ) (ends : List Bool) where
  pub falls_on : (w v : Walk) (at next : ℕ) (xs ys : List ℕ) (o : Option ℕ) → turn_step g labels ends w (waiting xs) (side_at at) ≡ (v, waiting ys, option_map side_at o) → o ≡ Some next →
      2 * unvisited v.visited + length ys < 2 * unvisited w.visited + length xs
  falls_on w v at next xs ys o e i =
      let a = waiting_count xs in
      let b = waiting_count ys in
      elim (turn_falls g labels ends w (waiting xs) (side_at at) (v, waiting ys, option_map side_at o) e) [
        | inl l ↦ omega arith
        | inr l ↦ absurd (some_none (side_at next) (sym (ap (option_map side_at) i) ∙ l.1))
      ]
    where
      some_none : (d : Side) → Some d ≡ None → ⊥
      some_none d q = cc

  pub falls_back : (w v : Walk) (at : ℕ) (xs ys : List ℕ) (o : Option ℕ) → turn_step g labels ends w (waiting xs) (side_at at) ≡ (v, waiting ys, option_map side_at o) →
      2 * unvisited v.visited + length ys ≤ 2 * unvisited w.visited + length xs
  falls_back w v at xs ys o e =
      let a = waiting_count xs in
      let b = waiting_count ys in
      elim (turn_falls g labels ends w (waiting xs) (side_at at) (v, waiting ys, option_map side_at o) e) [
        | inl l ↦ omega arith
        | inr l ↦ (let m = l.0 in omega arith)
      ]

pub walked_nothing : (faces : ℕ) (g : Gluing) (labels : List ℕ) (ends : List Bool) → depth_walked faces g labels ends 0 ≡ unwalked faces
unfolding depth_walked
walked_nothing faces g labels ends = refl

-- one face more is walked
pub one_walked : (faces : ℕ) (g : Gluing) (labels : List ℕ) (ends : List Bool) (f : ℕ) (w v : Walk) → w ≡ depth_walked faces g labels ends f → v ≡ walked_from faces g labels ends f w → v ≡ depth_walked faces g labels ends (f + 1)
unfolding depth_walked
one_walked faces g labels ends f w v a b = b ∙ ap (walked_from faces g labels ends f) a ∙ ap (depth_walked faces g labels ends) (let e : suc f ≡ f + 1 = omega arith in e)

-- in the end every class has an entry
pub all_entered : (s : Surface) (m : Marks) → IsSurface s → marked_walk m ≡ depth_walked s.faces (gluing_in s) s.labels.now s.ends.now s.faces → AllHaveEntries s.labels.now (marked_entries m) (length s.ends.now)
all_entered s m S e =
    subst (λ (w : Walk). AllHaveEntries s.labels.now w.entries (length s.ends.now)) (sym e) (depth_first_has_all s.faces (gluing_in s) s.labels.now (length s.ends.now) s.ends.now S.gluing S.labelled)
