-- The depth-first recursion with fuel: each face is entered once, so as much fuel as there are unvisited faces is enough, and the recursion is
-- the relation.
use Rattle.std.proofs.Common.{◌≡◌, ℕ, zero, suc, ◌+◌, ◌<◌, ◌≤◌, Bool, true, false, not, cond, List, length, get_or, set, Option, Some, None, inl, inr, sym, refl, ap, ◌∙◌, subst, arith}
use Rattle.std.proofs.lemmas.Bool.{cases_Bool, cases_lt, cond-true, cond-false}
use Rattle.std.proofs.lemmas.List.{get_or_past}
use Rattle.std.proofs.lemmas.List.Sums.{sum_by-set, count_by-le-length}
use Rattle.corner_table.specs.Sides.{Side, next, prev, Gluing}
use Rattle.walk_order.specs.Visits.{Walk, is_visited, unvisited, entered}
use Rattle.walk_order.specs.DepthFirst.{goes_right_alone, walk}
use Rattle.walk_order.specs.Laws.{Walks, missing, met, alone, both, WalkIsRelation}

true_not_false : (b : Bool) → b ≡ true → b ≡ false → ⊥
true_not_false b e f = (let no : true ≡ false = sym e ∙ f in cc)

-- an unvisited face is one of the faces
pub face_within : (xs : List Bool) (f : ℕ) → get_or xs f true ≡ false → f < length xs
face_within xs f e = elim (cases_lt f (length xs)) [
  | inl h ↦ h
  | inr h ↦ absurd (true_not_false (get_or xs f true) (get_or_past xs f true h) e)
]

count_plain : (a b p q : ℕ) → a + p ≡ b + q → p ≡ 1 → q ≡ 0 → a + 1 ≡ b
count_plain a b p q s e f = omega arith

-- a face more is visited, a face fewer unvisited
pub one_fewer : (xs : List Bool) (f : ℕ) → get_or xs f true ≡ false → unvisited (set xs f true) + 1 ≡ unvisited xs
unfolding unvisited
one_fewer xs f e =
    count_plain _ _ _ _ (sum_by-set (λ (x : Bool). cond (not x) 1 0) xs f true true (face_within xs f e)) (ap (λ (x : Bool). cond (not x) 1 0) e) refl

pub unvisited_few : (xs : List Bool) → unvisited xs ≤ length xs
unfolding unvisited
unvisited_few xs = count_by-le-length not xs

-- where no face is unvisited, none is
none_unvisited : (xs : List Bool) (f : ℕ) → unvisited xs ≤ 0 → get_or xs f true ≡ true
none_unvisited xs f h = elim (cases_Bool (get_or xs f true)) [
  | inl t ↦ t
  | inr u ↦ absurd (let l = one_fewer xs f u in omega arith)
]

module _ (g : Gluing) (labels : List ℕ) (ends : List Bool) where
  -- the corner to the left, unless the walk goes right alone
  abbrev pub left_of : Walk → Side → Option Side
  left_of w c = cond (goes_right_alone labels ends w c) None (g (prev c))

  pub walk_missing : (n : ℕ) (w : Walk) → walk g labels ends n w None ≡ w
  unfolding walk
  walk_missing zero w = refl
  walk_missing (suc n) w = refl

  pub walk_out : (w : Walk) (o : Option Side) → walk g labels ends zero w o ≡ w
  unfolding walk
  walk_out w o = refl

  pub walk_met : (n : ℕ) (w : Walk) (c : Side) → is_visited w c.face ≡ true → walk g labels ends n w (Some c) ≡ w
  unfolding walk
  walk_met zero w c e = refl
  walk_met (suc n) w c e = ap (λ (b : Bool). let x : Walk = elim b [
    | true ↦ w
    | false ↦ (
        let right = walk g labels ends n (entered labels w c) (g (next c)) in
        elim (goes_right_alone labels ends w c) [ true ↦ right | false ↦ walk g labels ends n right (g (prev c)) ])
  ] in x) e

  -- the walk after the face is entered, where the test of going right alone says b
  abbrev Goes : ℕ → Walk → Side → Bool → Walk
  Goes n w c b =
      let right = walk g labels ends n (entered labels w c) (g (next c)) in
      elim b [ true ↦ right | false ↦ walk g labels ends n right (g (prev c)) ]

  walk_goes : (n : ℕ) (w : Walk) (c : Side) → is_visited w c.face ≡ false → walk g labels ends (suc n) w (Some c) ≡ Goes n w c (goes_right_alone labels ends w c)
  unfolding walk
  walk_goes n w c e = ap (λ (b : Bool). let x : Walk = elim b [
    | true ↦ w
    | false ↦ (
        let right = walk g labels ends n (entered labels w c) (g (next c)) in
        elim (goes_right_alone labels ends w c) [ true ↦ right | false ↦ walk g labels ends n right (g (prev c)) ])
  ] in x) e

  pub walk_alone : (n : ℕ) (w : Walk) (c : Side) → is_visited w c.face ≡ false → goes_right_alone labels ends w c ≡ true →
      walk g labels ends (suc n) w (Some c) ≡ walk g labels ends n (entered labels w c) (g (next c))
  walk_alone n w c e a = walk_goes n w c e ∙ ap (Goes n w c) a

  pub walk_both : (n : ℕ) (w : Walk) (c : Side) → is_visited w c.face ≡ false → goes_right_alone labels ends w c ≡ false →
      walk g labels ends (suc n) w (Some c) ≡ walk g labels ends n (walk g labels ends n (entered labels w c) (g (next c))) (g (prev c))
  walk_both n w c e a = walk_goes n w c e ∙ ap (Goes n w c) a

  -- an unvisited face is entered
  pub walk_on : (n : ℕ) (w : Walk) (c : Side) → is_visited w c.face ≡ false →
      walk g labels ends (suc n) w (Some c) ≡ walk g labels ends n (walk g labels ends n (entered labels w c) (g (next c))) (left_of w c)
  walk_on n w c e = elim (cases_Bool (goes_right_alone labels ends w c)) [
    | inl t ↦ walk_alone n w c e t ∙ sym (walk_missing n _) ∙ ap (walk g labels ends n (walk g labels ends n (entered labels w c) (g (next c)))) (sym (cond-true (goes_right_alone labels ends w c) None (g (prev c)) t))
    | inr f ↦ walk_both n w c e f ∙ ap (walk g labels ends n (walk g labels ends n (entered labels w c) (g (next c)))) (sym (cond-false (goes_right_alone labels ends w c) None (g (prev c)) f))
  ]

  -- a walk leaves no more unvisited faces
  pub walk_fewer : (n : ℕ) (w : Walk) (o : Option Side) → unvisited (walk g labels ends n w o).visited ≤ unvisited w.visited
  walk_fewer n w None = subst (λ (v : Walk). unvisited v.visited ≤ unvisited w.visited) (sym (walk_missing n w)) (omega arith)
  walk_fewer zero w (Some c) = subst (λ (v : Walk). unvisited v.visited ≤ unvisited w.visited) (sym (walk_out w (Some c))) (omega arith)
  walk_fewer (suc n) w (Some c) = elim (cases_Bool (is_visited w c.face)) [
    | inl t ↦ subst (λ (v : Walk). unvisited v.visited ≤ unvisited w.visited) (sym (walk_met (suc n) w c t)) (omega arith)
    | inr f ↦ subst (λ (v : Walk). unvisited v.visited ≤ unvisited w.visited) (sym (walk_on n w c f)) (
        let l = one_fewer w.visited c.face f in
        let a = walk_fewer n (entered labels w c) (g (next c)) in
        let b = walk_fewer n (walk g labels ends n (entered labels w c) (g (next c))) (left_of w c) in
        omega arith)
  ]

  -- one more is not needed where there is fuel for the unvisited faces
  pub enough : (n : ℕ) (w : Walk) (o : Option Side) → unvisited w.visited ≤ n → walk g labels ends (suc n) w o ≡ walk g labels ends n w o
  enough n w None h = walk_missing (suc n) w ∙ sym (walk_missing n w)
  enough zero w (Some c) h = (let t = none_unvisited w.visited c.face h in walk_met (suc zero) w c t ∙ sym (walk_met zero w c t))
  enough (suc n) w (Some c) h = elim (cases_Bool (is_visited w c.face)) [
    | inl t ↦ walk_met (suc (suc n)) w c t ∙ sym (walk_met (suc n) w c t)
    | inr f ↦ (
        let l = one_fewer w.visited c.face f in
        let a = walk_fewer n (entered labels w c) (g (next c)) in
        walk_on (suc n) w c f
        ∙ ap (λ (v : Walk). walk g labels ends (suc n) v (left_of w c)) (enough n (entered labels w c) (g (next c)) (omega arith))
        ∙ enough n (walk g labels ends n (entered labels w c) (g (next c))) (left_of w c) (omega arith)
        ∙ sym (walk_on n w c f))
  ]

  -- one turn of the walk, with the same fuel before and after
  pub one_turn : (n : ℕ) (w : Walk) (c : Side) → unvisited w.visited ≤ n → is_visited w c.face ≡ false →
      walk g labels ends n w (Some c) ≡ walk g labels ends n (walk g labels ends n (entered labels w c) (g (next c))) (left_of w c)
  one_turn n w c h f = sym (enough n w (Some c) h) ∙ walk_on n w c f

  -- the relation gives what the recursion computes
  follows : {w v : Walk} {o : Option Side} → Walks g labels ends w o v → (n : ℕ) → unvisited w.visited ≤ n → walk g labels ends n w o ≡ v
  follows (missing {w}) n h = walk_missing n w
  follows (met {w} {c} e) n h = walk_met n w c e
  follows (alone {w} {v} {c} e a k) n h =
      let l = one_fewer w.visited c.face e in
      one_turn n w c h e
      ∙ ap (walk g labels ends n (walk g labels ends n (entered labels w c) (g (next c)))) (cond-true (goes_right_alone labels ends w c) None (g (prev c)) a)
      ∙ walk_missing n _
      ∙ follows k n (omega arith)
  follows (both {w} {u} {v} {c} e a k m) n h =
      let l = one_fewer w.visited c.face e in
      let first = follows k n (omega arith) in
      let fewer = walk_fewer n (entered labels w c) (g (next c)) in
      let fewer_then : unvisited u.visited ≤ unvisited (entered labels w c).visited = subst (λ (x : Walk). unvisited x.visited ≤ unvisited (entered labels w c).visited) first fewer in
      one_turn n w c h e
      ∙ ap (walk g labels ends n (walk g labels ends n (entered labels w c) (g (next c)))) (cond-false (goes_right_alone labels ends w c) None (g (prev c)) a)
      ∙ ap (λ (x : Walk). walk g labels ends n x (g (prev c))) first
      ∙ follows m n (omega arith)

  -- and what the recursion computes is in the relation
  leads : (n : ℕ) (w : Walk) (o : Option Side) → unvisited w.visited ≤ n → Walks g labels ends w o (walk g labels ends n w o)
  leads n w None h = subst (Walks g labels ends w None) (sym (walk_missing n w)) missing
  leads zero w (Some c) h = (let t = none_unvisited w.visited c.face h in subst (Walks g labels ends w (Some c)) (sym (walk_met zero w c t)) (met t))
  leads (suc n) w (Some c) h = elim (cases_Bool (is_visited w c.face)) [
    | inl t ↦ subst (Walks g labels ends w (Some c)) (sym (walk_met (suc n) w c t)) (met t)
    | inr f ↦ (
        let l = one_fewer w.visited c.face f in
        let fewer = walk_fewer n (entered labels w c) (g (next c)) in
        let right = leads n (entered labels w c) (g (next c)) (omega arith) in
        elim (cases_Bool (goes_right_alone labels ends w c)) [
          | inl a ↦ subst (Walks g labels ends w (Some c)) (sym (walk_alone n w c f a)) (alone f a right)
          | inr a ↦ subst (Walks g labels ends w (Some c)) (sym (walk_both n w c f a)) (both f a right (leads n (walk g labels ends n (entered labels w c) (g (next c))) (g (prev c)) (omega arith)))
        ])
  ]

pub walk_is_relation : WalkIsRelation
walk_is_relation g labels ends n w v o h = (λ k. follows g labels ends k n h, λ e. subst (Walks g labels ends w o) e (leads g labels ends n w o h))
