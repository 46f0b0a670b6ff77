-- The code of the walk by prediction degree: its stacks and its loops.
use Rattle.std.proofs.Common.{◌≡◌, ℕ, suc, ◌+◌, true, false, List, [], ◌∷◌, ◌++◌, length, Option, Some, None, option_map, sym, refl, ap, ◌∙◌, subst, arith}
use Rattle.corner_table.specs.Sides.{Side, side_at, Gluing}
use Rattle.walk_order.specs.declared.surface.Surface.{Surface}
use Rattle.walk_order.specs.declared.degree_walk.Ranks.{Ranks}
use Rattle.walk_order.specs.Visits.{Walk, is_visited}
use Rattle.walk_order.specs.PredictionDegree.{Ranked, unranked, take_unvisited, ranked_visit, visits, ranked_from, ranked}
use Rattle.walk_order.specs.Stored.{gluing_in, IsSurface, AllHaveEntries, marked_entries}
use Rattle.walk_order.specs.Ranking.{ranked_of}
use Rattle.walk_order.proofs.Walking.{waiting, taken_off, nothing_in}
use Rattle.walk_order.proofs.Rating.{take_met, take_here, take_nothing, visits_none, visits_end, visits_go, degree_has_all}

-- where no corner of an unvisited face is left
pub took_none : (w : Walk) (xs ys zs : List ℕ) → take_unvisited w (waiting xs) ≡ take_unvisited w (waiting ys) → length ys ≡ 0 → length zs ≡ 0 → (waiting zs, None) ≡ take_unvisited w (waiting xs)
took_none w xs ys zs e a b =
    ap (λ (l : List ℕ). let x : List Side × Option Side = (waiting l, None) in x) (nothing_in zs b)
    ∙ sym (e ∙ ap (λ (l : List ℕ). take_unvisited w (waiting l)) (nothing_in ys a) ∙ take_nothing w)

-- where the last one is of an unvisited face
pub took_some : (w : Walk) (xs ys zs : List ℕ) (n : ℕ) → take_unvisited w (waiting xs) ≡ take_unvisited w (waiting ys) → ys ≡ zs ++ (n ∷ []) → is_visited w (side_at n).face ≡ false → (waiting zs, Some (side_at n)) ≡ take_unvisited w (waiting xs)
took_some w xs ys zs n e t f = sym (e ∙ ap (take_unvisited w) (taken_off ys zs n t) ∙ take_here w (side_at n) (waiting zs) f)

-- and where it isn't
pub took_on : (w : Walk) (xs ys zs : List ℕ) (n : ℕ) → take_unvisited w (waiting xs) ≡ take_unvisited w (waiting ys) → ys ≡ zs ++ (n ∷ []) → is_visited w (side_at n).face ≡ true → take_unvisited w (waiting xs) ≡ take_unvisited w (waiting zs)
took_on w xs ys zs n e t f = e ∙ ap (take_unvisited w) (taken_off ys zs n t) ∙ take_met w (side_at n) (waiting zs) f

module _ (g : Gluing) (labels : List ℕ) where
  pub turn_ends : (k n : ℕ) (r q : Ranked) (c : Side) (o : Option ℕ) → k ≡ suc n → (q, option_map side_at o) ≡ ranked_visit g labels r c → o ≡ None → visits g labels k r c ≡ q
  turn_ends k n r q c o e v i =
      ap (λ (j : ℕ). visits g labels j r c) e
      ∙ visits_end g labels n r c (sym (ap (λ (t : Ranked × Option Side). t.1) v) ∙ ap (option_map side_at) i)
      ∙ sym (ap (λ (t : Ranked × Option Side). t.0) v)

  pub turn_goes_on : (k n : ℕ) (r q : Ranked) (c : Side) (o : Option ℕ) (next : ℕ) → k ≡ suc n → (q, option_map side_at o) ≡ ranked_visit g labels r c → o ≡ Some next → visits g labels k r c ≡ visits g labels n q (side_at next)
  turn_goes_on k n r q c o next e v i =
      ap (λ (j : ℕ). visits g labels j r c) e
      ∙ visits_go g labels n r c (side_at next) (sym (ap (λ (t : Ranked × Option Side). t.1) v) ∙ ap (option_map side_at) i)
      ∙ ap (λ (x : Ranked). visits g labels n x (side_at next)) (sym (ap (λ (t : Ranked × Option Side). t.0) v))

  pub turns_over : (k : ℕ) (r : Ranked) (c : Side) → k ≡ 0 → visits g labels k r c ≡ r
  turns_over k r c e = ap (λ (j : ℕ). visits g labels j r c) e ∙ visits_none g labels r c

pub ranked_nothing : (faces : ℕ) (g : Gluing) (labels : List ℕ) (count : ℕ) → ranked faces g labels count 0 ≡ unranked faces count
unfolding ranked
ranked_nothing faces g labels count = refl

-- one face more is walked
pub one_ranked : (faces : ℕ) (g : Gluing) (labels : List ℕ) (count : ℕ) (f : ℕ) (r q : Ranked) → r ≡ ranked faces g labels count f → q ≡ ranked_from faces g labels f r → q ≡ ranked faces g labels count (f + 1)
unfolding ranked
one_ranked faces g labels count f r q a b = b ∙ ap (ranked_from faces g labels f) a ∙ ap (ranked faces g labels count) (let e : suc f ≡ f + 1 = omega arith in e)

-- in the end every class has an entry
pub all_ranked : (s : Surface) (r : Ranks) → IsSurface s → ranked_of r ≡ ranked s.faces (gluing_in s) s.labels.now (length s.ends.now) s.faces → AllHaveEntries s.labels.now (marked_entries r.marks) (length s.ends.now)
all_ranked s r S e =
    subst (λ (x : Ranked). AllHaveEntries s.labels.now x.walk.entries (length s.ends.now)) (sym e) (degree_has_all s.faces (gluing_in s) s.labels.now (length s.ends.now) s.ends.now S.gluing S.labelled)
