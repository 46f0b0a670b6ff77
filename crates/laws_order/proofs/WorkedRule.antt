-- Worked surfaces: the steps of the rule on them, one line each.
use Rattle.std.proofs.Common.{◌≡◌, ℕ, ◌<◌, ◌≤◌, true, false, ◌||◌, nat_le, nat_lt, List, [], ◌∷◌, ◌++◌, ◌⊎◌, inl, inr, refl}
use Rattle.std.specs.List.{All, Contains, list_all}
use Rattle.std.proofs.lemmas.Bool.{and_parts, or_cases, ltb-true, leb-true}
use Rattle.std.proofs.lemmas.List.Elements.{All-nil, All-cons}
use Rattle.corner_table.specs.Sides.{Side, first, second, third, side, Gluing}
use Rattle.corner_table.specs.Labels.{label_at}
use Rattle.corner_table.specs.Table.{glued_in, free_entry}
use Rattle.walk_order.specs.Visits.{lacks}
use Rattle.walk_order.specs.OfSurface.{fan_labels}
use Rattle.corner_table.specs.Fans.{corners_of, walks_left, walks_right}
use Rattle.walk_order.specs.PredictionDegree.{take_unvisited, visits, ranked, prediction_degree_order}
use Rattle.laws_order.specs.Degree.{Waiting, Traversal, start_of_mesh, Enters, new, known, with_rating, Rates, entry, again, once, IsLast, top, under, IsNext, next_face, Leads, over, passed, begun, emptied, dropped, taken, marked, no_left, goes_left, puts_left, no_right, goes_right, puts_right}
use Rattle.laws_order.proofs.Contained.{has, has_contains, has_not, above_one, at_most_one, lacks_contains, not_lacks_contains}

-- each condition of a step, by its test
below : (m n : ℕ) → nat_lt m n ≡ true → m < n
below m n e = ltb-true m n e

at_most : (m n : ℕ) → nat_le m n ≡ true → m ≤ n
at_most m n e = leb-true m n e

seen : (f : ℕ) (faces : List ℕ) → has f faces ≡ true → Contains faces f
seen f faces e = has_contains f faces e

unseen : (f : ℕ) (faces : List ℕ) → has f faces ≡ false → Contains faces f → ⊥
unseen f faces e = has_not f faces e

fresh : {labels : List ℕ} {c : Side} {s : Traversal} → lacks labels s.entries (label_at labels c) ≡ true → Enters labels c s (record s { entries = s.entries ++ (c ∷ []) })
fresh {labels} {c} {s} e = new (lacks_contains labels s.entries (label_at labels c) e)

old : {labels : List ℕ} {c : Side} {s : Traversal} → lacks labels s.entries (label_at labels c) ≡ false → Enters labels c s s
old {labels} {c} {s} e = known (not_lacks_contains labels s.entries (label_at labels c) e)

met : {labels : List ℕ} {c : Side} {s : Traversal} → lacks labels s.entries (label_at labels c) ≡ false → Rates labels c s 0 s
met {labels} {c} {s} e = entry (not_lacks_contains labels s.entries (label_at labels c) e)

more : {labels : List ℕ} {c : Side} {s : Traversal} → lacks labels s.entries (label_at labels c) ≡ true → has (label_at labels c) s.rated ≡ true → Rates labels c s 1 (with_rating labels c s)
more {labels} {c} {s} e f = again (lacks_contains labels s.entries (label_at labels c) e) (above_one (label_at labels c) s.rated f)

less : {labels : List ℕ} {c : Side} {s : Traversal} → lacks labels s.entries (label_at labels c) ≡ true → has (label_at labels c) s.rated ≡ false → Rates labels c s 2 (with_rating labels c s)
less {labels} {c} {s} e f = once (lacks_contains labels s.entries (label_at labels c) e) (at_most_one (label_at labels c) s.rated f)

before_all : (b k : ℕ) (ws : List Waiting) → list_all (λ (w : Waiting). nat_lt w.stack b || nat_le k w.stack) ws ≡ true → All (λ (w : Waiting). (w.stack < b) ⊎ (k ≤ w.stack)) ws
before_all b k [] e = All-nil (λ (w : Waiting). (w.stack < b) ⊎ (k ≤ w.stack))
before_all b k (w ∷ ws) e =
    let p = and_parts (nat_lt w.stack b || nat_le k w.stack) (list_all (λ (v : Waiting). nat_lt v.stack b || nat_le k v.stack) ws) e in
    All-cons (λ (v : Waiting). (v.stack < b) ⊎ (k ≤ v.stack)) w ws
    (elim (or_cases (nat_lt w.stack b) (nat_le k w.stack) p.0) [ inl l ↦ inl (ltb-true w.stack b l) | inr l ↦ inr (leb-true k w.stack l) ])
    (before_all b k ws p.1)

next_at : {s : Traversal} {rest : List Waiting} (k : ℕ) (c : Side) → IsLast k c s.waiting rest → nat_le s.best k ≡ true → list_all (λ (w : Waiting). nat_lt w.stack s.best || nat_le k w.stack) s.waiting ≡ true → IsNext s k c rest
next_at {s} {rest} k c l e f = record { from_best = leb-true s.best k e; before = before_all s.best k s.waiting f; last = l }

-- a tetrahedron
tetrahedron : Gluing
tetrahedron = glued_in (8 ∷ 5 ∷ 10 ∷ 7 ∷ 11 ∷ 1 ∷ 9 ∷ 3 ∷ 0 ∷ 6 ∷ 2 ∷ 4 ∷ [])

tetrahedron_labels : List ℕ
tetrahedron_labels = 0 ∷ 1 ∷ 2 ∷ 0 ∷ 2 ∷ 3 ∷ 2 ∷ 1 ∷ 3 ∷ 0 ∷ 3 ∷ 1 ∷ []

-- its labels are those of its fans
tetrahedron_fans : fan_labels 4 tetrahedron ≡ tetrahedron_labels
unfolding tetrahedron tetrahedron_labels fan_labels corners_of walks_left walks_right
tetrahedron_fans = refl

tetrahedron_end : Traversal
tetrahedron_end = record {
  visited = 3 ∷ 2 ∷ 1 ∷ 0 ∷ [];
  entries = side 0 second ∷ side 0 third ∷ side 0 first ∷ side 1 third ∷ [];
  rated = 3 ∷ 3 ∷ [];
  waiting = [];
  best = 2;
}

tetrahedron_rule : Leads 4 tetrahedron tetrahedron_labels 0 next_face start_of_mesh tetrahedron_end
unfolding tetrahedron tetrahedron_labels tetrahedron_end lacks
tetrahedron_rule =
    begun (below 0 4 refl) (unseen 0 [] refl) (fresh refl) (fresh refl) (fresh refl) (
    taken (next_at 0 (side 0 first) top refl refl) (unseen 0 [] refl) (
    marked (old refl) (
    puts_left refl (unseen 3 (0 ∷ []) refl) (less refl refl) (inl (unseen 1 (0 ∷ []) refl)) (
    puts_right refl (unseen 1 (0 ∷ []) refl) (more refl refl) (below 0 1 refl) (
    taken (next_at 1 (side 1 third) top refl refl) (unseen 1 (0 ∷ []) refl) (
    marked (fresh refl) (
    puts_left refl (unseen 3 (1 ∷ 0 ∷ []) refl) (met refl) (inl (unseen 2 (1 ∷ 0 ∷ []) refl)) (
    goes_right refl (unseen 2 (1 ∷ 0 ∷ []) refl) (met refl) (at_most 0 0 refl) (
    marked (old refl) (
    goes_left refl (unseen 3 (2 ∷ 1 ∷ 0 ∷ []) refl) (met refl) (seen 0 (2 ∷ 1 ∷ 0 ∷ []) refl) (at_most 0 0 refl) (
    marked (old refl) (
    no_left (seen 1 (3 ∷ 2 ∷ 1 ∷ 0 ∷ []) refl) (
    no_right (seen 0 (3 ∷ 2 ∷ 1 ∷ 0 ∷ []) refl) (
    dropped (next_at 0 (side 3 third) top refl refl) (seen 3 (3 ∷ 2 ∷ 1 ∷ 0 ∷ []) refl) (
    dropped (next_at 2 (side 3 second) top refl refl) (seen 3 (3 ∷ 2 ∷ 1 ∷ 0 ∷ []) refl) (
    emptied refl (
    passed (below 1 4 refl) (seen 1 (3 ∷ 2 ∷ 1 ∷ 0 ∷ []) refl) (
    passed (below 2 4 refl) (seen 2 (3 ∷ 2 ∷ 1 ∷ 0 ∷ []) refl) (
    passed (below 3 4 refl) (seen 3 (3 ∷ 2 ∷ 1 ∷ 0 ∷ []) refl) (
    over refl))))))))))))))))))))

-- the entries are those of the order
tetrahedron_order : prediction_degree_order 4 tetrahedron tetrahedron_labels 4 ≡ tetrahedron_end.entries
unfolding tetrahedron tetrahedron_labels tetrahedron_end lacks take_unvisited visits ranked
tetrahedron_order = refl

-- five faces, of which the two that the first leads to differ in depth and in degree
five : Gluing
five = glued_in (free_entry ∷ 6 ∷ 3 ∷ 2 ∷ 11 ∷ free_entry ∷ 1 ∷ 12 ∷ 9 ∷ 8 ∷ free_entry ∷ 4 ∷ 7 ∷ free_entry ∷ free_entry ∷ [])

five_labels : List ℕ
five_labels = 0 ∷ 1 ∷ 2 ∷ 3 ∷ 1 ∷ 0 ∷ 4 ∷ 0 ∷ 2 ∷ 3 ∷ 0 ∷ 4 ∷ 5 ∷ 4 ∷ 2 ∷ []

-- its labels are those of its fans
five_fans : fan_labels 5 five ≡ five_labels
unfolding five five_labels fan_labels corners_of walks_left walks_right
five_fans = refl

five_end : Traversal
five_end = record {
  visited = 4 ∷ 1 ∷ 3 ∷ 2 ∷ 0 ∷ [];
  entries = side 0 second ∷ side 0 third ∷ side 0 first ∷ side 2 first ∷ side 3 first ∷ side 4 first ∷ [];
  rated = 5 ∷ 3 ∷ 4 ∷ 3 ∷ [];
  waiting = [];
  best = 2;
}

five_rule : Leads 5 five five_labels 0 next_face start_of_mesh five_end
unfolding five five_labels five_end lacks
five_rule =
    begun (below 0 5 refl) (unseen 0 [] refl) (fresh refl) (fresh refl) (fresh refl) (
    taken (next_at 0 (side 0 first) top refl refl) (unseen 0 [] refl) (
    marked (old refl) (
    puts_left refl (unseen 1 (0 ∷ []) refl) (less refl refl) (inl (unseen 2 (0 ∷ []) refl)) (
    puts_right refl (unseen 2 (0 ∷ []) refl) (less refl refl) (below 0 2 refl) (
    taken (next_at 2 (side 2 first) top refl refl) (unseen 2 (0 ∷ []) refl) (
    marked (fresh refl) (
    puts_left refl (unseen 3 (2 ∷ 0 ∷ []) refl) (more refl refl) (inl (unseen 4 (2 ∷ 0 ∷ []) refl)) (
    puts_right refl (unseen 4 (2 ∷ 0 ∷ []) refl) (less refl refl) (below 1 2 refl) (
    taken (next_at 1 (side 3 first) (under (λ e. cc) top) refl refl) (unseen 3 (2 ∷ 0 ∷ []) refl) (
    marked (fresh refl) (
    goes_left refl (unseen 1 (3 ∷ 2 ∷ 0 ∷ []) refl) (met refl) tt (at_most 0 1 refl) (
    marked (old refl) (
    no_left (seen 0 (1 ∷ 3 ∷ 2 ∷ 0 ∷ []) refl) (
    no_right tt (
    taken (next_at 2 (side 4 first) top refl refl) (unseen 4 (1 ∷ 3 ∷ 2 ∷ 0 ∷ []) refl) (
    marked (fresh refl) (
    no_left tt (
    no_right tt (
    dropped (next_at 2 (side 1 first) top refl refl) (seen 1 (4 ∷ 1 ∷ 3 ∷ 2 ∷ 0 ∷ []) refl) (
    emptied refl (
    passed (below 1 5 refl) (seen 1 (4 ∷ 1 ∷ 3 ∷ 2 ∷ 0 ∷ []) refl) (
    passed (below 2 5 refl) (seen 2 (4 ∷ 1 ∷ 3 ∷ 2 ∷ 0 ∷ []) refl) (
    passed (below 3 5 refl) (seen 3 (4 ∷ 1 ∷ 3 ∷ 2 ∷ 0 ∷ []) refl) (
    passed (below 4 5 refl) (seen 4 (4 ∷ 1 ∷ 3 ∷ 2 ∷ 0 ∷ []) refl) (
    over refl)))))))))))))))))))))))))

-- the entries are those of the order
five_order : prediction_degree_order 5 five five_labels 6 ≡ five_end.entries
unfolding five five_labels five_end lacks take_unvisited visits ranked
five_order = refl
