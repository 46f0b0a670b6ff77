-- What the walk keeps agrees with how far the traversal is, and each thing that the rule does keeps it so.
use Rattle.std.proofs.Common.{◌≡◌, ℕ, zero, suc, ◌<◌, ◌≤◌, Bool, true, false, cond, min, List, [], ◌∷◌, ◌++◌, length, get_or, set, inl, inr, sym, refl, ap, ◌∙◌, arith, length-set, get_or-set_other, get_or-set_same}
use Rattle.std.specs.List.{All}
use Rattle.std.proofs.Math.Nat.{min-zero, min-le_left, min-le_right}
use Rattle.std.proofs.lemmas.Bool.{cases_Bool, cases_eq, cond-true, cond-false}
use Rattle.std.proofs.lemmas.List.{get_or-replicate, length-replicate}
use Rattle.std.proofs.lemmas.List.Elements.{All-nil, All-cons, All-weaker}
use Rattle.corner_table.specs.Sides.{Side}
use Rattle.corner_table.specs.Labels.{label_at}
use Rattle.walk_order.specs.Visits.{is_visited, is_new, with_entry}
use Rattle.walk_order.specs.PredictionDegree.{Ranked, unranked, rate, rated, ranked_pushed}
use Rattle.walk_order.proofs.Covering.{set_here}
use Rattle.laws_order.specs.Degree.{Waiting, on_stack, Traversal, start_of_mesh, HasEntry, Enters, new, known, with_rating, Rates, entry, again, once, pushed_on, IsLast, off}
use Rattle.laws_order.proofs.Contained.{has, has_first, has_other, above_one, at_most_one, from_above_one, from_at_most_one, lacks_contains, not_lacks_contains, contains_not_lacks, not_contains_lacks}
use Rattle.laws_order.proofs.Stacks.{corners_on, last_others, last_all, stack_of, left_on}

pub record Agrees (faces count : ℕ) (s : Traversal) (r : Ranked) : Type 0 where
  pub sized : length r.walk.visited ≡ faces
  pub visited : (f : ℕ) → f < faces → is_visited r.walk f ≡ has f s.visited
  pub entries : r.walk.entries ≡ s.entries
  pub classes : length r.rated ≡ count
  pub rated : (k : ℕ) → k < count → get_or r.rated k false ≡ has k s.rated
  pub stack0 : r.stack0 ≡ corners_on 0 s.waiting
  pub stack1 : r.stack1 ≡ corners_on 1 s.waiting
  pub stack2 : r.stack2 ≡ corners_on 2 s.waiting
  pub within : All (λ (w : Waiting). w.corner.face < faces) s.waiting
  pub few : All (λ (w : Waiting). w.stack ≤ 2) s.waiting

-- the number of the best stack is no part of it
pub other_best : {faces count : ℕ} {s : Traversal} {r : Ranked} → Agrees faces count s r → (b : ℕ) → Agrees faces count s (record r { best = b })
other_best A b = record {
  sized = A.sized;
  visited = A.visited;
  entries = A.entries;
  classes = A.classes;
  rated = A.rated;
  stack0 = A.stack0;
  stack1 = A.stack1;
  stack2 = A.stack2;
  within = A.within;
  few = A.few;
}

-- at the start
pub agrees_start : (faces count : ℕ) → Agrees faces count start_of_mesh (unranked faces count)
agrees_start faces count = record {
  sized = length-replicate faces false;
  visited = λ f h. get_or-replicate faces f false true h;
  entries = refl;
  classes = length-replicate count false;
  rated = λ k h. get_or-replicate count k false false h;
  stack0 = refl;
  stack1 = refl;
  stack2 = refl;
  within = All-nil (λ (w : Waiting). w.corner.face < faces);
  few = All-nil (λ (w : Waiting). w.stack ≤ 2);
}

pub stack_agrees : {faces count : ℕ} {s : Traversal} {r : Ranked} → Agrees faces count s r → (j : ℕ) → j ≤ 2 → stack_of j r ≡ corners_on j s.waiting
stack_agrees A zero h = A.stack0
stack_agrees A (suc zero) h = A.stack1
stack_agrees A (suc (suc zero)) h = A.stack2
stack_agrees A (suc (suc (suc j))) h = absurd (omega arith)

-- a face is marked
pub agrees_marked : {faces count : ℕ} {s : Traversal} {r : Ranked} → Agrees faces count s r → (e : ℕ) → e < faces →
    Agrees faces count (record s { visited = e ∷ s.visited }) (record r { walk = record r.walk { visited = set r.walk.visited e true } })
agrees_marked {faces} {count} {s} {r} A e h = record {
  sized = length-set r.walk.visited e true ∙ A.sized;
  visited = λ f l. elim (cases_eq e f) [
    | inl q ↦ ap (λ (x : ℕ). get_or (set r.walk.visited e true) x true) (sym q) ∙ set_here r.walk.visited e ∙ sym (has_first f e s.visited q)
    | inr ne ↦ get_or-set_other r.walk.visited e f true true (λ q. ne (sym q)) ∙ A.visited f l ∙ sym (has_other f e s.visited ne)
  ];
  entries = A.entries;
  classes = A.classes;
  rated = A.rated;
  stack0 = A.stack0;
  stack1 = A.stack1;
  stack2 = A.stack2;
  within = A.within;
  few = A.few;
}

-- whether a class is new
pub new_agrees : {faces count : ℕ} {s : Traversal} {r : Ranked} (labels : List ℕ) (c : Side) → Agrees faces count s r → (HasEntry labels s c → ⊥) → is_new labels r.walk.entries c ≡ true
new_agrees {faces} {count} {s} {r} labels c A h = ap (λ (es : List Side). is_new labels es c) A.entries ∙ not_contains_lacks labels s.entries (label_at labels c) h

pub known_agrees : {faces count : ℕ} {s : Traversal} {r : Ranked} (labels : List ℕ) (c : Side) → Agrees faces count s r → HasEntry labels s c → is_new labels r.walk.entries c ≡ false
known_agrees {faces} {count} {s} {r} labels c A h = ap (λ (es : List Side). is_new labels es c) A.entries ∙ contains_not_lacks labels s.entries (label_at labels c) h

pub agrees_new : {faces count : ℕ} {s : Traversal} {r : Ranked} (labels : List ℕ) (c : Side) → Agrees faces count s r → is_new labels r.walk.entries c ≡ true → HasEntry labels s c → ⊥
agrees_new {faces} {count} {s} {r} labels c A e h = lacks_contains labels s.entries (label_at labels c) (ap (λ (es : List Side). is_new labels es c) (sym A.entries) ∙ e) h

pub agrees_known : {faces count : ℕ} {s : Traversal} {r : Ranked} (labels : List ℕ) (c : Side) → Agrees faces count s r → is_new labels r.walk.entries c ≡ false → HasEntry labels s c
agrees_known {faces} {count} {s} {r} labels c A e = not_lacks_contains labels s.entries (label_at labels c) (ap (λ (es : List Side). is_new labels es c) (sym A.entries) ∙ e)

-- a class becomes the next entry, where it is new
abbrev pub with_entry_of : List ℕ → Side → Ranked → Ranked
with_entry_of labels c r = record r { walk = record r.walk { entries = with_entry labels r.walk.entries c } }

same_entries : {faces count : ℕ} {s : Traversal} {r : Ranked} → Agrees faces count s r → (es : List Side) → es ≡ s.entries → Agrees faces count s (record r { walk = record r.walk { entries = es } })
same_entries A es e = record {
  sized = A.sized;
  visited = A.visited;
  entries = e;
  classes = A.classes;
  rated = A.rated;
  stack0 = A.stack0;
  stack1 = A.stack1;
  stack2 = A.stack2;
  within = A.within;
  few = A.few;
}

pub agrees_entered : {faces count : ℕ} {s : Traversal} {r : Ranked} (labels : List ℕ) (c : Side) {t : Traversal} → Agrees faces count s r → Enters labels c s t → Agrees faces count t (with_entry_of labels c r)
agrees_entered {faces} {count} {s} {r} labels c A (new h) = record {
  sized = A.sized;
  visited = A.visited;
  entries = cond-true (is_new labels r.walk.entries c) (r.walk.entries ++ (c ∷ [])) r.walk.entries (new_agrees labels c A h) ∙ ap (λ (es : List Side). es ++ (c ∷ [])) A.entries;
  classes = A.classes;
  rated = A.rated;
  stack0 = A.stack0;
  stack1 = A.stack1;
  stack2 = A.stack2;
  within = A.within;
  few = A.few;
}
agrees_entered {faces} {count} {s} {r} labels c A (known h) =
    same_entries A (with_entry labels r.walk.entries c) (cond-false (is_new labels r.walk.entries c) (r.walk.entries ++ (c ∷ [])) r.walk.entries (known_agrees labels c A h) ∙ A.entries)

-- and it is known whether it does
pub record Entered (labels : List ℕ) (c : Side) (s : Traversal) : Type 0 where
  pub after : Traversal
  pub enters : Enters labels c s after

pub enters_some : {faces count : ℕ} {s : Traversal} {r : Ranked} (labels : List ℕ) (c : Side) → Agrees faces count s r → Entered labels c s
enters_some {faces} {count} {s} {r} labels c A = elim (cases_Bool (is_new labels r.walk.entries c)) [
  | inl t ↦ record { after = record s { entries = s.entries ++ (c ∷ []) }; enters = new (agrees_new labels c A t) }
  | inr f ↦ record { after = s; enters = known (agrees_known labels c A f) }
]

-- a corner is rated
pub record Rated (labels : List ℕ) (d : Side) (faces count : ℕ) (s : Traversal) (r : Ranked) (k : ℕ) (t : Traversal) : Type 0 where
  pub is : k ≡ rate labels r d
  pub few : k ≤ 2
  pub agrees : Agrees faces count t (rated labels r d)
  pub best : t.best ≡ s.best
  pub waiting : t.waiting ≡ s.waiting
  pub visited : t.visited ≡ s.visited

same_rated : {faces count : ℕ} {s : Traversal} {r : Ranked} → Agrees faces count s r → (xs : List Bool) → xs ≡ r.rated → Agrees faces count s (record r { rated = xs })
same_rated {faces} {count} {s} {r} A xs e = record {
  sized = A.sized;
  visited = A.visited;
  entries = A.entries;
  classes = ap (λ (ys : List Bool). length ys) e ∙ A.classes;
  rated = λ k h. ap (λ (ys : List Bool). get_or ys k false) e ∙ A.rated k h;
  stack0 = A.stack0;
  stack1 = A.stack1;
  stack2 = A.stack2;
  within = A.within;
  few = A.few;
}

agrees_counted : {faces count : ℕ} {s : Traversal} {r : Ranked} (labels : List ℕ) (d : Side) → Agrees faces count s r → label_at labels d < count → (xs : List Bool) → xs ≡ set r.rated (label_at labels d) true →
    Agrees faces count (with_rating labels d s) (record r { rated = xs })
agrees_counted {faces} {count} {s} {r} labels d A h xs e = record {
  sized = A.sized;
  visited = A.visited;
  entries = A.entries;
  classes = ap (λ (ys : List Bool). length ys) e ∙ length-set r.rated (label_at labels d) true ∙ A.classes;
  rated = λ k l. ap (λ (ys : List Bool). get_or ys k false) e ∙ elim (cases_eq (label_at labels d) k) [
    | inl q ↦ ap (λ (j : ℕ). get_or (set r.rated (label_at labels d) true) j false) (sym q) ∙ get_or-set_same r.rated (label_at labels d) true false (let z = A.classes in omega arith) ∙ sym (has_first k (label_at labels d) s.rated q)
    | inr ne ↦ get_or-set_other r.rated (label_at labels d) k true false (λ q. ne (sym q)) ∙ A.rated k l ∙ sym (has_other k (label_at labels d) s.rated ne)
  ];
  stack0 = A.stack0;
  stack1 = A.stack1;
  stack2 = A.stack2;
  within = A.within;
  few = A.few;
}

-- the rate of a corner of a new class
new_rate : (labels : List ℕ) (r : Ranked) (d : Side) (b : Bool) → is_new labels r.walk.entries d ≡ true → get_or r.rated (label_at labels d) false ≡ b → rate labels r d ≡ cond b 1 2
new_rate labels r d b e f = cond-true (is_new labels r.walk.entries d) (cond (get_or r.rated (label_at labels d) false) 1 2) 0 e ∙ ap (λ (x : Bool). let n : ℕ = cond x 1 2 in n) f

pub rates_agree : {faces count : ℕ} {s : Traversal} {r : Ranked} (labels : List ℕ) (d : Side) {k : ℕ} {t : Traversal} → Agrees faces count s r → label_at labels d < count → Rates labels d s k t → Rated labels d faces count s r k t
rates_agree {faces} {count} {s} {r} labels d A h (entry e) =
    let old = known_agrees labels d A e in
    record {
      is = sym (cond-false (is_new labels r.walk.entries d) (cond (get_or r.rated (label_at labels d) false) 1 2) 0 old);
      few = omega arith;
      agrees = same_rated A (rated labels r d).rated (cond-false (is_new labels r.walk.entries d) (set r.rated (label_at labels d) true) r.rated old);
      best = refl;
      waiting = refl;
      visited = refl;
    }
rates_agree {faces} {count} {s} {r} labels d A h (again e l) =
    let fresh = new_agrees labels d A e in
    record {
      is = sym (new_rate labels r d true fresh (A.rated (label_at labels d) h ∙ from_above_one (label_at labels d) s.rated l));
      few = omega arith;
      agrees = agrees_counted labels d A h (rated labels r d).rated (cond-true (is_new labels r.walk.entries d) (set r.rated (label_at labels d) true) r.rated fresh);
      best = refl;
      waiting = refl;
      visited = refl;
    }
rates_agree {faces} {count} {s} {r} labels d A h (once e l) =
    let fresh = new_agrees labels d A e in
    record {
      is = sym (new_rate labels r d false fresh (A.rated (label_at labels d) h ∙ from_at_most_one (label_at labels d) s.rated l));
      few = omega arith;
      agrees = agrees_counted labels d A h (rated labels r d).rated (cond-true (is_new labels r.walk.entries d) (set r.rated (label_at labels d) true) r.rated fresh);
      best = refl;
      waiting = refl;
      visited = refl;
    }

-- and each corner has a rate
pub record SomeRate (labels : List ℕ) (d : Side) (s : Traversal) : Type 0 where
  pub rate : ℕ
  pub after : Traversal
  pub rates : Rates labels d s rate after

pub rates_some : {faces count : ℕ} {s : Traversal} {r : Ranked} (labels : List ℕ) (d : Side) → Agrees faces count s r → SomeRate labels d s
rates_some {faces} {count} {s} {r} labels d A = elim (cases_Bool (is_new labels r.walk.entries d)) [
  | inr f ↦ record { rate = 0; after = s; rates = entry (agrees_known labels d A f) }
  | inl t ↦ elim (cases_Bool (has (label_at labels d) s.rated)) [
    | inl b ↦ record { rate = 1; after = with_rating labels d s; rates = again (agrees_new labels d A t) (above_one (label_at labels d) s.rated b) }
    | inr b ↦ record { rate = 2; after = with_rating labels d s; rates = once (agrees_new labels d A t) (at_most_one (label_at labels d) s.rated b) }
  ]
]

-- a corner is pushed
pub agrees_pushed : {faces count : ℕ} {s : Traversal} {r : Ranked} (k : ℕ) (d : Side) → Agrees faces count s r → k ≤ 2 → d.face < faces → Agrees faces count (pushed_on k d s) (ranked_pushed k d r)
agrees_pushed {faces} {count} {s} {r} zero d A l h = record {
  sized = A.sized;
  visited = A.visited;
  entries = A.entries;
  classes = A.classes;
  rated = A.rated;
  stack0 = ap (λ (cs : List Side). d ∷ cs) A.stack0;
  stack1 = A.stack1;
  stack2 = A.stack2;
  within = All-cons (λ (w : Waiting). w.corner.face < faces) (on_stack 0 d) s.waiting h A.within;
  few = All-cons (λ (w : Waiting). w.stack ≤ 2) (on_stack 0 d) s.waiting l A.few;
}
agrees_pushed {faces} {count} {s} {r} (suc zero) d A l h = record {
  sized = A.sized;
  visited = A.visited;
  entries = A.entries;
  classes = A.classes;
  rated = A.rated;
  stack0 = A.stack0;
  stack1 = ap (λ (cs : List Side). d ∷ cs) A.stack1;
  stack2 = A.stack2;
  within = All-cons (λ (w : Waiting). w.corner.face < faces) (on_stack 1 d) s.waiting h A.within;
  few = All-cons (λ (w : Waiting). w.stack ≤ 2) (on_stack 1 d) s.waiting l A.few;
}
agrees_pushed {faces} {count} {s} {r} (suc (suc zero)) d A l h = record {
  sized = A.sized;
  visited = A.visited;
  entries = A.entries;
  classes = A.classes;
  rated = A.rated;
  stack0 = A.stack0;
  stack1 = A.stack1;
  stack2 = ap (λ (cs : List Side). d ∷ cs) A.stack2;
  within = All-cons (λ (w : Waiting). w.corner.face < faces) (on_stack 2 d) s.waiting h A.within;
  few = All-cons (λ (w : Waiting). w.stack ≤ 2) (on_stack 2 d) s.waiting l A.few;
}
agrees_pushed {faces} {count} {s} {r} (suc (suc (suc k))) d A l h = absurd (omega arith)

pub pushed_best : (k : ℕ) (d : Side) (r : Ranked) → k ≤ 2 → (ranked_pushed k d r).best ≡ min r.best k
pushed_best zero d r l = sym (min-zero r.best)
pushed_best (suc zero) d r l = refl
pushed_best (suc (suc zero)) d r l = refl
pushed_best (suc (suc (suc k))) d r l = absurd (omega arith)

pub pushed_walk : (k : ℕ) (d : Side) (r : Ranked) → (ranked_pushed k d r).walk ≡ r.walk
pushed_walk zero d r = refl
pushed_walk (suc zero) d r = refl
pushed_walk (suc (suc k)) d r = refl

-- what waits is on no stack before the best one
abbrev pub IsAbove : ℕ → List Waiting → Type 0
IsAbove b ws = All (λ (w : Waiting). b ≤ w.stack) ws

pub above_pushed : (b k : ℕ) (d : Side) (ws : List Waiting) → IsAbove b ws → IsAbove (min b k) (on_stack k d ∷ ws)
above_pushed b k d ws h = All-cons (λ (w : Waiting). min b k ≤ w.stack) (on_stack k d) ws (min-le_right b k)
    (All-weaker (λ (w : Waiting). b ≤ w.stack) (λ (w : Waiting). min b k ≤ w.stack) (λ w l. (let m = min-le_left b k in omega arith)) ws h)

-- a corner is taken off its stack
pub agrees_off : {faces count : ℕ} {s : Traversal} {r : Ranked} (k : ℕ) (c : Side) (rest : List Waiting) → Agrees faces count s r → IsLast k c s.waiting rest → k ≤ 2 → Agrees faces count (off k rest s) (left_on k (corners_on k rest) r)
agrees_off {faces} {count} {s} {r} zero c rest A I l = record {
  sized = A.sized;
  visited = A.visited;
  entries = A.entries;
  classes = A.classes;
  rated = A.rated;
  stack0 = refl;
  stack1 = A.stack1 ∙ last_others I 1 (λ e. absurd (omega arith));
  stack2 = A.stack2 ∙ last_others I 2 (λ e. absurd (omega arith));
  within = (last_all (λ (w : Waiting). w.corner.face < faces) I A.within).1;
  few = (last_all (λ (w : Waiting). w.stack ≤ 2) I A.few).1;
}
agrees_off {faces} {count} {s} {r} (suc zero) c rest A I l = record {
  sized = A.sized;
  visited = A.visited;
  entries = A.entries;
  classes = A.classes;
  rated = A.rated;
  stack0 = A.stack0 ∙ last_others I 0 (λ e. absurd (omega arith));
  stack1 = refl;
  stack2 = A.stack2 ∙ last_others I 2 (λ e. absurd (omega arith));
  within = (last_all (λ (w : Waiting). w.corner.face < faces) I A.within).1;
  few = (last_all (λ (w : Waiting). w.stack ≤ 2) I A.few).1;
}
agrees_off {faces} {count} {s} {r} (suc (suc zero)) c rest A I l = record {
  sized = A.sized;
  visited = A.visited;
  entries = A.entries;
  classes = A.classes;
  rated = A.rated;
  stack0 = A.stack0 ∙ last_others I 0 (λ e. absurd (omega arith));
  stack1 = A.stack1 ∙ last_others I 1 (λ e. absurd (omega arith));
  stack2 = refl;
  within = (last_all (λ (w : Waiting). w.corner.face < faces) I A.within).1;
  few = (last_all (λ (w : Waiting). w.stack ≤ 2) I A.few).1;
}
agrees_off {faces} {count} {s} {r} (suc (suc (suc k))) c rest A I l = absurd (omega arith)

pub left_on_best : (k : ℕ) (cs : List Side) (r : Ranked) → k ≤ 2 → (left_on k cs r).best ≡ k
left_on_best zero cs r l = refl
left_on_best (suc zero) cs r l = refl
left_on_best (suc (suc zero)) cs r l = refl
left_on_best (suc (suc (suc k))) cs r l = absurd (omega arith)

pub left_on_walk : (k : ℕ) (cs : List Side) (r : Ranked) → (left_on k cs r).walk ≡ r.walk
left_on_walk zero cs r = refl
left_on_walk (suc zero) cs r = refl
left_on_walk (suc (suc k)) cs r = refl
