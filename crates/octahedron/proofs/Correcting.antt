-- Values corrected from the back of a list, each by the value before.
use Rattle.std.proofs.Common.{◌≡◌, ℕ, suc, ◌-◌, ◌/◌, ◌<◌, ◌≤◌, ◌<ℤ◌, ℤ, pos, List, [], ◌∷◌, length, set, get_or, take, drop, sym, subst, ◌∙◌, ap, refl, arith}
use Rattle.std.specs.Prelude.{◌++◌, All}
use Rattle.std.proofs.lemmas.List.{length-set, drop-set, take-set, take-take, drop_all}
use Rattle.std.proofs.lemmas.List.Elements.{All-nil, All-cons, All-take}
use Rattle.std.proofs.Math.Seq.{drop-cons, take-suc}
use Rattle.std.proofs.Math.Numerals.{add-one}
use Rattle.octahedron.specs.declared.points.Point.{Point}
use Rattle.octahedron.specs.Square.{IsValue}
use Rattle.octahedron.specs.Corrections.{correction_of}
use Rattle.octahedron.specs.Restored.{corrections_behind, value_before}
use Rattle.octahedron.specs.Pairs.{pairs_of, pair_in, pair_before}
use Rattle.octahedron.proofs.Behind.{before-in}
use Rattle.octahedron.proofs.Listed.{pair-is, before-is, item-before}

-- the first e values are as they were, and behind them stand the corrections of the others
pub record Corrects (c : ℤ) (old new : List Point) (e : ℕ) : Type 0 where
  pub same : length new ≡ length old
  pub front : take e new ≡ take e old
  pub back : drop e new ≡ corrections_behind value_before c (take e old) (drop e old)
  pub within : All (IsValue c) (drop e new)

no-corrections : (c : ℤ) (front rest : List Point) → rest ≡ [] → rest ≡ corrections_behind value_before c front rest
unfolding corrections_behind
no-corrections c front rest is = rw is refl

-- the beginning: none is corrected
pub corrects-none : (c : ℤ) (values : List Point) (e : ℕ) → length values ≤ e → Corrects c values values e
corrects-none c values e h =
    let none : drop e values ≡ [] = drop_all e values h in
    record {
      same = refl;
      front = refl;
      back = no-corrections c (take e values) (drop e values) none;
      within = rw none (All-nil (IsValue c));
    }

-- one value fewer is as it was
pub front-fewer : (xs ys : List Point) (e : ℕ) → take (suc e) xs ≡ take (suc e) ys → take e xs ≡ take e ys
front-fewer xs ys e is = sym (take-take e (suc e) xs (omega arith)) ∙ ap (take e) is ∙ take-take e (suc e) ys (omega arith)

one-corrected : (c : ℤ) (before front rest due : List Point) (b v d : Point) → front ≡ before ++ v ∷ [] → due ≡ v ∷ rest → b ≡ value_before before
    → d ≡ correction_of c b v → d ∷ corrections_behind value_before c front rest ≡ corrections_behind value_before c before due
unfolding corrections_behind
one-corrected c before front rest due b v d ef ed eb ec = rw (ef, ed, ec, eb) refl

-- what is known at the entry that comes next
at_next : (c : ℤ) (old new : List Point) (e : ℕ) → 0 < e → Corrects c old new e → Corrects c old new (suc (e - 1))
at_next c old new e some g = let one : e ≡ suc (e - 1) = omega arith in subst (λ (n : ℕ). Corrects c old new n) one g

-- the value there, and the value before it
pub value-is : (c : ℤ) (old xs : List ℤ) (e : ℕ) (v : Point) → Corrects c (pairs_of old) (pairs_of xs) e → 0 < e → e ≤ length xs / 2 → v ≡ pair_in xs (e - 1)
    → v ≡ get_or (pairs_of old) (e - 1) v
value-is c old xs e v g some has is =
    is ∙ sym (pair-is xs (e - 1) v (omega arith))
    ∙ item-before (pairs_of xs) (pairs_of old) (suc (e - 1)) (e - 1) v (omega arith) (at_next c (pairs_of old) (pairs_of xs) e some g).front

pub value_before-is : (c : ℤ) (old xs : List ℤ) (e : ℕ) (b : Point) → Corrects c (pairs_of old) (pairs_of xs) e → 0 < e → e ≤ length xs / 2 → b ≡ pair_before xs (e - 1)
    → b ≡ value_before (take (e - 1) (pairs_of old))
value_before-is c old xs e b g some has is =
    is ∙ before-is xs (e - 1) (omega arith)
    ∙ ap value_before (front-fewer (pairs_of xs) (pairs_of old) (e - 1) (at_next c (pairs_of old) (pairs_of xs) e some g).front)

-- one more value is corrected
corrects-next : (c : ℤ) (old new next : List Point) (e : ℕ) (b v d : Point) → Corrects c old new (suc e) → e < length old
    → v ≡ get_or old e v → b ≡ value_before (take e old) → d ≡ correction_of c b v → IsValue c d → next ≡ set new e d → Corrects c old next e
corrects-next c old new next e b v d g has ev eb ed inside en =
    let there : e < length new = omega (arith, g.same) in
    let front : take (suc e) old ≡ take e old ++ v ∷ [] = take-suc old e v has ∙ ap (λ (x : Point). take e old ++ x ∷ []) (sym ev) in
    let opened : drop e old ≡ v ∷ drop (suc e) old = drop-cons old e v has ∙ ap (λ (x : Point). x ∷ drop (suc e) old) (sym ev) in
    let put : drop e (set new e d) ≡ d ∷ drop (suc e) new = drop-set new e d there ∙ ap (λ (n : ℕ). d ∷ drop n new) (add-one e) in
    rw en (record {
      same = length-set new e d ∙ g.same;
      front = take-set new e d ∙ front-fewer new old e g.front;
      back = put ∙ ap (λ (ds : List Point). d ∷ ds) g.back
          ∙ one-corrected c (take e old) (take (suc e) old) (drop (suc e) old) (drop e old) b v d front opened eb ed;
      within = subst (All (IsValue c)) (sym put) (All-cons (IsValue c) d (drop (suc e) new) inside g.within);
    })

pub corrects-more : (c : ℤ) (old new next : List Point) (e : ℕ) (b v d : Point) → Corrects c old new e → 0 < e → e ≤ length old
    → v ≡ get_or old (e - 1) v → b ≡ value_before (take (e - 1) old) → d ≡ correction_of c b v → IsValue c d → next ≡ set new (e - 1) d → Corrects c old next (e - 1)
corrects-more c old new next e b v d g some has ev eb ed inside en =
    corrects-next c old new next (e - 1) b v d (at_next c old new e some g) (omega arith) ev eb ed inside en

-- what stands before an entry is a value of the square
pub before_inside : (c : ℤ) (values : List Point) (e : ℕ) (b : Point) → pos 0 <ℤ c → All (IsValue c) values → b ≡ value_before (take e values) → IsValue c b
before_inside c values e b hc h is = rw is (before-in c hc (take e values) (All-take (IsValue c) e values h))
