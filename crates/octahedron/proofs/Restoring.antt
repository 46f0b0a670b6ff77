-- Values restored from the front of a list, each by the value before.
use Rattle.std.proofs.Common.{◌≡◌, ℕ, suc, ◌+◌, ◌<◌, ◌≤◌, ℤ, List, [], ◌∷◌, length, set, get_or, take, drop, sym, subst, ◌∙◌, ap, refl, arith}
use Rattle.std.specs.Prelude.{◌++◌, All}
use Rattle.std.proofs.lemmas.List.{length-set, drop-set-lt, drop-drop, take_all, drop_all}
use Rattle.std.proofs.lemmas.List.Elements.{All-nil, All-cons, All-append}
use Rattle.std.proofs.Math.Seq.{drop-cons, take-suc-set}
use Rattle.std.proofs.Math.Numerals.{add-one}
use Rattle.octahedron.specs.declared.points.Point.{Point}
use Rattle.octahedron.specs.Square.{IsValue}
use Rattle.octahedron.specs.Corrections.{restored_value}
use Rattle.octahedron.specs.Restored.{restored_values, restored_behind, value_before}
use Rattle.octahedron.proofs.Listed.{last-put}

-- behind the first e values the corrections are as they were, and restore what they restored
pub record Restores (c : ℤ) (old new : List Point) (e : ℕ) (before : Point) : Type 0 where
  pub same : length new ≡ length old
  pub inside : IsValue c before
  pub within : All (IsValue c) (take e new)
  pub last : before ≡ value_before (take e new)
  pub rest : drop e new ≡ drop e old
  pub restores : restored_behind value_before c (take e new) (drop e new) ≡ restored_values value_before c old

further : (xs ys : List Point) (e : ℕ) → drop e xs ≡ drop e ys → drop (suc e) xs ≡ drop (suc e) ys
further xs ys e is =
    let more : e + 1 ≡ suc e = add-one e in
    rw (sym more) (sym (drop-drop 1 e xs) ∙ ap (drop 1) is ∙ drop-drop 1 e ys)

one-restored : (c : ℤ) (front before rest behind due old : List Point) (d v : Point) → front ≡ before ++ v ∷ [] → rest ≡ behind → due ≡ d ∷ behind
    → restored_value c (value_before before) d ≡ v → restored_behind value_before c before due ≡ restored_values value_before c old
    → restored_behind value_before c front rest ≡ restored_values value_before c old
unfolding restored_behind
one-restored c front before rest behind due old d v ef er ed ev is =
    rw (ef, er) (ap (λ (w : Point). restored_behind value_before c (before ++ w ∷ []) behind) (sym ev)
    ∙ ap (restored_behind value_before c before) (sym ed) ∙ is)

-- one more value is restored
pub restores-more : (c : ℤ) (old new next : List Point) (e : ℕ) (before d v : Point) → Restores c old new e before → e < length new
    → d ≡ get_or new e d → v ≡ restored_value c before d → IsValue c v → next ≡ set new e v → Restores c old next (suc e) v
restores-more c old new next e before d v g has ed ev inside en =
    let front : take (suc e) (set new e v) ≡ take e new ++ v ∷ [] = take-suc-set new e v has in
    let behind : drop (suc e) (set new e v) ≡ drop (suc e) new = drop-set-lt (suc e) new e v (omega arith) in
    let opened : drop e new ≡ d ∷ drop (suc e) new = drop-cons new e d has ∙ ap (λ (x : Point). x ∷ drop (suc e) new) (sym ed) in
    let value : restored_value c (value_before (take e new)) d ≡ v = ap (λ (b : Point). restored_value c b d) (sym g.last) ∙ sym ev in
    rw en (record {
      same = length-set new e v ∙ g.same;
      inside = inside;
      within = subst (All (IsValue c)) (sym front) (All-append (IsValue c) (take e new) (v ∷ []) g.within (All-cons (IsValue c) v [] inside (All-nil (IsValue c))));
      last = sym (ap value_before front ∙ last-put (take e new) v);
      rest = behind ∙ further new old e g.rest;
      restores = one-restored c (take (suc e) (set new e v)) (take e new) (drop (suc e) (set new e v)) (drop (suc e) new) (drop e new) old d v front behind opened value g.restores;
    })

-- the end: all is
nothing : (c : ℤ) (front rest new old : List Point) → front ≡ new → rest ≡ [] → restored_behind value_before c front rest ≡ restored_values value_before c old
    → new ≡ restored_values value_before c old
unfolding restored_behind
nothing c front rest new old ef er is = sym ef ∙ sym (rw er refl) ∙ is

pub restores-all : (c : ℤ) (old new : List Point) (e : ℕ) (p : Point) → Restores c old new e p → length new ≤ e → new ≡ restored_values value_before c old
restores-all c old new e p g done = nothing c (take e new) (drop e new) new old (take_all e new done) (drop_all e new done) g.restores

pub restores-within : (c : ℤ) (old new : List Point) (e : ℕ) (p : Point) → Restores c old new e p → length new ≤ e → All (IsValue c) new
restores-within c old new e p g done = subst (All (IsValue c)) (take_all e new done) g.within
