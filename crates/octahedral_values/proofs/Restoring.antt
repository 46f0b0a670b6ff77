-- Values restored from the front of a list, each by the sum of normals of its entry and its flip.
use Rattle.std.proofs.Common.{◌≡◌, ℕ, suc, ◌+◌, ◌<◌, ◌≤◌, ℤ, List, [], ◌∷◌, length, set, get_or, take, drop, Bool, Result, Ok, sym, subst, ◌∙◌, ap, arith}
use Rattle.std.specs.Prelude.{◌++◌, All}
use Rattle.std.proofs.lemmas.List.{length-set, length-take, drop-set-lt, drop-drop, take_all, drop_all}
use Rattle.std.proofs.lemmas.List.Elements.{All-nil, All-cons, All-append}
use Rattle.std.proofs.Math.Seq.{drop-cons, take-suc-set}
use Rattle.std.proofs.Math.Numerals.{add-one}
use Rattle.drc_base.specs.declared.kinds.Kind.{Kind}
use Rattle.wrapped_vectors.specs.declared.vectors.Vector.{Vector}
use Rattle.octahedron.specs.declared.points.Point.{Point}
use Rattle.octahedron.specs.Square.{IsValue}
use Rattle.octahedron.specs.Corrections.{restored_value}
use Rattle.normal_prediction.specs.NormalSums.{vector_in}
use Rattle.predict.specs.Stepping.{restored_by}
use Rattle.octahedral_values.specs.Steps.{normal_value, geometric_normal}

-- behind the first e values the corrections are as they were, and restore what they restored
pub record Restores (c : ℤ) (sums : List Vector) (flips : List Bool) (old new : List Point) (e : ℕ) : Type 0 where
  pub same : length new ≡ length old
  pub within : All (IsValue c) (take e new)
  pub rest : drop e new ≡ drop e old
  pub restores : restored_by (geometric_normal c sums) (restored_value c) (take e new) (drop e flips) (drop e new)
      ≡ restored_by (geometric_normal c sums) (restored_value c) [] flips old

pub further : (xs ys : List Point) (e : ℕ) → drop e xs ≡ drop e ys → drop (suc e) xs ≡ drop (suc e) ys
further xs ys e is =
    let more : e + 1 ≡ suc e = add-one e in
    rw (sym more) (sym (drop-drop 1 e xs) ∙ ap (drop 1) is ∙ drop-drop 1 e ys)

-- an item that is known, and those behind it
pub opened : {A : Type 0} (xs : List A) (e : ℕ) (x : A) → e < length xs → x ≡ get_or xs e x → drop e xs ≡ x ∷ drop (suc e) xs
opened {A} xs e x has is = drop-cons xs e x has ∙ ap (λ (y : A). y ∷ drop (suc e) xs) (sym is)

one-restored : (c : ℤ) (sums : List Vector) (n : ℕ) (front before rest behind due : List Point) (left next : List Bool) (flip : Bool) (p d v : Point) (r : Result (List Point) Kind)
    → length before ≡ n → front ≡ before ++ v ∷ [] → rest ≡ behind → due ≡ d ∷ behind → left ≡ flip ∷ next → p ≡ normal_value c (vector_in sums n) flip → v ≡ restored_value c p d
    → restored_by (geometric_normal c sums) (restored_value c) before left due ≡ r → restored_by (geometric_normal c sums) (restored_value c) front next rest ≡ r
unfolding restored_by geometric_normal
one-restored c sums n front before rest behind due left next flip p d v r en ef er ed el ep ev is =
    rw (ef, er, ev, ep, sym en) (rw (ed, el) at is)

-- one more value is restored
pub restores-more : (c : ℤ) (sums : List Vector) (flips : List Bool) (old new after : List Point) (e : ℕ) (flip : Bool) (p d v : Point)
    → Restores c sums flips old new e → e < length new → e < length flips → flip ≡ get_or flips e flip → p ≡ normal_value c (vector_in sums e) flip
    → d ≡ get_or new e d → v ≡ restored_value c p d → IsValue c v → after ≡ set new e v → Restores c sums flips old after (suc e)
restores-more c sums flips old new after e flip p d v g has more ef ep ed ev inside en =
    let front : take (suc e) (set new e v) ≡ take e new ++ v ∷ [] = take-suc-set new e v has in
    let behind : drop (suc e) (set new e v) ≡ drop (suc e) new = drop-set-lt (suc e) new e v (omega arith) in
    let far : length (take e new) ≡ e = omega (arith, length-take e new) in
    rw en (record {
      same = length-set new e v ∙ g.same;
      within = subst (All (IsValue c)) (sym front) (All-append (IsValue c) (take e new) (v ∷ []) g.within (All-cons (IsValue c) v [] inside (All-nil (IsValue c))));
      rest = behind ∙ further new old e g.rest;
      restores = one-restored c sums e (take (suc e) (set new e v)) (take e new) (drop (suc e) (set new e v)) (drop (suc e) new) (drop e new) (drop e flips) (drop (suc e) flips)
          flip p d v (restored_by (geometric_normal c sums) (restored_value c) [] flips old) far front behind (opened new e d has ed) (opened flips e flip more ef) ep ev g.restores;
    })

-- the end: all is
nothing : (c : ℤ) (sums : List Vector) (front rest new : List Point) (left : List Bool) (r : Result (List Point) Kind) → front ≡ new → rest ≡ []
    → restored_by (geometric_normal c sums) (restored_value c) front left rest ≡ r → r ≡ Ok new
unfolding restored_by
nothing c sums front rest new left r ef er is = sym (rw (ef, er) at is)

pub restores-all : (c : ℤ) (sums : List Vector) (flips : List Bool) (old new : List Point) (e : ℕ) → Restores c sums flips old new e → length new ≤ e
    → restored_by (geometric_normal c sums) (restored_value c) [] flips old ≡ Ok new
restores-all c sums flips old new e g done =
    nothing c sums (take e new) (drop e new) new (drop e flips) (restored_by (geometric_normal c sums) (restored_value c) [] flips old) (take_all e new done) (drop_all e new done) g.restores

pub restores-within : (c : ℤ) (sums : List Vector) (flips : List Bool) (old new : List Point) (e : ℕ) → Restores c sums flips old new e → length new ≤ e → All (IsValue c) new
restores-within c sums flips old new e g done = subst (All (IsValue c)) (take_all e new done) g.within
