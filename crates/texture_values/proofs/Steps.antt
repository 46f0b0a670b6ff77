-- Pairs that are restored one after another.
use Rattle.std.proofs.Common.{◌≡◌, ℕ, suc, ◌<◌, ◌≤◌, Bool, List, [], ◌∷◌, length, set, get_or, take, drop, Result, Ok, Err, sym, ◌∙◌, ap, refl, arith}
use Rattle.std.specs.Prelude.{◌++◌}
use Rattle.std.proofs.Math.Seq.{drop-cons, take-suc-set}
use Rattle.std.proofs.lemmas.List.{length-set, drop-set-lt, take_all, drop_all}
use Rattle.drc_base.specs.declared.kinds.Kind.{Kind}
use Rattle.drc_base.specs.Steps.{◌>>=◌}
use Rattle.texture_prediction.specs.declared.pairs.Pair.{Pair}
use Rattle.predict.specs.Wrap.{Range}
use Rattle.predict.specs.Stepping.{Step, restored_by}
use Rattle.texture_values.specs.Pairs.{flat_of}
use Rattle.texture_values.specs.Restored.{restored_pair, flattened}

-- behind the first e pairs, with the orientations that are left, the corrections restore what they restored
pub record Goes (step : Step Pair (List Bool) Kind) (r : Range) (orientations : List Bool) (old new : List Pair) (left : List Bool) (e : ℕ) : Type 0 where
  pub same : length new ≡ length old
  pub goes : restored_by step (restored_pair r) (take e new) left (drop e new) ≡ restored_by step (restored_pair r) [] orientations old

-- a pair in front of others is restored
restored-one : (step : Step Pair (List Bool) Kind) (r : Range) (before : List Pair) (left left' : List Bool) (p d : Pair) (rest : List Pair)
    → step before left ≡ Ok (p, left')
    → restored_by step (restored_pair r) before left (d ∷ rest) ≡ restored_by step (restored_pair r) (before ++ restored_pair r p d ∷ []) left' rest
unfolding restored_by
restored-one step r before left left' p d rest is = rw is refl

-- a pair in front of others isn't foretold
restored-not : (step : Step Pair (List Bool) Kind) (r : Range) (before : List Pair) (left : List Bool) (d : Pair) (rest : List Pair) (k : Kind)
    → step before left ≡ Err k → restored_by step (restored_pair r) before left (d ∷ rest) ≡ Err k
unfolding restored_by
restored-not step r before left d rest k is = rw is refl

restored-none : (step : Step Pair (List Bool) Kind) (r : Range) (before : List Pair) (left : List Bool) → restored_by step (restored_pair r) before left [] ≡ Ok before
unfolding restored_by
restored-none step r before left = refl

-- one more pair is restored
pub goes-more : (step : Step Pair (List Bool) Kind) (r : Range) (orientations : List Bool) (old new next : List Pair) (left left' : List Bool) (e : ℕ) (p d v z : Pair)
    → Goes step r orientations old new left e → e < length new → step (take e new) left ≡ Ok (p, left') → d ≡ get_or new e z → v ≡ restored_pair r p d
    → next ≡ set new e v → Goes step r orientations old next left' (suc e)
goes-more step r orientations old new next left left' e p d v z g has told ed ev en =
    let front : take (suc e) (set new e v) ≡ take e new ++ v ∷ [] = take-suc-set new e v has in
    let behind : drop (suc e) (set new e v) ≡ drop (suc e) new = drop-set-lt (suc e) new e v (omega arith) in
    let opened : drop e new ≡ d ∷ drop (suc e) new = drop-cons new e z has ∙ ap (λ (x : Pair). x ∷ drop (suc e) new) (sym ed) in
    rw en (record {
      same = length-set new e v ∙ g.same;
      goes = rw (front, behind) (ap (λ (x : Pair). restored_by step (restored_pair r) (take e new ++ x ∷ []) left' (drop (suc e) new)) ev
          ∙ sym (restored-one step r (take e new) left left' p d (drop (suc e) new) told)
          ∙ ap (restored_by step (restored_pair r) (take e new) left) (sym opened) ∙ g.goes);
    })

-- a pair isn't foretold: what is due is its fault
pub goes-not : (step : Step Pair (List Bool) Kind) (r : Range) (orientations : List Bool) (old new : List Pair) (left : List Bool) (e : ℕ) (k : Kind) (z : Pair)
    → Goes step r orientations old new left e → e < length new → step (take e new) left ≡ Err k
    → (restored_by step (restored_pair r) [] orientations old >>= flattened) ≡ Err k
goes-not step r orientations old new left e k z g has told =
    let is : restored_by step (restored_pair r) [] orientations old ≡ Err k =
    sym g.goes ∙ ap (restored_by step (restored_pair r) (take e new) left) (drop-cons new e z has)
    ∙ restored-not step r (take e new) left (get_or new e z) (drop (suc e) new) k told in
    rw is refl

-- the end: all is restored
pub goes-all : (step : Step Pair (List Bool) Kind) (r : Range) (orientations : List Bool) (old new : List Pair) (left : List Bool) (e : ℕ)
    → Goes step r orientations old new left e → length new ≤ e → (restored_by step (restored_pair r) [] orientations old >>= flattened) ≡ Ok (flat_of new)
goes-all step r orientations old new left e g done =
    let is : restored_by step (restored_pair r) [] orientations old ≡ Ok new =
    sym g.goes ∙ ap (restored_by step (restored_pair r) (take e new) left) (drop_all e new done)
    ∙ restored-none step r (take e new) left ∙ ap (λ (l : List Pair). flattenable l) (take_all e new done) in
    rw is refl
  where
    flattenable : List Pair → Result (List Pair) Kind
    flattenable l = Ok l

-- the start: nothing is restored, and all orientations are left
pub goes-none : (step : Step Pair (List Bool) Kind) (r : Range) (orientations : List Bool) (old : List Pair) (left : List Bool) → left ≡ orientations
    → Goes step r orientations old old left 0
goes-none step r orientations old left all = record { same = refl; goes = ap (λ (l : List Bool). restored_by step (restored_pair r) [] l old) all }
