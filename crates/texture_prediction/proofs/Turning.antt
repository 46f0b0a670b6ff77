-- Orientations and their bits, one after another.
use Rattle.std.proofs.Common.{◌≡◌, ℕ, suc, ◌<◌, ◌≤◌, Bool, true, false, List, [], ◌∷◌, length, set, get_or, take, drop, sym, ◌∙◌, ap, refl, arith}
use Rattle.std.specs.Prelude.{◌++◌}
use Rattle.std.specs.Bool.{beq}
use Rattle.std.proofs.Math.Seq.{drop-cons, take-suc-set}
use Rattle.std.proofs.lemmas.List.{length-set, drop-set-lt, take_all, drop_all, append-nil, append_assoc}
use Rattle.texture_prediction.specs.Orientations.{kept, orientations_behind, bits_behind, orientations_of, bits_of}
use Rattle.texture_prediction.specs.Laws.{OrientationsComeBack, BitsComeBack}

-- in a list that f turns item by item, the first i items are turned, and the rest is as it was
pub record IsTurned (f : Bool → List Bool → List Bool) (old new : List Bool) (i : ℕ) (before : Bool) : Type 0 where
  pub same : length new ≡ length old
  pub goes : take i new ++ f before (drop i new) ≡ f true old

-- one more item is turned
turned-more : (f : Bool → List Bool → List Bool) (old new : List Bool) (i : ℕ) (before x y after : Bool) → IsTurned f old new i before
    → i < length new → x ≡ get_or new i false → ((rest : List Bool) → f before (x ∷ rest) ≡ y ∷ f after rest)
    → IsTurned f old (set new i y) (suc i) after
turned-more f old new i before x y after t has ex step =
    let opened : drop i new ≡ x ∷ drop (suc i) new = drop-cons new i false has ∙ ap (λ (z : Bool). z ∷ drop (suc i) new) (sym ex) in
    let front : take (suc i) (set new i y) ≡ take i new ++ y ∷ [] = take-suc-set new i y has in
    let behind : drop (suc i) (set new i y) ≡ drop (suc i) new = drop-set-lt (suc i) new i y (omega arith) in
    record {
      same = length-set new i y ∙ t.same;
      goes = rw (front, behind) (append_assoc (take i new) (y ∷ []) (f after (drop (suc i) new))
          ∙ ap (λ (l : List Bool). take i new ++ l) (sym (step (drop (suc i) new)))
          ∙ ap (λ (l : List Bool). take i new ++ f before l) (sym opened) ∙ t.goes);
    }

-- the end: all is turned
turned-all : (f : Bool → List Bool → List Bool) (old new : List Bool) (i : ℕ) (before : Bool) → f before [] ≡ [] → IsTurned f old new i before
    → length new ≤ i → new ≡ f true old
turned-all f old new i before none t done =
    sym (append-nil new) ∙ ap (λ (l : List Bool). new ++ l) (sym none) ∙ sym (ap (λ (l : List Bool). l ++ f before []) (take_all i new done))
    ∙ sym (ap (λ (l : List Bool). take i new ++ f before l) (drop_all i new done)) ∙ t.goes

orientations-more : (before bit : Bool) (bits : List Bool) → orientations_behind before (bit ∷ bits) ≡ kept before bit ∷ orientations_behind (kept before bit) bits
unfolding orientations_behind
orientations-more before bit bits = refl

orientations-none : (before : Bool) → orientations_behind before [] ≡ []
unfolding orientations_behind
orientations-none before = refl

bits-more : (before x : Bool) (xs : List Bool) → bits_behind before (x ∷ xs) ≡ beq x before ∷ bits_behind x xs
unfolding bits_behind
bits-more before x xs = refl

bits-none : (before : Bool) → bits_behind before [] ≡ []
unfolding bits_behind
bits-none before = refl

pub oriented-more : (old new : List Bool) (i : ℕ) (before x y : Bool) → IsTurned orientations_behind old new i before → i < length new
    → x ≡ get_or new i false → y ≡ kept before x → IsTurned orientations_behind old (set new i y) (suc i) y
oriented-more old new i before x y t has ex ey = rw ey (turned-more orientations_behind old new i before x (kept before x) (kept before x) t has ex (orientations-more before x))

pub oriented-all : (old new : List Bool) (i : ℕ) (before : Bool) → IsTurned orientations_behind old new i before → length new ≤ i → new ≡ orientations_of old
oriented-all old new i before t done = turned-all orientations_behind old new i before (orientations-none before) t done

pub said-more : (old new : List Bool) (i : ℕ) (before x y : Bool) → IsTurned bits_behind old new i before → i < length new
    → x ≡ get_or new i false → y ≡ beq x before → IsTurned bits_behind old (set new i y) (suc i) x
said-more old new i before x y t has ex ey = rw ey (turned-more bits_behind old new i before x (beq x before) x t has ex (bits-more before x))

pub said-all : (old new : List Bool) (i : ℕ) (before : Bool) → IsTurned bits_behind old new i before → length new ≤ i → new ≡ bits_of old
said-all old new i before t done = turned-all bits_behind old new i before (bits-none before) t done

-- ---- one undoes the other

kept-said : (before x : Bool) → kept before (beq x before) ≡ x
kept-said true true = refl
kept-said true false = refl
kept-said false true = refl
kept-said false false = refl

said-kept : (before bit : Bool) → beq (kept before bit) before ≡ bit
said-kept true true = refl
said-kept true false = refl
said-kept false true = refl
said-kept false false = refl

orientations-back : (before : Bool) (xs : List Bool) → orientations_behind before (bits_behind before xs) ≡ xs
unfolding orientations_behind bits_behind
orientations-back before [] = refl
orientations-back before (x ∷ xs) = rw (kept-said before x) (ap (λ (l : List Bool). x ∷ l) (orientations-back x xs))

bits-back : (before : Bool) (bits : List Bool) → bits_behind before (orientations_behind before bits) ≡ bits
unfolding orientations_behind bits_behind
bits-back before [] = refl
bits-back before (bit ∷ bits) = rw (said-kept before bit) (ap (λ (l : List Bool). bit ∷ l) (bits-back (kept before bit) bits))

pub orientations-come-back : OrientationsComeBack
orientations-come-back xs = orientations-back true xs

pub bits-come-back : BitsComeBack
bits-come-back bits = bits-back true bits
