-- Pairs that are corrected one after another.
use Rattle.std.proofs.Common.{◌≡◌, ℕ, suc, ◌*◌, ◌<◌, ◌≤◌, Bool, ℤ, List, [], ◌∷◌, ◌++◌, length, get_or, take, drop, reverse, Option, Result, Ok, Err, sym, ◌∙◌, ap, refl, append-nil, append_assoc}
use Rattle.std.specs.List.{All}
use Rattle.std.specs.Option.{option_to_list}
use Rattle.std.proofs.Math.Seq.{drop-cons, take-suc}
use Rattle.std.proofs.lemmas.List.{drop_all}
use Rattle.std.proofs.lemmas.List.Elements.{All-nil}
use Rattle.drc_base.specs.declared.kinds.Kind.{Kind}
use Rattle.drc_base.specs.Steps.{◌>>=◌}
use Rattle.wrapped_vectors.specs.declared.places.Place.{Place}
use Rattle.texture_prediction.specs.declared.pairs.Pair.{Pair}
use Rattle.corner_table.specs.Ordered.{Ordered}
use Rattle.predict.specs.Wrap.{Range, CanWrap, HasEnds}
use Rattle.predict.specs.Stepping.{Step, restored_by, corrected_by}
use Rattle.predict.proofs.Steps.{steps_restore}
use Rattle.predict.proofs.Restoring.{InRange, Keeps, keeps_back, fit_within}
use Rattle.texture_values.specs.Pairs.{pairs_of}
use Rattle.texture_values.specs.Foretold.{texture_step}
use Rattle.texture_values.specs.Restored.{restored_pair, restored_texture}
use Rattle.texture_values.specs.Chosen.{texture_choice, ahead, chosen_behind}
use Rattle.texture_values.specs.Corrected.{correction_pair, corrected_texture}
use Rattle.texture_values.proofs.Listed.{pairs-same, pairs-all, flat-pairs}
use Rattle.texture_values.proofs.Choosing.{step-choice}

-- the corrections of the first e pairs and the orientations that they take: what is made of the others comes behind them
pub record Writes (w : Ordered) (places : List Place) (r : Range) (pairs cs : List Pair) (os : List Bool) (e : ℕ) : Type 0 where
  pub chosen : chosen_behind w places [] pairs ≡ (chosen_behind w places (take e pairs) (drop e pairs) >>= ahead os)
  pub corrected : (rest : List Bool) (more : List Pair) → corrected_by (texture_step w places) (correction_pair r) (take e pairs) rest (drop e pairs) ≡ Ok more
      → corrected_by (texture_step w places) (correction_pair r) [] (os ++ rest) pairs ≡ Ok (cs ++ more)

ahead-none : (t : Result (List Bool) Kind) → t ≡ (t >>= ahead [])
ahead-none (Ok os) = refl
ahead-none (Err k) = refl

ahead-twice : (os o : List Bool) (t : Result (List Bool) Kind) → ((t >>= ahead o) >>= ahead os) ≡ (t >>= ahead (os ++ o))
ahead-twice os o (Ok rest) = ap chosen_all (sym (append_assoc os o rest))
  where
    chosen_all : List Bool → Result (List Bool) Kind
    chosen_all l = Ok l
ahead-twice os o (Err k) = refl

pub writes-none : (w : Ordered) (places : List Place) (r : Range) (pairs cs : List Pair) (os : List Bool) → cs ≡ [] → os ≡ [] → Writes w places r pairs cs os 0
writes-none w places r pairs cs os ec eo = rw (ec, eo) (record { chosen = ahead-none (chosen_behind w places [] pairs); corrected = λ rest more is. is })

chosen-one : (w : Ordered) (places : List Place) (before : List Pair) (x : Pair) (rest : List Pair) (c : Pair × Option Bool) → texture_choice w places before x ≡ Ok c
    → chosen_behind w places before (x ∷ rest) ≡ (chosen_behind w places (before ++ x ∷ []) rest >>= ahead (option_to_list c.1))
unfolding chosen_behind
chosen-one w places before x rest c is = rw is refl

chosen-not : (w : Ordered) (places : List Place) (before : List Pair) (x : Pair) (rest : List Pair) (k : Kind) → texture_choice w places before x ≡ Err k
    → chosen_behind w places before (x ∷ rest) ≡ Err k
unfolding chosen_behind
chosen-not w places before x rest k is = rw is refl

chosen-end : (w : Ordered) (places : List Place) (before : List Pair) → chosen_behind w places before [] ≡ Ok []
unfolding chosen_behind
chosen-end w places before = refl

corrected-one : (step : Step Pair (List Bool) Kind) (r : Range) (before : List Pair) (left left' : List Bool) (p x : Pair) (rest more : List Pair)
    → step before left ≡ Ok (p, left') → corrected_by step (correction_pair r) (before ++ x ∷ []) left' rest ≡ Ok more
    → corrected_by step (correction_pair r) before left (x ∷ rest) ≡ Ok (correction_pair r p x ∷ more)
unfolding corrected_by
corrected-one step r before left left' p x rest more told is = rw (told, is) refl

corrected-end : (step : Step Pair (List Bool) Kind) (r : Range) (before : List Pair) (left : List Bool) → corrected_by step (correction_pair r) before left [] ≡ Ok []
unfolding corrected_by
corrected-end step r before left = refl

-- one more pair is corrected
pub writes-more : (w : Ordered) (places : List Place) (r : Range) (pairs cs cs' : List Pair) (os os' : List Bool) (e : ℕ) (x z : Pair) (c : Pair × Option Bool)
    → Writes w places r pairs cs os e → e < length pairs → x ≡ get_or pairs e z → texture_choice w places (take e pairs) x ≡ Ok c
    → cs' ≡ cs ++ correction_pair r c.0 x ∷ [] → os' ≡ os ++ option_to_list c.1 → Writes w places r pairs cs' os' (suc e)
writes-more w places r pairs cs cs' os os' e x z c g has ex is ec eo =
    let front : take (suc e) pairs ≡ take e pairs ++ x ∷ [] = take-suc pairs e z has ∙ ap (λ (y : Pair). take e pairs ++ y ∷ []) (sym ex) in
    let opened : drop e pairs ≡ x ∷ drop (suc e) pairs = drop-cons pairs e z has ∙ ap (λ (y : Pair). y ∷ drop (suc e) pairs) (sym ex) in
    let o : List Bool = option_to_list c.1 in
    rw (ec, eo) (record {
      chosen = rw front (g.chosen ∙ ap (λ (l : List Pair). chosen_behind w places (take e pairs) l >>= ahead os) opened
          ∙ ap (λ (t : Result (List Bool) Kind). t >>= ahead os) (chosen-one w places (take e pairs) x (drop (suc e) pairs) c is)
          ∙ ahead-twice os o (chosen_behind w places (take e pairs ++ x ∷ []) (drop (suc e) pairs)));
      corrected = λ rest more next.
          let here = corrected-one (texture_step w places) r (take e pairs) (o ++ rest) rest c.0 x (drop (suc e) pairs) more
          (step-choice w places (take e pairs) x c rest is) (rw front at next) in
          let all = g.corrected (o ++ rest) (correction_pair r c.0 x ∷ more)
          (ap (corrected_by (texture_step w places) (correction_pair r) (take e pairs) (o ++ rest)) opened ∙ here) in
          rw (append_assoc os o rest, append_assoc cs (correction_pair r c.0 x ∷ []) more) all;
    })

-- a pair can't be foretold
pub writes-not : (w : Ordered) (places : List Place) (r : Range) (pairs cs : List Pair) (os : List Bool) (e : ℕ) (x z : Pair) (k : Kind)
    → Writes w places r pairs cs os e → e < length pairs → x ≡ get_or pairs e z → texture_choice w places (take e pairs) x ≡ Err k
    → chosen_behind w places [] pairs ≡ Err k
writes-not w places r pairs cs os e x z k g has ex is =
    let opened : drop e pairs ≡ x ∷ drop (suc e) pairs = drop-cons pairs e z has ∙ ap (λ (y : Pair). y ∷ drop (suc e) pairs) (sym ex) in
    g.chosen ∙ ap (λ (l : List Pair). chosen_behind w places (take e pairs) l >>= ahead os) opened
    ∙ ap (λ (t : Result (List Bool) Kind). t >>= ahead os) (chosen-not w places (take e pairs) x (drop (suc e) pairs) k is)

-- the end: all are corrected
pub all-chosen : (w : Ordered) (places : List Place) (r : Range) (pairs cs : List Pair) (os : List Bool) (e : ℕ) → Writes w places r pairs cs os e → length pairs ≤ e
    → chosen_behind w places [] pairs ≡ Ok os
all-chosen w places r pairs cs os e g done =
    g.chosen ∙ ap (λ (l : List Pair). chosen_behind w places (take e pairs) l >>= ahead os) (drop_all e pairs done)
    ∙ ap (λ (t : Result (List Bool) Kind). t >>= ahead os) (chosen-end w places (take e pairs)) ∙ ap chosen_all (append-nil os)
  where
    chosen_all : List Bool → Result (List Bool) Kind
    chosen_all l = Ok l

pub all-corrected : (w : Ordered) (places : List Place) (r : Range) (pairs cs : List Pair) (os : List Bool) (e : ℕ) → Writes w places r pairs cs os e → length pairs ≤ e
    → corrected_by (texture_step w places) (correction_pair r) [] os pairs ≡ Ok cs
all-corrected w places r pairs cs os e g done =
    let all = g.corrected [] [] (ap (corrected_by (texture_step w places) (correction_pair r) (take e pairs) []) (drop_all e pairs done)
    ∙ corrected-end (texture_step w places) r (take e pairs) []) in
    rw (append-nil os, append-nil cs) at all

-- the flat list of corrections
pub corrections-flat : (w : Ordered) (places : List Place) (r : Range) (orientations os : List Bool) (values corrections : List ℤ) (n : ℕ)
    → reverse orientations ≡ os → length corrections ≡ n * 2
    → corrected_by (texture_step w places) (correction_pair r) [] os (pairs_of values) ≡ Ok (pairs_of corrections)
    → corrected_texture w places r orientations values ≡ Ok corrections
unfolding corrected_texture
corrections-flat w places r orientations os values corrections n eo whole is =
    rw (eo, is) (ap all (flat-pairs corrections n whole))
  where
    all : List ℤ → Result (List ℤ) Kind
    all l = Ok l

-- ---- what is written is restored

-- a pair of the range, which its correction restores
abbrev KeepsPair : Range → Pair → Type 0
KeepsPair r x = Keeps r x.u × Keeps r x.v

pub restored-again : (w : Ordered) (places : List Place) (r : Range) (orientations os : List Bool) (values corrections : List ℤ) (n : ℕ)
    → CanWrap r → HasEnds r → All (InRange r) values → length values ≡ n * 2 → reverse orientations ≡ os
    → corrected_by (texture_step w places) (correction_pair r) [] os (pairs_of values) ≡ Ok (pairs_of corrections)
    → restored_texture w places r orientations corrections ≡ Ok values
unfolding restored_texture
restored-again w places r orientations os values corrections n can ends within whole eo is =
    let fits = fit_within r values ends within in
    let keeps : All (Keeps r) values = λ k d below. (within k d below, fits k d below) in
    let back : restored_by (texture_step w places) (restored_pair r) [] os (pairs_of corrections) ≡ Ok (pairs_of values) =
    steps_restore (KeepsPair r) (texture_step w places) (restored_pair r) (correction_pair r) [] os (pairs_of values) (pairs_of corrections)
    (λ before flags x v good one kept. pairs-same _ _ _ _ (keeps_back r x.0.u v.u can kept.0) (keeps_back r x.0.v v.v can kept.1))
    (All-nil (KeepsPair r)) (pairs-all (Keeps r) values keeps) is in
    rw (eo, back) (ap all (flat-pairs values n whole))
  where
    all : List ℤ → Result (List ℤ) Kind
    all l = Ok l
