-- Corrections restore values with the flags that they were made with, whatever predicts.
use Rattle.std.proofs.Common.{◌≡◌, ◌+◌, ◌<◌, ◌≤◌, ℕ, ℤ, List, [], ◌∷◌, ◌++◌, length, Result, Ok, Err, sym, ◌∙◌, ap, refl, arith}
use Rattle.std.specs.Prelude.{All}
use Rattle.std.proofs.lemmas.List.Elements.{All-nil, All-cons, All-head, All-tail, All-append}
use Rattle.std.proofs.lemmas.List.{append_assoc, append-nil, length-append}
use Rattle.drc_base.specs.Steps.{◌>>=◌}
use Rattle.predict.specs.Wrap.{Range, restored_value, correction_of}
use Rattle.predict.specs.Restored.{restored_behind, corrections_behind}
use Rattle.predict.specs.Stepping.{Step, restored_by, corrected_by, in_front}

abbrev given : {V E : Type 0} → List V → Result (List V) E
given xs = Ok xs

-- the corrections behind one that is made
second : {V F E : Type 0} (step : Step V F E) (move back : V → V → V) (before : List V) (flags : F) (v : V) (values corrections : List V) (x : V × F)
    (t : Result (List V) E) → move x.0 (back x.0 v) ≡ v → step before flags ≡ Ok x
    → ((cs : List V) → t ≡ Ok cs → restored_by step move (before ++ v ∷ []) x.1 cs ≡ Ok ((before ++ v ∷ []) ++ values))
    → (t >>= in_front (back x.0 v)) ≡ Ok corrections
    → restored_by step move before flags corrections ≡ Ok (before ++ v ∷ values)
unfolding restored_by
second step move back before flags v values corrections x (Err e) undo one rest is = cc
second {V} {F} {E} step move back before flags v values corrections x (Ok cs) undo one rest is =
    let all : back x.0 v ∷ cs ≡ corrections = cc in
    ap (restored_by step move before flags) (sym all)
    ∙ rw one (ap (λ (w : V). restored_by step move (before ++ w ∷ []) x.1 cs) undo ∙ rest cs refl ∙ ap (given {V = V} {E = E}) (append_assoc before (v ∷ []) values))

-- a value, and those behind it
first : {V F E : Type 0} (step : Step V F E) (move back : V → V → V) (before : List V) (flags : F) (v : V) (values corrections : List V)
    (r : Result (V × F) E) → ((x : V × F) → r ≡ Ok x → move x.0 (back x.0 v) ≡ v) → step before flags ≡ r
    → ((x : V × F) (cs : List V) → corrected_by step back (before ++ v ∷ []) x.1 values ≡ Ok cs
    → restored_by step move (before ++ v ∷ []) x.1 cs ≡ Ok ((before ++ v ∷ []) ++ values))
    → (r >>= λ x. corrected_by step back (before ++ v ∷ []) x.1 values >>= in_front (back x.0 v)) ≡ Ok corrections
    → restored_by step move before flags corrections ≡ Ok (before ++ v ∷ values)
first step move back before flags v values corrections (Err e) undo one rest is = cc
first step move back before flags v values corrections (Ok x) undo one rest is =
    second step move back before flags v values corrections x (corrected_by step back (before ++ v ∷ []) x.1 values) (undo x refl) one (rest x) is

-- where a move undoes its way back behind values that are good, whatever is predicted there, corrections of good values restore them
pub steps_restore : {V F E : Type 0} (Good : V → Type 0) (step : Step V F E) (move back : V → V → V) (before : List V) (flags : F) (values corrections : List V)
    → ((before' : List V) (flags' : F) (x : V × F) (v : V) → All Good before' → step before' flags' ≡ Ok x → Good v → move x.0 (back x.0 v) ≡ v)
    → All Good before → All Good values → corrected_by step back before flags values ≡ Ok corrections
    → restored_by step move before flags corrections ≡ Ok (before ++ values)
unfolding restored_by corrected_by
steps_restore {V} {F} {E} Good step move back before flags [] corrections undo hb hv is =
    let none : [] ≡ corrections = cc in
    ap (restored_by step move before flags) (sym none) ∙ ap (given {V = V} {E = E}) (sym (append-nil before))
steps_restore {V} {F} {E} Good step move back before flags (v ∷ values) corrections undo hb hv is =
    let front : All Good (before ++ v ∷ []) = All-append Good before (v ∷ []) hb (All-cons Good v [] (All-head Good v values hv) (All-nil Good)) in
    first step move back before flags v values corrections (step before flags) (λ x sx. undo before flags x v hb sx (All-head Good v values hv)) refl
    (λ x cs. steps_restore Good step move back (before ++ v ∷ []) x.1 values cs undo front (All-tail Good v values hv)) is

-- there is a value for each correction
counted : {V F E : Type 0} (step : Step V F E) (move : V → V → V) (before : List V) (c : V) (cs vs : List V) (r : Result (V × F) E)
    → ((x : V × F) → restored_by step move (before ++ move x.0 c ∷ []) x.1 cs ≡ Ok vs → length vs ≡ length (before ++ move x.0 c ∷ []) + length cs)
    → (r >>= λ x. restored_by step move (before ++ move x.0 c ∷ []) x.1 cs) ≡ Ok vs → length vs ≡ length before + length (c ∷ cs)
counted step move before c cs vs (Err e) rest is = cc
counted step move before c cs vs (Ok x) rest is =
    let l : length (before ++ move x.0 c ∷ []) ≡ length before + 1 = length-append before (move x.0 c ∷ []) in
    rest x is ∙ omega (arith, l)

pub length-restored_by : {V F E : Type 0} (step : Step V F E) (move : V → V → V) (before : List V) (flags : F) (cs vs : List V)
    → restored_by step move before flags cs ≡ Ok vs → length vs ≡ length before + length cs
unfolding restored_by
length-restored_by step move before flags [] vs is =
    let same : before ≡ vs = cc in
    ap length (sym same) ∙ omega arith
length-restored_by step move before flags (c ∷ cs) vs is =
    counted step move before c cs vs (step before flags) (λ x. length-restored_by step move (before ++ move x.0 c ∷ []) x.1 cs vs) is

-- where a step predicts by a function of fewer than n values before and leaves the flags as they are, the function restores the same
pub restored_by-function : {F E : Type 0} (step : Step ℤ F E) (f : List ℤ → ℤ) (r : Range) (flags : F) (n : ℕ)
    → ((before : List ℤ) → length before < n → step before flags ≡ Ok (f before, flags)) → (before cs : List ℤ) → length before + length cs ≤ n
    → restored_by step (restored_value r) before flags cs ≡ Ok (restored_behind f r before cs)
unfolding restored_by restored_behind
restored_by-function step f r flags n told before [] within = refl
restored_by-function step f r flags n told before (c ∷ cs) within =
    let here = told before (omega (arith, within)) in
    let l : length (before ++ restored_value r (f before) c ∷ []) ≡ length before + 1 = length-append before (restored_value r (f before) c ∷ []) in
    rw here (restored_by-function step f r flags n told (before ++ restored_value r (f before) c ∷ []) cs (omega (arith, within, l)))

-- and its corrections are the same
pub corrected_by-function : {F E : Type 0} (step : Step ℤ F E) (f : List ℤ → ℤ) (r : Range) (flags : F) (n : ℕ)
    → ((before : List ℤ) → length before < n → step before flags ≡ Ok (f before, flags)) → (before vs : List ℤ) → length before + length vs ≤ n
    → corrected_by step (correction_of r) before flags vs ≡ Ok (corrections_behind f r before vs)
unfolding corrected_by corrections_behind
corrected_by-function step f r flags n told before [] within = refl
corrected_by-function {F} {E} step f r flags n told before (v ∷ vs) within =
    let here = told before (omega (arith, within)) in
    let l : length (before ++ v ∷ []) ≡ length before + 1 = length-append before (v ∷ []) in
    rw here (ap (λ (t : Result (List ℤ) E). t >>= in_front (correction_of r (f before) v)) (corrected_by-function step f r flags n told (before ++ v ∷ []) vs (omega (arith, within, l))))
