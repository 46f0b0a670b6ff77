-- Values that are put one after another behind those before.
use Rattle.std.proofs.Common.{◌≡◌, ◌+◌, ℤ, List, [], ◌∷◌, ◌++◌, length, sym, ap, ◌∙◌, arith, add-zero, length-append}
use Rattle.predict.specs.Wrap.{Range, restored_value}
use Rattle.predict.specs.Restored.{restored_behind}

-- the value of the next correction is put
pub behind_more : (f : List ℤ → ℤ) (r : Range) (before next left after : List ℤ) (p c x : ℤ) → f before ≡ p → x ≡ restored_value r p c
    → next ≡ before ++ x ∷ [] → left ≡ c ∷ after → restored_behind f r next after ≡ restored_behind f r before left
unfolding restored_behind
behind_more f r before next left after p c x told is push took =
    ap (λ v. restored_behind f r v after) (push ∙ ap (λ y. before ++ y ∷ []) (is ∙ ap (λ q. restored_value r q c) (sym told)))
    ∙ sym (ap (λ cs. restored_behind f r before cs) took)

-- no correction is left
pub behind_end : (f : List ℤ → ℤ) (r : Range) (v left whole : List ℤ) → length left ≡ 0 → restored_behind f r v left ≡ whole → v ≡ whole
unfolding restored_behind
behind_end f r v [] whole none so = so
behind_end f r v (c ∷ left) whole none so = absurd (omega (arith, none))

-- there is a value for each correction
pub length_behind : (f : List ℤ → ℤ) (r : Range) (before cs : List ℤ) → length (restored_behind f r before cs) ≡ length before + length cs
unfolding restored_behind
length_behind f r before [] = sym (add-zero (length before))
length_behind f r before (c ∷ cs) =
    let x : ℤ = restored_value r (f before) c in
    let l : length (before ++ x ∷ []) ≡ length before + 1 = length-append before (x ∷ []) in
    length_behind f r (before ++ x ∷ []) cs ∙ omega (arith, l)
