-- Each head has its values, for so many entries.
use Rattle.std.proofs.Common.{◌≡◌, ℕ, ◌+◌, ◌*◌, ◌<◌, List, [], ◌∷◌, ◌++◌, length, take, drop, get_or, refl, ap, arith}
use Rattle.std.proofs.lemmas.List.{take_more, map-append}
use Rattle.attr_heads.specs.declared.heads.Head.{Head}
use Rattle.attr_section.specs.declared.values.Values.{Values}
use Rattle.attr_section.specs.Attributes.{AreColumns, comps_of}

AreColumns-push : (n : ℕ) (heads : List Head) (values : List Values) (h : Head) (v : Values) → AreColumns n heads values → length v.values ≡ n * h.comps
    → AreColumns n (heads ++ h ∷ []) (values ++ v ∷ [])
AreColumns-push n [] [] h v are long = (long, tt)
AreColumns-push n [] (w ∷ values) h v are long = absurd are
AreColumns-push n (g ∷ heads) [] h v are long = absurd are
AreColumns-push n (g ∷ heads) (w ∷ values) h v are long = (are.0, AreColumns-push n heads values h v are.1 long)

-- one attribute more
pub AreColumns-next : (n k : ℕ) (heads : List Head) (values : List Values) (h : Head) (v : Values) → AreColumns n (take k heads) values → k < length heads
    → h ≡ get_or heads k h → length v.values ≡ n * h.comps → AreColumns n (take (k + 1) heads) (values ++ v ∷ [])
AreColumns-next n k heads values h v are has is long =
    rw (take_more heads k h has, ← is) (AreColumns-push n (take k heads) values h v are long)

-- of heads with the same components
pub AreColumns-comps : (n : ℕ) (heads others : List Head) (values : List Values) → AreColumns n heads values → comps_of others ≡ comps_of heads
    → AreColumns n others values
AreColumns-comps n [] [] values are same = are
AreColumns-comps n [] (o ∷ others) values are same = let lens : length (comps_of (o ∷ others)) ≡ 0 = ap length same in absurd (omega (arith, lens))
AreColumns-comps n (h ∷ heads) [] values are same = let lens : 0 ≡ length (comps_of (h ∷ heads)) = ap length same in absurd (omega (arith, lens))
AreColumns-comps n (h ∷ heads) (o ∷ others) [] are same = absurd are
AreColumns-comps n (h ∷ heads) (o ∷ others) (v ∷ values) are same =
    let first : o.comps ≡ h.comps = ap (λ l. get_or l 0 0) same in
    (rw first are.0, AreColumns-comps n heads others values are.1 (ap (λ l. drop 1 l) same))

-- the values of two lists of attributes, one behind the other
pub AreColumns-append : (n : ℕ) (heads others : List Head) (values more : List Values) → AreColumns n heads values → AreColumns n others more
    → AreColumns n (heads ++ others) (values ++ more)
AreColumns-append n [] others [] more are also = also
AreColumns-append n [] others (v ∷ values) more are also = absurd are
AreColumns-append n (h ∷ heads) others [] more are also = absurd are
AreColumns-append n (h ∷ heads) others (v ∷ values) more are also = (are.0, AreColumns-append n heads others values more are.1 also)

-- one head more has its components
pub comps_of-next : (k : ℕ) (heads others : List Head) (h o : Head) → comps_of others ≡ comps_of (take k heads) → k < length heads
    → h ≡ get_or heads k h → o.comps ≡ h.comps → comps_of (others ++ o ∷ []) ≡ comps_of (take (k + 1) heads)
comps_of-next k heads others h o same has is comps =
    rw (take_more heads k h has, ← is, map-append (λ (x : Head). x.comps) others (o ∷ []), map-append (λ (x : Head). x.comps) (take k heads) (h ∷ []), same, comps) refl

-- there are as many values as heads
pub AreColumns-length : (n : ℕ) (heads : List Head) (values : List Values) → AreColumns n heads values → length values ≡ length heads
AreColumns-length n [] [] are = refl
AreColumns-length n [] (v ∷ values) are = absurd are
AreColumns-length n (h ∷ heads) [] are = absurd are
AreColumns-length n (h ∷ heads) (v ∷ values) are = let rest = AreColumns-length n heads values are.1 in omega (arith, rest)
