-- Values one after another.
use Rattle.std.proofs.Common.{◌≡◌, ℤ, pos, ◌+ℤ◌, ◌-ℤ◌, ◌<ℤ◌, List, [], ◌∷◌, ◌++◌, sym, ◌∙◌, ap, refl, arith}
use Rattle.std.specs.Prelude.{All}
use Rattle.std.proofs.lemmas.Int.{ints}
use Rattle.std.proofs.lemmas.List.Elements.{All-nil, All-cons, All-head, All-tail, All-append}
use Rattle.std.proofs.lemmas.List.{append_assoc, append-nil}
use Rattle.octahedron.specs.declared.points.Point.{Point}
use Rattle.octahedron.specs.Square.{IsValue, IsCanonicalValue, centred, value_at}
use Rattle.octahedron.specs.Corrections.{restored_value, correction_of}
use Rattle.octahedron.specs.Restored.{restored_behind, corrections_behind, value_before}
use Rattle.octahedron.specs.Laws.{PredictsIn}
use Rattle.octahedron.proofs.Flipping.{point-same}
use Rattle.octahedron.proofs.Turning.{restored-canonical}
use Rattle.octahedron.proofs.Centring.{IsIn-centred}

value-centred : (c : ℤ) (v : Point) → value_at c (centred c v) ≡ v
value-centred c v = point-same ((v.s -ℤ c) +ℤ c) v.s ((v.t -ℤ c) +ℤ c) v.t (omega (arith, ints)) (omega (arith, ints))

pub value-restored : (c : ℤ) (p v : Point) → pos 0 <ℤ c → IsValue c p → IsValue c v → IsCanonicalValue c v → restored_value c p (correction_of c p v) ≡ v
value-restored c p v hc ip iv is =
    ap (value_at c) (restored-canonical c (centred c p) (centred c v) hc (IsIn-centred c p (centred c p) ip refl) (IsIn-centred c v (centred c v) iv refl) is)
    ∙ value-centred c v

pub behind : (predicted : List Point → Point) (c : ℤ) (before values : List Point) → pos 0 <ℤ c → PredictsIn c predicted
    → All (IsValue c) before → All (IsValue c) values → All (IsCanonicalValue c) values
    → restored_behind predicted c before (corrections_behind predicted c before values) ≡ before ++ values
unfolding restored_behind corrections_behind
behind predicted c before [] hc hp hb hv hk = sym (append-nil before)
behind predicted c before (v ∷ values) hc hp hb hv hk =
    let here : restored_value c (predicted before) (correction_of c (predicted before) v) ≡ v
    = value-restored c (predicted before) v hc (hp before hb) (All-head (IsValue c) v values hv) (All-head (IsCanonicalValue c) v values hk) in
    let front : All (IsValue c) (before ++ v ∷ []) = All-append (IsValue c) before (v ∷ []) hb
    (All-cons (IsValue c) v [] (All-head (IsValue c) v values hv) (All-nil (IsValue c))) in
    ap (λ (w : Point). restored_behind predicted c (before ++ w ∷ []) (corrections_behind predicted c (before ++ v ∷ []) values)) here
    ∙ behind predicted c (before ++ v ∷ []) values hc hp front (All-tail (IsValue c) v values hv) (All-tail (IsCanonicalValue c) v values hk)
    ∙ append_assoc before (v ∷ []) values

pub before-in : (c : ℤ) → pos 0 <ℤ c → PredictsIn c value_before
before-in c hc [] h = record { s_least = omega (arith, ints); s_greatest = omega (arith, ints); t_least = omega (arith, ints); t_greatest = omega (arith, ints) }
before-in c hc (v ∷ []) h = All-head (IsValue c) v [] h
before-in c hc (v ∷ w ∷ values) h = before-in c hc (w ∷ values) (All-tail (IsValue c) v (w ∷ values) h)
