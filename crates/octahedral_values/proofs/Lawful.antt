-- What holds of every step.
use Rattle.std.proofs.Common.{◌≡◌, ℕ, ◌*◌, ◌%◌, ◌<ℤ◌, ℤ, pos, List, [], ◌∷◌, length, Bool, Result, Ok, Err, sym, subst, ◌∙◌, ap, refl, arith}
use Rattle.std.specs.Prelude.{All}
use Rattle.std.proofs.lemmas.List.Elements.{All-nil}
use Rattle.drc_base.specs.declared.kinds.Kind.{Kind}
use Rattle.wrapped_vectors.specs.declared.vectors.Vector.{Vector}
use Rattle.octahedron.specs.declared.points.Point.{Point}
use Rattle.octahedron.specs.Square.{IsValue, IsCanonicalValue}
use Rattle.octahedron.specs.Corrections.{restored_value, correction_of}
use Rattle.octahedron.specs.Restored.{value_before}
use Rattle.octahedron.specs.Pairs.{pairs_of, AreValues, AreCanonical}
use Rattle.octahedron.proofs.Behind.{value-restored, before-in}
use Rattle.octahedron.proofs.Listed.{length-pairs}
use Rattle.normal_prediction.specs.NormalSums.{vector_in}
use Rattle.predict.specs.Stepping.{Step, restored_by, corrected_by}
use Rattle.predict.proofs.Steps.{steps_restore, length-restored_by}
use Rattle.octahedral_values.specs.Integers.{integers_of}
use Rattle.octahedral_values.specs.Steps.{normal_value, difference, geometric_normal, as_integers, restored_integers, corrected_integers}
use Rattle.octahedral_values.specs.Laws.{PredictsIn}
use Rattle.octahedral_values.proofs.Whole.{restored-whole, pairs-integers, length-integers}
use Rattle.octahedral_values.proofs.Valued.{IsValue-normal}

pub difference-in : (c : ℤ) → pos 0 <ℤ c → PredictsIn c difference
difference-in c hc before flips x h is =
    let predicted : value_before before ≡ x.0 = cc in
    subst (IsValue c) predicted (before-in c hc before h)

pub normals-in : (c : ℤ) (sums : List Vector) → pos 0 <ℤ c → PredictsIn c (geometric_normal c sums)
unfolding geometric_normal
normals-in c sums hc before [] x h is = cc
normals-in c sums hc before (flip ∷ flips) x h is =
    let predicted : normal_value c (vector_in sums (length before)) flip ≡ x.0 = cc in
    subst (IsValue c) predicted (IsValue-normal c (vector_in sums (length before)) flip hc)

-- a value of the square in canonical spelling
abbrev pub IsGood : ℤ → Point → Type 0
IsGood c v = IsValue c v × IsCanonicalValue c v

good-values : (c : ℤ) (points : List Point) → All (IsGood c) points → All (IsValue c) points
good-values c points h k d below = (h k d below).0

pub points-restore : (step : Step Point (List Bool) Kind) (c : ℤ) (flips : List Bool) (values corrections : List Point) → pos 0 <ℤ c → PredictsIn c step
    → All (IsValue c) values → All (IsCanonicalValue c) values → corrected_by step (correction_of c) [] flips values ≡ Ok corrections
    → restored_by step (restored_value c) [] flips corrections ≡ Ok values
points-restore step c flips values corrections hc hp hv hk is =
    steps_restore (IsGood c) step (restored_value c) (correction_of c) [] flips values corrections
    (λ before left x v good one this. value-restored c x.0 v hc (hp before left x (good-values c before good) one) this.0 this.1)
    (All-nil (IsGood c)) (λ k d below. (hv k d below, hk k d below)) is

-- the same in integers
integers-restore_by : (step : Step Point (List Bool) Kind) (c : ℤ) (flips : List Bool) (values corrections : List ℤ) (r : Result (List Point) Kind) → length values % 2 ≡ 0
    → ((ps : List Point) → r ≡ Ok ps → restored_by step (restored_value c) [] flips ps ≡ Ok (pairs_of values)) → as_integers r ≡ Ok corrections
    → restored_integers step c flips corrections ≡ Ok values
integers-restore_by step c flips values corrections (Err k) even restore is = cc
integers-restore_by step c flips values corrections (Ok ps) even restore is =
    let same : integers_of ps ≡ corrections = cc in
    let pairs : pairs_of corrections ≡ ps = ap pairs_of (sym same) ∙ pairs-integers ps in
    restored-whole step c flips corrections values even (ap (restored_by step (restored_value c) [] flips) pairs ∙ restore ps refl)

pub integers-restore : (step : Step Point (List Bool) Kind) (c : ℤ) (flips : List Bool) (values corrections : List ℤ) → pos 0 <ℤ c → PredictsIn c step
    → length values % 2 ≡ 0 → AreValues c values → AreCanonical c values → corrected_integers step c flips values ≡ Ok corrections
    → restored_integers step c flips corrections ≡ Ok values
unfolding corrected_integers
integers-restore step c flips values corrections hc hp even hv hk is =
    integers-restore_by step c flips values corrections (corrected_by step (correction_of c) [] flips (pairs_of values)) even
    (λ ps made. points-restore step c flips (pairs_of values) ps hc hp hv hk made) is

-- ---- lengths

many_by : (r : Result (List Point) Kind) (values : List ℤ) (n : ℕ) → ((ps : List Point) → r ≡ Ok ps → length ps ≡ n) → as_integers r ≡ Ok values → length values ≡ 2 * n
many_by (Err k) values n counted is = cc
many_by (Ok ps) values n counted is =
    let same : integers_of ps ≡ values = cc in
    ap length (sym same) ∙ length-integers ps ∙ ap (λ (m : ℕ). 2 * m) (counted ps refl)

pub length-restored_integers : (step : Step Point (List Bool) Kind) (c : ℤ) (flips : List Bool) (corrections values : List ℤ) → length corrections % 2 ≡ 0
    → restored_integers step c flips corrections ≡ Ok values → length values ≡ length corrections
unfolding restored_integers
length-restored_integers step c flips corrections values even is =
    let many = many_by (restored_by step (restored_value c) [] flips (pairs_of corrections)) values (length (pairs_of corrections))
    (λ ps made. length-restored_by step (restored_value c) [] flips (pairs_of corrections) ps made ∙ omega arith) is in
    many ∙ omega (arith, even, length-pairs corrections)
