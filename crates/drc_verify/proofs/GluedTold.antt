-- What a yes and each no says of rows and glued pairs.
use Rattle.std.proofs.Common.{◌≡◌, ℕ, ◌*◌, Bool, true, false, Option, None, Some, Result, Ok, sym, ap, ◌∙◌, subst, refl, arith}
use Rattle.drc_base.specs.declared.faults.Fault.{Fault}
use Rattle.drc_base.specs.declared.kinds.Kind.TheVariants.{NoPosition}
use Rattle.drc_base.specs.Steps.{◌>>=◌}
use Rattle.drc_bits.proofs.Results.{Ok-injective, err≢ok}
use Rattle.mesh_model.specs.declared.geometries.Geometry.{Geometry}
use Rattle.mesh_model.specs.declared.geometries.Geometry.TheVariants.{Mesh, Cloud}
use Rattle.attr_heads.specs.FirstFault.{unless, value_unless}
use Rattle.mesh_model.specs.Parts.{MeshParts}
use Rattle.mesh_model.specs.Same.{Rows}
use Rattle.corner_table.specs.Sides.{Gluing, number, side_at}
use Rattle.corner_table.proofs.Numbers.{side_at-number, number-lt}
use Rattle.pairing.specs.Pairing.{pairing}
use Rattle.pairing.specs.CarriedPairs.{carried}
use Rattle.pairing.specs.Degenerate.{degenerate_fault}
use Rattle.drc_container.specs.reading.Meaning.{Surface, Meaning}
use Rattle.drc_container.proofs.lemmas.reading.Parted.{parts}
use Rattle.drc_verify.specs.declared.verdicts.Verdict.{Verdict}
use Rattle.drc_verify.specs.declared.verdicts.Verdict.TheVariants as verdict
use Rattle.drc_verify.specs.Judged.{rows_verdict}
use Rattle.drc_verify.specs.SideTests.{is_glued_alike, first_other}
use Rattle.drc_verify.specs.Checked.{has_position, mesh_asked, pairs_asked, with_pairs, glued_verdict, surface_verdict}
use Rattle.drc_verify.specs.Laws.{VerdictSays, SaysSides}
use Rattle.drc_verify.specs.GluedLaws.{HavePairs, IsGluedAs, IsGluedByRows, IsByRows, GluedYesIsSame, GluedSays, GluedVerdictsAreTold}
use Rattle.drc_verify.proofs.FirstsFound.{first_failing-all}
use Rattle.drc_verify.proofs.SidesDecided.{partners-decide, sides-told}
use Rattle.drc_verify.proofs.Yes.{yes-same, verdicts-told}

-- a stream with this surface
abbrev at : Meaning → Option Surface → Meaning
at n o = record { geometry = n.geometry; surface = o; info = n.info }

-- where no side differs by number, none does
alike : (s : Surface) (h : Gluing) → SaysSides (3 * s.faces) s.glued h None → IsGluedAs s h
alike s h none = λ x below.
    ap s.glued (sym (side_at-number x)) ∙ none (number x) (number-lt x s.faces below) ∙ ap h (side_at-number x)

-- where all sides are glued alike, none is found
none-found : (s : Surface) (h : Gluing) → IsGluedAs s h → first_other (3 * s.faces) s.glued h ≡ None
none-found s h same =
    first_failing-all (is_glued_alike s.glued h) (3 * s.faces) (λ i below.
    (partners-decide (s.glued (side_at i)) (h (side_at i))).1 (same (side_at i) (omega (arith, below))))

-- by the verdict on rows and the first side that differs
told : (cloud : Bool) (m : MeshParts) (rows : Rows) (n : Meaning) (s : Surface) (v : Verdict) (o : Option ℕ)
    → VerdictSays cloud (Mesh m) n.geometry rows v → SaysSides (3 * s.faces) s.glued (carried (pairing m) rows) o
    → GluedSays cloud (Mesh m) (at n (Some s)) rows (with_pairs v o)
told cloud m rows n s verdict.Same None says sides = (says, alike s (carried (pairing m) rows) sides)
told cloud m rows n s verdict.Same (Some i) says sides = (says, sides)
told cloud m rows n s verdict.Heads o says sides = says
told cloud m rows n s (verdict.Rows r) o says sides = says
told cloud m rows n s (verdict.Row i) o says sides = says
told cloud m rows n s (verdict.Pair i) o says sides = absurd says

-- of a mesh and a surface
glued-told : (cloud : Bool) (m : MeshParts) (rows : Rows) (n : Meaning) (s : Surface)
    → GluedSays cloud (Mesh m) (at n (Some s)) rows (glued_verdict cloud m n.geometry rows (pairing m) s)
glued-told cloud m rows n s =
    told cloud m rows n s (rows_verdict cloud (Mesh m) n.geometry rows) (first_other (3 * s.faces) s.glued (carried (pairing m) rows))
    (verdicts-told cloud (Mesh m) n.geometry rows) (sides-told (3 * s.faces) s.glued (carried (pairing m) rows))

-- ---- what was asked for is there

-- a mesh that begins with a position, and has no degenerate face
position-there : (m p : MeshParts) → mesh_asked (Mesh m) ≡ Ok p → (has_position m.heads ≡ true) × (m ≡ p)
position-there m p is = there (has_position m.heads) is
  where
    there : (b : Bool) → value_unless (unless b NoPosition 0) m ≡ Ok p → (b ≡ true) × (m ≡ p)
    there true e = (refl, Ok-injective e)
    there false e = absurd (err≢ok e)

pairs-there : (m : MeshParts) (h : Gluing) → pairs_asked m ≡ Ok h → (degenerate_fault m ≡ None) × (pairing m ≡ h)
pairs-there m h is = there (degenerate_fault m) is
  where
    there : (o : Option Fault) → value_unless o (pairing m) ≡ Ok h → (o ≡ None) × (pairing m ≡ h)
    there None e = (refl, Ok-injective e)
    there (Some f) e = absurd (err≢ok e)

-- the parts of a verdict with surfaces of a text and a stream with this surface
surface-parts : (cloud : Bool) (rows : Rows) (g : Geometry) (n : Meaning) (o : Option Surface) (v : Verdict)
    → surface_verdict cloud rows g (at n o) ≡ Ok v → HavePairs g o × GluedSays cloud g (at n o) rows v
unfolding surface_verdict
surface-parts cloud rows g n None v is = absurd (err≢ok is)
surface-parts cloud rows (Cloud c) n (Some s) v is = absurd (err≢ok is)
surface-parts cloud rows (Mesh m) n (Some s) v is =
    let a = parts (mesh_asked (Mesh m)) _ v is in
    let b = parts (pairs_asked a.0) _ v a.2 in
    let first = position-there m a.0 a.1 in
    let second = pairs-there m b.0 (ap pairs_asked first.1 ∙ b.1) in
    let verdict : glued_verdict cloud m n.geometry rows (pairing m) s ≡ v =
    ap (λ p. glued_verdict cloud p n.geometry rows (pairing m) s) first.1
    ∙ ap (λ p. glued_verdict cloud a.0 n.geometry rows p s) second.1 ∙ Ok-injective b.2 in (
      (first.0, second.0),
      subst (GluedSays cloud (Mesh m) (at n (Some s)) rows) verdict (glued-told cloud m rows n s),
    )

pub glued-verdicts-told : GluedVerdictsAreTold
glued-verdicts-told cloud rows g n v is = surface-parts cloud rows g n n.surface v is

-- ---- a yes

yes-back : (cloud : Bool) (rows : Rows) (g : Geometry) (n : Meaning) (o : Option Surface)
    → HavePairs g o → IsByRows cloud g n.geometry rows → IsGluedByRows g o rows → surface_verdict cloud rows g (at n o) ≡ Ok verdict.Same
unfolding surface_verdict
yes-back cloud rows (Mesh m) n None have right glued = absurd have
yes-back cloud rows (Cloud c) n o have right glued = absurd have
yes-back cloud rows (Mesh m) n (Some s) have right glued =
    let h = carried (pairing m) rows in
    let mesh : mesh_asked (Mesh m) ≡ Ok m = ap (λ b. value_unless (unless b NoPosition 0) m) have.0 in
    let pairs : pairs_asked m ≡ Ok (pairing m) = ap (λ o. value_unless o (pairing m)) have.1 in
    let yes : glued_verdict cloud m n.geometry rows (pairing m) s ≡ verdict.Same =
    ap (λ v. with_pairs v (first_other (3 * s.faces) s.glued h)) ((yes-same cloud (Mesh m) n.geometry rows).1 right)
    ∙ ap (with_pairs verdict.Same) (none-found s h glued) in
    let Next : MeshParts → Result Verdict Fault = λ p. pairs_asked p >>= λ q. Ok (glued_verdict cloud p n.geometry rows q s) in
    ap (λ r. r >>= Next) mesh
    ∙ ap (λ r. r >>= λ q. Ok (glued_verdict cloud m n.geometry rows q s)) pairs ∙ ap Ok yes

pub glued-yes-same : GluedYesIsSame
glued-yes-same cloud rows g n = (
  λ yes. surface-parts cloud rows g n n.surface verdict.Same yes,
  λ h. yes-back cloud rows g n n.surface h.0 h.1.0 h.1.1,
)
