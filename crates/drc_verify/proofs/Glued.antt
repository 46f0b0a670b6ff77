-- What a yes says of the glued pairs.
use Rattle.std.proofs.Common.{◌≡◌, ◌↔◌, ℕ, ◌*◌, ◌≤◌, Bool, true, length, nat_lt, Option, None, Some, Result, Ok, Err, sym, ap, ◌∙◌, subst, refl, inl, inr, arith}
use Rattle.std.specs.Prelude.{IfOk}
use Rattle.std.proofs.lemmas.Bool.{cond-false, le-ltb}
use Rattle.drc_base.specs.declared.faults.Fault.{Fault}
use Rattle.drc_base.specs.declared.faults.Refusal.{Refusal}
use Rattle.drc_base.specs.declared.faults.Refusal.TheVariants as refusal
use Rattle.drc_base.specs.Refusals.{Answers}
use Rattle.drc_bits.proofs.Results.{Ok-injective, err≢ok}
use Rattle.mesh_model.specs.declared.geometries.Geometry.{Geometry}
use Rattle.mesh_model.specs.declared.geometries.Geometry.TheVariants.{Mesh, Cloud}
use Rattle.attr_heads.specs.FirstFault.{value_unless}
use Rattle.mesh_model.specs.Parts.{MeshParts}
use Rattle.mesh_model.specs.Same.{Rows, Same, SameMesh}
use Rattle.mesh_model.specs.Contents.{faces_in}
use Rattle.corner_table.specs.Sides.{Side, Gluing, IsGluing}
use Rattle.corner_table.specs.Carried.{IsRenumbering}
use Rattle.corner_table.specs.Table.{Table, gluing_of}
use Rattle.corner_table.proofs.Places.{option_tells}
use Rattle.pairing.specs.Pairing.{pairing}
use Rattle.pairing.specs.CarriedPairs.{carried}
use Rattle.pairing.specs.Degenerate.{degenerate_fault}
use Rattle.drc_container.specs.reading.Meaning.{Surface, Meaning}
use Rattle.drc_container.proofs.lemmas.reading.Parted.{parts}
use Rattle.drc_verify.specs.declared.verdicts.Verdict.{Verdict}
use Rattle.drc_verify.specs.declared.verdicts.Verdict.TheVariants as verdict
use Rattle.drc_verify.specs.Judged.{rows_verdict, AreOneKind}
use Rattle.drc_verify.specs.SideTests.{first_other}
use Rattle.drc_verify.specs.Checked.{surface_asked, table_surface, mesh_asked, pairs_asked, with_pairs, glued_verdict, surface_verdict, HasPairs, IsSame, HasFaces}
use Rattle.drc_verify.proofs.Yes.{mesh-given, apart, new-row, yes-same}
use Rattle.drc_verify.proofs.SidesDecided.{one-gluing, none-other}

-- rows by which one mesh is another are new numbers of its faces
pub renumbers : (m n : MeshParts) (rows : Rows) → SameMesh m n rows → IsRenumbering (length m.faces) rows
renumbers m n rows same =
    let many = mesh-given m n rows same in
    record {
      one_each = many;
      within = λ i below. same.each_face.within i (0, 0) (omega (arith, many));
      turns = λ i below. (same.faces i (omega (arith, many, same.each_row))).0;
      apart = λ i j bi bj e.
          apart rows (length m.faces) (length m.faces) (λ k b. new-row (length m.faces) rows same.each_face k (omega (arith, many))) i j bi bj e;
    }

-- so are rows that are right
pub right-renumbers : (cloud : Bool) (m : MeshParts) (n : Geometry) (rows : Rows) → rows_verdict cloud (Mesh m) n rows ≡ verdict.Same
    → IsRenumbering (length m.faces) rows
right-renumbers cloud m (Mesh n) rows right = renumbers m n rows ((yes-same cloud (Mesh m) (Mesh n) rows).0 right).1
right-renumbers cloud m (Cloud n) rows right = absurd ((yes-same cloud (Mesh m) (Cloud n) rows).0 right).1

-- both rows and pairs are right
with-pairs-same : (v : Verdict) (other : Option ℕ) → with_pairs v other ≡ verdict.Same → (v ≡ verdict.Same) × (other ≡ None)
with-pairs-same verdict.Same None is = (refl, refl)
with-pairs-same verdict.Same (Some s) is = cc
with-pairs-same verdict.Heads other is = cc
with-pairs-same (verdict.Rows r) other is = cc
with-pairs-same (verdict.Row i) other is = cc
with-pairs-same (verdict.Pair s) other is = cc

-- as many rows as faces
read-many : (m : MeshParts) (n : Geometry) (rows : Rows) → Same (Mesh m) n rows → length rows ≡ length (faces_in n)
read-many m (Mesh n) rows same = same.each_row
read-many m (Cloud n) rows same = absurd same

-- the carried pairs are of the faces that the rows number
carried-beyond : (g : Gluing) (rows : Rows) (x : Side) → length rows ≤ x.face → carried g rows x ≡ None
carried-beyond g rows x past = cond-false (nat_lt x.face (length rows)) _ _ (le-ltb x.face (length rows) past)

glued-same : (cloud : Bool) (m : MeshParts) (n : Geometry) (rows : Rows) (s : Surface) → length (faces_in n) ≡ s.faces → IsGluing s.faces s.glued
    → (glued_verdict cloud m n rows (pairing m) s ≡ verdict.Same)
    ↔ ((AreOneKind cloud (Mesh m) n × Same (Mesh m) n rows) × (s.glued ≡ carried (pairing m) rows))
glued-same cloud m n rows s many is = (
  λ yes.
      let both = with-pairs-same (rows_verdict cloud (Mesh m) n rows) (first_other (3 * s.faces) s.glued (carried (pairing m) rows)) yes in
      let same = (yes-same cloud (Mesh m) n rows).0 both.0 in
      let read = read-many m n rows same.1 in (
        same,
        one-gluing s.faces s.glued (carried (pairing m) rows) is
            (λ x past. carried-beyond (pairing m) rows x (omega (arith, read, many))) both.1,
      ),
  λ h.
      ap (λ v. with_pairs v (first_other (3 * s.faces) s.glued (carried (pairing m) rows))) ((yes-same cloud (Mesh m) n rows).1 h.0)
      ∙ ap (with_pairs verdict.Same) (none-other s.faces s.glued (carried (pairing m) rows) h.1),
)

-- ---- what was asked for is there

surface-is : (o : Option Surface) (s : Surface) → surface_asked o ≡ Ok s → o ≡ Some s
surface-is None s is = absurd (err≢ok is)
surface-is (Some t) s is = ap Some (Ok-injective is)

value-is : {A : Type 0} (o : Option Fault) (x y : A) → value_unless o x ≡ Ok y → x ≡ y
value-is None x y is = Ok-injective is
value-is (Some f) x y is = absurd (err≢ok is)

mesh-is : (g : Geometry) (m : MeshParts) → mesh_asked g ≡ Ok m → g ≡ Mesh m
mesh-is (Mesh n) m is = ap Mesh (value-is _ n m is)
mesh-is (Cloud c) m is = absurd (err≢ok is)

-- the pairs of a mesh, or its first degenerate face
pub pairs-told : (m : MeshParts) (r : Result Table Refusal) → IfOk r (λ t. gluing_of t ≡ pairing m)
    → ((f : Fault) → (r ≡ Err (refusal.Fault f)) ↔ (degenerate_fault m ≡ Some f)) → Answers gluing_of (pairs_asked m) r
pairs-told m (Ok t) pairs refused = elim (option_tells (degenerate_fault m)) [
  | inl none ↦ ap (λ o. value_unless o (pairing m)) none ∙ ap Ok (sym pairs)
  | inr some ↦ absurd (let no = (refused some.0).1 some.1 in cc)
]
pairs-told m (Err (refusal.Fault f)) pairs refused = ap (λ o. value_unless o (pairing m)) ((refused f).0 refl)
pairs-told m (Err refusal.Memory) pairs refused = tt

-- with surfaces a yes says that the pairs are the same too
pub surface-same : (cloud : Bool) (rows : Rows) (g : Geometry) (n : Meaning) (t : Table) (v : Verdict) → HasFaces n
    → surface_asked n.surface ≡ Ok (table_surface t) → IsGluing t.faces (gluing_of t) → surface_verdict cloud rows g n ≡ Ok v
    → (v ≡ verdict.Same) ↔ IsSame true cloud rows g n
unfolding surface_verdict
surface-same cloud rows g n t v has asked is due =
    let a = parts (surface_asked n.surface) _ v due in
    let b = parts (mesh_asked g) _ v a.2 in
    let e = parts (pairs_asked b.0) _ v b.2 in
    let m = b.0 in
    let s = table_surface t in
    let table : s ≡ a.0 = Ok-injective (sym asked ∙ a.1) in
    let given : n.surface ≡ Some s = surface-is n.surface s asked in
    let pairs : pairing m ≡ e.0 = value-is (degenerate_fault m) (pairing m) e.0 e.1 in
    let told : glued_verdict cloud m n.geometry rows (pairing m) s ≡ v =
    ap (λ p. glued_verdict cloud m n.geometry rows p s) pairs
    ∙ ap (glued_verdict cloud m n.geometry rows e.0) table ∙ Ok-injective e.2 in
    let P : Geometry → Option Surface → Verdict → Type 0 = λ h o w.
    (w ≡ verdict.Same) ↔ ((AreOneKind cloud h n.geometry × Same h n.geometry rows) × HasPairs h o rows) in
    subst (λ h. P h n.surface v) (sym (mesh-is g m b.1))
    (subst (λ o. P (Mesh m) o v) (sym given)
    (subst (P (Mesh m) (Some s)) told (glued-same cloud m n.geometry rows s (has.faces s given) is)))
