-- What a restored stream means.
use Rattle.std.proofs.Common.{◌≡◌, ℕ, List, Ok, sym, subst}
use Rattle.drc_base.specs.Profile.{profile_numbered}
use Rattle.attr_heads.specs.declared.heads.Head.{Head}
use Rattle.mesh_model.specs.declared.geometries.Geometry.{Geometry}
use Rattle.mesh_model.specs.declared.geometries.Geometry.TheVariants.{Mesh, Cloud}
use Rattle.mesh_model.specs.Contents.{heads_in}
use Rattle.mesh_model.specs.IsGeometry.{IsGeometry}
use Rattle.mesh_model.specs.Renumbering.{plain}
use Rattle.mesh_model.specs.Same.{Rows, Same}
use Rattle.mesh_model.specs.SameLaws.{count_of, SameIsTransitive}
use Rattle.drc_container.specs.declared.choice.methods.Method.TheVariants as method
use Rattle.drc_container.specs.choice.Choice.{predict_of}
use Rattle.drc_container.specs.choice.Predicts.{needed_number}
use Rattle.drc_container.specs.reading.Stream.{meaning_in}
use Rattle.drc_recode.specs.FirstOrder.{first_order, FirstOrderIsSame}
use Rattle.drc_recode.specs.Restored.{sequential_choice, MeansInOrder}
use Rattle.drc_recode.proofs.FirstOrders.{same-in_order}

-- geometries that are the same have the same heads
same-heads : (g h : Geometry) (rows : Rows) → Same g h rows → heads_in g ≡ heads_in h
same-heads (Mesh m) (Mesh n) rows same = same.heads
same-heads (Cloud m) (Cloud n) rows same = same.heads
same-heads (Mesh m) (Cloud n) rows same = absurd same
same-heads (Cloud m) (Mesh n) rows same = absurd same

-- what is the first order in order is the geometry that it was
pub restored-order : SameIsTransitive → FirstOrderIsSame → (g n first : Geometry) (rows : Rows) (bytes : List ℕ) → IsGeometry n → first ≡ first_order n rows
    → Same g n rows → MeansInOrder first bytes → MeansInOrder g bytes
restored-order transitive again g n first rows bytes sound is same means =
    let ordered : Same g first (plain (count_of g)) = subst (λ h. Same g h (plain (count_of g))) (sym is) (again g n rows sound same) in
    record {
      decoded = means.decoded;
      read = subst (λ (heads : List Head). meaning_in (profile_numbered (needed_number (predict_of method.Seq sequential_choice) heads)) bytes ≡ Ok means.decoded) (sym (same-heads g first (plain (count_of g)) ordered)) means.read;
      same = same-in_order transitive g first means.decoded ordered means.same;
    }
