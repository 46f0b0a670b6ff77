-- The faces that an order keeps are those that foretell its entries.
use Rattle.std.proofs.Common.{◌≡◌, ℕ, ◌<◌, List, length, get_or, Option, sym, subst, ◌∙◌, ap, arith}
use Rattle.std.specs.Option.{IfSome}
use Rattle.std.proofs.lemmas.List.{length-map, get_or_default}
use Rattle.corner_table.specs.declared.corner_lists.FaceAcross.{FaceAcross}
use Rattle.corner_table.specs.declared.corner_lists.Order.{Order}
use Rattle.corner_table.specs.Sides.{side_at}
use Rattle.corner_table.specs.Table.{Table}
use Rattle.corner_table.specs.Ordered.{Ordered, AreFaces, IsBelow, IsOrdered, at_corner, corner_at, kept_face, no_face}
use Rattle.predict.specs.Parallelogram.{by_one, parallelogram}
use Rattle.predict.specs.Entry.{Foretells}
use Rattle.predict.proofs.Entries.{foretells_one}
use Rattle.predict.proofs.Around.{at_corner-below}

module _ (w : Ordered) (faces : List FaceAcross) (F : AreFaces w faces) (e : ℕ) (h : e < length faces) (d : FaceAcross) where
  -- the face across that is read for an entry
  pub face_is : kept_face (get_or faces e d) ≡ at_corner w e (corner_at w e)
  face_is = ap kept_face (get_or_default faces e d no_face h) ∙ F.kept e (let l = F.each_entry in omega arith)

  -- its entries come before
  pub face_before : IfSome (kept_face (get_or faces e d)) (IsBelow e)
  face_before = subst (λ (o : Option FaceAcross). IfSome o (IsBelow e)) (sym face_is) (at_corner-below w e (corner_at w e))

  -- and the parallelogram over it foretells the entry
  pub face_foretells : (comps : ℕ) → Foretells (parallelogram w comps) comps e (by_one comps (kept_face (get_or faces e d)))
  face_foretells comps = subst (λ (o : Option FaceAcross). Foretells (parallelogram w comps) comps e (by_one comps o)) (sym face_is) (foretells_one w comps e)

-- an order keeps a face for each entry
pub faces_long : (t : Table) (labels : List ℕ) (o : Order) → IsOrdered t labels o → length o.faces_across ≡ length o.corner_of_entry
faces_long t labels o O = let F = O.faces in F.each_entry ∙ length-map o.corner_of_entry side_at
