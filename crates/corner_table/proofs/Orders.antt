-- What makes an order one over a table, and a face one that it can keep.
use Rattle.std.proofs.Common.{◌≡◌, ℕ, ◌*◌, ◌<◌, List, length, get_or, Option, Some, None, ◌∙◌, arith}
use Rattle.std.specs.List.{All}
use Rattle.std.specs.Option.{IfSome}
use Rattle.std.proofs.lemmas.List.{length-map}
use Rattle.std.proofs.lemmas.List.Elements.{All-map, All-weaker}
use Rattle.corner_table.specs.declared.corner_lists.FaceAcross.{FaceAcross}
use Rattle.corner_table.specs.declared.corner_lists.Order.{Order}
use Rattle.corner_table.specs.Sides.{Side, side_at}
use Rattle.corner_table.specs.Table.{Table, free_entry}
use Rattle.corner_table.specs.Ordered.{IsBelow, IsOrdered, KeepsFaces, ordered}
use Rattle.corner_table.proofs.Numbers.{face-lt}

-- a class for each corner, an entry for each class, entries at corners of the table, and the faces across
pub is_ordered : (t : Table) (labels : List ℕ) (o : Order) → length labels ≡ 3 * t.faces → All (λ (k : ℕ). k < length o.entry_of_class) labels
    → All (λ (c : ℕ). c < 3 * t.faces) o.corner_of_entry → KeepsFaces (ordered t labels o) o → IsOrdered t labels o
is_ordered t labels o each classes corners faces = record {
  over = record {
    each_corner = length-map labels (λ (k : ℕ). get_or o.entry_of_class k 0) ∙ each;
    corners = All-map (λ (c : Side). c.face < t.faces) side_at o.corner_of_entry
        (All-weaker (λ (c : ℕ). c < 3 * t.faces) (λ (c : ℕ). (side_at c).face < t.faces) (λ c h. face-lt c t.faces h) o.corner_of_entry corners);
  };
  classes = classes;
  faces = faces;
}

-- a face whose entries come before one has no free entry
pub entry_real : (o : Option FaceAcross) (e : ℕ) → e < free_entry → IfSome o (IsBelow e) → IfSome o (λ t. t.across < free_entry)
entry_real None e h b = tt
entry_real (Some t) e h b = (let a = b.across in omega arith)
