-- What holds of the order of entries by prediction degree: it is the one that its rule leads to.
use Rattle.std.specs.Prelude.{◌≡◌, ℕ, Bool, List}
use Rattle.corner_table.specs.Sides.{Gluing, IsGluing}
use Rattle.corner_table.specs.Labels.{IsLabelled}
use Rattle.walk_order.specs.PredictionDegree.{prediction_degree_order}
use Rattle.laws_order.specs.Degree.{Traversal, start_of_mesh, next_face, Leads}

-- on every labelled surface the rule leads from the start to an end with the entries of this order
abbrev pub RuleLeadsToOrder : Type 0
RuleLeadsToOrder = (faces : ℕ) (g : Gluing) (labels : List ℕ) (count : ℕ) (ends : List Bool) → IsGluing faces g →
    IsLabelled faces g labels count ends →
    (q : Traversal) × Leads faces g labels 0 next_face start_of_mesh q × (q.entries ≡ prediction_degree_order faces g labels count)

-- and to no end with other entries
abbrev pub RuleLeadsToNoOther : Type 0
RuleLeadsToNoOther = (faces : ℕ) (g : Gluing) (labels : List ℕ) (count : ℕ) (ends : List Bool) → IsGluing faces g →
    IsLabelled faces g labels count ends → (q : Traversal) → Leads faces g labels 0 next_face start_of_mesh q →
    q.entries ≡ prediction_degree_order faces g labels count
