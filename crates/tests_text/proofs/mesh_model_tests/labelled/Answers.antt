-- the groups of the call are those that assembling asks for
use Rattle.std.proofs.Common.{◌≡◌, ℕ, ℤ, ◌+◌, ◌*◌, ◌≤◌, true, leb, None, List, [], ◌∷◌, length, pos, refl, lit≤}
use Rattle.std.specs.Prelude.{IsTrue}
use Rattle.std.specs.List.{All, list_all}
use Rattle.std.proofs.lemmas.Bool.{leb-true}
use Rattle.std.proofs.lemmas.List.Elements.{All-cons, All-nil}
use Rattle.attr_heads.specs.declared.heads.Head.{Head}
use Rattle.mesh_model.specs.Groups.{AttrTable, GroupParts, HasVertices, group_tables}
use Rattle.attr_heads.specs.Bounds.{in_bounds, bounds_of}
use Rattle.attr_heads.specs.Head.{heads_fault}
use Rattle.mesh_model.specs.Assembled.{IsAttrTable, AreTables}
use Rattle.tests_text.proofs.Columns.{All-tested, HasVertices-tested}
use Rattle.tests_text.proofs.mesh_model_tests.labelled.Goals as goal

-- a table whose parts pass their tests
IsAttrTable-tested : (corners : ℕ) (h : Head) (t : AttrTable) → length t.of_corner ≡ corners
    → list_all (λ e. leb ((e + 1) * h.comps) (length t.values)) t.of_corner ≡ true → list_all (in_bounds (bounds_of h)) t.values ≡ true
    → IsAttrTable corners (h, t)
IsAttrTable-tested corners h t each entries values = record {
  each_corner = each;
  entries = All-tested (λ e. leb ((e + 1) * h.comps) (length t.values)) (λ e. (e + 1) * h.comps ≤ length t.values)
      (λ e passes. leb-true _ _ passes) t.of_corner entries;
  values = All-tested (in_bounds (bounds_of h)) (λ value. IsTrue (in_bounds (bounds_of h) value)) (λ value passes. passes) t.values values;
}

abbrev place : Head
place = record { usage = 0; dtype = 5; comps = 3; normalized = 0; id = 0; quant = None; octa = None }

abbrev label : Head
label = record { usage = 4; dtype = 2; comps = 1; normalized = 0; id = 1; quant = None; octa = None }

abbrev places : List ℤ
places = pos 0 ∷ pos 0 ∷ pos 0 ∷ pos 1 ∷ pos 0 ∷ pos 0 ∷ pos 1 ∷ pos 1 ∷ pos 0 ∷ pos 0 ∷ pos 1 ∷ pos 0 ∷ pos 0 ∷ pos 0 ∷ pos 0 ∷ []

abbrev labels : List ℤ
labels = pos 7 ∷ pos 9 ∷ []

abbrev place_group : List (List ℤ) → GroupParts
place_group values = record {
  of_corner = 0 ∷ 1 ∷ 2 ∷ 0 ∷ 2 ∷ 3 ∷ 4 ∷ 2 ∷ 3 ∷ [];
  entry_of = 0 ∷ 1 ∷ 2 ∷ 3 ∷ 4 ∷ [];
  values = values;
}

abbrev label_group : List (List ℤ) → GroupParts
label_group values = record { of_corner = 0 ∷ 0 ∷ 0 ∷ 0 ∷ 1 ∷ 0 ∷ 0 ∷ 0 ∷ 0 ∷ []; entry_of = 0 ∷ 1 ∷ []; values = values }

abbrev groups : List GroupParts
groups = place_group (places ∷ []) ∷ label_group (labels ∷ []) ∷ []

abbrev place_table : AttrTable
place_table = record { values = places; of_corner = 0 ∷ 1 ∷ 2 ∷ 0 ∷ 2 ∷ 3 ∷ 4 ∷ 2 ∷ 3 ∷ [] }

abbrev label_table : AttrTable
label_table = record { values = labels; of_corner = 0 ∷ 0 ∷ 0 ∷ 0 ∷ 1 ∷ 0 ∷ 0 ∷ 0 ∷ 0 ∷ [] }

are_tables : AreTables (place ∷ label ∷ []) (group_tables groups) 3
unfolding heads_fault in_bounds
are_tables = record {
  heads_pass = refl;
  few_faces = lit≤ tt;
  columns = record {
    each_head = refl;
    each_column = All-cons (IsAttrTable 9) (place, place_table) ((label, label_table) ∷ []) (IsAttrTable-tested 9 place place_table refl refl refl)
        (All-cons (IsAttrTable 9) (label, label_table) [] (IsAttrTable-tested 9 label label_table refl refl refl) (All-nil (IsAttrTable 9)));
  };
}

have_vertices : All (HasVertices 9) groups
have_vertices =
    All-cons (HasVertices 9) (place_group (places ∷ [])) (label_group (labels ∷ []) ∷ [])
    (HasVertices-tested 9 (place_group (places ∷ [])) refl refl)
    (All-cons (HasVertices 9) (label_group (labels ∷ [])) [] (HasVertices-tested 9 (label_group (labels ∷ [])) refl refl) (All-nil (HasVertices 9)))

pub assemble-requires-clause-tables : goal.assemble-requires-clause-tables
assemble-requires-clause-tables c =
    rw (
      c.in_ok-heads.ensures.items,
      c.positions.ensures,
      c.as_slice-3.ensures.value,
      c.in_ok-groups.ensures.items,
      c.as_slice.ensures.value,
      c.in_ok-values.ensures.items,
      c.in_ok-places.ensures,
      c.as_slice-2.ensures.value,
      c.in_ok-labels.ensures.items,
      c.from_vec.ensures,
      c.in_ok-vec.ensures.items,
    )
    are_tables
