-- the group of a call is one of three corners for each of three faces, whose vertices have places
use Rattle.std.proofs.Common.{◌≡◌, ℕ, ℤ, ◌+◌, ◌*◌, ◌<◌, ◌≤◌, true, ltb, None, List, [], ◌∷◌, length, slice_index, pos, refl, ◌∙◌, lit≤, arith}
use Rattle.std.specs.Prelude.{IsTrue}
use Rattle.std.specs.List.{All, list_all}
use Rattle.std.proofs.lemmas.List.{length-map}
use Rattle.std.proofs.lemmas.List.Elements.{All-weaker, All-cons, All-nil}
use Rattle.attr_heads.specs.declared.heads.Head.{Head}
use Rattle.mesh_model.specs.Groups.{AttrTable, GroupParts, HasVertices, corner_entries, group_tables}
use Rattle.attr_heads.specs.Bounds.{in_bounds, bounds_of}
use Rattle.attr_heads.specs.Head.{heads_fault}
use Rattle.mesh_model.specs.Assembled.{IsAttrTable, AreTables}
use Rattle.tests_text.proofs.Columns.{All-tested, entries-below, HasVertices-tested}
use Rattle.tests_text.proofs.mesh_model_tests.placed.Goals as goal

abbrev place : Head
place = record { usage = 0; dtype = 5; comps = 3; normalized = 0; id = 0; quant = None; octa = None }

abbrev places : List ℤ
places = pos 0 ∷ pos 0 ∷ pos 0 ∷ pos 1 ∷ pos 0 ∷ pos 0 ∷ pos 1 ∷ pos 1 ∷ pos 0 ∷ pos 0 ∷ pos 1 ∷ pos 0 ∷ pos 0 ∷ pos 0 ∷ pos 0 ∷ []

abbrev group_with : List ℕ → List ℕ → List (List ℤ) → GroupParts
group_with of_corner entry_of values = record { of_corner = of_corner; entry_of = entry_of; values = values }

abbrev group : List ℕ → List ℕ → GroupParts
group of_corner entry_of = group_with of_corner entry_of (places ∷ [])

abbrev table : List ℕ → List ℕ → AttrTable
table of_corner entry_of = record { values = places; of_corner = corner_entries (group of_corner entry_of) }

-- the table of the group has an entry of a place for each corner
is_table : (of_corner entry_of : List ℕ) → length of_corner ≡ 9 → list_all (λ v. ltb v (length entry_of)) of_corner ≡ true
    → list_all (λ e. ltb e 5) entry_of ≡ true → IsAttrTable 9 (place, table of_corner entry_of)
unfolding in_bounds
is_table of_corner entry_of corners vertices entries = record {
  each_corner = length-map of_corner (λ v. slice_index entry_of v) ∙ corners;
  entries = All-weaker (λ e. e < 5) (λ e. (e + 1) * 3 ≤ 15) (λ e below. omega arith) (corner_entries (group of_corner entry_of))
      (entries-below 5 of_corner entry_of vertices entries);
  values = All-tested (in_bounds (bounds_of place)) (λ value. IsTrue (in_bounds (bounds_of place) value)) (λ value passes. passes) places refl;
}

are_tables : (of_corner entry_of : List ℕ) → length of_corner ≡ 9 → list_all (λ v. ltb v (length entry_of)) of_corner ≡ true
    → list_all (λ e. ltb e 5) entry_of ≡ true → AreTables (place ∷ []) (group_tables (group of_corner entry_of ∷ [])) 3
unfolding heads_fault
are_tables of_corner entry_of corners vertices entries = record {
  heads_pass = refl;
  few_faces = lit≤ tt;
  columns = record {
    each_head = refl;
    each_column = All-cons (IsAttrTable 9) (place, table of_corner entry_of) [] (is_table of_corner entry_of corners vertices entries)
        (All-nil (IsAttrTable 9));
  };
}

have_vertices : (of_corner entry_of : List ℕ) → length of_corner ≡ 9 → list_all (λ v. ltb v (length entry_of)) of_corner ≡ true
    → All (HasVertices 9) (group of_corner entry_of ∷ [])
have_vertices of_corner entry_of corners vertices =
    All-cons (HasVertices 9) (group of_corner entry_of) [] (HasVertices-tested 9 (group of_corner entry_of) corners vertices)
    (All-nil (HasVertices 9))

pub assemble-requires-clause-tables : goal.assemble-requires-clause-tables
assemble-requires-clause-tables c =
    rw (c.in_ok-heads.ensures.items, c.positions.ensures, c.as_slice-2.ensures.value, c.in_ok-groups.ensures.items, c.as_slice.ensures.value, c.in_ok-values.ensures.items, c.in_ok-places.ensures)
    (are_tables c.args.of_corner.now c.args.entry_of.now c.requires.corners c.requires.vertices c.requires.entries)
