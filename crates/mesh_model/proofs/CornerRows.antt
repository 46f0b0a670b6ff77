-- The rows of corners fit the heads of their columns.
use Rattle.std.proofs.Common.{◌≡◌, ℕ, ◌+◌, ◌-◌, ◌*◌, ◌<◌, ◌≤◌, true, List, [], ◌∷◌, ◌++◌, length, get_or, drop, replicate, pos, refl, ap, ◌∙◌, inl, inr, arith}
use Rattle.std.specs.List.{All, zip}
use Rattle.std.proofs.lemmas.Bool.{cases_lt}
use Rattle.std.proofs.lemmas.List.{length-append, length-take, length-drop, length-replicate, get_or-replicate, get_or_append_left, get_or-append_right, get_or-take, get_or-drop}
use Rattle.std.proofs.lemmas.List.Elements.{All-head, All-tail}
use Rattle.std.proofs.lemmas.List.Sums.{sum_by-cons}
use Rattle.attr_heads.specs.declared.heads.Head.{Head}
use Rattle.mesh_model.specs.Groups.{AttrTable}
use Rattle.attr_heads.specs.Bounds.{in_bounds, no_bounds, bounds_of}
use Rattle.attr_heads.specs.Head.{width_of, row_bounds}
use Rattle.mesh_model.specs.Parts.{RowFits}
use Rattle.mesh_model.specs.Assembled.{corner_row, column_entry, IsAttrTable}

-- an entry has the head's components
length-entry : (corners c : ℕ) (h : Head) (t : AttrTable) → IsAttrTable corners (h, t) → c < corners → length (column_entry c (h, t)) ≡ h.comps
length-entry corners c h t is below =
    let e = get_or t.of_corner c 0 in
    let fits : (e + 1) * h.comps ≤ length t.values = is.entries c 0 (omega (arith, is.each_corner)) in
    simp (length-take, length-drop) (omega arith)

-- each value of an entry is within the head's bounds
entry-in_bounds : (corners c j : ℕ) (h : Head) (t : AttrTable) → IsAttrTable corners (h, t) → c < corners → j < h.comps → in_bounds (bounds_of h) (get_or (column_entry c (h, t)) j (pos 0)) ≡ true
entry-in_bounds corners c j h t is below narrow =
    let e = get_or t.of_corner c 0 in
    let fits : (e + 1) * h.comps ≤ length t.values = is.entries c 0 (omega (arith, is.each_corner)) in
    let at : get_or (column_entry c (h, t)) j (pos 0) ≡ get_or t.values (e * h.comps + j) (pos 0) =
    get_or-take h.comps (drop (e * h.comps) t.values) j (pos 0) narrow ∙ get_or-drop (e * h.comps) t.values j (pos 0) in
    ap (in_bounds (bounds_of h)) at ∙ is.values (e * h.comps + j) (pos 0) (omega arith)

-- the row of a corner fits the heads
pub RowFits-corner_row : (corners c : ℕ) (heads : List Head) (tables : List AttrTable) → length tables ≡ length heads → All (IsAttrTable corners) (zip heads tables) → c < corners → RowFits heads (corner_row (zip heads tables) c)
RowFits-corner_row corners c [] tables each fit below = (refl, λ j narrow. absurd (omega arith))
RowFits-corner_row corners c (h ∷ heads) [] each fit below = absurd (omega arith)
RowFits-corner_row corners c (h ∷ heads) (t ∷ tables) each fit below =
    let here : IsAttrTable corners (h, t) = All-head (IsAttrTable corners) (h, t) (zip heads tables) fit in
    let piece = column_entry c (h, t) in
    let rest = corner_row (zip heads tables) c in
    let rest_fits : RowFits heads rest = RowFits-corner_row corners c heads tables (omega arith) (All-tail (IsAttrTable corners) (h, t) (zip heads tables) fit) below in
    let long : length piece ≡ h.comps = length-entry corners c h t here below in
    let sum : width_of (h ∷ heads) ≡ h.comps + width_of heads = sum_by-cons (λ (g : Head). g.comps) h heads in
    let bounds : length (replicate h.comps (bounds_of h)) ≡ h.comps = length-replicate h.comps (bounds_of h) in (
      length-append piece rest ∙ omega (arith, long, rest_fits.0, sum),
      λ j narrow. elim (cases_lt j h.comps) [
        | inl front ↦
            let same : get_or (row_bounds (h ∷ heads)) j no_bounds ≡ bounds_of h =
            get_or_append_left (replicate h.comps (bounds_of h)) (row_bounds heads) no_bounds j (omega arith) ∙ get_or-replicate h.comps j (bounds_of h) no_bounds front in
            ap (λ b. in_bounds b (get_or (piece ++ rest) j (pos 0))) same
            ∙ ap (in_bounds (bounds_of h)) (get_or_append_left piece rest (pos 0) j (omega arith))
            ∙ entry-in_bounds corners c j h t here below front
        | inr back ↦
            let same : get_or (row_bounds (h ∷ heads)) j no_bounds ≡ get_or (row_bounds heads) (j - h.comps) no_bounds =
            get_or-append_right (replicate h.comps (bounds_of h)) (row_bounds heads) h.comps j no_bounds bounds back in
            ap (λ b. in_bounds b (get_or (piece ++ rest) j (pos 0))) same
            ∙ ap (in_bounds (get_or (row_bounds heads) (j - h.comps) no_bounds)) (get_or-append_right piece rest h.comps j (pos 0) long back)
            ∙ rest_fits.1 (j - h.comps) (omega (arith, sum))
      ],
    )
