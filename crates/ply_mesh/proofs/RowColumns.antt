-- The bounds of a row, head by head.
use Rattle.std.proofs.Common.{◌≡◌, ℕ, ◌+◌, ◌<◌, ◌≤◌, true, List, [], ◌++◌, length, drop, get_or, None, refl, sym, ap, subst, ◌∙◌, append_assoc}
use Rattle.std.specs.Prelude.{replicate}
use Rattle.std.proofs.lemmas.List.{at_drop_more, at_drop_all, append-nil}
use Rattle.attr_heads.specs.declared.bounds.Bounds.{Bounds}
use Rattle.attr_heads.specs.declared.heads.Head.{Head}
use Rattle.attr_heads.specs.Bounds.{bounds_of}
use Rattle.attr_heads.specs.Head.{heads_fault, row_bounds}
use Rattle.attr_heads.specs.Octahedra.{has_square_bits}
use Rattle.attr_heads.proofs.Passing.{heads_say}

-- the columns so far and those of the heads that are left are all
pub record AreColumns (heads : List Head) (columns : List Bounds) (i : ℕ) : Type 0 where
  pub whole : columns ++ row_bounds (drop i heads) ≡ row_bounds heads

pub no_columns : (heads : List Head) → AreColumns heads [] 0
no_columns heads = record { whole = refl }

pub more_columns : (heads : List Head) (columns : List Bounds) (i : ℕ) (h : Head) → i < length heads → h ≡ get_or heads i h → AreColumns heads columns i
    → AreColumns heads (columns ++ replicate h.comps (bounds_of h)) (i + 1)
more_columns heads columns i h lt e so_far = record {
  whole =
      append_assoc columns (replicate h.comps (bounds_of h)) (row_bounds (drop (i + 1) heads))
      ∙ ap (λ (x : Head). columns ++ (replicate x.comps (bounds_of x) ++ row_bounds (drop (i + 1) heads))) e
      ∙ ap (λ (bs : List Bounds). columns ++ bs) (sym (at_drop_more row_bounds heads i h lt))
      ∙ so_far.whole;
}

pub all_columns : (heads : List Head) (columns : List Bounds) (i : ℕ) → length heads ≤ i → AreColumns heads columns i → columns ≡ row_bounds heads
all_columns heads columns i le h = sym (append-nil columns) ∙ ap (λ (bs : List Bounds). columns ++ bs) (sym (at_drop_all row_bounds heads i le)) ∙ h.whole

-- the square of a head that passes has bits that are accepted
pub square_bits : (heads : List Head) (i : ℕ) (h : Head) → i < length heads → h ≡ get_or heads i h → heads_fault heads ≡ None → has_square_bits h.octa ≡ true
square_bits heads i h lt e pass = subst (λ (x : Head). has_square_bits x.octa ≡ true) (sym e) ((heads_say heads pass).each i h lt).square
