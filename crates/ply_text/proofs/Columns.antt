-- Columns head by head.
use Rattle.std.proofs.Common.{◌≡◌, ℕ, ◌+◌, ◌<◌, ◌≤◌, Bool, true, All, List, ◌++◌, length, drop, get_or, sym, ap, ◌∙◌, append_assoc}
use Rattle.std.specs.Prelude.{replicate}
use Rattle.std.proofs.lemmas.List.{at_drop_more, at_drop_all, append-nil}
use Rattle.attr_heads.specs.declared.heads.Head.{Head}
use Rattle.std.specs.List.{list_all}
use Rattle.std.proofs.lemmas.List.Sums.{AllPass-from_list_all}
use Rattle.ply_text.specs.Header.{column_types, is_head_typed}
use Rattle.ply_text.specs.PropertyTypes.{column_type}

-- the columns so far and those of the heads that are left are all
pub record AreColumns (heads : List Head) (types : List ℕ) (i : ℕ) : Type 0 where
  pub whole : types ++ column_types (drop i heads) ≡ column_types heads

pub more_columns : (heads : List Head) (types : List ℕ) (i : ℕ) (h : Head) → i < length heads → h ≡ get_or heads i h → AreColumns heads types i
    → AreColumns heads (types ++ replicate h.comps (column_type h.dtype)) (i + 1)
unfolding column_types
more_columns heads types i h lt e so_far = record {
  whole =
      append_assoc types (replicate h.comps (column_type h.dtype)) (column_types (drop (i + 1) heads))
      ∙ ap (λ (x : Head). types ++ (replicate x.comps (column_type x.dtype) ++ column_types (drop (i + 1) heads))) e
      ∙ ap (λ (ts : List ℕ). types ++ ts) (sym (at_drop_more column_types heads i h lt))
      ∙ so_far.whole;
}

pub all_columns : (heads : List Head) (types : List ℕ) (i : ℕ) → length heads ≤ i → AreColumns heads types i → types ≡ column_types heads
unfolding column_types
all_columns heads types i le h = sym (append-nil types) ∙ ap (λ (ts : List ℕ). types ++ ts) (sym (at_drop_all column_types heads i le)) ∙ h.whole

pub each_typed : (heads : List Head) (b : Bool) → b ≡ true → b ≡ list_all is_head_typed heads → All (λ h. is_head_typed h ≡ true) heads
each_typed heads b yes' e = AllPass-from_list_all is_head_typed heads (sym e ∙ yes')
