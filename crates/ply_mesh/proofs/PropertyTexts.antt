-- Lines of properties that are written one after another.
use Rattle.std.proofs.Common.{◌≡◌, ℕ, suc, ◌+◌, ◌-◌, ◌<◌, Bool, List, [], ◌∷◌, ◌++◌, length, drop, get_or, sym, ap, ◌∙◌, append_assoc, arith}
use Rattle.std.specs.Prelude.{codes}
use Rattle.std.proofs.lemmas.List.{at_drop_more}
use Rattle.std.proofs.lemmas.List.Concat.{flat_map-append}
use Rattle.attr_heads.specs.declared.heads.Head.{Head}
use Rattle.ply_text.specs.PropertyTypes.{type_word}
use Rattle.ply_mesh.specs.Text.{line_text, text_of, has_usage_names, name_at, property_line, component_lines, property_lines}

pub five : (o a b c d e : List ℕ) → ((((o ++ a) ++ b) ++ c) ++ d) ++ e ≡ o ++ (a ++ (b ++ (c ++ (d ++ e))))
five o a b c d e = simp append_assoc

pub property_text : (out : List ℕ) (dtype : ℕ) (name : List ℕ) → ((((out ++ codes "property ") ++ type_word dtype) ++ 32 ∷ []) ++ name) ++ 10 ∷ [] ≡ out ++ line_text (property_line dtype name)
unfolding line_text property_line
property_text out dtype name = five out (codes "property ") (type_word dtype) (32 ∷ []) name (10 ∷ [])

pub component_more : (out : List ℕ) (named : Bool) (k : ℕ) (h : Head) (j comps : ℕ) → j < comps → (out ++ line_text (property_line h.dtype (name_at named k h.usage j))) ++ text_of (component_lines named k h (j + 1) (comps - (j + 1))) ≡ out ++ text_of (component_lines named k h j (comps - j))
component_more out named k h j comps lt =
    let n : comps - j ≡ suc (comps - (j + 1)) = omega arith in
    append_assoc out (line_text (property_line h.dtype (name_at named k h.usage j))) (text_of (component_lines named k h (j + 1) (comps - (j + 1))))
    ∙ ap (λ (m : ℕ). out ++ text_of (component_lines named k h j m)) (sym n)

pub properties_more : (out : List ℕ) (heads : List Head) (k : ℕ) (h : Head) → k < length heads → h ≡ get_or heads k h → (out ++ text_of (component_lines (has_usage_names heads k h) k h 0 h.comps)) ++ text_of (property_lines heads (k + 1) (drop (k + 1) heads)) ≡ out ++ text_of (property_lines heads k (drop k heads))
properties_more out heads k h lt e =
    append_assoc out (text_of (component_lines (has_usage_names heads k h) k h 0 h.comps)) (text_of (property_lines heads (k + 1) (drop (k + 1) heads)))
    ∙ ap (λ (t : List ℕ). out ++ t) (sym (flat_map-append line_text (component_lines (has_usage_names heads k h) k h 0 h.comps) (property_lines heads (k + 1) (drop (k + 1) heads)))
    ∙ ap (λ (x : Head). text_of (component_lines (has_usage_names heads k x) k x 0 x.comps ++ property_lines heads (k + 1) (drop (k + 1) heads))) e ∙ sym (at_drop_more (λ (hs : List Head). text_of (property_lines heads k hs)) heads k h lt))
