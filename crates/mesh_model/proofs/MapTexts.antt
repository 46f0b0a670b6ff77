-- Lines of a renumbering that are written number by number.
use Rattle.std.proofs.Common.{◌≡◌, ℕ, ◌+◌, ◌<◌, List, [], ◌∷◌, ◌++◌, length, get_or, take, sym, ap, ◌∙◌, append_assoc}
use Rattle.std.specs.Fmt.{decimal}
use Rattle.std.specs.List.{flat_map}
use Rattle.std.proofs.lemmas.List.{flat_map_more, take_more}
use Rattle.mesh_model.specs.MapText.{row_line}
use Rattle.mesh_model.specs.Same.{Rows}

pub row_text : (start one two : List ℕ) (row : ℕ × ℕ) → one ≡ start ++ (decimal row.0 ++ 32 ∷ []) → two ≡ one ++ (decimal row.1 ++ 10 ∷ []) → two ≡ start ++ row_line row
row_text start one two row first second = second ∙ ap (λ (t : List ℕ). t ++ (decimal row.1 ++ 10 ∷ [])) first ∙ simp append_assoc

-- one line more, which is written into a chunk behind what it held
pub lines_more : (start before out held from filled : List ℕ) (rows : Rows) (i : ℕ) → i < length rows → before ++ held ≡ start ++ flat_map row_line (take i rows) →
    out ++ from ≡ before ++ held → filled ≡ from ++ row_line (get_or rows i (0, 0)) → out ++ filled ≡ start ++ flat_map row_line (take (i + 1) rows)
lines_more start before out held from filled rows i inside so_far room text =
    let line = row_line (get_or rows i (0, 0)) in
    ap (λ (t : List ℕ). out ++ t) text
    ∙ sym (append_assoc out from line)
    ∙ ap (λ (t : List ℕ). t ++ line) (room ∙ so_far)
    ∙ flat_map_more row_line start (take i rows) (get_or rows i (0, 0))
    ∙ sym (ap (λ rs. start ++ flat_map row_line rs) (take_more rows i (0, 0) inside))
