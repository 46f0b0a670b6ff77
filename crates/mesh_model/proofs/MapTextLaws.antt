-- The text of a renumbering is read again.
use Rattle.std.proofs.Common.{◌≡◌, ℕ, ◌+◌, ◌-◌, ◌^◌, ◌<◌, true, false, List, [], ◌∷◌, ◌++◌, length, Some, Ok, refl, sym, ap, ◌∙◌, append_assoc, lit<, arith}
use Rattle.std.specs.Prelude.{All}
use Rattle.std.specs.Fmt.{decimal}
use Rattle.std.specs.List.{flat_map}
use Rattle.std.proofs.lemmas.Bool.{eq-eqb, lt-ltb, le-leb}
use Rattle.std.proofs.lemmas.Fmt.{digits_decimal, digits_value-decimal}
use Rattle.std.proofs.lemmas.List.{length-append}
use Rattle.std.proofs.lemmas.List.Elements.{All-head, All-tail}
use Rattle.std.proofs.lemmas.Slice.Eq.{bytes_eq-Decides}
use Rattle.mesh_model.specs.declared.geometries.Geometry.{Geometry}
use Rattle.mesh_model.specs.declared.geometries.Geometry.TheVariants.{Mesh, Cloud}
use Rattle.mesh_model.specs.MapRead.{words_then, map_head_at, map_row_at, rows_at, most_rows, limited_head_at, map_read}
use Rattle.mesh_model.specs.MapText.{map_words, row_line, map_text_of}
use Rattle.mesh_model.specs.MapTextLaws.{is_cloud, IsMapRow, MapTextIsReadAgain}
use Rattle.mesh_model.specs.NumberText.{is_digit, digits_of, behind_digits, value_after, digits_then, is_spelled, number_then}
use Rattle.mesh_model.specs.Same.{Rows}
use Rattle.mesh_model.proofs.NumberTexts.{AreDigits, own}

-- digits with another byte behind them
front-digits : (ds : List ℕ) (c : ℕ) (rest : List ℕ) → AreDigits ds → is_digit c ≡ false → digits_of (ds ++ c ∷ rest) ≡ ds
front-digits [] c rest are other = rw other refl
front-digits (d ∷ ds) c rest are other = rw are.0 (ap (λ (t : List ℕ). d ∷ t) (front-digits ds c rest are.1 other))

behind-digits : (ds : List ℕ) (c : ℕ) (rest : List ℕ) → AreDigits ds → is_digit c ≡ false → behind_digits (ds ++ c ∷ rest) ≡ c ∷ rest
behind-digits [] c rest are other = rw other refl
behind-digits (d ∷ ds) c rest are other = rw are.0 (behind-digits ds c rest are.1 other)

-- the decimal text of a number is read again
pub number-again : (n c : ℕ) (rest : List ℕ) → n < 2 ^ 32 → is_digit c ≡ false → number_then c (decimal n ++ c ∷ rest) ≡ Some (n, rest)
unfolding number_then digits_then
number-again n c rest small other =
    let wide : n < 2 ^ 64 = omega arith in
    let digits : digits_of (decimal n ++ c ∷ rest) ≡ decimal n = front-digits (decimal n) c rest (digits_decimal own n wide) other in
    let behind : behind_digits (decimal n ++ c ∷ rest) ≡ c ∷ rest = behind-digits (decimal n) c rest (digits_decimal own n wide) other in
    let value : value_after 0 (digits_of (decimal n ++ c ∷ rest)) ≡ n = ap (value_after 0) digits ∙ digits_value-decimal own n wide in
    let spelled : is_spelled (decimal n ++ c ∷ rest) ≡ true = (bytes_eq-Decides _ _).1 (ap decimal value ∙ sym digits) in
    rw (spelled, behind, value, lt-ltb n (2 ^ 32) small, eq-eqb c c refl) refl

-- the line of a row
row-text : (row : ℕ × ℕ) (rest : List ℕ) → row_line row ++ rest ≡ decimal row.0 ++ 32 ∷ (decimal row.1 ++ 10 ∷ rest)
row-text row rest = simp append_assoc

row-again : (row : ℕ × ℕ) (rest : List ℕ) → IsMapRow row → map_row_at (row_line row ++ rest) ≡ Some (row, rest)
row-again row rest is =
    let small : row.1 < 2 ^ 32 = omega arith in
    rw (row-text row rest, number-again row.0 32 (decimal row.1 ++ 10 ∷ rest) is.0 refl, number-again row.1 10 rest small refl, le-leb row.1 2 is.1) refl

-- the lines of rows
rows-again : (rows : Rows) (line : ℕ) (rest : List ℕ) → All IsMapRow rows → rows_at (length rows) line (flat_map row_line rows ++ rest) ≡ Ok (rows, rest)
unfolding rows_at
rows-again [] line rest are = refl
rows-again (row ∷ rows) line rest are =
    rw (
      append_assoc (row_line row) (flat_map row_line rows) rest,
      row-again row (flat_map row_line rows ++ rest) (All-head IsMapRow row rows are),
      rows-again rows (line + 1) rest (All-tail IsMapRow row rows are),
    ) refl

-- the words
words-again : (g : Geometry) (rest : List ℕ) → words_then (map_words g ++ rest) ≡ Some (is_cloud g, rest)
unfolding words_then
words-again (Mesh m) rest = refl
words-again (Cloud c) rest = refl

-- the parts of a text, one after another
pub joined : (words digits body rest : List ℕ) → (((words ++ digits) ++ (10 ∷ [])) ++ body) ++ rest ≡ words ++ (digits ++ 10 ∷ (body ++ rest))
joined words digits body rest = simp append_assoc

limit-small : (g : Geometry) → most_rows (is_cloud g) < 2 ^ 32
limit-small (Mesh m) = lit< tt
limit-small (Cloud c) = lit< tt

pub map-again : MapTextIsReadAgain
unfolding map_read limited_head_at
map-again g rows rest are few =
    let n = length rows in
    let body = flat_map row_line rows in
    let text = map_text_of g rows ++ rest in
    let whole : text ≡ map_words g ++ (decimal n ++ 10 ∷ (body ++ rest)) = joined (map_words g) (decimal n) body rest in
    let head : map_head_at text ≡ Some ((is_cloud g, n), body ++ rest) =
    rw (whole, words-again g (decimal n ++ 10 ∷ (body ++ rest)), number-again n 10 (body ++ rest) (omega (arith, limit-small g)) refl) refl in
    let end : length text - length rest ≡ length (map_text_of g rows) = omega (arith, length-append (map_text_of g rows) rest) in
    rw (head, le-leb n (most_rows (is_cloud g)) few, rows-again rows 2 rest are, end) refl
