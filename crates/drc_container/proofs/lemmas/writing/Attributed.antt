-- A geometry's one decoder and its values are what the calls that write them ask for.
use Rattle.std.proofs.Common.{◌≡◌, ℕ, ◌+◌, ◌≤◌, [], ◌∷◌, ◌++◌, map, length, None, ap, ◌∙◌, add-one, arith}
use Rattle.std.specs.List.{range_with_len}
use Rattle.std.proofs.lemmas.List.{map-append}
use Rattle.std.proofs.lemmas.List.Elements.{All-nil, All-cons, All-weaker}
use Rattle.drc_base.specs.declared.limits.TheConstants.{MAX_ATTRIBUTES}
use Rattle.attr_heads.specs.declared.heads.Head.{Head}
use Rattle.mesh_model.specs.declared.geometries.Geometry.{Geometry}
use Rattle.mesh_model.specs.Parts.{ArePoints}
use Rattle.mesh_model.specs.Renumbering.{plain}
use Rattle.mesh_model.specs.Contents.{heads_in, points_in}
use Rattle.attr_heads.proofs.Passing.{HeadSays, heads_say}
use Rattle.attr_heads.proofs.Types.{type_passes}
use Rattle.attr_heads.specs.HeadItems.{HeadPasses}
use Rattle.attr_section.specs.Heads.{attributes_of, HasSquareType, DecoderPasses, DecodersPass}
use Rattle.attr_section.specs.Written.{HasEnd, DecoderValuesPass}
use Rattle.drc_container.specs.declared.choice.choices.Choice.{Choice}
use Rattle.drc_container.specs.choice.Choice.{predict_chosen}
use Rattle.drc_container.specs.writing.Written.{decoder_of, values_of}
use Rattle.drc_container.specs.writing.Encoded.{CanCodeInOrder}
use Rattle.drc_container.proofs.lemmas.writing.Asking.{head_square, head_end}
use Rattle.drc_container.proofs.lemmas.writing.Codable.{ColumnsPass, columns_pass}
use Rattle.drc_container.proofs.lemmas.reading.Rows.{range_more}

pub head_passes : (h : Head) → HeadSays h → HeadPasses h
head_passes h says = record {
  usage = says.usage;
  dtype = type_passes h.dtype h.quant h.octa says.typed;
  some = says.some;
  few = says.few;
}

-- the decoder passes
pub decoder_passes : (g : Geometry) → ArePoints (heads_in g) (points_in g) → DecodersPass (decoder_of g ∷ [])
decoder_passes g are =
    let say = heads_say (heads_in g) are.heads_pass in
    let few : attributes_of (decoder_of g ∷ []) ≤ MAX_ATTRIBUTES = omega (arith, say.few) in
    record {
      some = omega arith;
      few = few;
      each = All-cons DecoderPasses (decoder_of g) [] (record {
        some = omega (arith, say.some);
        heads = All-weaker HeadSays HeadPasses head_passes (heads_in g) say.each;
        squares = All-weaker HeadSays (λ h. HasSquareType h h.octa) head_square (heads_in g) say.each;
      }) (All-nil DecoderPasses);
    }

-- the values pass
pub columns_of_geometry : (g : Geometry) (choice : Choice) → CanCodeInOrder g choice → ArePoints (heads_in g) (points_in g)
    → ColumnsPass (length (points_in g)) (heads_in g) (values_of g (predict_chosen g choice))
columns_of_geometry g choice can are =
    columns_pass (predict_chosen g choice) (heads_in g) (points_in g) can.alone (heads_say (heads_in g) are.heads_pass).each are.rows_fit can.some are.few_values can.values.near

pub decoder_values_pass : (g : Geometry) (choice : Choice) → CanCodeInOrder g choice → ArePoints (heads_in g) (points_in g)
    → DecoderValuesPass None (heads_in g) (values_of g (predict_chosen g choice))
decoder_values_pass g choice can are =
    let pass = columns_of_geometry g choice can are in
    record {
      each_head = pass.each_head;
      ends = All-weaker HeadSays (λ h. HasEnd h h.octa) head_end (heads_in g) (heads_say (heads_in g) are.heads_pass).each;
      each = pass.each;
    }

-- one row more of a plain renumbering
pub plain-more : (n : ℕ) → plain (n + 1) ≡ plain n ++ (n, 0) ∷ []
plain-more n =
    let row : ℕ → ℕ × ℕ = λ i. (i, 0) in
    let here : 0 + n ≡ n = omega arith in
    ap (λ m. map row (range_with_len 0 m)) (add-one n)
    ∙ ap (map row) (range_more 0 n)
    ∙ map-append row (range_with_len 0 n) ((0 + n) ∷ [])
    ∙ ap (λ m. plain n ++ (m, 0) ∷ []) here
