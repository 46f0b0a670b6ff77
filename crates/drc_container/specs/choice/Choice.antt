-- What a choice says of an encoding, with what is written where nothing is chosen (this project's choice).
use Rattle.std.specs.Prelude.{ℕ, Bool, true, false, Option, None, Some, unwrap_or, if◌then◌else◌}
use Rattle.mesh_model.specs.declared.geometries.Geometry.{Geometry}
use Rattle.mesh_model.specs.Contents.{is_mesh, heads_in}
use Rattle.predict.specs.declared.schemes.Prediction.TheVariants as prediction
use Rattle.drc_container.specs.declared.choice.methods.Method.{Method}
use Rattle.drc_container.specs.declared.choice.methods.Method.TheVariants as method
use Rattle.drc_container.specs.declared.choice.choices.Index.{Index}
use Rattle.drc_container.specs.declared.choice.choices.Index.TheVariants as indexed
use Rattle.drc_container.specs.declared.choice.choices.Walk.{Walk}
use Rattle.drc_container.specs.declared.choice.choices.Walk.TheVariants as walk
use Rattle.drc_container.specs.declared.choice.choices.Choice.{Choice}
use Rattle.drc_container.specs.declared.choice.predicts.Predict.{Predict}
use Rattle.drc_container.specs.declared.choice.predicts.Predict.TheVariants.{Plain}
use Rattle.drc_container.specs.choice.Predicts.{needed_number}

-- the method: Edgebreaker with standard symbols for a mesh and sequential for a cloud, where none is chosen
abbrev pub method_of : Geometry → Choice → Method
method_of g choice = unwrap_or choice.method (if is_mesh g then method.Eb else method.Seq)

-- whether a method is sequential
abbrev pub is_sequential : Method → Bool
is_sequential method.Seq = true
is_sequential method.Eb = false
is_sequential method.Valence = false

-- whether symbols are coded by valence
abbrev pub is_valence : Method → Bool
is_valence method.Seq = false
is_valence method.Eb = false
is_valence method.Valence = true

-- whether indices are packed
abbrev pub is_packed : Index → Bool
is_packed indexed.Plain = false
is_packed indexed.Packed = true

-- whether vertices are ordered by prediction degree: depth first, where nothing is chosen
abbrev pub is_degree : Option Walk → Bool
is_degree None = false
is_degree (Some walk.Depth) = false
is_degree (Some walk.Degree) = true

-- how indices are written: plain, where nothing is chosen
abbrev pub index_of : Choice → Index
index_of choice = unwrap_or choice.index indexed.Plain

-- how values are predicted: by the entry before under the sequential method and by a parallelogram else, where nothing is
-- chosen
abbrev pub predict_of : Method → Choice → Predict
predict_of m choice = unwrap_or choice.predict (Plain (if is_sequential m then prediction.Difference else prediction.Parallelogram))

-- how a geometry's values are predicted
abbrev pub predict_chosen : Geometry → Choice → Predict
predict_chosen g choice = predict_of (method_of g choice) choice

-- the number of the first profile that has all that is written of a geometry
abbrev pub written_number : Geometry → Choice → ℕ
written_number g choice = needed_number (predict_chosen g choice) (heads_in g)
