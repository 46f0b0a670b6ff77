use Rattle.std.proofs.Common.{◌≡◌, get_or, length, pos, w32, SFits, ◌∙◌, rules}
use Rattle.std.proofs.lemmas.Int.{to_z-of_z}
use Rattle.mesh_model.proofs.Triples.{triple_is}
use Rattle.mesh_model.proofs.attributes.triple_at.Goals as goal

pub returns : goal.returns
returns c =
    let values = c.values_at-values.result.now in
    let long : length values ≡ 3 = c.values_at-values.ensures.len ∙ c.requires.three in
    let first : SFits w32 (get_or values 0 (pos 0)) = search rules in
    let second : SFits w32 (get_or values 1 (pos 0)) = search rules in
    let third : SFits w32 (get_or values 2 (pos 0)) = search rules in
    simp to_z-of_z (triple_is values long ∙ c.values_at-values.ensures.values)
