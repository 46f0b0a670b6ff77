use Rattle.std.proofs.Common.{◌≡◌, length, sym, ◌∙◌}
use Rattle.drc_container.proofs.lemmas.reading.Rows.{only_column}
use Rattle.drc_container.proofs.reading.points.points_of.Goals as goal

pub returns-then-len-eq1 : goal.returns-then-len-eq1
returns-then-len-eq1 c =
    let one : length c.args.values.items ≡ 1 = sym c.args.values.ok.0 ∙ sym c.len.ensures ∙ c.if-len-eq1.true in
    c.into_vec.ensures
    ∙ only_column c.args.points c.args.heads.now c.args.values.items c.swap_remove-only.result c.requires one c.swap_remove-only.ensures.value
