use Rattle.std.proofs.Common.{◌≡◌, get_or, length, pos, w32, SFits, ap, ◌∙◌, arith, rules}
use Rattle.std.proofs.lemmas.Int.{to_z-of_z}
use Rattle.mesh_model.specs.Hash.{hash_from, mixed}
use Rattle.mesh_model.proofs.Triples.{quadruple_is}
use Rattle.mesh_model.proofs.row_hash.hash_of.Goals as goal

pub returns-in-len4 : goal.returns-in-len4
returns-in-len4 c =
    let row = c.args.row.now in
    let x = get_or row 0 (pos 0) in
    let y = get_or row 1 (pos 0) in
    let z = get_or row 2 (pos 0) in
    let u = get_or row 3 (pos 0) in
    let long : length row ≡ 4 = omega (arith, c.in-len4.len_at_least, c.in-len4.len_below) in
    let first : SFits w32 x = search rules in
    let second : SFits w32 y = search rules in
    let third : SFits w32 z = search rules in
    let fourth : SFits w32 u = search rules in
    let one : c.mix-in-len4.result ≡ mixed 0 x = simp to_z-of_z at c.mix-in-len4.ensures in
    let two : c.mix-in-len4-2.result ≡ mixed c.mix-in-len4.result y = simp to_z-of_z at c.mix-in-len4-2.ensures in
    let three : c.mix-in-len4-3.result ≡ mixed c.mix-in-len4-2.result z = simp to_z-of_z at c.mix-in-len4-3.ensures in
    let four : c.mix-in-len4-4.result ≡ mixed c.mix-in-len4-3.result u = simp to_z-of_z at c.mix-in-len4-4.ensures in
    four
    ∙ ap (λ hash. mixed hash u) (three ∙ ap (λ hash. mixed hash z) (two ∙ ap (λ hash. mixed hash y) one))
    ∙ ap (hash_from 0) (quadruple_is row long)
