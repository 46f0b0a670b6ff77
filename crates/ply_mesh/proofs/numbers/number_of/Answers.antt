use Rattle.std.proofs.Common.{◌≡◌, ◌∙◌, sym, ap, Some, rules, refl, to_z, of_z, w64, ℤ}
use Rattle.std.specs.Int.{w32}
use Rattle.std.proofs.lemmas.Int.{to_z-of_z}
use Rattle.ply_mesh.proofs.BoundedNumbers.{bounded_some}
use Rattle.ply_mesh.proofs.numbers.number_of.Goals as goal

pub returns : goal.returns
returns c =
    let v = c.in-Some.v in
    let same : to_z w64 (of_z w64 v) ≡ v = to_z-of_z w64 v (search rules) in
    let inside = rw same at c.if-not-is_within.ensures.value in
    let fits = rw same at (c.if-not-is_within.ensures.fits refl) in
    ap (λ (z : ℤ). Some (to_z w32 (of_z w32 z))) same ∙ ap (λ (z : ℤ). Some z) (to_z-of_z w32 v fits) ∙ sym (bounded_some c.args.bounds c.args.token.now v (sym c.in-Some.ensures) (sym inside))
