use Rattle.std.proofs.Common.{rules, ◌∙◌, ap, FitsSigned}
use Rattle.std.specs.Int.{w64, cast_unsigned}
use Rattle.std.proofs.lemmas.Int.{to_z-of_z}
use Rattle.wrapped_vectors.specs.Vectors.{dot}
use Rattle.wrapped_vectors.proofs.Reducing.{unsigned-signed}
use Rattle.wrapped_vectors.proofs.vectors.squared.Goals as goal

pub returns : goal.returns
returns c =
    let fits : FitsSigned w64 c.dot.result = search rules in
    let bits = simp to_z-of_z at c.cast_unsigned.ensures in
    let is = c.dot.ensures in
    bits ∙ ap (cast_unsigned w64) is ∙ unsigned-signed (dot c.args.d c.args.d)
