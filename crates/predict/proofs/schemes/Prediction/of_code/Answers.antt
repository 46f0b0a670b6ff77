use Rattle.std.proofs.Common.{◌≡◌, FitsSigned, w8, ◌∙◌, ap, rules}
use Rattle.std.specs.Int.{cast_unsigned}
use Rattle.predict.specs.Schemes.{prediction_of}
use Rattle.predict.proofs.Named.{coded_by_byte}
use Rattle.predict.proofs.schemes.Prediction.of_code.Goals as goal

pub returns : goal.returns
returns c =
    let fits : FitsSigned w8 c.args.code = c.ranges.code in
    let is : c.cast_unsigned.result ≡ cast_unsigned w8 c.args.code = search rules in
    c.of_byte.ensures ∙ ap prediction_of is ∙ coded_by_byte c.args.code fits
