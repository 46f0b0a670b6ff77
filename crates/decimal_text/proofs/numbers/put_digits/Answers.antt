use Rattle.std.proofs.Common.{◌≡◌, ◌+◌, ◌-◌, ◌≤◌, length, take, drop, ap, ◌∙◌, arith}
use Rattle.std.specs.Fmt.{decimal}
use Rattle.std.proofs.lemmas.Fmt.{length-decimal-le}
use Rattle.decimal_text.proofs.Pieces.{piece_put, long_piece}
use Rattle.decimal_text.proofs.numbers.put_digits.Goals as goal

pub write_digits-start-requires : goal.write_digits-start-requires
write_digits-start-requires c =
    let few : length (decimal c.args.n) ≤ 10 = length-decimal-le 10 c.args.n (omega arith) (omega arith) (omega arith) in
    (omega arith, omega arith)

pub returns-clause-text : goal.returns-clause-text
returns-clause-text c =
    let at = c.args.at in
    let start = c.write_digits-start.result in
    let digits = c.write_digits-start.new.buf in
    let wide : start + 16 - start ≡ 16 = omega arith in
    let place : at + 16 - at ≡ 16 = omega arith in
    let is = c.copy_from_slice.ensures.after ∙ ap (λ k. take k (drop start digits)) wide in
    let long = c.copy_from_slice.ensures.len ∙ ap (λ k. length (take k (drop at c.args.buf.now))) place ∙ long_piece at 16 c.args.buf.now c.requires in
    piece_put at _ start 16 c.args.buf.now c.copy_from_slice.new.self digits (decimal c.args.n) _ c.requires is long c.write_digits-start.ensures.written c.write_digits-start.ensures.start

pub returns-clause-few : goal.returns-clause-few
returns-clause-few c =
    let few : length (decimal c.args.n) ≤ 10 = length-decimal-le 10 c.args.n (omega arith) (omega arith) (omega arith) in
    omega (arith, c.write_digits-start.ensures.start)
