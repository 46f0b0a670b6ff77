use Rattle.std.proofs.Common.{sym, arith}
use Rattle.mesh_model.proofs.NumberTexts.{number-end_at, number-other_at, number-zero_at, number-first_at, read_as}
use Rattle.mesh_model.proofs.number_reading.read_number.Goals as goal

pub returns-then-at-bytes : goal.returns-then-at-bytes
returns-then-at-bytes c = number-end_at c.args.end c.args.at c.args.bytes.now (omega arith)

pub returns-then-not-is_digit : goal.returns-then-not-is_digit
returns-then-not-is_digit c = number-other_at c.args.end c.args.at c.args.bytes.now (omega arith) (sym c.if-not-is_digit.ensures)

pub returns-then-first-eq48 : goal.returns-then-first-eq48
returns-then-first-eq48 c =
    read_as c.args.bytes.now _ _ _
    (number-zero_at c.args.end c.args.at c.args.bytes.now (omega arith) c.requires.end c.if-first-eq48.true)
    c.zero_then.ensures

pub returns : goal.returns
returns c =
    read_as c.args.bytes.now _ _ _
    (number-first_at c.args.end c.args.at c.args.bytes.now (omega arith) (sym c.if-not-is_digit.ensures) c.if-first-eq48.false)
    c.digits_then.ensures
