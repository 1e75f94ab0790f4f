use Rattle.std.proofs.Common.{◌+◌, arith}
use Rattle.cw_report.proofs.Counts.{first_digits, one_more_digit, uncounted}
use Rattle.cw_report.proofs.cells.count.Goals as goal

pub returns-then-value-unit : goal.returns-then-value-unit
returns-then-value-unit c =
    let bs = c.args.digits.now in
    let i = c.loop-digit.digit-index in
    uncounted bs (omega (arith, first_digits (i + 1) bs, one_more_digit bs i (omega arith)))
