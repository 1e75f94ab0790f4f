use Rattle.std.proofs.Common.{◌+◌, arith}
use Rattle.cw_lex.proofs.Values.{value_of-take, value_of-more}
use Rattle.cw_lex.proofs.numbers.value_of_digits.Goals as goal

pub returns-then-value-unit-clause-none : goal.returns-then-value-unit-clause-none
returns-then-value-unit-clause-none c =
    let bs = c.args.digits.now in
    let i = c.loop-digit.digit-index in
    omega (arith, value_of-take (i + 1) bs, value_of-more bs i (omega arith))
