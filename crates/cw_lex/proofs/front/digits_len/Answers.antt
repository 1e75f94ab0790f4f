use Rattle.std.proofs.Common.{arith}
use Rattle.cw_lex.proofs.Longest.{zero_longest, digits_longest}
use Rattle.cw_lex.proofs.front.digits_len.Goals as goal

pub returns-then-bytes-eq48 : goal.returns-then-bytes-eq48
returns-then-bytes-eq48 c =
    let z = zero_longest c.args.bytes.now c.requires.some c.if-bytes-eq48.true in
    record { longest = z.0; some = omega arith; number = z.1 }

pub returns-else-bytes-eq48 : goal.returns-else-bytes-eq48
returns-else-bytes-eq48 c =
    let z = digits_longest c.args.bytes.now c.requires.some c.requires.digit c.if-bytes-eq48.false in
    rw c.run.ensures.value (record { longest = z.0; some = z.2; number = z.1 })
