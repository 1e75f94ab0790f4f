use Rattle.std.proofs.Common.{arith}
use Rattle.cw_sched.proofs.Wanting.{on_err}
use Rattle.cw_sched.proofs.board.Board.room_to_settle.Goals as goal

pub returns-clause-full : goal.returns-clause-full
returns-clause-full c = on_err c.reserve.result (λ less. omega (arith, less)) c.reserve.ensures.full
