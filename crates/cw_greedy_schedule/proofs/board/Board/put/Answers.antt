use Rattle.std.proofs.Common.{Some, arith, ap, ◌∙◌}
use Rattle.cw_greedy_schedule.specs.Boards.{lowered, over}
use Rattle.cw_greedy_schedule.proofs.Boards.{length-shown, same_length, waiting_shown}
use Rattle.cw_greedy_schedule.proofs.board.Board.put.Goals as goal

pub put-requires : goal.put-requires
put-requires c = omega (arith, c.requires.place, length-shown c.args.self.now c.requires.keeps, c.requires.keeps.waiting)

pub returns-else-place-self-clause-put : goal.returns-else-place-self-clause-put
returns-else-place-self-clause-put c =
    let b = c.args.self.now in
    ap (over (lowered b.time b.running)) c.put.ensures
    ∙ waiting_shown b.time c.args.place (Some c.args.left) b.running b.waiting (same_length b c.requires.keeps) (c.requires.keeps.before c.args.place c.if-place-self.false)
