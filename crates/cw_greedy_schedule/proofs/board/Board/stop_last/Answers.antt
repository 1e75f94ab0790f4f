use Rattle.std.proofs.Common.{sym, ◌∙◌}
use Rattle.cw_greedy_schedule.proofs.Boards.{stopped}
use Rattle.cw_greedy_schedule.proofs.board.Board.stop_last.Goals as goal

pub returns-clause-moves : goal.returns-clause-moves
returns-clause-moves c =
    stopped c.args.self.now c.last-place.result c.in-Some.end c.set.new.self c.put.new.self c.requires.keeps (sym c.at.ensures ∙ c.in-Some.is)
    c.last-place.ensures.none c.set.ensures c.put.ensures
