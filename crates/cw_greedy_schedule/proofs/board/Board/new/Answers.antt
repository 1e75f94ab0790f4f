use Rattle.cw_greedy_schedule.proofs.Boards.{new_keeps, new_shown}
use Rattle.cw_greedy_schedule.proofs.board.Board.new.Goals as goal

pub returns-clause-keeps : goal.returns-clause-keeps
returns-clause-keeps c = new_keeps c.args.places c.in_ok-running.running c.in_ok-waiting.waiting c.in_ok-running.ensures c.in_ok-waiting.ensures

pub returns-clause-shown : goal.returns-clause-shown
returns-clause-shown c = new_shown c.args.places c.in_ok-running.running c.in_ok-waiting.waiting c.in_ok-running.ensures c.in_ok-waiting.ensures
