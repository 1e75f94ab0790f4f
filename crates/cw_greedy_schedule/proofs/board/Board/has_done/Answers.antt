use Rattle.std.proofs.Common.{sym, ◌∙◌}
use Rattle.cw_greedy_schedule.proofs.Boards.{done_running, done_waiting, done_which}
use Rattle.cw_greedy_schedule.proofs.board.Board.has_done.Goals as goal

pub returns-then-is_equal : goal.returns-then-is_equal
returns-then-is_equal c = (
  (λ t. done_running c.args.self.now c.requires (sym c.least.ensures ∙ c.is_equal.ensures.0 t)),
  (λ z. c.if-is_equal.true),
)

pub returns-else-is_equal : goal.returns-else-is_equal
returns-else-is_equal c = (
  (λ t. done_waiting c.args.self.now c.requires (c.has_done.ensures.0 t)),
  (λ z. c.has_done.ensures.1 (done_which c.args.self.now c.requires z
      (λ e. let t = c.is_equal.ensures.1 (c.least.ensures ∙ e) in cc (t, c.if-is_equal.false)))),
)
