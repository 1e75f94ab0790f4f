use Rattle.std.proofs.Common.{sym, ◌∙◌}
use Rattle.cw_greedy_schedule.proofs.Boards.{jump_some, jump_first, jump_shown, jumped, least_from}
use Rattle.cw_greedy_schedule.proofs.board.Board.jump.Goals as goal

pub unreachable-requires : goal.unreachable-requires
unreachable-requires c =
    jump_some c.args.processors c.args.self.now c.requires.keeps c.requires.full c.requires.processors c.requires.ready (sym c.least.ensures ∙ c.in_default.is)

pub overflow_sub-steps : goal.overflow_sub-steps
overflow_sub-steps c = least_from c.args.self.now c.in-Some.end c.requires.keeps (sym c.least.ensures ∙ c.in-Some.is)

pub returns-clause-keeps : goal.returns-clause-keeps
returns-clause-keeps c = jumped c.in-Some.end c.args.self.now c.requires.keeps (sym c.least.ensures ∙ c.in-Some.is)

pub returns-clause-first : goal.returns-clause-first
returns-clause-first c = jump_first c.args.processors c.in-Some.end c.args.self.now c.requires.keeps c.requires.full (sym c.least.ensures ∙ c.in-Some.is)

pub returns-clause-run : goal.returns-clause-run
returns-clause-run c =
    jump_shown c.args.processors c.in-Some.end c.args.self.now c.requires.keeps c.requires.full
    (least_from c.args.self.now c.in-Some.end c.requires.keeps (sym c.least.ensures ∙ c.in-Some.is))
