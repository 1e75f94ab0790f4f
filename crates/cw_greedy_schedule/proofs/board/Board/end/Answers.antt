use Rattle.std.proofs.Common.{◌≡◌, ◌-◌, Some, arith, ap, ◌∙◌}
use Rattle.cw_greedy_schedule.specs.Boards.{lowered, over, shown}
use Rattle.cw_greedy_schedule.proofs.Boards.{ended, some_run, same_length, none_waits, running_left, unset_shown, get_of_left}
use Rattle.cw_greedy_schedule.proofs.board.Board.end.Goals as goal

pub overflow_sub-self : goal.overflow_sub-self
overflow_sub-self c = some_run c.args.self.now c.find-place.result c.args.self.now.time c.requires.keeps c.find-place.ensures

pub returns-clause-keeps : goal.returns-clause-keeps
returns-clause-keeps c = ended c.args.self.now c.find-place.result c.args.self.now.time c.set.new.self c.requires.keeps c.find-place.ensures c.set.ensures

pub returns-clause-place : goal.returns-clause-place
returns-clause-place c =
    let b = c.args.self.now in
    let z : b.time - b.time ≡ 0 = omega arith in
    get_of_left (shown b) c.find-place.result 0
    (running_left b.time c.find-place.result b.time b.running b.waiting (same_length b c.requires.keeps) c.find-place.ensures ∙ ap Some z)

pub returns-clause-taken : goal.returns-clause-taken
returns-clause-taken c =
    let b = c.args.self.now in
    ap (λ xs. over (lowered b.time xs) b.waiting) c.set.ensures
    ∙ unset_shown b.time c.find-place.result b.running b.waiting (same_length b c.requires.keeps)
    (none_waits b c.find-place.result b.time c.requires.keeps c.find-place.ensures)
