use Rattle.std.proofs.Common.{None, ap, ◌∙◌}
use Rattle.cw_greedy_schedule.specs.Boards.{lowered, over, shown}
use Rattle.cw_greedy_schedule.proofs.Boards.{done_which, same_length, none_runs, waiting_left, waiting_shown, get_of_left, left_of_get}
use Rattle.cw_greedy_schedule.proofs.board.Board.take.Goals as goal

pub take-place-requires : goal.take-place-requires
take-place-requires c =
    done_which c.args.self.now c.requires.keeps c.requires.done
    (λ e. let t = c.is_equal.ensures.1 (c.least.ensures ∙ e) in cc (t, c.if-is_equal.false))

pub returns-clause-place : goal.returns-clause-place
returns-clause-place c =
    let b = c.args.self.now in
    let p = c.take-place.result in
    let at = left_of_get b.waiting p 0 c.take-place.ensures.place in
    get_of_left (shown b) p 0 (waiting_left b.time p b.running b.waiting (same_length b c.requires.keeps) (none_runs b p 0 c.requires.keeps at) ∙ at)

pub returns-clause-taken : goal.returns-clause-taken
returns-clause-taken c =
    let b = c.args.self.now in
    let p = c.take-place.result in
    let at = left_of_get b.waiting p 0 c.take-place.ensures.place in
    ap (over (lowered b.time b.running)) c.take-place.ensures.taken
    ∙ waiting_shown b.time p None b.running b.waiting (same_length b c.requires.keeps) (none_runs b p 0 c.requires.keeps at)
