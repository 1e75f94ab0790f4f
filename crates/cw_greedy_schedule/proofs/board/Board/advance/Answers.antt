use Rattle.std.proofs.Common.{ap, sym, ◌∙◌}
use Rattle.cw_greedy.specs.Slots.{run_slots}
use Rattle.cw_greedy_schedule.specs.Boards.{least_slot, least_first, shown, runs}
use Rattle.cw_greedy_schedule.proofs.Jumps.{each_left, room_first_least, run_ends_one}
use Rattle.cw_greedy_schedule.proofs.board.Board.advance.Goals as goal

pub returns-clause-done : goal.returns-clause-done
returns-clause-done c =
    ap least_slot c.jump-steps.ensures.run
    ∙ run_ends_one c.args.processors c.jump-steps.result (shown c.start_others.new.self) c.jump-steps.ensures.first

pub returns-clause-advances : goal.returns-clause-advances
returns-clause-advances c =
    let p = c.args.processors in
    let n = c.jump-steps.result in
    let xs = shown c.args.self.now in
    let same = c.start_others.ensures.moves.same ∙ c.stop_others.ensures.moves.same in
    runs
    (each_left xs (λ e. let t = c.has_done.ensures.1 e in cc (t, c.if-has_done.false)))
    (room_first_least p n xs (ap (least_first p) (sym same) ∙ c.jump-steps.ensures.first))
    (c.jump-steps.ensures.run ∙ ap (run_slots p n) same)
