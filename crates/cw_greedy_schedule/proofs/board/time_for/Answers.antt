use Rattle.std.proofs.Common.{◌≡◌, ◌+◌, arith, ap, ◌∙◌}
use Rattle.cw_greedy_schedule.specs.Boards.{lowered}
use Rattle.cw_greedy_schedule.proofs.Slots.{lowered-lowered}
use Rattle.cw_greedy_schedule.proofs.board.time_for.Goals as goal

pub returns-clause-shown : goal.returns-clause-shown
returns-clause-shown c =
    let z : c.args.time + 0 ≡ c.args.time = omega arith in
    ap (lowered 0) c.lower_all.ensures ∙ lowered-lowered 0 c.args.time c.args.running.now ∙ ap (λ n. lowered n c.args.running.now) z
