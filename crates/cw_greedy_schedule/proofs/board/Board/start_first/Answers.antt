use Rattle.std.proofs.Common.{arith, ap, ◌∙◌}
use Rattle.cw_greedy.specs.Slots.{ready_slots}
use Rattle.cw_greedy_schedule.proofs.Boards.{picked_shown}
use Rattle.cw_greedy_schedule.proofs.Over.{ready_unset}
use Rattle.cw_greedy_schedule.proofs.board.Board.start_first.Goals as goal

pub returns-clause-moves : goal.returns-clause-moves
returns-clause-moves c =
    let first = c.take_first-place in
    record {
      keeps = c.start.ensures.keeps;
      same = c.start.ensures.put
          ∙ picked_shown c.args.self.now first.result.0 first.result.1 first.new.self c.requires.keeps first.ensures.left first.ensures.taken;
    }

pub returns-clause-waiting : goal.returns-clause-waiting
returns-clause-waiting c =
    let first = c.take_first-place in
    omega (
      arith,
      ready_unset c.args.self.now.waiting first.result.0 first.result.1 first.ensures.left,
      ap ready_slots first.ensures.taken,
      ap ready_slots c.start.ensures.waiting,
    )
