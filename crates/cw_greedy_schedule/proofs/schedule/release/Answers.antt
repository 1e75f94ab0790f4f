use Rattle.std.proofs.Common.{◌+◌, Some, refl, ap, ◌∙◌}
use Rattle.std.specs.Prelude.{slice_set}
use Rattle.cw_greedy_schedule.specs.BoardState.{join_of}
use Rattle.cw_greedy_schedule.specs.State.{strand_at}
use Rattle.cw_greedy_schedule.specs.State as s
use Rattle.cw_greedy_schedule.proofs.State.{puts_arrive}
use Rattle.cw_greedy_schedule.proofs.schedule.release.Goals as goal

pub returns-in-Child : goal.returns-in-Child
returns-in-Child c =
    s.forks c.in-Child.later c.in-Child.is
    (c.put-in-Child.ensures ∙ ap (λ xs. slice_set xs (c.args.next + c.in-Child.later) (Some (strand_at c.args.strands.now (c.args.next + c.in-Child.later)).weight)) c.put.ensures)
    refl

pub returns-in-Continuation : goal.returns-in-Continuation
returns-in-Continuation c =
    puts_arrive c.args.strands.now c.args.next (c.args.next + c.in-Continuation.later) c.args.flags.now c.arrive.new.flags c.args.board.now c.arrive.new.board
    (ap (λ b. join_of b c.args.next) c.in-Continuation.is) c.arrive.ensures.first c.arrive.ensures.second

pub returns-in-Sync : goal.returns-in-Sync
returns-in-Sync c =
    puts_arrive c.args.strands.now c.args.next c.args.next c.args.flags.now c.arrive-in-Sync.new.flags c.args.board.now c.arrive-in-Sync.new.board
    (ap (λ b. join_of b c.args.next) c.in-Sync.is) c.arrive-in-Sync.ensures.first c.arrive-in-Sync.ensures.second
