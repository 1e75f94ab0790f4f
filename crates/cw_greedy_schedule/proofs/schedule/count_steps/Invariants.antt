use Rattle.cw_greedy.specs.Jumping.{StrandBlock}
use Rattle.cw_greedy_schedule.specs.State.{Begun, Counts}
use Rattle.cw_greedy_schedule.proofs.schedule.count_steps.Given as goal

abbrev pub invariant-loop-taken : goal.invariant-loop-taken
invariant-loop-taken l =
    (block : StrandBlock) → Begun l.processors block l.strands l.fn.flags l.fn.board → Counts l.processors block l._taken l.steps l.strands l.flags l.board
