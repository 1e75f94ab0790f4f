use Rattle.std.proofs.Common.{◌+◌, None, length, length-set, arith, ap, ◌∙◌}
use Rattle.cw_greedy_schedule.proofs.State.{stands_reaches, stands_lengths, takes_on, takes_last}
use Rattle.cw_greedy_schedule.proofs.schedule.take.Goals as goal

pub release-requires-clause-reaches : goal.release-requires-clause-reaches
release-requires-clause-reaches c =
    stands_reaches c.requires.state.0 c.requires.state.1.0 c.args.strands.now c.args.flags.now c.args.board.now (c.take-next.result + 1) c.requires.state.1.1
    (omega arith) (omega arith)

pub release-requires-clause-flags : goal.release-requires-clause-flags
release-requires-clause-flags c =
    (stands_lengths c.requires.state.0 c.requires.state.1.0 c.args.strands.now c.args.flags.now c.args.board.now c.requires.state.1.1).1.0

pub release-requires-clause-board : goal.release-requires-clause-board
release-requires-clause-board c =
    ap length c.take-next.ensures.taken ∙ length-set c.args.board.now c.take-next.result None
    ∙ (stands_lengths c.requires.state.0 c.requires.state.1.0 c.args.strands.now c.args.flags.now c.args.board.now c.requires.state.1.1).1.1

pub returns-then-next-count : goal.returns-then-next-count
returns-then-next-count c =
    λ block g h. takes_on block g c.args.strands.now c.args.flags.now c.release.new.flags c.args.board.now c.take-next.new.self c.release.new.board c.take-next.result h
    c.take-next.ensures.place c.take-next.ensures.taken (omega arith) c.release.ensures

pub returns-else-next-count : goal.returns-else-next-count
returns-else-next-count c =
    λ block g h. takes_last block g c.args.strands.now c.args.flags.now c.args.board.now c.take-next.new.self c.take-next.result h c.take-next.ensures.place (omega arith)
