use Rattle.std.proofs.Common.{◌+◌, arith}
use Rattle.cw_greedy.specs.Jumping.{start}
use Rattle.cw_greedy_schedule.proofs.State.{stands_lengths, still_going, advanced_ready, advanced_state, advances_on, steps_fit, takes_off, begins_counting, counts_all}
use Rattle.cw_greedy_schedule.proofs.schedule.count_steps.Goals as goal

pub advance-steps-requires-clause-ready : goal.advance-steps-requires-clause-ready
advance-steps-requires-clause-ready c =
    let b = c.requires.begun in
    let n = stands_lengths b.0 (start b.0) c.args.strands.now c.args.flags.now c.args.board.now b.1.stands in
    let g = still_going c.args.processors b.0 c.loop-taken._taken c.loop-taken.steps c.args.strands.now c.loop-taken.flags c.loop-taken.board (omega (arith, n.0))
    (c.loop-taken.invariant b.0 b.1) in
    advanced_ready c.args.processors b.0 c.loop-taken._taken c.loop-taken.steps c.args.strands.now c.loop-taken.flags c.loop-taken.board c.lists_show_boards.ensures g

pub overflow_add-steps : goal.overflow_add-steps
overflow_add-steps c =
    let b = c.requires.begun in
    let n = stands_lengths b.0 (start b.0) c.args.strands.now c.args.flags.now c.args.board.now b.1.stands in
    let g = still_going c.args.processors b.0 c.loop-taken._taken c.loop-taken.steps c.args.strands.now c.loop-taken.flags c.loop-taken.board (omega (arith, n.0))
    (c.loop-taken.invariant b.0 b.1) in
    let a = advances_on c.args.processors b.0 c.loop-taken._taken c.loop-taken.steps c.advance-steps.result c.args.strands.now c.loop-taken.flags c.loop-taken.board
    c.advance-steps.new.self c.lists_show_boards.ensures (c.rounds_preserve_length.ensures c.args.processors c.requires.processors) g c.advance-steps.ensures.advances in
    let f = steps_fit c.args.processors b.0 c.loop-taken._taken (c.loop-taken.steps + c.advance-steps.result) c.args.strands.now c.loop-taken.flags c.advance-steps.new.self a in
    omega (arith, f, b.1.fits)

pub take-requires-clause-state : goal.take-requires-clause-state
take-requires-clause-state c =
    let b = c.requires.begun in
    let n = stands_lengths b.0 (start b.0) c.args.strands.now c.args.flags.now c.args.board.now b.1.stands in
    let g = still_going c.args.processors b.0 c.loop-taken._taken c.loop-taken.steps c.args.strands.now c.loop-taken.flags c.loop-taken.board (omega (arith, n.0))
    (c.loop-taken.invariant b.0 b.1) in
    let a = advances_on c.args.processors b.0 c.loop-taken._taken c.loop-taken.steps c.advance-steps.result c.args.strands.now c.loop-taken.flags c.loop-taken.board
    c.advance-steps.new.self c.lists_show_boards.ensures (c.rounds_preserve_length.ensures c.args.processors c.requires.processors) g c.advance-steps.ensures.advances in
    (b.0, advanced_state c.args.processors b.0 c.loop-taken._taken (c.loop-taken.steps + c.advance-steps.result) c.args.strands.now c.loop-taken.flags c.advance-steps.new.self a)

pub loop-taken-init : goal.loop-taken-init
loop-taken-init c = λ block h. begins_counting c.args.processors block c.args.strands.now c.args.flags.now c.args.board.now h

pub loop-taken-preserved : goal.loop-taken-preserved
loop-taken-preserved c = λ block h.
    let n = stands_lengths block (start block) c.args.strands.now c.args.flags.now c.args.board.now h.stands in
    let g = still_going c.args.processors block c.loop-taken._taken c.loop-taken.steps c.args.strands.now c.loop-taken.flags c.loop-taken.board (omega (arith, n.0))
    (c.loop-taken.invariant block h) in
    let keep = c.rounds_preserve_length.ensures c.args.processors c.requires.processors in
    let a = advances_on c.args.processors block c.loop-taken._taken c.loop-taken.steps c.advance-steps.result c.args.strands.now c.loop-taken.flags c.loop-taken.board
    c.advance-steps.new.self c.lists_show_boards.ensures keep g c.advance-steps.ensures.advances in
    takes_off c.args.processors block c.loop-taken._taken (c.loop-taken.steps + c.advance-steps.result) c.args.strands.now c.loop-taken.flags c.take.new.flags
    c.advance-steps.new.self c.take.new.board keep a (λ g' st. c.take.ensures block g' st)

pub returns : goal.returns
returns c = λ block h.
    let n = stands_lengths block (start block) c.args.strands.now c.args.flags.now c.args.board.now h.stands in
    counts_all c.args.processors block c.loop-taken._taken c.loop-taken.steps c.args.strands.now c.loop-taken.flags c.loop-taken.board (omega (arith, n.0))
    (c.loop-taken.invariant block h)
