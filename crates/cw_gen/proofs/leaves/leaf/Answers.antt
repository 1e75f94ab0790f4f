use Rattle.std.proofs.Common.{◌≡◌, ◌+◌, arith, rules}
use Rattle.cw_loops.specs.View.{loop_of}
use Rattle.cw_loops.specs.Expanded.{turn_slot}
use Rattle.cw_gen.proofs.LoopCode.{leaf_written}
use Rattle.cw_gen.proofs.leaves.leaf.Goals as goal

pub returns : goal.returns
returns c =
    let l = loop_of c.args.l.now in
    let v = c.args.l.now.captured + 2 in
    let x : v ≡ turn_slot l.captured = omega arith in
    let set = c.row.new.instrs.items in
    leaf_written c.args.instrs.now.items set c.row-2.new.instrs.items c.turn.new.instrs.items c.args.first c.len-start.result v l x c.in_ok-row.ensures (search (rules, c.len-start.ensures)) c.in_ok-row-2.ensures c.in_ok-turn.ensures
