use Rattle.std.proofs.Common.{arith}
use Rattle.std.proofs.Math.Nat.{mod-eq_of_lt}
use Rattle.cw_greedy.proofs.Moves.{rest_follows}
use Rattle.cw_greedy.proofs.recorder.Recorder.rest.Goals as goal

pub returns : goal.returns
returns c =
    let mid = c.settle-2.new.self in
    let at = c.take_in.new.self in
    let done = c.in_ok-take_in.ensures in
    rest_follows c.args.self.now mid c.args.rest c.settle.new.self (record { kept = at.kept; noted = _; out = at.out; parts = at.parts }) c.args.count c.args.cost
    c.in_ok-settle-2.ensures c.in_ok-settle.ensures done.kept (λ small. mod-eq_of_lt (omega arith)) done.out done.parts
