use Rattle.std.proofs.Common.{◌≡◌, List, length}
use Rattle.cw_greedy.specs.Jumping.{StrandBlock}
use Rattle.cw_greedy_schedule.specs.Reading.{Frame}
use Rattle.cw_greedy_schedule.specs.Weighed.{WillJoin}
use Rattle.cw_greedy_schedule.proofs.weights.Ways.joined.Given as goal

abbrev pub invariant-loop-top : goal.invariant-loop-top
invariant-loop-top l = record {
  work : l.self.work ≡ l.fn.self.work;
  goes : (end : List Frame × StrandBlock) → WillJoin l.burden end l.fn.self → WillJoin l.burden end l.self;
}

abbrev pub decreases-loop-top : goal.decreases-loop-top
decreases-loop-top l = length l.self.spawns.items
