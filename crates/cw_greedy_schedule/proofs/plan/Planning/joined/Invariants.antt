use Rattle.std.proofs.Common.{List, length}
use Rattle.cw_greedy.specs.Jumping.{StrandBlock}
use Rattle.cw_greedy_schedule.specs.Planned.{Joins}
use Rattle.cw_greedy_schedule.specs.Reading.{Frame}
use Rattle.cw_greedy_schedule.proofs.plan.Planning.joined.Given as goal

abbrev pub invariant-loop-top : goal.invariant-loop-top
invariant-loop-top l = record {
  some : (end : List Frame × StrandBlock) × Joins end l.self;
  goes : (end : List Frame × StrandBlock) → Joins end l.fn.self → Joins end l.self;
}

abbrev pub decreases-loop-top : goal.decreases-loop-top
decreases-loop-top l = length l.self.spawns.items
