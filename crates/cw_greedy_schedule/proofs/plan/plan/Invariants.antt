use Rattle.std.proofs.Common.{◌≡◌, ◌+◌, ◌≤◌, [], Some, drop}
use Rattle.cw_model.specs.declared.limits.TheConstants.{MOST_LIMIT}
use Rattle.cw_greedy.specs.Entries.{codes_of_chunks}
use Rattle.cw_greedy.specs.Jumping.{StrandBlock, Last}
use Rattle.cw_greedy_schedule.specs.Planned.{Makes}
use Rattle.cw_greedy_schedule.specs.Reading.{instructions, read}
use Rattle.cw_greedy_schedule.proofs.plan.plan.Given as goal

abbrev pub invariant-loop-chunk : goal.invariant-loop-chunk
invariant-loop-chunk l = record {
  makes : (block : StrandBlock) → read (codes_of_chunks l.chunks) [] (Last 0) ≡ Some block → Makes block (codes_of_chunks (drop l.chunk-index l.chunks)) l.plan;
  fits : l.plan.last.weight + instructions (codes_of_chunks (drop l.chunk-index l.chunks)) ≤ MOST_LIMIT;
}
