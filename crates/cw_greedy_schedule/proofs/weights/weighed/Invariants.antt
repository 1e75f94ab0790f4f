use Rattle.std.proofs.Common.{◌≡◌, ◌+◌, [], Some, drop}
use Rattle.cw_greedy.specs.Entries.{codes_of_chunks}
use Rattle.cw_greedy.specs.Jumping.{StrandBlock, Last}
use Rattle.cw_greedy_schedule.specs.Reading.{instructions, read}
use Rattle.cw_greedy_schedule.specs.Weighed.{counted, WillWeigh}
use Rattle.cw_greedy_schedule.proofs.weights.weighed.Given as goal

abbrev pub invariant-loop-chunk : goal.invariant-loop-chunk
invariant-loop-chunk l = record {
  work : counted (l.ways.work + instructions (codes_of_chunks (drop l.chunk-index l.chunks))) ≡ counted (instructions (codes_of_chunks l.chunks));
  weighs : (block : StrandBlock) → read (codes_of_chunks l.chunks) [] (Last 0) ≡ Some block → WillWeigh l.burden block (codes_of_chunks (drop l.chunk-index l.chunks)) l.ways;
}
