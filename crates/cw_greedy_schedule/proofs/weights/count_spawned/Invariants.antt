use Rattle.std.proofs.Common.{◌≡◌, ◌+◌, drop}
use Rattle.cw_greedy.specs.Entries.{codes_of_chunks}
use Rattle.cw_greedy_schedule.specs.Reading.{spawned}
use Rattle.cw_greedy_schedule.proofs.weights.count_spawned.Given as goal

abbrev pub invariant-loop-chunk : goal.invariant-loop-chunk
invariant-loop-chunk l = l.count + spawned (codes_of_chunks (drop l.chunk-index l.chunks)) ≡ spawned (codes_of_chunks l.chunks)
