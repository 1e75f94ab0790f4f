use Rattle.std.proofs.Common.{◌<◌, length, arith}
use Rattle.cw_greedy.specs.Entries.{codes_of_chunks}
use Rattle.cw_greedy_schedule.proofs.Chunks.{spawned_chunk, spawned_few}
use Rattle.cw_greedy_schedule.proofs.weights.count_spawned.Goals as goal

pub overflow_add-count : goal.overflow_add-count
overflow_add-count c =
    let chunks = c.args.chunks.now in
    let l : c.loop-chunk.chunk-index < length chunks = omega arith in
    let sum = spawned_chunk chunks c.loop-chunk.chunk-index c.chunk-item.result c.as_slice.result.now l c.chunk-item.is c.as_slice.ensures.value in
    omega (arith, sum, c.loop-chunk.invariant, c.spawned_in-count.ensures, spawned_few (codes_of_chunks chunks), c.requires)

pub loop-chunk-preserved : goal.loop-chunk-preserved
loop-chunk-preserved c =
    let chunks = c.args.chunks.now in
    let l : c.loop-chunk.chunk-index < length chunks = omega arith in
    let sum = spawned_chunk chunks c.loop-chunk.chunk-index c.chunk-item.result c.as_slice.result.now l c.chunk-item.is c.as_slice.ensures.value in
    omega (arith, sum, c.loop-chunk.invariant, c.spawned_in-count.ensures)
