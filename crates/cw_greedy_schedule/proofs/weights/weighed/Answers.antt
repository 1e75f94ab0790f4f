use Rattle.std.proofs.Common.{◌+◌, ◌<◌, drop, length, arith, subst}
use Rattle.std.proofs.lemmas.List.{drop_all}
use Rattle.cw_greedy.specs.Entries.{codes_of_chunks}
use Rattle.cw_greedy_schedule.specs.Weighed.{WillWeigh}
use Rattle.cw_greedy_schedule.proofs.Chunks.{next_chunk, sum_chunk}
use Rattle.cw_greedy_schedule.proofs.Weighing.{weighs_all}
use Rattle.cw_greedy_schedule.proofs.weights.weighed.Goals as goal

pub loop-chunk-preserved : goal.loop-chunk-preserved
loop-chunk-preserved c =
    let chunks = c.args.chunks.now in
    let i = c.loop-chunk.chunk-index in
    let l : i < length chunks = omega arith in
    let sum = sum_chunk chunks i c.chunk-item.result c.as_slice.result.now l c.chunk-item.is c.as_slice.ensures.value in
    let next = next_chunk chunks i c.chunk-item.result c.as_slice.result.now l c.chunk-item.is c.as_slice.ensures.value in
    record {
      work = omega (arith, c.in_ok-follow_all.ensures.work, c.loop-chunk.invariant.work, sum);
      weighs = λ block e. c.in_ok-follow_all.ensures.weighs block (codes_of_chunks (drop (i + 1) chunks))
          (subst (λ codes. WillWeigh c.args.burden block codes c.loop-chunk.ways) next (c.loop-chunk.invariant.weighs block e));
    }

pub returns-clause-span : goal.returns-clause-span
returns-clause-span c = λ block e.
    weighs_all c.args.burden block c.loop-chunk.ways
    (subst (λ chunks. WillWeigh c.args.burden block (codes_of_chunks chunks) c.loop-chunk.ways) (drop_all c.loop-chunk.chunk-index c.args.chunks.now (omega arith)) (c.loop-chunk.invariant.weighs block e))
