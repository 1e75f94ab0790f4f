use Rattle.std.proofs.Common.{◌+◌, ◌<◌, drop, length, arith, subst, ◌∙◌}
use Rattle.std.proofs.lemmas.List.{drop_all}
use Rattle.cw_greedy.specs.Entries.{codes_of_chunks}
use Rattle.cw_greedy_schedule.specs.Planned.{Makes}
use Rattle.cw_greedy_schedule.proofs.Chunks.{next_chunk, sum_chunk}
use Rattle.cw_greedy_schedule.proofs.Plans.{makes_all}
use Rattle.cw_greedy_schedule.proofs.plan.plan.Goals as goal

pub follow_all-requires-clause-fits : goal.follow_all-requires-clause-fits
follow_all-requires-clause-fits c =
    let chunks = c.args.chunks.now in
    let l : c.loop-chunk.chunk-index < length chunks = omega arith in
    omega (arith, c.loop-chunk.invariant.fits, sum_chunk chunks c.loop-chunk.chunk-index c.chunk-item.result c.as_slice.result.now l c.chunk-item.is c.as_slice.ensures.value)

pub follow_all-requires-clause-makes : goal.follow_all-requires-clause-makes
follow_all-requires-clause-makes c =
    let chunks = c.args.chunks.now in
    let i = c.loop-chunk.chunk-index in
    let l : i < length chunks = omega arith in
    let block = c.requires.block.0 in
    let next = next_chunk chunks i c.chunk-item.result c.as_slice.result.now l c.chunk-item.is c.as_slice.ensures.value in (
      block,
      (
        codes_of_chunks (drop (i + 1) chunks),
        subst (λ codes. Makes block codes c.loop-chunk.plan) next (c.loop-chunk.invariant.makes block c.requires.block.1),
      ),
    )

pub loop-chunk-preserved : goal.loop-chunk-preserved
loop-chunk-preserved c =
    let chunks = c.args.chunks.now in
    let i = c.loop-chunk.chunk-index in
    let l : i < length chunks = omega arith in
    let sum = sum_chunk chunks i c.chunk-item.result c.as_slice.result.now l c.chunk-item.is c.as_slice.ensures.value in
    let next = next_chunk chunks i c.chunk-item.result c.as_slice.result.now l c.chunk-item.is c.as_slice.ensures.value in
    record {
      makes = λ block e. c.in_ok-follow_all.ensures.makes block (codes_of_chunks (drop (i + 1) chunks))
          (subst (λ codes. Makes block codes c.loop-chunk.plan) next (c.loop-chunk.invariant.makes block e));
      fits = omega (arith, c.in_ok-follow_all.ensures.weight, c.loop-chunk.invariant.fits, sum);
    }

pub returns : goal.returns
returns c =
    λ block e. c.in_ok-push.ensures.items
    ∙ makes_all block c.loop-chunk.plan
    (subst (λ chunks. Makes block (codes_of_chunks chunks) c.loop-chunk.plan) (drop_all c.loop-chunk.chunk-index c.args.chunks.now (omega arith)) (c.loop-chunk.invariant.makes block e))
