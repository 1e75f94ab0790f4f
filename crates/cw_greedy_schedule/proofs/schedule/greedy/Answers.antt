use Rattle.std.proofs.Common.{◌≡◌, ◌≤◌, ◌+◌, false, length, arith, ap, sym, ◌∙◌}
use Rattle.std.specs.Prelude.{replicate}
use Rattle.cw_model.specs.Trees.{work}
use Rattle.cw_model.specs.declared.limits.TheConstants.{MOST_LIMIT}
use Rattle.cw_greedy.specs.Blocks.{block_of}
use Rattle.cw_greedy.specs.Counts.{spawns_in}
use Rattle.cw_greedy.specs.Slots.{nones}
use Rattle.cw_greedy_schedule.specs.declared.plan.Begins.TheVariants.{Start}
use Rattle.cw_greedy_schedule.specs.Planned.{strands_of}
use Rattle.cw_greedy.specs.Entries.{codes_of_chunks}
use Rattle.cw_greedy_schedule.proofs.Reading.{record_is_read, record_has_work}
use Rattle.cw_greedy_schedule.proofs.State.{on_one, record_of, some_planned, within}
use Rattle.cw_greedy_schedule.proofs.schedule.greedy.Goals as goal

pub plan-requires-clause-fits : goal.plan-requires-clause-fits
plan-requires-clause-fits c =
    let t = c.requires.kept.0 in
    let h = record_of t c.args.kept.now (codes_of_chunks c.chunks.result.now) c.chunks.ensures.value c.requires.kept.1.0 in
    omega (arith, record_has_work t (codes_of_chunks c.chunks.result.now) h, c.requires.kept.1.1)

pub plan-requires-clause-block : goal.plan-requires-clause-block
plan-requires-clause-block c =
    let t = c.requires.kept.0 in
    let h = record_of t c.args.kept.now (codes_of_chunks c.chunks.result.now) c.chunks.ensures.value c.requires.kept.1.0 in
    (block_of t, record_is_read t (codes_of_chunks c.chunks.result.now) h)

pub new-requires : goal.new-requires
new-requires c =
    let t = c.requires.kept.0 in
    let h = record_of t c.args.kept.now (codes_of_chunks c.chunks.result.now) c.chunks.ensures.value c.requires.kept.1.0 in
    let e = c.in_ok-strands.ensures (block_of t) (record_is_read t (codes_of_chunks c.chunks.result.now) h) in
    omega (arith, some_planned (block_of t) c.in_ok-strands.strands.items e)

pub count_all-steps-requires-clause-flags : goal.count_all-steps-requires-clause-flags
count_all-steps-requires-clause-flags c =
    let is : c.deref.result.now ≡ c.in_ok-strands.strands.items = c.deref.ensures.value in
    let m : c.len.result ≡ length c.deref.result.now = omega (arith, c.in_ok-strands.strands.ok.0, ap length is) in
    c.deref_mut.ensures.value ∙ c.in_ok-flags.ensures.items_if_clones_equal (λ y h. h) ∙ ap (λ n. replicate n false) m

pub count_all-steps-requires-clause-board : goal.count_all-steps-requires-clause-board
count_all-steps-requires-clause-board c =
    let is : c.deref.result.now ≡ c.in_ok-strands.strands.items = c.deref.ensures.value in
    let m : c.len-2.result ≡ length c.deref.result.now = omega (arith, c.in_ok-strands.strands.ok.0, ap length is) in
    c.in_ok-board.ensures ∙ ap nones m

pub count_all-steps-requires-clause-tree : goal.count_all-steps-requires-clause-tree
count_all-steps-requires-clause-tree c =
    let t = c.requires.kept.0 in
    let h = c.requires.kept.1.0 in
    let g = record_of t c.args.kept.now (codes_of_chunks c.chunks.result.now) c.chunks.ensures.value h in
    let e : c.deref.result.now ≡ strands_of Start (block_of t) = c.deref.ensures.value ∙ c.in_ok-strands.ensures (block_of t) (record_is_read t (codes_of_chunks c.chunks.result.now) g) in
    let w : work t ≤ MOST_LIMIT = omega (arith, record_has_work t (codes_of_chunks c.chunks.result.now) g, record_has_work c.requires.kept.0 (codes_of_chunks c.chunks.result.now) (record_of c.requires.kept.0 c.args.kept.now (codes_of_chunks c.chunks.result.now) c.chunks.ensures.value c.requires.kept.1.0), c.requires.kept.1.1) in
    (t, (e, w))

pub returns-clause-length : goal.returns-clause-length
returns-clause-length c = λ t h.
    let g = record_of t c.args.kept.now (codes_of_chunks c.chunks.result.now) c.chunks.ensures.value h in
    let e : c.deref.result.now ≡ strands_of Start (block_of t) = c.deref.ensures.value ∙ c.in_ok-strands.ensures (block_of t) (record_is_read t (codes_of_chunks c.chunks.result.now) g) in
    let w : work t ≤ MOST_LIMIT = omega (arith, record_has_work t (codes_of_chunks c.chunks.result.now) g, record_has_work c.requires.kept.0 (codes_of_chunks c.chunks.result.now) (record_of c.requires.kept.0 c.args.kept.now (codes_of_chunks c.chunks.result.now) c.chunks.ensures.value c.requires.kept.1.0), c.requires.kept.1.1) in
    c.count_all-steps.ensures t e w

pub returns-clause-bounds : goal.returns-clause-bounds
returns-clause-bounds c = λ t h.
    let g = record_of t c.args.kept.now (codes_of_chunks c.chunks.result.now) c.chunks.ensures.value h in
    let e : c.deref.result.now ≡ strands_of Start (block_of t) = c.deref.ensures.value ∙ c.in_ok-strands.ensures (block_of t) (record_is_read t (codes_of_chunks c.chunks.result.now) g) in
    let w : work t ≤ MOST_LIMIT = omega (arith, record_has_work t (codes_of_chunks c.chunks.result.now) g, record_has_work c.requires.kept.0 (codes_of_chunks c.chunks.result.now) (record_of c.requires.kept.0 c.args.kept.now (codes_of_chunks c.chunks.result.now) c.chunks.ensures.value c.requires.kept.1.0), c.requires.kept.1.1) in
    within t c.args.processors c.count_all-steps.result (c.greedy_is_bounded.ensures c.args.processors t c.requires.processors) (c.count_all-steps.ensures t e w)

pub returns-then-processors-eq1-clause-length : goal.returns-then-processors-eq1-clause-length
returns-then-processors-eq1-clause-length c = λ t h.
    let one : c.args.processors ≡ 1 = omega arith in
    on_one t c.args.processors c.in_ok-weights.weights.work one (c.greedy_is_bounded.ensures c.args.processors t c.requires.processors) (c.in_ok-weights.ensures.work t h)

pub returns-then-processors-eq1-clause-bounds : goal.returns-then-processors-eq1-clause-bounds
returns-then-processors-eq1-clause-bounds c = λ t h.
    let bounded = c.greedy_is_bounded.ensures c.args.processors t c.requires.processors in
    let one : c.args.processors ≡ 1 = omega arith in
    within t c.args.processors c.in_ok-weights.weights.work bounded (on_one t c.args.processors c.in_ok-weights.weights.work one bounded (c.in_ok-weights.ensures.work t h))

pub returns-then-processors-count_spawns-clause-length : goal.returns-then-processors-count_spawns-clause-length
returns-then-processors-count_spawns-clause-length c = λ t h.
    let many : 1 + spawns_in t ≤ c.args.processors = omega (arith, c.if-processors-count_spawns.true, c.count_spawns.ensures t h) in
    c.in_ok-weights-2.ensures.span t h ∙ sym (c.nobody_waits.ensures c.args.processors t many)

pub returns-then-processors-count_spawns-clause-bounds : goal.returns-then-processors-count_spawns-clause-bounds
returns-then-processors-count_spawns-clause-bounds c = λ t h.
    let many : 1 + spawns_in t ≤ c.args.processors = omega (arith, c.if-processors-count_spawns.true, c.count_spawns.ensures t h) in
    within t c.args.processors c.in_ok-weights-2.weights.span (c.greedy_is_bounded.ensures c.args.processors t c.requires.processors)
    (c.in_ok-weights-2.ensures.span t h ∙ sym (c.nobody_waits.ensures c.args.processors t many))
