use Rattle.std.proofs.Common.{◌++◌, ◌∷◌, [], List, ℕ, Option, map, ap, ap₂, sym, ◌∙◌, slice_index_or}
use Rattle.std.proofs.lemmas.List.{map_more, take_all}
use Rattle.cw_greedy_schedule.specs.Speedups.{row_on}
use Rattle.cw_greedy_schedule.specs.declared.speedups.SpeedupRow.{SpeedupRow}
use Rattle.cw_greedy_schedule.proofs.speedups.rows_of.Goals as goal

pub steps_on-requires-clause-processors : goal.steps_on-requires-clause-processors
steps_on-requires-clause-processors c = c.requires.counts c.loop-processors.processors-index 0 c.loop-processors-test.true

pub loop-processors-preserved : goal.loop-processors-preserved
loop-processors-preserved c = λ t k.
    let i = c.loop-processors.processors-index in
    let counts = c.args.counts.now in
    let p = slice_index_or counts i 0 in
    c.in_ok-push.ensures.items
    ∙ ap₂ (λ (rows : List SpeedupRow) (steps : Option ℕ). rows ++ record { processors = p; steps = steps } ∷ []) (c.loop-processors.invariant t k) (c.in_ok-steps.ensures t k)
    ∙ sym (map_more (row_on t) counts i 0 c.loop-processors-test.true)

pub returns : goal.returns
returns c = λ t k. c.loop-processors.invariant t k ∙ ap (map (row_on t)) (take_all c.loop-processors.processors-index c.args.counts.now c.loop-processors-test.false)
