use Rattle.std.proofs.Common.{map, ap, ◌∙◌}
use Rattle.std.proofs.lemmas.List.{take_all}
use Rattle.cw_code.specs.Code.{code_view}
use Rattle.cw_gains.specs.Counts.{row_view}
use Rattle.cw_gains.specs.Free.{freed_row}
use Rattle.cw_gains.specs.Gains.{gain_view}
use Rattle.cw_gains.specs.declared.counts.Counted.{Counted}
use Rattle.cw_gains.proofs.FreeSites.{told_more}
use Rattle.cw_gains.proofs.gains.freed.Goals as goal

pub loop-counted-preserved : goal.loop-counted-preserved
loop-counted-preserved c = λ t ends.
    let row = λ (k : Counted). freed_row (code_view c.args.code.now.value.code) c.args.burden t (row_view k) in
    told_more gain_view row c.loop-counted.gains.items c.push.new.self.items c.in_ok-gain.gain c.args.all.now c.loop-counted.counted-index
    c.counted-item.result c.in_ok-push.ensures.items c.loop-counted-test.true (c.loop-counted.invariant t ends)
    (c.in_ok-gain.ensures.ok t ends ∙ ap row c.counted-item.is)

pub returns-clause-ok : goal.returns-clause-ok
returns-clause-ok c = λ t ends.
    let row = λ (k : Counted). freed_row (code_view c.args.code.now.value.code) c.args.burden t (row_view k) in
    c.loop-counted.invariant t ends ∙ ap (map row) (take_all c.loop-counted.counted-index c.args.all.now c.loop-counted-test.false)
