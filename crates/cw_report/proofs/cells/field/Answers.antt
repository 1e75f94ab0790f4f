use Rattle.std.proofs.Common.{◌∙◌, ◌+◌, ◌-◌, ap, arith}
use Rattle.cw_report.specs.Aligned as aligned
use Rattle.cw_report.proofs.Cuts.{passed, missing, found}
use Rattle.cw_report.proofs.cells.field.Goals as goal

pub returns-then-end-rest : goal.returns-then-end-rest
returns-then-end-rest c =
    missing c.args.number c.loop.counter c.end_at-end.result c.args.line.now c.loop.rest.now (omega arith) c.end_at-end.ensures.value (omega arith) c.end_at-end.ensures.bound c.loop.invariant

pub loop-preserved : goal.loop-preserved
loop-preserved c =
    ap (aligned.field (c.args.number - (c.loop.counter + 1))) c.after-rest.ensures
    ∙ passed c.args.number c.loop.counter c.end_at-end.result c.args.line.now c.loop.rest.now (omega arith) c.end_at-end.ensures.value (omega arith) c.loop.invariant

pub returns : goal.returns
returns c =
    found c.args.number c.loop.counter c.end_at-end-2.result c.args.line.now c.loop.rest.now (omega arith) c.end_at-end-2.ensures.value c.loop.invariant
