use Rattle.std.proofs.Common.{refl, ◌∙◌}
use Rattle.cw_gains.proofs.GainTable.{gained, stopped}
use Rattle.cw_gains.proofs.gains.gains_of_ended.Goals as goal

pub returns-in_err-functions : goal.returns-in_err-functions
returns-in_err-functions c = λ runs.
    stopped c.args.code.now.value c.args.heads.now c.args.args.now c.args.n c.args.burden c.args.top c.args.ended.now runs
    c.in_err-functions.field-0.0 c.from_residual-in_err-functions.result c.in_err-functions.ensures.why c.from_residual-in_err-functions.ensures.1

pub returns : goal.returns
returns c = λ runs.
    let counted = rw (c.as_slice.ensures, c.values.ensures.rest, c.deref.ensures) at c.in_ok-counted.ensures in
    gained c.args.code.now.value c.args.heads.now c.args.args.now c.args.n c.args.burden c.args.top c.args.ended.now runs
    _ _ c.as_slice-2.result.now c.requires refl runs.sites (c.as_slice-2.ensures.value ∙ counted) c.in_ok-functions.ensures.ok
