use Rattle.std.proofs.Common.{inr}
use Rattle.cw_facts.specs.Options.{handed_on}
use Rattle.cw_code.specs.Code.{code_view}
use Rattle.cw_greedy_schedule.proofs.RunFacts.{measured_tree, record_kept}
use Rattle.cw_greedy_schedule.proofs.speedups.measure_of.Goals as goal

pub returns-in_err-ended : goal.returns-in_err-ended
returns-in_err-ended c = λ r.
    handed_on _ _ c.in_err-ended.field-0.0 c.from_residual.result (inr c.in_err-ended.ensures) c.from_residual.ensures.1

pub returns-then-not-fits : goal.returns-then-not-fits
returns-then-not-fits c = λ r.
    measured_tree (code_view c.args.code.value.code) c.args.args.now c.args.n c.args.burden c.args.kept.now r c.in_ok-ended.ended c.in_ok-ended.ensures

pub recorded_measure-requires-clause-kept : goal.recorded_measure-requires-clause-kept
recorded_measure-requires-clause-kept c =
    let r = c.requires.ran.0 in
    (r.tree, (record_kept r.tree c.args.kept.now (c.fits.ensures.0 c.if-not-fits.false) r.is_kept, c.requires.ran.1))

pub returns : goal.returns
returns c = λ r.
    c.in_ok-measure.ensures r.tree (record_kept r.tree c.args.kept.now (c.fits.ensures.0 c.if-not-fits.false) r.is_kept)
