use Rattle.std.proofs.Common.{sym, ◌∙◌}
use Rattle.std.proofs.lemmas.Bool.{true≢false}
use Rattle.cw_greedy_schedule.proofs.RunFacts.{few_steps, no_steps, record_kept}
use Rattle.cw_greedy_schedule.proofs.speedups.steps_on.Goals as goal

pub returns-then-not-fits : goal.returns-then-not-fits
returns-then-not-fits c = λ t k.
    no_steps t c.args.kept.now c.args.processors k (λ ok. true≢false (sym (c.fits.ensures.1 ok) ∙ c.if-not-fits.true))

pub greedy-requires-clause-kept : goal.greedy-requires-clause-kept
greedy-requires-clause-kept c =
    let t = c.requires.kept.0 in
    (t, (record_kept t c.args.kept.now (c.fits.ensures.0 c.if-not-fits.false) c.requires.kept.1.0, c.requires.kept.1.1))

pub returns : goal.returns
returns c = λ t k.
    let ok = c.fits.ensures.0 c.if-not-fits.false in
    few_steps t c.args.kept.now c.args.processors c.in_ok-steps.steps k ok (c.in_ok-steps.ensures.length t (record_kept t c.args.kept.now ok k))
