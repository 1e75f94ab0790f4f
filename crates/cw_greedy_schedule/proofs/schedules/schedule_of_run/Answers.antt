use Rattle.std.proofs.Common.{refl, sym, subst, ◌∙◌}
use Rattle.std.proofs.lemmas.Bool.{true≢false}
use Rattle.cw_facts.specs.Options.{handed_on}
use Rattle.cw_model.specs.Trees.{work}
use Rattle.cw_code.specs.Code.{code_view}
use Rattle.cw_machine.specs.Recorded.{Records, RecordsAsCode}
use Rattle.cw_greedy_schedule.proofs.RunSchedule.{at_most, ends_so, not_scheduled, record_kept, too_many}
use Rattle.cw_greedy_schedule.proofs.Within.{within}
use Rattle.cw_greedy_schedule.proofs.schedules.schedule_of_run.Goals as goal

pub returns-in_err-strands : goal.returns-in_err-strands
returns-in_err-strands c =
    let code = code_view c.args.code.now.code in
    let asked = sym c.is_asked.ensures ∙ c.if-not-is_asked.false in
    handed_on _ _ c.in_err-strands.field-0.0 c.from_residual.result
    (not_scheduled code c.args.args.now c.args.n c.args.processors c.in_err-strands.field-0.0 asked (subst (RecordsAsCode code c.args.args.now c.args.n) c.in_err-strands.was c.requires)) c.from_residual.ensures.1

pub returns-then-not-fits : goal.returns-then-not-fits
returns-then-not-fits c =
    let code = code_view c.args.code.now.code in
    let asked = sym c.is_asked.ensures ∙ c.if-not-is_asked.false in
    let kept = c.in_ok-strands.strands in
    let ran : Records code c.args.args.now c.args.n kept = subst (RecordsAsCode code c.args.args.now c.args.n) c.in_ok-strands.was c.requires in
    too_many code c.args.args.now c.args.n c.args.processors c.count.result kept asked ran (λ ok. true≢false (sym (c.fits.ensures.1 ok) ∙ c.if-not-fits.true)) c.count.ensures

pub weigh-requires : goal.weigh-requires
weigh-requires c =
    let code = code_view c.args.code.now.code in
    let asked = sym c.is_asked.ensures ∙ c.if-not-is_asked.false in
    let kept = c.in_ok-strands.strands in
    let ran : Records code c.args.args.now c.args.n kept = subst (RecordsAsCode code c.args.args.now c.args.n) c.in_ok-strands.was c.requires in
    let k = record_kept ran.tree kept (c.fits.ensures.0 c.if-not-fits.false) ran.is_kept in
    let few = within code c.cost_is_the_work_of_the_effect.ensures c.normal_form_reads_the_same.ensures c.args.args.now c.args.n ran.tree (ends_so code c.args.args.now c.args.n kept ran) in
    (ran.tree, (k.1, at_most code c.args.args.now c.args.n c.args.processors (work ran.tree) asked few))

pub greedy-requires-clause-kept : goal.greedy-requires-clause-kept
greedy-requires-clause-kept c =
    let code = code_view c.args.code.now.code in
    let asked = sym c.is_asked.ensures ∙ c.if-not-is_asked.false in
    let kept = c.in_ok-strands.strands in
    let ran : Records code c.args.args.now c.args.n kept = subst (RecordsAsCode code c.args.args.now c.args.n) c.in_ok-strands.was c.requires in
    let k = record_kept ran.tree kept (c.fits.ensures.0 c.if-not-fits.false) ran.is_kept in
    let few = within code c.cost_is_the_work_of_the_effect.ensures c.normal_form_reads_the_same.ensures c.args.args.now c.args.n ran.tree (ends_so code c.args.args.now c.args.n kept ran) in
    (ran.tree, (k.1, at_most code c.args.args.now c.args.n c.args.processors (work ran.tree) asked few))

pub returns : goal.returns
returns c =
    let code = code_view c.args.code.now.code in
    let asked = sym c.is_asked.ensures ∙ c.if-not-is_asked.false in
    let kept = c.in_ok-strands.strands in
    let ran : Records code c.args.args.now c.args.n kept = subst (RecordsAsCode code c.args.args.now c.args.n) c.in_ok-strands.was c.requires in
    let k = record_kept ran.tree kept (c.fits.ensures.0 c.if-not-fits.false) ran.is_kept in
    record {
      asked = asked;
      tree = ran.tree;
      ends = ends_so code c.args.args.now c.args.n kept ran;
      fits = k.0;
      processors = refl;
      work = c.in_ok-weights.ensures.work ran.tree k.1;
      span = c.in_ok-weights.ensures.span ran.tree k.1;
      greedy = c.in_ok-steps.ensures.length ran.tree k.1;
      bounds = c.in_ok-steps.ensures.bounds ran.tree k.1;
    }
