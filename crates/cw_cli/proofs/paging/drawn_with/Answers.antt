use Rattle.std.proofs.Common.{◌≡◌, true, rules, subst}
use Rattle.cw_facts.specs.Options.{handed_on}
use Rattle.cw_code.specs.Code.{code_view}
use Rattle.cw_machine.specs.Runs.{Runs}
use Rattle.cw_greedy_schedule.specs.Speedups.{IsNotSpedUp, SpeedsUp}
use Rattle.cw_cli.specs.Pages.{asked_for, is_asked}
use Rattle.cw_cli.proofs.Drawing.{unsped}
use Rattle.cw_cli.proofs.paging.drawn_with.Goals as goal

pub returns-in_err-speedup : goal.returns-in_err-speedup
returns-in_err-speedup g c =
    let code = code_view c.args.code.now.value.code in
    let given = asked_for c.args.args.now c.args.limit c.args.burden c.args.top c.args.most in
    let asked : is_asked code given ≡ true = search rules in
    let why : IsNotSpedUp code c.args.args.now c.args.limit c.args.burden c.args.most c.in_err-speedup.field-0.0 =
    subst (λ v. IsNotSpedUp (code_view v.code) c.args.args.now c.args.limit c.args.burden c.args.most c.in_err-speedup.field-0.0) c.in_ok-share-2.ensures c.in_err-speedup.ensures in
    handed_on _ _ _ c.from_residual-in_err-speedup.result (unsped code c.args.heads.now given asked _ why) c.from_residual-in_err-speedup.ensures.1

pub returns : goal.returns
returns g c =
    let code = code_view c.args.code.now.value.code in
    let asked : is_asked code (asked_for c.args.args.now c.args.limit c.args.burden c.args.top c.args.most) ≡ true = search rules in
    let runs : Runs code c.args.args.now c.args.limit c.args.burden c.in_ok-ended.ended =
    subst (λ v. Runs (code_view v.code) c.args.args.now c.args.limit c.args.burden c.in_ok-ended.ended) c.in_ok-share.ensures (c.in_ok-ended.ensures.0 c.requires.few) in
    record {
      asked = asked;
      runs = runs;
      gains = c.in_ok-gains.ensures runs;
      speeds_up = subst (λ v. SpeedsUp (code_view v.code) c.args.args.now c.args.limit c.args.burden c.args.most c.in_ok-speedup.speedup) c.in_ok-share-2.ensures c.in_ok-speedup.ensures;
    }
