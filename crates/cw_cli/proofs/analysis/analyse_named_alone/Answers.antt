use Rattle.std.proofs.Common.{rules, ◌≢◌, subst}
use Rattle.cw_words.specs.declared.asked.Mode.TheVariants as mode
use Rattle.cw_cli.specs.ModeTexts.{HasTables}
use Rattle.cw_cli.proofs.Modes.{gain_is_no_check, has_tables, page_is_no_check, run_is_no_check, running, schedule_is_no_check, speedup_is_no_check}
use Rattle.cw_cli.proofs.Runs.{checked, refusal, run_is, sites_numbered}
use Rattle.cw_cli.proofs.analysis.analyse_named_alone.Goals as goal

pub returns-in_err-made : goal.returns-in_err-made
returns-in_err-made g c = refusal g.W.Sink.seen c.args.out.now c.args.name.now c.args.bytes.now c.args.args.now c.args.options _ c.in_err-made.ensures c.from_residual.result (search rules)

pub returns-in-Check : goal.returns-in-Check
returns-in-Check g c = checked g.W.Sink.seen c.args.out.now c.ok.new.to c.args.name.now c.args.bytes.now c.args.args.now c.args.options _ c.in_ok-made.ensures.compiled c.in-Check.is c.ok.result c.ok.ensures

pub returns-in-Run : goal.returns-in-Run
returns-in-Run g c =
    let runs = running c.args.options.mode mode.Run c.in-Run.is run_is_no_check in
    run_is g.W.Sink.seen c.args.out.now c.run_plain.new.out c.args.name.now c.args.bytes.now c.args.args.now c.args.options runs c.run_plain.result (c.run_plain.ensures c.args.name.now c.args.bytes.now c.in-Run.is c.in_ok-made.ensures.compiled)

pub returns-in-Scale : goal.returns-in-Scale
returns-in-Scale g c =
    let has = has_tables c.args.options.mode c.in-Scale.is in
    let runs : c.args.options.mode ≢ mode.Check = λ check. subst HasTables check has in
    run_is g.W.Sink.seen c.args.out.now c.run.new.out c.args.name.now c.args.bytes.now c.args.args.now c.args.options runs c.run.result (c.run.ensures c.args.name.now c.args.bytes.now has c.in_ok-made.ensures.compiled)

pub returns-in-Gain : goal.returns-in-Gain
returns-in-Gain g c =
    let runs = running c.args.options.mode (mode.Gain c.in-Gain.top) c.in-Gain.is gain_is_no_check in
    run_is g.W.Sink.seen c.args.out.now c.run_gain.new.out c.args.name.now c.args.bytes.now c.args.args.now c.args.options runs c.run_gain.result (c.run_gain.ensures c.args.name.now c.args.bytes.now c.in-Gain.is c.in_ok-made.ensures)

pub returns-in-Greedy : goal.returns-in-Greedy
returns-in-Greedy g c =
    let runs = running c.args.options.mode (mode.Greedy c.in-Greedy.processors) c.in-Greedy.is schedule_is_no_check in
    run_is g.W.Sink.seen c.args.out.now c.run_greedy.new.out c.args.name.now c.args.bytes.now c.args.args.now c.args.options runs c.run_greedy.result (c.run_greedy.ensures c.args.name.now c.args.bytes.now c.in-Greedy.is c.in_ok-made.ensures.compiled)

pub run_gain-requires-clause-numbered : goal.run_gain-requires-clause-numbered
run_gain-requires-clause-numbered g c = sites_numbered c.derived_sites_are_numbered.ensures c.args.bytes.now _ c.in_ok-made.ensures.compiled

pub returns-in-Speedup : goal.returns-in-Speedup
returns-in-Speedup g c =
    let runs = running c.args.options.mode (mode.Speedup c.in-Speedup.most) c.in-Speedup.is speedup_is_no_check in
    run_is g.W.Sink.seen c.args.out.now c.run_speedup.new.out c.args.name.now c.args.bytes.now c.args.args.now c.args.options runs c.run_speedup.result (c.run_speedup.ensures c.args.name.now c.args.bytes.now c.in-Speedup.is c.in_ok-made.ensures.compiled)

pub returns-in-Page : goal.returns-in-Page
returns-in-Page g c =
    let runs = running c.args.options.mode (mode.Page c.in-Page.top c.in-Page.processors) c.in-Page.is page_is_no_check in
    run_is g.W.Sink.seen c.args.out.now c.run_page.new.out c.args.name.now c.args.bytes.now c.args.args.now c.args.options runs c.run_page.result (c.run_page.ensures c.in-Page.is c.in_ok-made.ensures)

pub run_page-requires-clause-numbered : goal.run_page-requires-clause-numbered
run_page-requires-clause-numbered g c = sites_numbered c.derived_sites_are_numbered.ensures c.args.bytes.now _ c.in_ok-made.ensures.compiled
