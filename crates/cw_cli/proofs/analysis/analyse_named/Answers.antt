use Rattle.std.proofs.Common.{rules, ◌≢◌, subst}
use Rattle.cw_words.specs.declared.asked.Mode.TheVariants as mode
use Rattle.cw_cli.specs.ModeTexts.{HasTables}
use Rattle.cw_cli.proofs.Modes.{gain_is_no_check, has_tables, page_is_no_check, run_is_no_check, running, schedule_is_no_check, speedup_is_no_check}
use Rattle.cw_cli.proofs.Runs.{by_crew, by_crowd, checked, refusal, run_is, sites_numbered}
use Rattle.cw_cli.proofs.analysis.analyse_named.Goals as goal

pub returns-then-len-gt-MOST_BODIES : goal.returns-then-len-gt-MOST_BODIES
returns-then-len-gt-MOST_BODIES g c = by_crowd g.W.Sink.seen c.args.out.now c.args.name.now c.args.bytes.now c.args.args.now c.args.options _ (search rules)

pub returns-then-is_empty : goal.returns-then-is_empty
returns-then-is_empty g c = by_crew g.W.Sink.seen c.args.out.now _ c.args.name.now c.args.bytes.now c.args.args.now c.args.options _ _ (search rules) c.analyse_named_alone.ensures

pub returns-in_err-made : goal.returns-in_err-made
returns-in_err-made g c =
    by_crew g.W.Sink.seen c.args.out.now c.args.out.now c.args.name.now c.args.bytes.now c.args.args.now c.args.options _ _ (search rules)
    (refusal g.W.Sink.seen c.args.out.now c.args.name.now c.args.bytes.now c.args.args.now c.args.options _ c.in_err-made.ensures c.from_residual.result (search rules))

pub returns-in-Check : goal.returns-in-Check
returns-in-Check g c =
    by_crew g.W.Sink.seen c.args.out.now c.ok.new.to c.args.name.now c.args.bytes.now c.args.args.now c.args.options _ _ (search rules)
    (checked g.W.Sink.seen c.args.out.now c.ok.new.to c.args.name.now c.args.bytes.now c.args.args.now c.args.options _ c.in_ok-made.ensures.compiled c.in-Check.is c.ok.result c.ok.ensures)

pub returns-in-Run : goal.returns-in-Run
returns-in-Run g c =
    let runs = running c.args.options.mode mode.Run c.in-Run.is run_is_no_check in
    by_crew g.W.Sink.seen c.args.out.now c.run_plain_with.new.out c.args.name.now c.args.bytes.now c.args.args.now c.args.options _ _ (search rules)
    (run_is g.W.Sink.seen c.args.out.now c.run_plain_with.new.out c.args.name.now c.args.bytes.now c.args.args.now c.args.options runs c.run_plain_with.result (c.run_plain_with.ensures c.args.name.now c.args.bytes.now c.in-Run.is c.in_ok-made.ensures.compiled))

pub returns-in-Scale : goal.returns-in-Scale
returns-in-Scale g c =
    let has = has_tables c.args.options.mode c.in-Scale.is in
    let runs : c.args.options.mode ≢ mode.Check = λ check. subst HasTables check has in
    by_crew g.W.Sink.seen c.args.out.now c.run_with.new.out c.args.name.now c.args.bytes.now c.args.args.now c.args.options _ _ (search rules)
    (run_is g.W.Sink.seen c.args.out.now c.run_with.new.out c.args.name.now c.args.bytes.now c.args.args.now c.args.options runs c.run_with.result (c.run_with.ensures c.args.name.now c.args.bytes.now has c.in_ok-made.ensures.compiled))

pub returns-in-Gain : goal.returns-in-Gain
returns-in-Gain g c =
    let runs = running c.args.options.mode (mode.Gain c.in-Gain.top) c.in-Gain.is gain_is_no_check in
    by_crew g.W.Sink.seen c.args.out.now c.run_gain_with.new.out c.args.name.now c.args.bytes.now c.args.args.now c.args.options _ _ (search rules)
    (run_is g.W.Sink.seen c.args.out.now c.run_gain_with.new.out c.args.name.now c.args.bytes.now c.args.args.now c.args.options runs c.run_gain_with.result (c.run_gain_with.ensures c.args.name.now c.args.bytes.now c.in-Gain.is c.in_ok-made.ensures))

pub returns-in-Greedy : goal.returns-in-Greedy
returns-in-Greedy g c =
    let runs = running c.args.options.mode (mode.Greedy c.in-Greedy.processors) c.in-Greedy.is schedule_is_no_check in
    by_crew g.W.Sink.seen c.args.out.now c.run_greedy_with.new.out c.args.name.now c.args.bytes.now c.args.args.now c.args.options _ _ (search rules)
    (run_is g.W.Sink.seen c.args.out.now c.run_greedy_with.new.out c.args.name.now c.args.bytes.now c.args.args.now c.args.options runs c.run_greedy_with.result (c.run_greedy_with.ensures c.args.name.now c.args.bytes.now c.in-Greedy.is c.in_ok-made.ensures.compiled))

pub run_gain_with-requires-clause-numbered : goal.run_gain_with-requires-clause-numbered
run_gain_with-requires-clause-numbered g c κs within = sites_numbered c.derived_sites_are_numbered.ensures c.args.bytes.now _ c.in_ok-made.ensures.compiled

pub returns-in-Speedup : goal.returns-in-Speedup
returns-in-Speedup g c =
    let runs = running c.args.options.mode (mode.Speedup c.in-Speedup.most) c.in-Speedup.is speedup_is_no_check in
    by_crew g.W.Sink.seen c.args.out.now c.run_speedup_with.new.out c.args.name.now c.args.bytes.now c.args.args.now c.args.options _ _ (search rules)
    (run_is g.W.Sink.seen c.args.out.now c.run_speedup_with.new.out c.args.name.now c.args.bytes.now c.args.args.now c.args.options runs c.run_speedup_with.result (c.run_speedup_with.ensures c.args.name.now c.args.bytes.now c.in-Speedup.is c.in_ok-made.ensures.compiled))

pub returns-in-Page : goal.returns-in-Page
returns-in-Page g c =
    let runs = running c.args.options.mode (mode.Page c.in-Page.top c.in-Page.processors) c.in-Page.is page_is_no_check in
    by_crew g.W.Sink.seen c.args.out.now c.run_page_with.new.out c.args.name.now c.args.bytes.now c.args.args.now c.args.options _ _ (search rules)
    (run_is g.W.Sink.seen c.args.out.now c.run_page_with.new.out c.args.name.now c.args.bytes.now c.args.args.now c.args.options runs c.run_page_with.result (c.run_page_with.ensures c.in-Page.is c.in_ok-made.ensures))

pub run_page_with-requires-clause-numbered : goal.run_page_with-requires-clause-numbered
run_page_with-requires-clause-numbered g c κs within = sites_numbered c.derived_sites_are_numbered.ensures c.args.bytes.now _ c.in_ok-made.ensures.compiled
