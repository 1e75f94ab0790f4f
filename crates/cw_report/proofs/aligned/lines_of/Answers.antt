use Rattle.std.proofs.Common.{refl, arith}
use Rattle.cw_report.proofs.Cuts.{line_passed, all_lines}
use Rattle.cw_report.proofs.aligned.lines_of.Goals as goal

pub returns-then-end-rest : goal.returns-then-end-rest
returns-then-end-rest c =
    all_lines (λ l. l.now) c.loop-rest.lines.items c.end_at-end.result c.args.text.now c.loop-rest.rest.now c.end_at-end.ensures.value (omega arith) c.end_at-end.ensures.bound c.loop-rest.invariant

pub loop-rest-preserved : goal.loop-rest-preserved
loop-rest-preserved c =
    line_passed (λ l. l.now) c.loop-rest.lines.items c.push.new.self.items c.end_at-end.result c.args.text.now c.loop-rest.rest.now c.after-rest.result.now
    c.in_ok-push.ensures.items c.after-rest.ensures c.end_at-end.ensures.value (omega arith) refl c.loop-rest.invariant
