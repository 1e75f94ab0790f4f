use Rattle.std.proofs.Common.{rules}
use Rattle.cw_report.proofs.Parts.{more-AppendsBefore, some_left}
use Rattle.cw_report.proofs.writing.write_text.Goals as goal

pub loop-rest-preserved : goal.loop-rest-preserved
loop-rest-preserved g c = record {
  bytes = more-AppendsBefore c.in-Ok.n c.loop-rest.rest.now _ _ _ _ c.loop-rest.invariant.bytes c.in-Ok.ensures.puts.bytes;
  failed = search rules;
  idle = λ none. absurd (some_left c.loop-rest.rest.now c.args.text.now _ _ c.loop-rest.invariant.bytes none c.loop-rest-test.ensures);
}
