-- The bytes that are no longer in `rest` were appended, and no write failed so far; if there is no text, nothing was
-- done.
use Rattle.std.proofs.Common.{◌≡◌, [], length}
use Rattle.cw_report.specs.Sinks.{AppendsBefore}
use Rattle.cw_report.proofs.writing.write_text.Given as goal

abbrev pub invariant-loop-rest : goal.invariant-loop-rest
invariant-loop-rest g l = record {
  bytes : AppendsBefore l.rest (g.W.Sink.seen l.initial.to).bytes (g.W.Sink.seen l.to).bytes l.initial.rest;
  failed : (g.W.Sink.seen l.to).failures ≡ (g.W.Sink.seen l.initial.to).failures;
  idle : l.initial.rest ≡ [] → l.to ≡ l.initial.to;
}

abbrev pub decreases-loop-rest : goal.decreases-loop-rest
decreases-loop-rest g l = length l.rest
