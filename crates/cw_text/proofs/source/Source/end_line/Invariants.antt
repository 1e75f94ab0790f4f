use Rattle.std.proofs.Common.{◌≡◌, ◌+◌, ◌≤◌}
use Rattle.cw_model.specs.Text.{line_at}
use Rattle.cw_text.proofs.source.Source.end_line.Given as goal

abbrev pub invariant-loop-byte : goal.invariant-loop-byte
invariant-loop-byte l = record {
  line : l.line ≡ line_at l.self l.byte-index;
  few : l.line ≤ l.byte-index + 1;
}
