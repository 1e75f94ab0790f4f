-- The number of lines in the bytes so far, which is at most their number.
use Rattle.std.proofs.Common.{◌≡◌, ◌≤◌, ◌==◌, filter, length, take}
use Rattle.cw_report.proofs.page_text.lines_in.Given as goal

abbrev pub invariant-loop-byte : goal.invariant-loop-byte
invariant-loop-byte l = record {
  count : l.lines ≡ length (filter (λ b. b == 10) (take l.byte-index l.text));
  few : l.lines ≤ l.byte-index;
}
