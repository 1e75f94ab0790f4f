-- The page so far, and the remaining bytes.
use Rattle.std.proofs.Common.{◌≡◌, ◌++◌, drop, flat_map}
use Rattle.cw_report.specs.Escaping.{escaped_byte}
use Rattle.cw_report.proofs.escaping.push_escaped.Given as goal

abbrev pub invariant-loop-byte : goal.invariant-loop-byte
invariant-loop-byte l = l.page.items ++ flat_map escaped_byte (drop l.byte-index l.text) ≡ l.fn.page.items ++ flat_map escaped_byte l.text
