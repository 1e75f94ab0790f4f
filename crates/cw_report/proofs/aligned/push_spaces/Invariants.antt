-- The spaces so far, and those that are left.
use Rattle.std.proofs.Common.{◌≡◌, ◌++◌, ◌-◌, replicate}
use Rattle.cw_report.proofs.aligned.push_spaces.Given as goal

abbrev pub invariant-loop : goal.invariant-loop
invariant-loop l = l.text.items ++ replicate (l.count - l.counter) 32 ≡ l.fn.text.items ++ replicate l.count 32
