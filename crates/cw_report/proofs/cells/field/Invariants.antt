-- The fields that are left to pass are before this field of the rest.
use Rattle.std.proofs.Common.{◌≡◌, ◌-◌}
use Rattle.cw_report.specs.Aligned as aligned
use Rattle.cw_report.proofs.cells.field.Given as goal

abbrev pub invariant-loop : goal.invariant-loop
invariant-loop l = aligned.field (l.number - l.counter) l.rest ≡ aligned.field l.number l.line
