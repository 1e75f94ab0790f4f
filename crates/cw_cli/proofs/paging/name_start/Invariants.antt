-- The name begins at the same place within `start` as within the whole path.
use Rattle.std.proofs.Common.{◌≡◌, ◌≤◌, length}
use Rattle.cw_cli.specs.Pages.{name_start}
use Rattle.cw_cli.proofs.paging.name_start.Given as goal

abbrev pub invariant-loop-start : goal.invariant-loop-start
invariant-loop-start l = record {
  bound : l.start ≤ length l.path;
  same : name_start l.start l.path ≡ name_start (length l.path) l.path;
}

abbrev pub decreases-loop-start : goal.decreases-loop-start
decreases-loop-start l = l.start
