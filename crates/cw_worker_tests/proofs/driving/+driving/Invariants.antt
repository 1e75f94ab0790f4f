use Rattle.std.proofs.Common.{◌≡◌, ◌+◌, ◌*◌, ◌<◌}
use Rattle.cw_strand.specs.Holds.{outs, IsRunning}
use Rattle.cw_worker_tests.proofs.driving.+driving.Given as goal

abbrev pub decreases-go_on : goal.decreases-go_on
decreases-go_on l = 4 * l.depth

abbrev pub decreases-go_to_join : goal.decreases-go_to_join
decreases-go_to_join l = 4 * l.depth + 1

abbrev pub decreases-run_apart : goal.decreases-run_apart
decreases-run_apart l = 4 * l.depth + 1

abbrev pub decreases-see_to : goal.decreases-see_to
decreases-see_to l = 4 * l.depth + 2

abbrev pub invariant-go_on-loop : goal.invariant-go_on-loop
invariant-go_on-loop l =
    IsRunning l.strand × (l.strand.of ≡ l.initial.strand.of) × (outs l.strand ≡ outs l.initial.strand) × (0 < l.depth)
