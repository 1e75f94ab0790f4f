-- The numbers so far, and the powers that are left.
use Rattle.std.proofs.Common.{◌≡◌, ◌++◌, ◌-◌}
use Rattle.cw_greedy_schedule.specs.Counts.{powers_below}
use Rattle.cw_greedy_schedule.proofs.counts.counts_up_to.Given as goal

abbrev pub invariant-loop-exponent : goal.invariant-loop-exponent
invariant-loop-exponent l = l.counts.items ++ powers_below l.most l.exponent (20 - l.exponent) ≡ powers_below l.most 0 20
