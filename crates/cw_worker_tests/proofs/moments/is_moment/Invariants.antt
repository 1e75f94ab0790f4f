use Rattle.cw_sched.specs.Worlds.{IsSound}
use Rattle.cw_worker_tests.proofs.moments.is_moment.Given as goal

abbrev pub invariant-loop-i : goal.invariant-loop-i
invariant-loop-i l = IsSound l.world
