use Rattle.std.proofs.Common.{drop}
use Rattle.cw_sched.proofs.Plays.{Playing}
use Rattle.cw_sched.proofs.play.play.Given as goal

abbrev pub invariant-loop-event : goal.invariant-loop-event
invariant-loop-event l = Playing l.fn.code.value l.fn.args l.fn.n l.fn.burden l.fn.workers l.events (drop l.event-index l.events) l.world
