use Rattle.std.proofs.Common.{refl, subst}
use Rattle.cw_machine.specs.JobRuns.{BeginsJob}
use Rattle.cw_strand.proofs.starting.begin_run.Goals as goal

pub returns-clause-begins : goal.returns-clause-begins
returns-clause-begins c = record {
  meter = c.in_ok-meter.ensures;
  machine = subst (λ v. BeginsJob v c.args.parts.now.rest c.in_ok-machine.machine) c.deref.ensures c.in_ok-machine.ensures.begins;
  code = refl;
  extent = refl;
  site = refl;
  detail = refl;
  limit = refl;
  before = refl;
  rest = c.in_ok-machine.ensures.rest;
}
