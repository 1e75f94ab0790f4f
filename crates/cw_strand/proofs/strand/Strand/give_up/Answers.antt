use Rattle.std.proofs.Common.{sym, ap}
use Rattle.cw_strand.specs.Holds.{stops, given_up}
use Rattle.cw_strand.proofs.Halts.{gives_up, stays_up}
use Rattle.cw_strand.proofs.strand.Strand.give_up.Goals as goal

pub returns-in-Going-clause-mode : goal.returns-in-Going-clause-mode
returns-in-Going-clause-mode c = sym (ap given_up c.in-Going.is)

pub returns-in-Going-clause-running : goal.returns-in-Going-clause-running
returns-in-Going-clause-running c =
    gives_up c.calls_preserve_strand_job.ensures c.machines_that_stop_remain.ensures.remain c.args.self.now (ap stops c.in-Going.is)

pub returns-in-Waiting-clause-mode : goal.returns-in-Waiting-clause-mode
returns-in-Waiting-clause-mode c = sym (ap given_up c.in-Waiting.is)

pub returns-in-Waiting-clause-running : goal.returns-in-Waiting-clause-running
returns-in-Waiting-clause-running c =
    gives_up c.calls_preserve_strand_job.ensures c.machines_that_stop_remain.ensures.remain c.args.self.now (ap stops c.in-Waiting.is)

pub returns-in_default-clause-mode : goal.returns-in_default-clause-mode
returns-in_default-clause-mode c = stays_up c.args.self.now.mode c.in_default.not-Going c.in_default.not-Waiting
