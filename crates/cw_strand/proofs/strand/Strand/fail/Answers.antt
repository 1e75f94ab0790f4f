use Rattle.cw_strand.proofs.Halts.{fails}
use Rattle.cw_strand.proofs.strand.Strand.fail.Goals as goal

pub returns-clause-running : goal.returns-clause-running
returns-clause-running c = fails c.calls_preserve_strand_job.ensures c.args.self.now
