use Rattle.std.proofs.Common.{ap}
use Rattle.cw_own.specs.Views.{views_at}
use Rattle.cw_own.proofs.findings.Findings.new.Goals as goal

pub returns : goal.returns
returns c = ap views_at c.new.ensures
