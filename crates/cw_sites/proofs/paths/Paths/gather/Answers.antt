use Rattle.std.proofs.Common.{arith}
use Rattle.cw_sites.proofs.PathBoundLaws.{gathers_none}
use Rattle.cw_sites.proofs.paths.Paths.gather.Goals as goal

pub returns-then-f-clause-all : goal.returns-then-f-clause-all
returns-then-f-clause-all c = λ laid. gathers_none c.args.self.now.steps.items c.args.f laid.order (omega arith)

pub returns-then-f-clause-short : goal.returns-then-f-clause-short
returns-then-f-clause-short c = λ laid most b l s. let s0 = s.0 in record { sites = b; limit = l; base = omega arith }
