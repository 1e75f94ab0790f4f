use Rattle.std.proofs.Common.{refl, arith}
use Rattle.cw_sites.proofs.paths.Paths.compact.Goals as goal

pub returns-clause-short : goal.returns-clause-short
returns-clause-short c = λ l. omega arith

pub returns-clause-limit : goal.returns-clause-limit
returns-clause-limit c = λ most b l. let s = c.in_ok-end.ensures.short most b in omega arith

pub returns-clause-rest : goal.returns-clause-rest
returns-clause-rest c = record { blocks = refl; weight = refl; start = refl }
