use Rattle.std.proofs.Common.{sym}
use Rattle.cw_reduce.proofs.SumLaws.{sum_of_bits}
use Rattle.cw_reduce.proofs.sum.SumMonoid.join.Goals as goal

pub returns-clause-value : goal.returns-clause-value
returns-clause-value c = sum_of_bits c.args.self c.args.right c.self.inside.bits c.right.inside.bits (sym c.self.view_is) (sym c.right.view_is)
