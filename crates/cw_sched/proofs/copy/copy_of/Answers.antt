use Rattle.std.proofs.Common.{sym, subst}
use Rattle.std.specs.Prelude.{Err}
use Rattle.cw_sched.specs.Copied.{IsCopy}
use Rattle.cw_sched.proofs.copy.copy_of.Goals as goal

pub returns-in-Err : goal.returns-in-Err
returns-in-Err c = subst (λ x. IsCopy x (Err c.copy_fault.result)) (sym c.in-Err.is) c.copy_fault.ensures
