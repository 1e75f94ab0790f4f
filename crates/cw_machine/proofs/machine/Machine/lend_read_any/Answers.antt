use Rattle.std.proofs.Common.{sym, ap, ◌∙◌}
use Rattle.std.specs.Prelude.{slice_get}
use Rattle.cw_machine.specs.Calls.{loans_of}
use Rattle.cw_machine.proofs.machine.Machine.lend_read_any.Goals as goal

pub lend_read-requires-clause-there : goal.lend_read-requires-clause-there
lend_read-requires-clause-there c = λ r loan e. c.requires.there r loan (ap (λ l. slice_get l r) (ap (loans_of c.args.code.now) c.in-Some.is ∙ sym c.loans_named.ensures) ∙ e)
