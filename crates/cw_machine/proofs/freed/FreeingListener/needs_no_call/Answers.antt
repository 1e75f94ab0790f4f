use Rattle.cw_machine.specs.Freed.{is_freed}
use Rattle.cw_machine.proofs.freed.FreeingListener.needs_no_call.Goals as goal

pub returns : goal.returns
returns c = λ asked w count os es small open_ h. record { frees = h.frees; tells = c.instructions_need_no_call.ensures w.meter count (is_freed asked.frees) asked.burden os es small h.tells }
