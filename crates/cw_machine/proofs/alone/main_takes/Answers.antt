use Rattle.std.proofs.Common.{sym}
use Rattle.std.specs.Coded.{le_prop}
use Rattle.std.proofs.Math.Logic.{∥∥₁_elim}
use Rattle.cw_code.specs.Code.{code_view}
use Rattle.cw_machine.proofs.FromMain.{params_are, main_there}
use Rattle.cw_machine.proofs.alone.main_takes.Goals as goal

pub func-requires : goal.func-requires
func-requires c = let v = c.args.code.now in ∥∥₁_elim v.ok le_prop (λ ok. main_there v ok)

pub returns : goal.returns
returns c = sym (params_are (code_view c.args.code.now.code) c.func.result.now c.func.ensures)
