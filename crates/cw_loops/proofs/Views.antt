-- Call statements under the abstraction.
use Rattle.std.proofs.Common.{◌≡◌, Box, Global, arith}
use Rattle.std.specs.Prelude.{map}
use Rattle.std.proofs.lemmas.Grind.{common_steps}
use Rattle.cw_loops.specs.declared.tree.Call as own_call
use Rattle.cw_loops.specs.declared.tree.Stmt.TheBlock as own_code
use Rattle.cw_loops.specs.declared.tree.Stmt.{the_lemmas}
use Rattle.cw_loops.specs.Slotted as slotted
use Rattle.cw_loops.specs.View as view

pub call_is : (c : Box own_call.Call Global) → view.stmt_of (own_code.Call c) ≡ slotted.Call c.value.kind c.value.site c.value.target c.value.callee (map view.argument_of c.value.arguments.items)
call_is c = grind (arith, common_steps, the_lemmas)
