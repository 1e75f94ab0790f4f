use Rattle.std.proofs.Common.{arith, ◌+◌, ◌<◌, Some, length, ap, sym, ◌∙◌}
use Rattle.std.specs.Prelude.{slice_get}
use Rattle.std.specs.Coded.{le_prop}
use Rattle.std.proofs.Math.Logic.{∥∥₁_elim}
use Rattle.cw_machine.proofs.Moves as moves
use Rattle.cw_machine.proofs.Starting as starting
use Rattle.cw_machine.proofs.machine.Machine.trap_operands.Goals as goal

pub get-requires : goal.get-requires
get-requires c = ∥∥₁_elim c.requires le_prop (λ r. moves.unary_there c.args.code.now r.running.ok c.args.self.now r.running.state r.running.shows _ _ _ (r.is ∙ ap Some c.in-Unary.is))

pub get-requires-in-Binary : goal.get-requires-in-Binary
get-requires-in-Binary c =
    let d = c.in-Binary.d in
    let there : c.args.self.now.first + (d + 1) < length c.args.self.now.cells.items = ∥∥₁_elim c.requires le_prop (λ r. moves.binary_there c.args.code.now r.running.ok c.args.self.now r.running.state r.running.shows _ _ _ (r.is ∙ ap Some c.in-Binary.is)) in
    omega (arith, there)

pub overflow_add-d : goal.overflow_add-d
overflow_add-d c =
    let d = c.in-Binary.d in
    let there : c.args.self.now.first + (d + 1) < length c.args.self.now.cells.items = ∥∥₁_elim c.requires le_prop (λ r. moves.binary_there c.args.code.now r.running.ok c.args.self.now r.running.state r.running.shows _ _ _ (r.is ∙ ap Some c.in-Binary.is)) in
    omega (arith, there, c.args.self.now.cells.ok, c.args.self.now.cells.small)

pub get-requires-in-Binary-2 : goal.get-requires-in-Binary-2
get-requires-in-Binary-2 c = ∥∥₁_elim c.requires le_prop (λ r. moves.binary_there c.args.code.now r.running.ok c.args.self.now r.running.state r.running.shows _ _ _ (r.is ∙ ap Some c.in-Binary.is))

pub get-requires-in-NewArray : goal.get-requires-in-NewArray
get-requires-in-NewArray c = ∥∥₁_elim c.requires le_prop (λ r. moves.new_there c.args.code.now r.running.ok c.args.self.now r.running.state r.running.shows _ _ _ (r.is ∙ ap Some c.in-NewArray.is))

pub get-requires-in-Element : goal.get-requires-in-Element
get-requires-in-Element c = ∥∥₁_elim c.requires le_prop (λ r. moves.element_there c.args.code.now r.running.ok c.args.self.now r.running.state r.running.shows _ _ _ (r.is ∙ ap Some c.in-Element.is))

pub view-requires : goal.view-requires
view-requires c = ∥∥₁_elim c.requires le_prop (λ r. moves.element_within c.args.code.now r.running.ok c.args.self.now r.running.state r.running.shows _ _ _ (r.is ∙ ap Some c.in-Element.is))

pub get-requires-in-SetElement : goal.get-requires-in-SetElement
get-requires-in-SetElement c =
    let d = c.in-SetElement.d in
    let there : c.args.self.now.first + (d + 1) < length c.args.self.now.cells.items = ∥∥₁_elim c.requires le_prop (λ r. moves.set_there c.args.code.now r.running.ok c.args.self.now r.running.state r.running.shows _ _ _ (r.is ∙ ap Some c.in-SetElement.is)) in
    omega (arith, there)

pub view-requires-in-SetElement : goal.view-requires-in-SetElement
view-requires-in-SetElement c = ∥∥₁_elim c.requires le_prop (λ r. moves.set_within c.args.code.now r.running.ok c.args.self.now r.running.state r.running.shows _ _ _ (r.is ∙ ap Some c.in-SetElement.is))

pub get-requires-in-Cut : goal.get-requires-in-Cut
get-requires-in-Cut c = ∥∥₁_elim c.requires le_prop (λ r. moves.cut_there c.args.code.now r.running.ok c.args.self.now r.running.state r.running.shows _ _ _ (r.is ∙ ap Some c.in-Cut.is))

pub view-requires-in-Cut : goal.view-requires-in-Cut
view-requires-in-Cut c = ∥∥₁_elim c.requires le_prop (λ r. moves.cut_array c.args.code.now r.running.ok c.args.self.now r.running.state r.running.shows _ _ _ (r.is ∙ ap Some c.in-Cut.is))

pub least_length-least-requires : goal.least_length-least-requires
least_length-least-requires c = λ j a e.
    ∥∥₁_elim c.requires le_prop (λ r. starting.start_sees c.args.code.now r.running.ok c.args.self.now r.running.state r.running.shows _ _ _ (r.is ∙ ap Some c.in-Start.is) j a (ap (λ l. slice_get l j) (sym c.slots_named.ensures) ∙ e))

pub get-requires-in-Start : goal.get-requires-in-Start
get-requires-in-Start c =
    let d = c.in-Start.d in
    let there : c.args.self.now.first + (d + 1) < length c.args.self.now.cells.items = ∥∥₁_elim c.requires le_prop (λ r. starting.start_there c.args.code.now r.running.ok c.args.self.now r.running.state r.running.shows _ _ _ (r.is ∙ ap Some c.in-Start.is)) in
    omega (arith, there)

pub overflow_add-d-in-Start : goal.overflow_add-d-in-Start
overflow_add-d-in-Start c =
    let d = c.in-Start.d in
    let there : c.args.self.now.first + (d + 1) < length c.args.self.now.cells.items = ∥∥₁_elim c.requires le_prop (λ r. starting.start_there c.args.code.now r.running.ok c.args.self.now r.running.state r.running.shows _ _ _ (r.is ∙ ap Some c.in-Start.is)) in
    omega (arith, there, c.args.self.now.cells.ok, c.args.self.now.cells.small)

pub get-requires-in-Start-2 : goal.get-requires-in-Start-2
get-requires-in-Start-2 c = ∥∥₁_elim c.requires le_prop (λ r. starting.start_there c.args.code.now r.running.ok c.args.self.now r.running.state r.running.shows _ _ _ (r.is ∙ ap Some c.in-Start.is))
