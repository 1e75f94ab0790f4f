use Rattle.std.proofs.Common.{rules, arith, ℤ, ◌+◌, ◌<◌, ◌^◌, pos, ap, ◌∙◌, w64}
use Rattle.std.specs.Prelude.{slice_set}
use Rattle.std.specs.Coded.{le_prop}
use Rattle.std.proofs.Math.Logic.{∥∥₁_elim}
use Rattle.std.proofs.lemmas.Int.{to_z_pos}
use Rattle.cw_machine.specs.declared.machine.View.{View}
use Rattle.cw_machine.specs.Arrays.{view}
use Rattle.cw_machine.proofs.Moves as moves
use Rattle.cw_machine.proofs.machine.Machine.length.Goals as goal

pub view-v-requires : goal.view-v-requires
view-v-requires c = ∥∥₁_elim c.requires le_prop (λ r. moves.length_within c.args._code.now r.running.ok c.args.self.now r.running.state r.running.shows c.args.d c.args.a r.is)

pub overflow_cast-v : goal.overflow_cast-v
overflow_cast-v c =
    let small : (view c.args.self.now.views.items (c.args.self.now.first_array + c.args.a)).len < 2 ^ 63 = ∥∥₁_elim c.requires le_prop (λ r. moves.length_small c.args._code.now r.running.ok c.args.self.now r.running.state r.running.shows c.args.d c.args.a r.is) in
    let is = ap (λ (w : View). w.len) c.view-v.ensures in
    let lt : c.view-v.result.len < 2 ^ 63 = omega (arith, small, is) in
    search rules

pub put-requires-clause-there : goal.put-requires-clause-there
put-requires-clause-there c = ∥∥₁_elim c.requires le_prop (λ r. moves.length_there c.args._code.now r.running.ok c.args.self.now r.running.state r.running.shows c.args.d c.args.a r.is)

pub put-requires-clause-next : goal.put-requires-clause-next
put-requires-clause-next c = ∥∥₁_elim c.requires le_prop (λ r. moves.length_next c.args._code.now r.running.ok c.args.self.now r.running.state r.running.shows c.args.d c.args.a r.is)

pub returns : goal.returns
returns c = λ ok s is shows may change.
    let small = moves.length_small c.args._code.now ok c.args.self.now s shows c.args.d c.args.a is in
    let len = ap (λ (w : View). w.len) c.view-v.ensures in
    let lt : c.view-v.result.len < 2 ^ 63 = omega (arith, small, len) in
    let same = ap (λ (z : ℤ). slice_set c.args.self.now.cells.items (c.args.self.now.first + c.args.d) z) (to_z_pos w64 c.view-v.result.len lt) in
    moves.length_follows c.args._code.now ok c.args.self.now s shows c.args.d c.args.a c.view-v.result.len c.put.new.self is len
    (moves.kept c.args._code.now ok c.args.self.now s shows c.put.new.self (slice_set c.args.self.now.cells.items (c.args.self.now.first + c.args.d) (pos c.view-v.result.len)) (c.args.self.now.place + 1) (c.put.ensures.cells ∙ same) c.put.ensures.place c.put.ensures.rest)
