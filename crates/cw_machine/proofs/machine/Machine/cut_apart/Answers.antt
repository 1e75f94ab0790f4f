use Rattle.std.proofs.Common.{rules, arith, ◌≡◌, ℤ, ◌+◌, ◌-◌, ◌<◌, ◌^◌, pos, length, refl, ap, ◌∙◌, subst, w64, of_z, to_z}
use Rattle.std.specs.Prelude.{slice_set}
use Rattle.std.specs.Coded.{le_prop}
use Rattle.std.proofs.Math.Logic.{∥∥₁_elim}
use Rattle.std.proofs.lemmas.Int.{to_z-of_z}
use Rattle.std.proofs.lemmas.List.{length-set}
use Rattle.cw_machine.specs.declared.machine.View.{View}
use Rattle.cw_machine.specs.Arrays.{view}
use Rattle.cw_machine.proofs.Moves as moves
use Rattle.cw_machine.specs.Arrays.{CutsAs}
use Rattle.cw_model.specs.Ints.{Value, Fails}
use Rattle.cw_machine.proofs.machine.Machine.cut_apart.Goals as goal

pub view-v-requires : goal.view-v-requires
view-v-requires c = ∥∥₁_elim c.requires le_prop (λ r. moves.cut_array c.args._code.now r.running.ok c.args.self.now r.running.state r.running.shows c.args.d c.args._line c.args.h.now r.is)

pub get-requires : goal.get-requires
get-requires c = ∥∥₁_elim c.requires le_prop (λ r. moves.cut_there c.args._code.now r.running.ok c.args.self.now r.running.state r.running.shows c.args.d c.args._line c.args.h.now r.is)

pub returns-in-Err : goal.returns-in-Err
returns-in-Err c = λ ok s is shows may change.
    let same : to_z w64 (of_z w64 c.get.result) ≡ c.get.result = search (rules, to_z-of_z) in
    let comes = subst (λ (w : View). CutsAs (to_z w64 (of_z w64 c.get.result)) w.len (Fails c.in-Err.trap)) c.view-v.ensures c.in-Err.ensures in
    moves.cut_traps c.args._code.now ok c.args.self.now s shows c.args.d c.args._line c.args.h.now c.get.result c.in-Err.trap c.args.self.now is c.get.ensures (subst (λ (z : ℤ). CutsAs z (view c.args.self.now.views.items (c.args.self.now.first_array + c.args.h.now.array)).len (Fails c.in-Err.trap)) same comes) refl

pub overflow_add-left : goal.overflow_add-left
overflow_add-left c =
    let there : c.args.self.now.first_array + c.args.h.now.left < length c.args.self.now.views.items = ∥∥₁_elim c.requires le_prop (λ r. moves.cut_left_there c.args._code.now r.running.ok c.args.self.now r.running.state r.running.shows c.args.d c.args._line c.args.h.now r.is) in
    omega (arith, there, c.args.self.now.views.ok, c.args.self.now.views.small)

pub overflow_add-right : goal.overflow_add-right
overflow_add-right c =
    let there : c.args.self.now.first_array + c.args.h.now.right < length c.args.self.now.views.items = ∥∥₁_elim c.requires le_prop (λ r. moves.cut_right_there c.args._code.now r.running.ok c.args.self.now r.running.state r.running.shows c.args.d c.args._line c.args.h.now r.is) in
    omega (arith, there, c.args.self.now.views.ok, c.args.self.now.views.small)

pub overflow_add-array : goal.overflow_add-array
overflow_add-array c =
    let there : c.args.self.now.first_array + c.args.h.now.array < length c.args.self.now.views.items = ∥∥₁_elim c.requires le_prop (λ r. moves.cut_array c.args._code.now r.running.ok c.args.self.now r.running.state r.running.shows c.args.d c.args._line c.args.h.now r.is) in
    omega (arith, there, c.args.self.now.views.ok, c.args.self.now.views.small)

pub set_view-requires : goal.set_view-requires
set_view-requires c = ∥∥₁_elim c.requires le_prop (λ r. moves.cut_left_there c.args._code.now r.running.ok c.args.self.now r.running.state r.running.shows c.args.d c.args._line c.args.h.now r.is)

pub beyond-from-requires : goal.beyond-from-requires
beyond-from-requires c = λ lt.
    let le = c.in-Ok.ensures.0 in
    let len = ap (λ (w : View). w.len) c.view-v.ensures in
    let from = ap (λ (w : View). w.from) c.view-v.ensures in
    let end : (view c.args.self.now.views.items (c.args.self.now.first_array + c.args.h.now.array)).from + (view c.args.self.now.views.items (c.args.self.now.first_array + c.args.h.now.array)).len < 2 ^ 63 = ∥∥₁_elim c.requires le_prop (λ r. moves.cut_small c.args._code.now r.running.ok c.args.self.now r.running.state r.running.shows c.args.d c.args._line c.args.h.now r.is (omega (arith, lt, le, len))) in
    omega (arith, end, le, len, from)

pub set_view-requires-2 : goal.set_view-requires-2
set_view-requires-2 c =
    let there : c.args.self.now.first_array + c.args.h.now.right < length c.args.self.now.views.items = ∥∥₁_elim c.requires le_prop (λ r. moves.cut_right_there c.args._code.now r.running.ok c.args.self.now r.running.state r.running.shows c.args.d c.args._line c.args.h.now r.is) in
    let n = ap (λ l. length l) c.set_view.ensures.views in
    let n' = length-set c.args.self.now.views.items (c.args.self.now.first_array + c.args.h.now.left) (record { block = c.view-v.result.block; from = c.view-v.result.from; len = c.in-Ok.k }) in
    omega (arith, there, n, n')

pub overflow_add-self : goal.overflow_add-self
overflow_add-self c =
    let next : c.args.self.now.place + 1 < 2 ^ 64 = ∥∥₁_elim c.requires le_prop (λ r. moves.cut_next c.args._code.now r.running.ok c.args.self.now r.running.state r.running.shows c.args.d c.args._line c.args.h.now r.is) in
    let same = c.set_view.ensures.rest.place in
    let same' = c.set_view-2.ensures.rest.place in
    omega (arith, next, same, same')

pub returns : goal.returns
returns c = λ ok s is shows may change.
    let same : to_z w64 (of_z w64 c.get.result) ≡ c.get.result = search (rules, to_z-of_z) in
    let q = c.args.self.now.first_array in
    let rest = c.set_view.ensures.rest in
    let rest' = c.set_view-2.ensures.rest in
    let le = c.in-Ok.ensures.0 in
    let len = ap (λ (w : View). w.len) c.view-v.ensures in
    let comes = subst (λ (w : View). CutsAs (to_z w64 (of_z w64 c.get.result)) w.len (Value (pos c.in-Ok.k))) c.view-v.ensures c.in-Ok.ensures.1 in
    let e_views = c.set_view-2.ensures.views ∙ ap (λ f. slice_set c.set_view.new.self.views.items (q + c.args.h.now.right) (record { block = c.view-v.result.block; from = f; len = c.view-v.result.len - c.in-Ok.k })) c.beyond-from.ensures ∙ ap (λ l. slice_set l (q + c.args.h.now.right) (record { block = c.view-v.result.block; from = c.view-v.result.from + c.in-Ok.k; len = c.view-v.result.len - c.in-Ok.k })) c.set_view.ensures.views
    ∙ ap (λ (w : View). slice_set (slice_set c.args.self.now.views.items (q + c.args.h.now.left) (record { block = w.block; from = w.from; len = c.in-Ok.k })) (q + c.args.h.now.right) (record { block = w.block; from = w.from + c.in-Ok.k; len = w.len - c.in-Ok.k })) c.view-v.ensures in
    moves.cut_follows c.args._code.now ok c.args.self.now s shows may change c.args.d c.args._line c.args.h.now c.get.result c.in-Ok.k _ is c.get.ensures (omega (arith, le, len)) (subst (λ (z : ℤ). CutsAs z (view c.args.self.now.views.items (c.args.self.now.first_array + c.args.h.now.array)).len (Value (pos c.in-Ok.k))) same comes) e_views (rest'.cuts ∙ rest.cuts ∙ c.in-Ok-push.ensures.items)
    (moves.kept c.args._code.now ok c.args.self.now s shows _ c.args.self.now.cells.items (c.args.self.now.place + 1) (rest'.cells ∙ rest.cells) (ap (λ p. p + 1) (rest'.place ∙ rest.place)) (record { first = rest'.first ∙ rest.first; frames = rest'.frames ∙ rest.frames; lines = rest'.lines ∙ rest.lines; views = refl; blocks = c.set_view-2.ensures.blocks ∙ c.set_view.ensures.blocks; first_array = rest'.first_array ∙ rest.first_array; depth = rest'.depth ∙ rest.depth; totals = rest'.totals ∙ rest.totals; cuts = refl }))
