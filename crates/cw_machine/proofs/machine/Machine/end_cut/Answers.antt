use Rattle.std.proofs.Common.{arith, ◌≡◌, ◌+◌, ◌-◌, ◌<◌, ◌^◌, [], ◌∷◌, length, length-append, refl, ap, ◌∙◌}
use Rattle.std.specs.Prelude.{take, slice_set}
use Rattle.std.specs.Coded.{le_prop}
use Rattle.std.proofs.Math.Logic.{∥∥₁_elim}
use Rattle.cw_machine.proofs.Moves as moves
use Rattle.cw_machine.proofs.Order.{but_last}
use Rattle.std.proofs.lemmas.List.{length-set}
use Rattle.cw_machine.proofs.machine.Machine.end_cut.Goals as goal

pub overflow_add-left : goal.overflow_add-left
overflow_add-left c =
    let there : c.args.self.now.first_array + c.args.h.now.left < length c.args.self.now.views.items = ∥∥₁_elim c.requires le_prop (λ r. moves.end_left_there c.args._code.now r.running.ok c.args.self.now r.running.state r.running.shows c.args.h.now r.is) in
    omega (arith, there, c.args.self.now.views.ok, c.args.self.now.views.small)

pub overflow_add-right : goal.overflow_add-right
overflow_add-right c =
    let there : c.args.self.now.first_array + c.args.h.now.right < length c.args.self.now.views.items = ∥∥₁_elim c.requires le_prop (λ r. moves.end_right_there c.args._code.now r.running.ok c.args.self.now r.running.state r.running.shows c.args.h.now r.is) in
    omega (arith, there, c.args.self.now.views.ok, c.args.self.now.views.small)

pub set_view-requires : goal.set_view-requires
set_view-requires c = ∥∥₁_elim c.requires le_prop (λ r. moves.end_left_there c.args._code.now r.running.ok c.args.self.now r.running.state r.running.shows c.args.h.now r.is)

pub set_view-requires-2 : goal.set_view-requires-2
set_view-requires-2 c =
    let there : c.args.self.now.first_array + c.args.h.now.right < length c.args.self.now.views.items = ∥∥₁_elim c.requires le_prop (λ r. moves.end_right_there c.args._code.now r.running.ok c.args.self.now r.running.state r.running.shows c.args.h.now r.is) in
    let n = ap (λ l. length l) c.set_view.ensures.views in
    let n' = length-set c.args.self.now.views.items (c.args.self.now.first_array + c.args.h.now.left) (record { block = c.args.self.now.first_array + c.args.h.now.left; from = 0; len = 0 }) in
    omega (arith, there, n, n')

pub overflow_add-self : goal.overflow_add-self
overflow_add-self c =
    let next : c.args.self.now.place + 1 < 2 ^ 64 = ∥∥₁_elim c.requires le_prop (λ r. moves.end_next c.args._code.now r.running.ok c.args.self.now r.running.state r.running.shows c.args.h.now r.is) in
    let same = c.set_view.ensures.rest.place in
    let same' = c.set_view-2.ensures.rest.place in
    omega (arith, next, same, same')

pub returns : goal.returns
returns c = λ ok s is shows may change.
    let q = c.args.self.now.first_array in
    let rest = c.set_view.ensures.rest in
    let rest' = c.set_view-2.ensures.rest in
    let e_views = c.set_view-2.ensures.views ∙ ap (λ l. slice_set l (q + c.args.h.now.right) (record { block = q + c.args.h.now.right; from = 0; len = 0 })) c.set_view.ensures.views in
    moves.end_follows c.args._code.now ok c.args.self.now s shows c.args.h.now _ is may change e_views
    (λ cells x e.
    let n = c.set_view-2.new.self.cuts.ok.0 in
    let m = ap length (rest'.cuts ∙ rest.cuts ∙ e) in
    let l = length-append cells (x ∷ []) in
    let is : c.set_view-2.new.self.cuts.len - 1 ≡ length cells = omega (arith, n, m, l) in
    c.pop-cut.ensures.rest ∙ ap (λ z. take (c.set_view-2.new.self.cuts.len - 1) z) (rest'.cuts ∙ rest.cuts ∙ e) ∙ but_last cells x (c.set_view-2.new.self.cuts.len - 1) is)
    (moves.kept c.args._code.now ok c.args.self.now s shows _ c.args.self.now.cells.items (c.args.self.now.place + 1) (rest'.cells ∙ rest.cells) (ap (λ p. p + 1) (rest'.place ∙ rest.place)) (record { first = rest'.first ∙ rest.first; frames = rest'.frames ∙ rest.frames; lines = rest'.lines ∙ rest.lines; views = refl; blocks = c.set_view-2.ensures.blocks ∙ c.set_view.ensures.blocks; first_array = rest'.first_array ∙ rest.first_array; depth = rest'.depth ∙ rest.depth; totals = rest'.totals ∙ rest.totals; cuts = refl }))
