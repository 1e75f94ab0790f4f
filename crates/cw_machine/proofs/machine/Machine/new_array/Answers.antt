use Rattle.std.proofs.Common.{rules, arith, ◌≡◌, ◌+◌, ◌<◌, ◌^◌, length, refl, sym, ap, ◌∙◌, w64, of_z, to_z}
use Rattle.std.specs.Prelude.{slice_set}
use Rattle.std.specs.Coded.{le_prop}
use Rattle.std.proofs.Math.Logic.{∥∥₁_elim}
use Rattle.std.proofs.lemmas.Int.{to_z-of_z}
use Rattle.cw_model.specs.Meaning.{new_length}
use Rattle.cw_machine.proofs.Moves as moves
use Rattle.cw_machine.proofs.machine.Machine.new_array.Goals as goal

pub get-requires : goal.get-requires
get-requires c = ∥∥₁_elim c.requires le_prop (λ r. moves.new_there c.args._code.now r.running.ok c.args.self.now r.running.state r.running.shows c.args.d c.args.a c.args.line r.is)

pub returns-in-Err : goal.returns-in-Err
returns-in-Err c = λ ok s is shows may change.
    let same : to_z w64 (of_z w64 c.get.result) ≡ c.get.result = search (rules, to_z-of_z) in
    moves.new_traps c.args._code.now ok c.args.self.now s shows c.args.d c.args.a c.args.line c.get.result c.in-Err.trap c.args.self.now is c.get.ensures (sym (ap new_length same) ∙ c.in-Err.ensures.length) refl

pub overflow_add-at : goal.overflow_add-at
overflow_add-at c =
    let there : c.args.self.now.first_array + c.args.a < length c.args.self.now.views.items = ∥∥₁_elim c.requires le_prop (λ r. moves.new_within c.args._code.now r.running.ok c.args.self.now r.running.state r.running.shows c.args.d c.args.a c.args.line r.is) in
    omega (arith, c.args.self.now.views.ok, c.args.self.now.views.small)

pub renew-requires-clause-there : goal.renew-requires-clause-there
renew-requires-clause-there c = ∥∥₁_elim c.requires le_prop (λ r. moves.new_block c.args._code.now r.running.ok c.args.self.now r.running.state r.running.shows c.args.d c.args.a c.args.line r.is)

pub set_view-requires : goal.set_view-requires
set_view-requires c =
    let there : c.args.self.now.first_array + c.args.a < length c.args.self.now.views.items = ∥∥₁_elim c.requires le_prop (λ r. moves.new_within c.args._code.now r.running.ok c.args.self.now r.running.state r.running.shows c.args.d c.args.a c.args.line r.is) in
    let same = ap (λ l. length l) c.in-Ok-renew.ensures.views in
    omega (arith, there, same)

pub overflow_add-self : goal.overflow_add-self
overflow_add-self c =
    let next : c.args.self.now.place + 1 < 2 ^ 64 = ∥∥₁_elim c.requires le_prop (λ r. moves.new_next c.args._code.now r.running.ok c.args.self.now r.running.state r.running.shows c.args.d c.args.a c.args.line r.is) in
    let same = c.in-Ok-renew.ensures.rest.place in
    let same' = c.set_view.ensures.rest.place in
    omega (arith, next, same, same')

pub returns-in-Ok-renew : goal.returns-in-Ok-renew
returns-in-Ok-renew c = λ ok s is shows may change.
    let same : to_z w64 (of_z w64 c.get.result) ≡ c.get.result = search (rules, to_z-of_z) in
    let at = c.args.self.now.first_array + c.args.a in
    let renewed = c.in-Ok-renew.ensures in
    let rest = renewed.rest in
    let rest' = c.set_view.ensures.rest in
    let e_views = c.set_view.ensures.views ∙ ap (λ l. slice_set l at (record { block = at; from = 0; len = c.in-Ok.len })) renewed.views in
    let e_blocks = c.set_view.ensures.blocks ∙ renewed.blocks in
    moves.new_follows c.args._code.now ok c.args.self.now s shows may change c.args.d c.args.a c.args.line c.get.result c.in-Ok.len renewed.zeros _ c.in-Ok.ensures.small renewed.are renewed.whole renewed.own is c.get.ensures (sym (ap new_length same) ∙ c.in-Ok.ensures.length) e_views e_blocks
    (moves.kept c.args._code.now ok c.args.self.now s shows _ c.args.self.now.cells.items (c.args.self.now.place + 1) (rest'.cells ∙ rest.cells) (ap (λ p. p + 1) (rest'.place ∙ rest.place)) (record { first = rest'.first ∙ rest.first; frames = rest'.frames ∙ rest.frames; lines = rest'.lines ∙ rest.lines; views = refl; blocks = refl; first_array = rest'.first_array ∙ rest.first_array; depth = rest'.depth ∙ rest.depth; totals = rest'.totals ∙ rest.totals; cuts = rest'.cuts ∙ rest.cuts }))
