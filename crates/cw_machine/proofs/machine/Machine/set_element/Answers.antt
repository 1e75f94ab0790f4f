use Rattle.std.proofs.Common.{rules, arith, ◌≡◌, ◌+◌, ◌<◌, ◌^◌, true, false, length, refl, sym, ap, ◌∙◌, w64, of_z, to_z}
use Rattle.std.specs.Prelude.{nat_abs, slice_get}
use Rattle.std.specs.Coded.{le_prop}
use Rattle.std.proofs.Math.Logic.{∥∥₁_elim, ∥∥₁_map}
use Rattle.std.proofs.lemmas.Int.{to_z-of_z}
use Rattle.cw_model.specs.Ints.{natural}
use Rattle.cw_machine.specs.declared.machine.View.{View}
use Rattle.cw_machine.specs.Arrays.{view, block, found, put, is_index}
use Rattle.cw_machine.specs.RepresentsState.{blocks_of}
use Rattle.cw_machine.proofs.Blocks as blocks
use Rattle.cw_machine.proofs.Moves as moves
use Rattle.cw_machine.proofs.machine.Machine.set_element.Goals as goal
use Rattle.cw_machine.proofs.Rights.{right_prop}

pub get-i-requires : goal.get-i-requires
get-i-requires c =
    let there : c.args.self.now.first + (c.args.d + 1) < length c.args.self.now.cells.items = ∥∥₁_elim c.requires le_prop (λ r. moves.set_there c.args._code.now r.running.ok c.args.self.now r.running.state r.running.shows c.args.d c.args.a c.args.line r.is) in
    omega arith

pub overflow_add-d : goal.overflow_add-d
overflow_add-d c =
    let there : c.args.self.now.first + (c.args.d + 1) < length c.args.self.now.cells.items = ∥∥₁_elim c.requires le_prop (λ r. moves.set_there c.args._code.now r.running.ok c.args.self.now r.running.state r.running.shows c.args.d c.args.a c.args.line r.is) in
    search rules

pub get-x-requires : goal.get-x-requires
get-x-requires c = ∥∥₁_elim c.requires le_prop (λ r. moves.set_there c.args._code.now r.running.ok c.args.self.now r.running.state r.running.shows c.args.d c.args.a c.args.line r.is)

pub view-v-requires : goal.view-v-requires
view-v-requires c = ∥∥₁_elim c.requires le_prop (λ r. moves.set_within c.args._code.now r.running.ok c.args.self.now r.running.state r.running.shows c.args.d c.args.a c.args.line r.is)

pub returns-then-not-is_within : goal.returns-then-not-is_within
returns-then-not-is_within c = λ ok s is shows may change.
    let same_i : to_z w64 (of_z w64 c.get-i.result) ≡ c.get-i.result = search (rules, to_z-of_z) in
    let len = ap (λ (w : View). w.len) c.view-v.ensures in
    let out : is_index c.get-i.result (view c.args.self.now.views.items (c.args.self.now.first_array + c.args.a)).len ≡ false = sym (ap (λ z. is_index z (view c.args.self.now.views.items (c.args.self.now.first_array + c.args.a)).len) same_i) ∙ sym (ap (λ l. is_index (to_z w64 (of_z w64 c.get-i.result)) l) len) ∙ sym c.is_within.ensures ∙ c.if-not-is_within.true in
    moves.set_traps c.args._code.now ok c.args.self.now s shows c.args.d c.args.a c.args.line c.get-i.result c.get-x.result c.args.self.now is c.get-i.ensures c.get-x.ensures out refl

pub overflow_add-v : goal.overflow_add-v
overflow_add-v c =
    let same_i : to_z w64 (of_z w64 c.get-i.result) ≡ c.get-i.result = search (rules, to_z-of_z) in
    let len = ap (λ (w : View). w.len) c.view-v.ensures in
    let within : is_index c.get-i.result (view c.args.self.now.views.items (c.args.self.now.first_array + c.args.a)).len ≡ true = sym (ap (λ z. is_index z (view c.args.self.now.views.items (c.args.self.now.first_array + c.args.a)).len) same_i) ∙ sym (ap (λ l. is_index (to_z w64 (of_z w64 c.get-i.result)) l) len) ∙ sym c.is_within.ensures ∙ c.if-not-is_within.false in
    let abs = ap nat_abs same_i ∙ blocks.abs_is c.get-i.result (view c.args.self.now.views.items (c.args.self.now.first_array + c.args.a)).len within in
    let from = ap (λ (w : View). w.from) c.view-v.ensures in
    let there = blocks.plainly (found (blocks_of c.args.self.now) (view c.args.self.now.views.items (c.args.self.now.first_array + c.args.a)).block ((view c.args.self.now.views.items (c.args.self.now.first_array + c.args.a)).from + natural c.get-i.result)) (∥∥₁_map c.requires (λ r. moves.set_place c.args._code.now r.running.ok c.args.self.now r.running.state r.running.shows r.running.above c.args.d c.args.a c.args.line c.get-i.result r.is within)) in
    let small = (blocks.found_is (blocks_of c.args.self.now) (view c.args.self.now.views.items (c.args.self.now.first_array + c.args.a)).block ((view c.args.self.now.views.items (c.args.self.now.first_array + c.args.a)).from + natural c.get-i.result) there.0 there.1).0 in
    omega (arith, small, abs, from)

pub set_at-requires : goal.set_at-requires
set_at-requires c =
    let same_i : to_z w64 (of_z w64 c.get-i.result) ≡ c.get-i.result = search (rules, to_z-of_z) in
    let len = ap (λ (w : View). w.len) c.view-v.ensures in
    let within : is_index c.get-i.result (view c.args.self.now.views.items (c.args.self.now.first_array + c.args.a)).len ≡ true = sym (ap (λ z. is_index z (view c.args.self.now.views.items (c.args.self.now.first_array + c.args.a)).len) same_i) ∙ sym (ap (λ l. is_index (to_z w64 (of_z w64 c.get-i.result)) l) len) ∙ sym c.is_within.ensures ∙ c.if-not-is_within.false in
    let abs = ap nat_abs same_i ∙ blocks.abs_is c.get-i.result (view c.args.self.now.views.items (c.args.self.now.first_array + c.args.a)).len within in
    let from = ap (λ (w : View). w.from) c.view-v.ensures in
    let there = blocks.plainly (found (blocks_of c.args.self.now) (view c.args.self.now.views.items (c.args.self.now.first_array + c.args.a)).block ((view c.args.self.now.views.items (c.args.self.now.first_array + c.args.a)).from + natural c.get-i.result)) (∥∥₁_map c.requires (λ r. moves.set_place c.args._code.now r.running.ok c.args.self.now r.running.state r.running.shows r.running.above c.args.d c.args.a c.args.line c.get-i.result r.is within)) in
    let right = ∥∥₁_elim c.requires (right_prop _) (λ r. moves.set_right c.args._code.now r.running.ok c.args.self.now r.running.state r.running.shows r.running.above r.running.frozen c.args.d c.args.a c.args.line c.get-i.result r.is within) in
    record {
      there = (there.0, ap (λ k. found (blocks_of c.args.self.now) c.view-v.result.block (c.view-v.result.from + k)) abs ∙ ap (λ (w : View). found (blocks_of c.args.self.now) w.block (w.from + natural c.get-i.result)) c.view-v.ensures ∙ there.1);
      own = ap (λ k. slice_get (block (blocks_of c.args.self.now) c.view-v.result.block).rights (c.view-v.result.from + k)) abs ∙ ap (λ (w : View). slice_get (block (blocks_of c.args.self.now) w.block).rights (w.from + natural c.get-i.result)) c.view-v.ensures ∙ right;
    }

pub overflow_add-self : goal.overflow_add-self
overflow_add-self c =
    let next : c.args.self.now.place + 1 < 2 ^ 64 = ∥∥₁_elim c.requires le_prop (λ r. moves.set_next c.args._code.now r.running.ok c.args.self.now r.running.state r.running.shows c.args.d c.args.a c.args.line r.is) in
    let same = c.set_at.ensures.rest.place in
    omega (arith, next, same)

pub returns : goal.returns
returns c = λ ok s is shows may change.
    let same_i : to_z w64 (of_z w64 c.get-i.result) ≡ c.get-i.result = search (rules, to_z-of_z) in
    let len = ap (λ (w : View). w.len) c.view-v.ensures in
    let within : is_index c.get-i.result (view c.args.self.now.views.items (c.args.self.now.first_array + c.args.a)).len ≡ true = sym (ap (λ z. is_index z (view c.args.self.now.views.items (c.args.self.now.first_array + c.args.a)).len) same_i) ∙ sym (ap (λ l. is_index (to_z w64 (of_z w64 c.get-i.result)) l) len) ∙ sym c.is_within.ensures ∙ c.if-not-is_within.false in
    let abs = ap nat_abs same_i ∙ blocks.abs_is c.get-i.result (view c.args.self.now.views.items (c.args.self.now.first_array + c.args.a)).len within in
    let from = ap (λ (w : View). w.from) c.view-v.ensures in
    let same_x : to_z w64 (of_z w64 c.get-x.result) ≡ c.get-x.result = search (rules, to_z-of_z) in
    let rest = c.set_at.ensures.rest in
    let e_blocks =
    c.set_at.ensures.blocks ∙ ap (λ z. put (blocks_of c.args.self.now) c.view-v.result.block (c.view-v.result.from + nat_abs (to_z w64 (of_z w64 c.get-i.result))) z) same_x
    ∙ ap (λ k. put (blocks_of c.args.self.now) c.view-v.result.block (c.view-v.result.from + k) c.get-x.result) abs ∙ ap (λ (w : View). put (blocks_of c.args.self.now) w.block (w.from + natural c.get-i.result) c.get-x.result) c.view-v.ensures in
    moves.set_follows c.args._code.now ok c.args.self.now s shows may change c.args.d c.args.a c.args.line c.get-i.result c.get-x.result _ is c.get-i.ensures c.get-x.ensures within e_blocks
    (moves.kept c.args._code.now ok c.args.self.now s shows _ c.args.self.now.cells.items (c.args.self.now.place + 1) rest.cells (ap (λ p. p + 1) rest.place) (record { first = rest.first; frames = rest.frames; lines = rest.lines; views = c.set_at.ensures.views; blocks = refl; first_array = rest.first_array; depth = rest.depth; totals = rest.totals; cuts = rest.cuts }))
