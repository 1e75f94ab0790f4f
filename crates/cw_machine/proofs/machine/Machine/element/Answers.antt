use Rattle.std.proofs.Common.{rules, arith, ◌≡◌, ℤ, ◌+◌, true, false, Some, refl, sym, ap, ◌∙◌, w64, of_z, to_z}
use Rattle.std.specs.Prelude.{nat_abs, slice_set}
use Rattle.std.specs.Coded.{le_prop}
use Rattle.std.proofs.Math.Logic.{∥∥₁_elim, ∥∥₁_map}
use Rattle.std.proofs.lemmas.Int.{to_z-of_z}
use Rattle.cw_model.specs.Ints.{natural}
use Rattle.cw_machine.specs.declared.machine.View.{View}
use Rattle.cw_machine.specs.Arrays.{view, found, is_index}
use Rattle.cw_machine.specs.RepresentsState.{blocks_of}
use Rattle.cw_machine.proofs.Blocks as blocks
use Rattle.cw_machine.proofs.Moves as moves
use Rattle.cw_machine.proofs.machine.Machine.element.Goals as goal

pub get-i-requires : goal.get-i-requires
get-i-requires c = ∥∥₁_elim c.requires le_prop (λ r. moves.element_there c.args._code.now r.running.ok c.args.self.now r.running.state r.running.shows c.args.d c.args.a c.args.line r.is)

pub view-v-requires : goal.view-v-requires
view-v-requires c = ∥∥₁_elim c.requires le_prop (λ r. moves.element_within c.args._code.now r.running.ok c.args.self.now r.running.state r.running.shows c.args.d c.args.a c.args.line r.is)

pub returns-then-not-is_within : goal.returns-then-not-is_within
returns-then-not-is_within c = λ ok s is shows may change.
    let same_i : to_z w64 (of_z w64 c.get-i.result) ≡ c.get-i.result = search (rules, to_z-of_z) in
    let len = ap (λ (w : View). w.len) c.view-v.ensures in
    let out : is_index c.get-i.result (view c.args.self.now.views.items (c.args.self.now.first_array + c.args.a)).len ≡ false = sym (ap (λ z. is_index z (view c.args.self.now.views.items (c.args.self.now.first_array + c.args.a)).len) same_i) ∙ sym (ap (λ l. is_index (to_z w64 (of_z w64 c.get-i.result)) l) len) ∙ sym c.is_within.ensures ∙ c.if-not-is_within.true in
    moves.element_traps c.args._code.now ok c.args.self.now s shows c.args.d c.args.a c.args.line c.get-i.result c.args.self.now is c.get-i.ensures out refl

pub overflow_add-v : goal.overflow_add-v
overflow_add-v c =
    let same_i : to_z w64 (of_z w64 c.get-i.result) ≡ c.get-i.result = search (rules, to_z-of_z) in
    let len = ap (λ (w : View). w.len) c.view-v.ensures in
    let within : is_index c.get-i.result (view c.args.self.now.views.items (c.args.self.now.first_array + c.args.a)).len ≡ true = sym (ap (λ z. is_index z (view c.args.self.now.views.items (c.args.self.now.first_array + c.args.a)).len) same_i) ∙ sym (ap (λ l. is_index (to_z w64 (of_z w64 c.get-i.result)) l) len) ∙ sym c.is_within.ensures ∙ c.if-not-is_within.false in
    let abs = ap nat_abs same_i ∙ blocks.abs_is c.get-i.result (view c.args.self.now.views.items (c.args.self.now.first_array + c.args.a)).len within in
    let from = ap (λ (w : View). w.from) c.view-v.ensures in
    let there = blocks.plainly (found (blocks_of c.args.self.now) (view c.args.self.now.views.items (c.args.self.now.first_array + c.args.a)).block ((view c.args.self.now.views.items (c.args.self.now.first_array + c.args.a)).from + natural c.get-i.result)) (∥∥₁_map c.requires (λ r. moves.element_place c.args._code.now r.running.ok c.args.self.now r.running.state r.running.shows r.running.above c.args.d c.args.a c.args.line c.get-i.result r.is within)) in
    let small = (blocks.found_is (blocks_of c.args.self.now) (view c.args.self.now.views.items (c.args.self.now.first_array + c.args.a)).block ((view c.args.self.now.views.items (c.args.self.now.first_array + c.args.a)).from + natural c.get-i.result) there.0 there.1).0 in
    omega (arith, small, abs, from)

pub at-x-requires : goal.at-x-requires
at-x-requires c =
    let same_i : to_z w64 (of_z w64 c.get-i.result) ≡ c.get-i.result = search (rules, to_z-of_z) in
    let len = ap (λ (w : View). w.len) c.view-v.ensures in
    let within : is_index c.get-i.result (view c.args.self.now.views.items (c.args.self.now.first_array + c.args.a)).len ≡ true = sym (ap (λ z. is_index z (view c.args.self.now.views.items (c.args.self.now.first_array + c.args.a)).len) same_i) ∙ sym (ap (λ l. is_index (to_z w64 (of_z w64 c.get-i.result)) l) len) ∙ sym c.is_within.ensures ∙ c.if-not-is_within.false in
    let abs = ap nat_abs same_i ∙ blocks.abs_is c.get-i.result (view c.args.self.now.views.items (c.args.self.now.first_array + c.args.a)).len within in
    let from = ap (λ (w : View). w.from) c.view-v.ensures in
    let there = blocks.plainly (found (blocks_of c.args.self.now) (view c.args.self.now.views.items (c.args.self.now.first_array + c.args.a)).block ((view c.args.self.now.views.items (c.args.self.now.first_array + c.args.a)).from + natural c.get-i.result)) (∥∥₁_map c.requires (λ r. moves.element_place c.args._code.now r.running.ok c.args.self.now r.running.state r.running.shows r.running.above c.args.d c.args.a c.args.line c.get-i.result r.is within)) in
    (there.0, ap (λ k. found (blocks_of c.args.self.now) c.view-v.result.block (c.view-v.result.from + k)) abs ∙ ap (λ (w : View). found (blocks_of c.args.self.now) w.block (w.from + natural c.get-i.result)) c.view-v.ensures ∙ there.1)

pub put-requires-clause-there : goal.put-requires-clause-there
put-requires-clause-there c = ∥∥₁_elim c.requires le_prop (λ r. moves.element_there c.args._code.now r.running.ok c.args.self.now r.running.state r.running.shows c.args.d c.args.a c.args.line r.is)

pub put-requires-clause-next : goal.put-requires-clause-next
put-requires-clause-next c = ∥∥₁_elim c.requires le_prop (λ r. moves.element_next c.args._code.now r.running.ok c.args.self.now r.running.state r.running.shows c.args.d c.args.a c.args.line r.is)

pub returns : goal.returns
returns c = λ ok s is shows may change.
    let same_i : to_z w64 (of_z w64 c.get-i.result) ≡ c.get-i.result = search (rules, to_z-of_z) in
    let len = ap (λ (w : View). w.len) c.view-v.ensures in
    let within : is_index c.get-i.result (view c.args.self.now.views.items (c.args.self.now.first_array + c.args.a)).len ≡ true = sym (ap (λ z. is_index z (view c.args.self.now.views.items (c.args.self.now.first_array + c.args.a)).len) same_i) ∙ sym (ap (λ l. is_index (to_z w64 (of_z w64 c.get-i.result)) l) len) ∙ sym c.is_within.ensures ∙ c.if-not-is_within.false in
    let abs = ap nat_abs same_i ∙ blocks.abs_is c.get-i.result (view c.args.self.now.views.items (c.args.self.now.first_array + c.args.a)).len within in
    let from = ap (λ (w : View). w.from) c.view-v.ensures in
    let same_x : to_z w64 (of_z w64 c.at-x.result) ≡ c.at-x.result = search (rules, to_z-of_z) in
    let x_is : found (blocks_of c.args.self.now) (view c.args.self.now.views.items (c.args.self.now.first_array + c.args.a)).block ((view c.args.self.now.views.items (c.args.self.now.first_array + c.args.a)).from + natural c.get-i.result) ≡ Some c.at-x.result =
    sym (ap (λ (w : View). found (blocks_of c.args.self.now) w.block (w.from + natural c.get-i.result)) c.view-v.ensures) ∙ sym (ap (λ k. found (blocks_of c.args.self.now) c.view-v.result.block (c.view-v.result.from + k)) abs) ∙ c.at-x.ensures in
    moves.element_follows c.args._code.now ok c.args.self.now s shows c.args.d c.args.a c.args.line c.get-i.result c.at-x.result c.put.new.self is c.get-i.ensures within x_is
    (moves.kept c.args._code.now ok c.args.self.now s shows c.put.new.self (slice_set c.args.self.now.cells.items (c.args.self.now.first + c.args.d) c.at-x.result) (c.args.self.now.place + 1) (c.put.ensures.cells ∙ ap (λ (x : ℤ). slice_set c.args.self.now.cells.items (c.args.self.now.first + c.args.d) x) same_x) c.put.ensures.place c.put.ensures.rest)
