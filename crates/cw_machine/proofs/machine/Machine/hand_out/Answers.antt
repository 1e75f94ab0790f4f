use Rattle.std.proofs.Common.{◌≡◌, ◌-◌, length, refl, sym, ap, ◌∙◌, subst, arith}
use Rattle.cw_machine.specs.Hands.{MayHandArrays}
use Rattle.cw_runnable.specs.Reading.{readers_at}
use Rattle.cw_machine.proofs.RestOut.{last_frame, first_le, array_le, cells_le, readers_le, may_arrays, slots_of, has_cells, handed_out}
use Rattle.cw_machine.proofs.machine.Machine.hand_out.Goals as goal

pub waiting-f-requires : goal.waiting-f-requires
waiting-f-requires c = last_frame c.args.code.now c.args.self.now c.args.passed.now c.args.lent.now c.requires

pub overflow_sub-count : goal.overflow_sub-count
overflow_sub-count c = array_le c.args.code.now c.args.self.now c.args.passed.now c.args.lent.now c.waiting-f.result c.waiting-f.ensures c.requires

pub overflow_sub-self : goal.overflow_sub-self
overflow_sub-self c = first_le c.args.code.now c.args.self.now c.args.passed.now c.args.lent.now c.waiting-f.result c.waiting-f.ensures c.requires

pub copy_cells-requires-clause-order : goal.copy_cells-requires-clause-order
copy_cells-requires-clause-order c = first_le c.args.code.now c.args.self.now c.args.passed.now c.args.lent.now c.waiting-f.result c.waiting-f.ensures c.requires

pub copy_cells-requires-clause-there : goal.copy_cells-requires-clause-there
copy_cells-requires-clause-there c = cells_le c.args.code.now c.args.self.now c.args.passed.now c.args.lent.now c.waiting-f.result c.waiting-f.ensures c.requires

pub overflow_sub-lender : goal.overflow_sub-lender
overflow_sub-lender c =
    let le = readers_le c.args.code.now c.args.self.now c.args.passed.now c.args.lent.now c.waiting-f.result c.waiting-f.ensures c.requires in
    let is = c.readers_at.ensures in
    omega (arith, le, is)

pub hand_arrays-requires : goal.hand_arrays-requires
hand_arrays-requires c =
    let v = c.args.code.now in
    let m = c.args.self.now in
    let f = c.waiting-f.result in
    let n : length c.fit.new.rest.slices.items ≡ m.first_array - f.first_array = c.in_ok-fit.ensures.slices in
    subst (λ r. ∥ MayHandArrays m f.first_array c.args.passed.now c.args.lent.now (m.first_array - f.first_array - r) (length c.fit.new.rest.slices.items) ∥₁) (sym c.readers_at.ensures)
    (subst (λ k. ∥ MayHandArrays m f.first_array c.args.passed.now c.args.lent.now (m.first_array - f.first_array - readers_at v.reading.items f.place) k ∥₁) (sym n) (may_arrays v m c.args.passed.now c.args.lent.now f c.waiting-f.ensures c.requires))

pub returns-clause-out : goal.returns-clause-out
returns-clause-out c ok s w around h =
    let v = c.args.code.now in
    let m = c.args.self.now in
    let f = c.waiting-f.result in
    let n : length c.fit.new.rest.slices.items ≡ m.first_array - f.first_array = c.in_ok-fit.ensures.slices in
    let cells = has_cells m.cells.items c.copy_cells.new.cells.items f.first m.first (first_le v m c.args.passed.now c.args.lent.now f c.waiting-f.ensures c.requires) (cells_le v m c.args.passed.now c.args.lent.now f c.waiting-f.ensures c.requires) c.copy_cells.ensures in
    handed_out m c.args.passed.now c.args.lent.now f c.waiting-f.ensures v ok s w around h c.hand_arrays.new.self
    (record { place = f.place; depth = f.depth; cells = c.copy_cells.new.cells; slices = c.hand_arrays.new.slices })
    (m.first_array - f.first_array - c.readers_at.result) refl refl
    (ap (λ r. m.first_array - f.first_array - r) c.readers_at.ensures ∙ slots_of v m c.args.passed.now c.args.lent.now f c.waiting-f.ensures ok s w around h)
    cells.0 cells.1 (c.hand_arrays.ensures.as_many ∙ n) c.hand_arrays.ensures.out
