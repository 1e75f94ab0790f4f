use Rattle.std.proofs.Common.{◌≡◌, length, sym, ◌∙◌, arith}
use Rattle.cw_facts.specs.Tests.{eq_of}
use Rattle.cw_machine.proofs.Handed.{hands_none, hands_all}
use Rattle.cw_machine.proofs.machine.Machine.hand_arrays.Goals as goal

pub returns-then-is_empty-clause-out : goal.returns-then-is_empty-clause-out
returns-then-is_empty-clause-out c =
    let m = c.args.self.now in
    let v = c.args.slices.now in
    let slices = v.items in
    let none : length slices ≡ 0 = sym v.ok.0 ∙ eq_of v.len 0 (sym c.is_empty.ensures ∙ c.if-is_empty.true) in
    hands_all m c.args.lender.first c.args.passed.now c.args.lent.now c.args.lender.slots (length slices) 0 m slices (omega (arith, none)) (hands_none m c.args.lender.first c.args.passed.now c.args.lent.now c.args.lender.slots slices)
