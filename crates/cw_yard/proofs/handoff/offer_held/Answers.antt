use Rattle.std.proofs.Common.{◌∙◌, ◌<◌, [], ap, subst, sym}
use Rattle.cw_yard.specs.declared.task.Task.{Task}
use Rattle.cw_yard.specs.Cells.{dealt, duty}
use Rattle.cw_yard.proofs.Outs.{out_of}
use Rattle.cw_yard.proofs.handoff.offer_held.Goals as goal

pub deal-duty-requires-clause-held : goal.deal-duty-requires-clause-held
deal-duty-requires-clause-held g c = (_, _, c.open.ensures.held _ _ c.requires.held)

pub undo-requires-clause-out : goal.undo-requires-clause-out
undo-requires-clause-out g c = (_, _, c.deal-duty.ensures.out ∙ ap (λ m. (dealt m.0, [])) (c.open.ensures.held _ _ c.requires.held))

pub undo-requires-clause-duty : goal.undo-requires-clause-duty
undo-requires-clause-duty g c =
    (_, _, ap (λ (k : Task). k.duty.me) c.in-Err.ensures.err.0 ∙ c.deal-duty.ensures.duty ∙ ap (λ m. (duty m.0, [])) (c.open.ensures.held _ _ c.requires.held))

pub invariant_of-result : goal.invariant_of-result
invariant_of-result g c =
    let e = c.deal-duty.ensures.out ∙ ap (λ m. (dealt m.0, [])) (c.open.ensures.held _ _ c.requires.held) in
    let t = c.deal-duty.ensures.same.0 ∙ c.open.ensures.same in
    record { inside = subst (λ z. c.args.free.cell < z.slots) (sym t) c.args.free.inside; out = out_of _ _ _ _ e; empty = ap (λ m. m.1) e }
