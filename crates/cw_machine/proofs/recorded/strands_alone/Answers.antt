use Rattle.std.proofs.Common.{subst}
use Rattle.std.proofs.Math.Logic.{∥∥₁_elim}
use Rattle.cw_model.specs.Trees.{Marked, Invocation, tree_of, normal}
use Rattle.cw_code.specs.Code.{code_view}
use Rattle.cw_code.specs.Run.{code_serial}
use Rattle.cw_meter.specs.declared.detail.Detail.TheVariants as detail
use Rattle.cw_runnable.specs.declared.verified.Verified.{Verified}
use Rattle.cw_machine.specs.Recorded.{Records}
use Rattle.cw_machine.proofs.EndsAs.{EndsAs-prop, did_end, finishes_as}
use Rattle.cw_machine.proofs.Strands.{KeepsStrands, strands_prop, kept_is, kept_as}
use Rattle.cw_machine.proofs.recorded.strands_alone.Goals as goal

pub returns : goal.returns
returns c =
    let v = c.deref-verified.result.now in
    let code = code_view v.code in
    let args = c.args.args.now in
    let n = c.args.n in
    let kept = c.in_ok-strands.strands in
    let has = c.in_ok-_value.ensures in
    let P = KeepsStrands kept in
    let serial = code_serial code args n in
    let e = did_end P serial (∥∥₁_elim has.finishes (EndsAs-prop P (strands_prop kept) serial) (λ h.
    finishes_as code args n detail.Strands _ _ P h (kept_as kept (normal (Marked (Invocation 0) (tree_of h.trace.events))) (c.in_ok-strands.ensures h.tags h.trace.events h.meters)))) in
    subst (λ (w : Verified). Records (code_view w.code) args n kept) c.deref-verified.ensures
    (record { asked = has.asked; value = e.value; lines = e.lines; totals = e.totals; tree = e.tree; answer = e.answer; is_kept = kept_is kept e.tree e.has })
