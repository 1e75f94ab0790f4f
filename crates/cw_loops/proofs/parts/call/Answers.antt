use Rattle.std.proofs.Common.{map, ap, ◌∙◌}
use Rattle.cw_tree.specs.ResolvedView as source
use Rattle.cw_loops.specs.Slotted.{Call}
use Rattle.cw_loops.specs.Moved as spec
use Rattle.cw_loops.specs.Moving.{moves_view}
use Rattle.cw_loops.specs.declared.tree.Call as own_call
use Rattle.cw_loops.specs.View as view
use Rattle.cw_loops.proofs.Views.{call_is}
use Rattle.cw_loops.proofs.parts.call.Goals as goal

pub returns : goal.returns
returns c =
    let k = c.args.c.now in
    let m = moves_view c.args.moves in
    let given = map (spec.moved_argument m) (map source.argument_of k.arguments.items) in
    let arguments = c.in_ok-arguments.ensures ∙ ap (λ es. map (spec.moved_argument m) (map source.argument_of es)) c.deref.ensures.value in
    call_is c.in_ok-made.made
    ∙ ap (λ (d : own_call.Call). Call d.kind d.site d.target d.callee (map view.argument_of d.arguments.items)) c.in_ok-made.ensures.ok
    ∙ ap (λ es. Call k.kind k.site c.target.result k.callee.index es) arguments
    ∙ ap (λ t. Call k.kind k.site t k.callee.index given) c.target.ensures
