use Rattle.cw_tree.specs.ResolvedView.{resolved_of}
use Rattle.cw_loops.specs.Lowers.{bodies_of, made_of_tree}
use Rattle.cw_loops.proofs.Equal.{bodies_equal}
use Rattle.cw_loops.proofs.WholeSlots.{tree_is_lowered}
use Rattle.cw_loops.proofs.laws.core_is_lowered.Goals as goal

pub returns : goal.returns
returns c =
    let core = c.args.core.now in
    let typed = core.source.typed in
    tree_is_lowered c.resolved_is_fitting.ensures typed.tree (bodies_of core.tree) typed.resolved typed.typed core.source.owned typed.within core.few
    (bodies_equal (bodies_of core.tree) (made_of_tree (resolved_of typed.tree)) core.lowered)
