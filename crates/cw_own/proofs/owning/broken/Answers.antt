use Rattle.std.proofs.Common.{map, flat_map, ap, ◌∙◌}
use Rattle.std.specs.List.{list_all}
use Rattle.cw_tree.specs.ResolvedView.{resolved_of, function_of}
use Rattle.cw_own.specs.Bounds.{small_function}
use Rattle.cw_own.specs.Reasons.{function_reasons, line_in}
use Rattle.cw_own.specs.Views.{AreNoted, recorded_reasons}
use Rattle.cw_text.specs.Rising.{kept}
use Rattle.cw_own.proofs.Fitting.{tree_small}
use Rattle.cw_own.proofs.Refusing.{all_right, first_right}
use Rattle.cw_own.proofs.owning.broken.Goals as goal

pub record_functions-requires : goal.record_functions-requires
record_functions-requires c =
    ap (λ fs. list_all small_function (map function_of fs)) c.deref.ensures.value
    ∙ tree_small (resolved_of c.args.typed.now.tree) c.args.typed.now.fitting c.args.typed.now.within

pub returns-clause-first : goal.returns-clause-first
returns-clause-first c =
    let tree = c.args.typed.now.tree in
    let noted : AreNoted tree c.record_functions.new.told.reasons =
    c.in_ok-record_functions.ensures
    ∙ ap (λ fs. kept line_in (recorded_reasons c.new-told.result) (flat_map function_reasons (map function_of fs))) c.deref.ensures.value
    ∙ ap (λ o. kept line_in o (flat_map function_reasons (map function_of tree.functions.items))) c.new-told.ensures in
    first_right tree c.args.typed.now.resolved c.args.typed.now.typed c.record_functions.new.told.reasons noted

pub returns-clause-all : goal.returns-clause-all
returns-clause-all c =
    let tree = c.args.typed.now.tree in
    all_right tree c.record_functions.new.told.reasons
    (c.in_ok-record_functions.ensures
    ∙ ap (λ fs. kept line_in (recorded_reasons c.new-told.result) (flat_map function_reasons (map function_of fs))) c.deref.ensures.value
    ∙ ap (λ o. kept line_in o (flat_map function_reasons (map function_of tree.functions.items))) c.new-told.ensures)
