use Rattle.std.proofs.Common.{[], length, map, refl, sym, ◌∙◌, ap}
use Rattle.cw_model.specs.Sizes.{loop_faults}
use Rattle.cw_model.specs.lemmas.Lowest.{no_lines, least_line}
use Rattle.cw_tree.specs.ResolvedView.{program_of, resolved_of, function_of}
use Rattle.cw_loops.specs.Moved.{slot}
use Rattle.cw_loops.specs.Lowers.{bodies_of, made_bodies, made_of_tree}
use Rattle.cw_loops.proofs.Sameness.{bodies_itself}
use Rattle.cw_loops.proofs.WholeSlots.{tree_is_lowered}
use Rattle.cw_loops.proofs.stage.lower.Goals as goal

pub invariant_of-result : goal.invariant_of-result
invariant_of-result c = record {
  few = no_lines (loop_faults (program_of c.args.owned.typed.tree)) (sym c.limits-beyond.ensures ∙ c.in-None.is);
  lowered =
      bodies_itself (bodies_of c.in_ok-tree-in-None.tree) (made_of_tree (resolved_of c.args.owned.typed.tree))
      (c.in_ok-tree-in-None.ensures ∙ ap (λ fs. made_bodies (slot (length (map function_of fs))) [] (map function_of fs)) c.deref.ensures.value);
}

pub returns-in-Some : goal.returns-in-Some
returns-in-Some c = least_line (loop_faults (program_of c.args.owned.typed.tree)) c.in-Some.line (sym c.limits-beyond.ensures ∙ c.in-Some.is)

pub returns-in_ok-tree-in-None : goal.returns-in_ok-tree-in-None
returns-in_ok-tree-in-None c =
    let typed = c.args.owned.typed in
    record {
      same_source = refl;
      functions =
          tree_is_lowered c.resolved_is_fitting.ensures typed.tree (bodies_of c.in_ok-tree-in-None.tree) typed.resolved typed.typed c.args.owned.owned typed.within
          (no_lines (loop_faults (program_of typed.tree)) (sym c.limits-beyond.ensures ∙ c.in-None.is))
          (c.in_ok-tree-in-None.ensures ∙ ap (λ fs. made_bodies (slot (length (map function_of fs))) [] (map function_of fs)) c.deref.ensures.value);
    }
