use Rattle.std.proofs.Common.{◌≡◌, List, ◌∷◌, ◌+◌, map, flat_map, drop, ap, sym, ◌∙◌, arith}
use Rattle.std.specs.List.{list_all}
use Rattle.std.proofs.lemmas.Grind.{common_steps}
use Rattle.cw_facts.specs.Tests.{first_true, second_true}
use Rattle.cw_tree.specs.Resolved as spec
use Rattle.cw_tree.specs.ResolvedView.{function_of}
use Rattle.cw_own.specs.Bounds.{small_function}
use Rattle.cw_own.specs.Reasons.{function_reasons, line_in}
use Rattle.cw_text.specs.Rising.{kept}
use Rattle.cw_own.specs.Views.{recorded_reasons}
use Rattle.cw_own.proofs.Small.{kept_append}
use Rattle.cw_own.proofs.owning.record_functions.Goals as goal

pub record_function-requires : goal.record_function-requires
record_function-requires c =
    let f = function_of c.function-item.result in
    let rest = map function_of (drop (c.loop-function.function-index + 1) c.args.functions.now) in
    let split : map function_of (drop c.loop-function.function-index c.args.functions.now) ≡ f ∷ rest = grind (arith, common_steps) in
    first_true (small_function f) (list_all small_function rest) (ap (list_all small_function) (sym split) ∙ c.loop-function.invariant.small)

pub loop-function-preserved : goal.loop-function-preserved
loop-function-preserved c =
    let f = function_of c.function-item.result in
    let rest = map function_of (drop (c.loop-function.function-index + 1) c.args.functions.now) in
    let split : map function_of (drop c.loop-function.function-index c.args.functions.now) ≡ f ∷ rest = grind (arith, common_steps) in
    record {
      small = second_true (small_function f) (list_all small_function rest) (ap (list_all small_function) (sym split) ∙ c.loop-function.invariant.small);
      same =
          ap (λ o. kept line_in o (flat_map function_reasons rest)) c.in_ok-record_function.ensures
          ∙ sym (kept_append (recorded_reasons c.loop-function.told) (function_reasons f) (flat_map function_reasons rest))
          ∙ ap (λ (fs : List spec.Function). kept line_in (recorded_reasons c.loop-function.told) (flat_map function_reasons fs)) (sym split)
          ∙ c.loop-function.invariant.same;
    }
