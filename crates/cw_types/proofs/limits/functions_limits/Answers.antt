use Rattle.std.proofs.Common.{◌≡◌, List, ◌∷◌, map, drop, flat_map, ◌+◌, ap, sym, ◌∙◌, arith}
use Rattle.std.proofs.lemmas.Grind.{common_steps}
use Rattle.cw_model.specs.Syntax.{Function}
use Rattle.cw_model.specs.Sizes.{function_limits}
use Rattle.cw_tree.specs.SyntaxView.{function_of}
use Rattle.cw_model.specs.Lines.{lowest}
use Rattle.cw_model.specs.lemmas.Lowest.{lowest-append}
use Rattle.cw_types.specs.Limits.{IsPassedByFunction, IsPassedByOne}
use Rattle.cw_types.specs.RecordingLines.{recorded_line}
use Rattle.cw_types.proofs.Repeating.{in_map}
use Rattle.cw_types.proofs.RecordingLines.{and_then, weaken}
use Rattle.cw_types.proofs.limits.functions_limits.Goals as goal

pub loop-function-preserved : goal.loop-function-preserved
loop-function-preserved c =
    let fs = c.args.functions.now in
    let i = c.loop-function.function-index in
    let f = function_of c.function-item.result in
    let rest = map function_of (drop (i + 1) fs) in
    let split : map function_of (drop i fs) ≡ f ∷ rest = grind (arith, common_steps) in
    let p = recorded_line c.loop-function.told in
    let there = in_map function_of fs i c.function-item.result c.loop-function-test.true c.function-item.is in
    record {
      same =
          ap (λ o. lowest o (flat_map function_limits rest)) c.function_limits.ensures.lines
          ∙ sym (lowest-append p (function_limits f) (flat_map function_limits rest))
          ∙ ap (λ (gs : List Function). lowest p (flat_map function_limits gs)) (sym split)
          ∙ c.loop-function.invariant.same;
      told =
          and_then (IsPassedByOne (map function_of fs)) c.args.told.now c.loop-function.told c.function_limits.new.told c.loop-function.invariant.told
          (weaken (IsPassedByFunction f) (IsPassedByOne (map function_of fs)) c.loop-function.told c.function_limits.new.told
          (λ line r h. record { one = f; there = there; passed = h }) c.function_limits.ensures.told);
    }
