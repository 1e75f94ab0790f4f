use Rattle.std.proofs.Common.{◌≡◌, drop, map, flat_map}
use Rattle.cw_model.specs.Sizes.{function_limits}
use Rattle.cw_tree.specs.SyntaxView.{function_of}
use Rattle.cw_model.specs.Lines.{lowest}
use Rattle.cw_types.specs.Limits.{IsPassedByOne}
use Rattle.cw_types.specs.RecordingLines.{AddsOnly, recorded_line}
use Rattle.cw_types.proofs.limits.functions_limits.Given as goal

abbrev pub invariant-loop-function : goal.invariant-loop-function
invariant-loop-function l = record {
  same : lowest (recorded_line l.told) (flat_map function_limits (map function_of (drop l.function-index l.functions)))
      ≡ lowest (recorded_line l.fn.told) (flat_map function_limits (map function_of l.functions));
  told : AddsOnly (IsPassedByOne (map function_of l.functions)) l.fn.told l.told;
}
