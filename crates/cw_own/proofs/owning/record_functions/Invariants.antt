use Rattle.std.proofs.Common.{◌≡◌, drop, map, flat_map, true}
use Rattle.std.specs.List.{list_all}
use Rattle.cw_tree.specs.ResolvedView.{function_of}
use Rattle.cw_own.specs.Bounds.{small_function}
use Rattle.cw_own.specs.Reasons.{function_reasons, line_in}
use Rattle.cw_text.specs.Rising.{kept}
use Rattle.cw_own.specs.Views.{recorded_reasons}
use Rattle.cw_own.proofs.owning.record_functions.Given as goal

abbrev pub invariant-loop-function : goal.invariant-loop-function
invariant-loop-function l = record {
  small : list_all small_function (map function_of (drop l.function-index l.functions)) ≡ true;
  same : kept line_in (recorded_reasons l.told) (flat_map function_reasons (map function_of (drop l.function-index l.functions)))
      ≡ kept line_in (recorded_reasons l.fn.told) (flat_map function_reasons (map function_of l.functions));
}
