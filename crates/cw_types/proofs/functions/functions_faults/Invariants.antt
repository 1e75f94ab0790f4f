use Rattle.std.proofs.Common.{◌≡◌, drop, map, flat_map}
use Rattle.cw_text.specs.Rising.{kept}
use Rattle.cw_model.specs.Typing.{faults_of}
use Rattle.cw_tree.specs.SyntaxView.{program_of, function_of}
use Rattle.cw_text.specs.RecordedReasons.{AddsOnly, itself, lines_at}
use Rattle.cw_types.specs.ReasonMeaning.{BreaksRule}
use Rattle.cw_types.proofs.functions.functions_faults.Given as goal

abbrev pub invariant-loop-function : goal.invariant-loop-function
invariant-loop-function l = record {
  same : kept itself (lines_at l.told.places) (flat_map (faults_of (program_of l.globals.ast.now)) (map function_of (drop l.function-index l.globals.ast.now.functions.items)))
      ≡ kept itself (lines_at l.fn.told.places) (flat_map (faults_of (program_of l.globals.ast.now)) (map function_of l.globals.ast.now.functions.items));
  told : AddsOnly (BreaksRule (program_of l.globals.ast.now)) l.fn.told l.told;
}
