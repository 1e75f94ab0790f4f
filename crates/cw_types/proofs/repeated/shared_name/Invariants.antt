use Rattle.std.proofs.Common.{◌≡◌, ℕ, ◌++◌, List, Contains, drop, map}
use Rattle.cw_text.specs.Rising.{kept}
use Rattle.cw_model.specs.Syntax.{Name}
use Rattle.cw_model.specs.Typing.{of_both_kinds}
use Rattle.cw_tree.specs.SyntaxView.{function_of}
use Rattle.cw_types.specs.Named.{functions_named}
use Rattle.cw_text.specs.RecordedReasons.{AddsOnly, itself, lines_at}
use Rattle.cw_types.specs.ReasonMeaning.{IsRepeatedIn}
use Rattle.cw_types.proofs.repeated.shared_name.Given as goal

abbrev pub invariant-loop-function : goal.invariant-loop-function
invariant-loop-function l = record {
  same : kept itself (lines_at l.told.places) (of_both_kinds (functions_named (map function_of (drop l.function-index l.functions))) (l.reducer.name, l.reducer.line))
      ≡ kept itself (lines_at l.fn.told.places) (of_both_kinds (functions_named (map function_of l.functions)) (l.reducer.name, l.reducer.line));
  told : (reducers : List (Name × ℕ)) → Contains reducers (l.reducer.name, l.reducer.line) →
      AddsOnly (IsRepeatedIn (functions_named (map function_of l.functions) ++ reducers)) l.fn.told l.told;
}
