use Rattle.std.proofs.Common.{◌≡◌, ◌++◌, drop, map, flat_map}
use Rattle.cw_text.specs.Rising.{kept}
use Rattle.cw_model.specs.Typing.{of_both_kinds}
use Rattle.cw_tree.specs.SyntaxView.{function_of, reducer_of}
use Rattle.cw_types.specs.Named.{functions_named, reducers_named}
use Rattle.cw_text.specs.RecordedReasons.{AddsOnly, itself, lines_at}
use Rattle.cw_types.specs.ReasonMeaning.{IsRepeatedIn}
use Rattle.cw_types.proofs.repeated.shared_names.Given as goal

abbrev pub invariant-loop-reducer : goal.invariant-loop-reducer
invariant-loop-reducer l = record {
  same : kept itself (lines_at l.told.places) (flat_map (of_both_kinds (functions_named (map function_of l.functions))) (reducers_named (map reducer_of (drop l.reducer-index l.reducers))))
      ≡ kept itself (lines_at l.fn.told.places) (flat_map (of_both_kinds (functions_named (map function_of l.functions))) (reducers_named (map reducer_of l.reducers)));
  told : AddsOnly (IsRepeatedIn (functions_named (map function_of l.functions) ++ reducers_named (map reducer_of l.reducers))) l.fn.told l.told;
}
