use Rattle.std.proofs.Common.{◌≡◌, ℕ, Contains, drop, take, map, []}
use Rattle.cw_text.specs.Rising.{kept}
use Rattle.cw_model.specs.Syntax.{Name}
use Rattle.cw_model.specs.Typing.{repeated}
use Rattle.cw_tree.specs.SyntaxView.{function_of}
use Rattle.cw_types.specs.Named.{functions_named}
use Rattle.cw_types.specs.Names.{known_names}
use Rattle.cw_types.specs.Scope.{kinds}
use Rattle.cw_text.specs.RecordedReasons.{AddsOnly, itself, lines_at}
use Rattle.cw_types.specs.ReasonMeaning.{IsRepeatedIn}
use Rattle.cw_types.proofs.repeated.repeated_functions.Given as goal

abbrev pub invariant-loop-function : goal.invariant-loop-function
invariant-loop-function l = record {
  same : kept itself (lines_at l.told.places) (repeated (functions_named (map function_of (drop l.function-index l.functions))) (known_names (kinds l.earlier)))
      ≡ kept itself (lines_at l.fn.told.places) (repeated (functions_named (map function_of l.functions)) []);
  there : (d : Name × ℕ) → Contains (map (λ e. (e.name, e.line)) l.earlier) d → Contains (functions_named (map function_of (take l.function-index l.functions))) d;
  told : AddsOnly (IsRepeatedIn (functions_named (map function_of l.functions))) l.fn.told l.told;
}
