use Rattle.std.proofs.Common.{◌≡◌, ℕ, Contains, drop, take, map, []}
use Rattle.cw_text.specs.Rising.{kept}
use Rattle.cw_model.specs.Syntax.{Name}
use Rattle.cw_model.specs.Typing.{repeated}
use Rattle.cw_tree.specs.SyntaxView.{reducer_of}
use Rattle.cw_types.specs.Named.{reducers_named}
use Rattle.cw_types.specs.Names.{known_names}
use Rattle.cw_types.specs.Scope.{kinds}
use Rattle.cw_text.specs.RecordedReasons.{AddsOnly, itself, lines_at}
use Rattle.cw_types.specs.ReasonMeaning.{IsRepeatedIn}
use Rattle.cw_types.proofs.repeated.repeated_reducers.Given as goal

abbrev pub invariant-loop-reducer : goal.invariant-loop-reducer
invariant-loop-reducer l = record {
  same : kept itself (lines_at l.told.places) (repeated (reducers_named (map reducer_of (drop l.reducer-index l.reducers))) (known_names (kinds l.earlier)))
      ≡ kept itself (lines_at l.fn.told.places) (repeated (reducers_named (map reducer_of l.reducers)) []);
  there : (d : Name × ℕ) → Contains (map (λ e. (e.name, e.line)) l.earlier) d → Contains (reducers_named (map reducer_of (take l.reducer-index l.reducers))) d;
  told : AddsOnly (IsRepeatedIn (reducers_named (map reducer_of l.reducers))) l.fn.told l.told;
}
