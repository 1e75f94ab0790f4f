use Rattle.std.proofs.Common.{◌≡◌, None, drop, map}
use Rattle.cw_tree.specs.SyntaxView.{reducer_of}
use Rattle.cw_model.specs.Lines.{lowest}
use Rattle.cw_types.proofs.limits.reducers_beyond.Given as goal

abbrev pub invariant-loop-reducer : goal.invariant-loop-reducer
invariant-loop-reducer l =
    lowest l.least.line (drop l.room (map (λ r. r.line) (map reducer_of (drop l.reducer-index l.reducers))))
    ≡ lowest None (drop 32 (map (λ r. r.line) (map reducer_of l.reducers)))
