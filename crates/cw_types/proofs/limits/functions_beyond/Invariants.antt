use Rattle.std.proofs.Common.{◌≡◌, None, drop, map}
use Rattle.cw_tree.specs.SyntaxView.{function_of}
use Rattle.cw_model.specs.Lines.{lowest}
use Rattle.cw_types.proofs.limits.functions_beyond.Given as goal

abbrev pub invariant-loop-function : goal.invariant-loop-function
invariant-loop-function l =
    lowest l.least.line (drop l.room (map (λ f. f.line) (map function_of (drop l.function-index l.functions))))
    ≡ lowest None (drop 1024 (map (λ f. f.line) (map function_of l.functions)))
