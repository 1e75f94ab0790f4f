use Rattle.std.proofs.Common.{◌≡◌, drop, map, flat_map}
use Rattle.cw_model.specs.Lines.{lowest}
use Rattle.cw_model.specs.Sizes.{loops_in_block}
use Rattle.cw_tree.specs.Resolved.{plain_function}
use Rattle.cw_tree.specs.ResolvedView.{function_of}
use Rattle.cw_loops.proofs.limits.functions_beyond.Given as goal

abbrev pub invariant-loop-function : goal.invariant-loop-function
invariant-loop-function l =
    lowest l.least.line (drop l.room (flat_map (λ f. loops_in_block f.body) (map plain_function (map function_of (drop l.function-index l.functions)))))
    ≡ lowest l.fn.least.line (drop 4096 (flat_map (λ f. loops_in_block f.body) (map plain_function (map function_of l.functions))))
