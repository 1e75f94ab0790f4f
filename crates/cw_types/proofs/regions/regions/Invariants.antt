use Rattle.std.proofs.Common.{◌≡◌, ◌++◌, drop, map, flat_map}
use Rattle.cw_model.specs.Sizes.{regions_in_block}
use Rattle.cw_tree.specs.SyntaxView.{function_of}
use Rattle.cw_types.specs.Regions.{regions_of}
use Rattle.cw_types.proofs.regions.regions.Given as goal

abbrev pub invariant-loop-function : goal.invariant-loop-function
invariant-loop-function l =
    regions_of l.found.items ++ flat_map (λ f. regions_in_block f.body) (map function_of (drop l.function-index l.functions))
    ≡ flat_map (λ f. regions_in_block f.body) (map function_of l.functions)
