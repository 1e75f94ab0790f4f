use Rattle.std.proofs.Common.{◌≡◌, ◌++◌, ◌+◌, drop, map}
use Rattle.cw_tree.specs.SyntaxView as parsed
use Rattle.cw_types.specs.Locals.{locals_count}
use Rattle.cw_tree.specs.Resolved as spec
use Rattle.cw_types.proofs.program.declare_params.Given as goal

abbrev pub invariant-loop-param : goal.invariant-loop-param
invariant-loop-param l = record {
  count : locals_count l.locals ≡ locals_count l.fn.locals + l.param-index;
  ints : l.locals.ints ++ (spec.locals_of (map parsed.param_of (drop l.param-index l.params))).ints
      ≡ l.fn.locals.ints ++ (spec.locals_of (map parsed.param_of l.params)).ints;
  arrays : l.locals.arrays ++ (spec.locals_of (map parsed.param_of (drop l.param-index l.params))).arrays
      ≡ l.fn.locals.arrays ++ (spec.locals_of (map parsed.param_of l.params)).arrays;
}
