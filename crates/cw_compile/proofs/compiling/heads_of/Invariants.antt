use Rattle.std.proofs.Common.{◌≡◌, ◌++◌, map, drop}
use Rattle.cw_tree.specs.ResolvedView.{function_of}
use Rattle.cw_code.specs.Heads.{head_view}
use Rattle.cw_compile.specs.Compiled.{head_of}
use Rattle.cw_compile.proofs.compiling.heads_of.Given as goal

-- the heads so far, followed by the heads of the functions that are left, are the heads of all functions
abbrev pub invariant-loop-function : goal.invariant-loop-function
invariant-loop-function l =
    map head_view l.heads.items ++ map head_of (map function_of (drop l.function-index l.functions))
    ≡ map head_of (map function_of l.functions)
