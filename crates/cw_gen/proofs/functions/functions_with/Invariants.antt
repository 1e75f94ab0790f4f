use Rattle.std.proofs.Common.{◌≡◌, ◌++◌, length, map}
use Rattle.cw_gen.specs.Emit as spec
use Rattle.cw_loops.specs.Expanded.{with_bodies}
use Rattle.cw_loops.specs.View as view
use Rattle.cw_tree.specs.ResolvedView as source
use Rattle.cw_gen.proofs.functions.functions_with.Given as goal

abbrev pub invariant-loop-f : goal.invariant-loop-f
invariant-loop-f l = record {
  instrs :
      l.instrs.items ++ spec.emitted_instrs l.first (with_bodies (map source.function_of l.f-iterator.a.rest.now) (map (λ b. view.block_of b.items) l.f-iterator.b.rest.now))
      ≡ l.initial.instrs.items ++ spec.emitted_instrs l.first (with_bodies (map source.function_of l.functions) (map (λ b. view.block_of b.items) l.bodies));
  funcs :
      l.funcs.items ++ spec.emitted_funcs l.first (length l.instrs.items) (with_bodies (map source.function_of l.f-iterator.a.rest.now) (map (λ b. view.block_of b.items) l.f-iterator.b.rest.now))
      ≡ l.initial.funcs.items ++ spec.emitted_funcs l.first (length l.initial.instrs.items) (with_bodies (map source.function_of l.functions) (map (λ b. view.block_of b.items) l.bodies));
}
