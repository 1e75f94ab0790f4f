use Rattle.std.proofs.Common.{◌≡◌, ◌++◌, false}
use Rattle.std.specs.Prelude.{drop}
use Rattle.cw_gen.specs.Emit as spec
use Rattle.cw_loops.specs.View as view
use Rattle.cw_gen.proofs.Emitting.{returns_after}
use Rattle.cw_gen.proofs.statements.+emit.Given as goal

abbrev pub invariant-block-loop-line : goal.invariant-block-loop-line
invariant-block-loop-line l = record {
  instrs : l.instrs.items ++ spec.emitted_block l.first l.places (view.block_of (drop l.line-index l.lines)) ≡ l.initial.instrs.items ++ spec.emitted_block l.first l.places (view.block_of l.lines);
  returns : returns_after l.returns (view.block_of (drop l.line-index l.lines)) ≡ returns_after false (view.block_of l.lines);
}
