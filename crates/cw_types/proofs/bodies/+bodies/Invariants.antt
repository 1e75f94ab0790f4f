use Rattle.std.proofs.Common.{◌≡◌, ◌≤◌, Contains, drop, length}
use Rattle.cw_text.specs.Rising.{kept}
use Rattle.cw_model.specs.Typing.{faults_in_block}
use Rattle.cw_tree.specs.SyntaxView.{program_of, block_of}
use Rattle.cw_types.specs.Returned.{returns_of}
use Rattle.cw_types.specs.Scope.{kinds, oldest}
use Rattle.cw_types.specs.StmtContext.{StmtContext, statements_in}
use Rattle.cw_text.specs.RecordedReasons.{itself, lines_at}
use Rattle.cw_types.specs.Within.{AddsAmong}
use Rattle.cw_types.proofs.bodies.+bodies.Given as goal

abbrev pub invariant-block-loop-i : goal.invariant-block-loop-i
invariant-block-loop-i l = record {
  same : kept itself (lines_at l.told.places) (faults_in_block (program_of l.globals.ast.now) (returns_of l.returns) (kinds l.known) (block_of (drop l.i l.lines)))
      ≡ kept itself (lines_at l.fn.told.places) (faults_in_block (program_of l.globals.ast.now) (returns_of l.returns) (kinds l.fn.known) (block_of l.lines));
  told : AddsAmong l.globals (statements_in (returns_of l.returns) l.fn.known (block_of l.lines)) l.fn.told l.told;
  there : (s : StmtContext) → Contains (statements_in (returns_of l.returns) l.known (block_of (drop l.i l.lines))) s
      → Contains (statements_in (returns_of l.returns) l.fn.known (block_of l.lines)) s;
  count : l.before ≡ length l.fn.known;
  enough : l.before ≤ length l.known;
  kept : oldest l.before l.known ≡ l.fn.known;
}
