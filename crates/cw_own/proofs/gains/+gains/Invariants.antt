use Rattle.std.proofs.Common.{◌≡◌, ◌++◌, drop, map, true}
use Rattle.cw_tree.specs.ResolvedView.{block_of}
use Rattle.cw_own.specs.Bounds.{small_block}
use Rattle.cw_own.specs.Sets.{row_of}
use Rattle.cw_own.specs.Taken.{restrictions_of, after_all, turns_in}
use Rattle.cw_own.proofs.gains.+gains.Given as goal

abbrev pub invariant-after_all-loop-line : goal.invariant-after_all-loop-line
invariant-after_all-loop-line l = record {
  small : small_block (block_of (drop l.line-index l.lines)) ≡ true;
  row : after_all (row_of l.known) (block_of (drop l.line-index l.lines)) (restrictions_of l.here) ≡ after_all (row_of l.fn.known) (block_of l.lines) (restrictions_of l.fn.here);
  complete : l.gains.complete ≡ true → l.fn.gains.complete ≡ true;
  gains : l.gains.complete ≡ true → map restrictions_of l.gains.rows.items ++ turns_in (row_of l.known) (block_of (drop l.line-index l.lines))
      ≡ map restrictions_of l.fn.gains.rows.items ++ turns_in (row_of l.fn.known) (block_of l.lines);
}
