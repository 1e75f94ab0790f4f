use Rattle.std.proofs.Common.{◌≡◌, ◌++◌, drop, length, map, option_map, true}
use Rattle.cw_tree.specs.ResolvedView.{block_of}
use Rattle.cw_own.specs.Bounds.{small_block}
use Rattle.cw_own.specs.Sets.{row_of}
use Rattle.cw_own.specs.Taken.{restrictions_of, taken_of, taken_after_all, turns_in}
use Rattle.cw_own.specs.Reasons.{reasons_in, line_in}
use Rattle.cw_text.specs.Rising.{kept}
use Rattle.cw_own.specs.Views.{recorded_reasons, turn_of}
use Rattle.cw_own.proofs.rules.+rules.Given as goal

abbrev pub invariant-record_all-loop-line : goal.invariant-record_all-loop-line
invariant-record_all-loop-line l = record {
  small : small_block (block_of (drop l.line-index l.lines)) ≡ true;
  taken : taken_after_all (row_of l.known) (block_of (drop l.line-index l.lines)) (taken_of l.taken)
      ≡ taken_after_all (row_of l.fn.known) (block_of l.lines) (taken_of l.fn.taken);
  lines : kept line_in (recorded_reasons l.told) (reasons_in (option_map turn_of l.around) (row_of l.known) (taken_of l.taken) (block_of (drop l.line-index l.lines)))
      ≡ kept line_in (recorded_reasons l.fn.told) (reasons_in (option_map turn_of l.around) (row_of l.fn.known) (taken_of l.fn.taken) (block_of l.lines));
  turns : map restrictions_of l.rest.left.now
      ≡ turns_in (row_of l.known) (block_of (drop l.line-index l.lines))
      ++ drop (length (turns_in (row_of l.fn.known) (block_of l.lines))) (map restrictions_of l.fn.rest.left.now);
}
