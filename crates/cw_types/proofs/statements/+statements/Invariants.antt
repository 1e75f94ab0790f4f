use Rattle.std.proofs.Common.{◌≡◌, ◌+◌, ◌≤◌, ◌<◌, ◌^◌, drop, take, length}
use Rattle.cw_tree.specs.SyntaxView as parsed
use Rattle.cw_tree.specs.Declares.{declares_in_block}
use Rattle.cw_types.specs.Locals.{locals_view, locals_count, lists_view}
use Rattle.cw_tree.specs.Resolved.{resolved_block}
use Rattle.cw_tree.specs.ResolvedView.{block_of}
use Rattle.cw_types.proofs.Joined.{joined}
use Rattle.cw_types.proofs.statements.+statements.Given as goal

abbrev pub invariant-block-loop-line : goal.invariant-block-loop-line
invariant-block-loop-line l = record {
  room : locals_count l.locals + declares_in_block (parsed.block_of (drop l.line-index l.lines)) < 2 ^ 32;
  all : joined (block_of l.found.items) (resolved_block (lists_view l.lists) (locals_view l.locals) (parsed.block_of (drop l.line-index l.lines)))
      ≡ resolved_block (lists_view l.lists) (locals_view l.fn.locals) (parsed.block_of l.lines);
  ints : l.ints ≡ length l.fn.locals.ints;
  arrays : l.arrays ≡ length l.fn.locals.arrays;
  more_ints : l.ints ≤ length l.locals.ints;
  more_arrays : l.arrays ≤ length l.locals.arrays;
  kept_ints : take l.ints l.locals.ints ≡ l.fn.locals.ints;
  kept_arrays : take l.arrays l.locals.arrays ≡ l.fn.locals.arrays;
}
