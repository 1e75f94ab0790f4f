-- The abstraction of the mapping of locals.
use Rattle.std.specs.Prelude.{List, map}
use Rattle.cw_tree.specs.declared.resolved.Use as code_use
use Rattle.cw_tree.specs.Resolved as source
use Rattle.cw_tree.specs.ResolvedView.{use_of}
use Rattle.cw_loops.specs.declared.moves.Moves.{Moves}
use Rattle.cw_loops.specs.Moved as spec

-- the abstraction of uses
abbrev pub uses_of : List code_use.Use → List source.Use
uses_of uses = map use_of uses

-- the abstraction of the mapping
abbrev pub moves_view : Moves → spec.Moves
moves_view m = record {
  ints_before = m.ints_before;
  captured = spec.slots_of (uses_of m.captured.now);
  first_int = m.first_int;
  arrays_before = m.arrays_before;
  over = spec.slots_of (uses_of m.over.now);
  first_array = m.first_array;
}
