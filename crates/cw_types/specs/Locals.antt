-- The abstraction of the known locals.
use Rattle.std.specs.Prelude.{ℕ, ◌+◌, length, map}
use Rattle.cw_types.specs.declared.locals.Locals.{Locals}
use Rattle.cw_types.specs.declared.lists.Lists.{Lists}
use Rattle.cw_tree.specs.Resolved as spec
use Rattle.cw_tree.specs.SyntaxView.{function_of}

-- the abstraction of the known locals
abbrev pub locals_view : Locals → spec.Locals
locals_view l = record { ints = l.ints; arrays = l.arrays }

-- the number of known locals
abbrev pub locals_count : Locals → ℕ
locals_count l = length l.ints + length l.arrays

-- the abstraction of the lists of a program
abbrev pub lists_view : Lists → spec.Lists
lists_view l = record {
  callees = map function_of l.callees.now;
  functions = l.functions;
  reducers = l.reducers;
  tags = l.tags;
}
