-- Worked examples: lowering by slot returns the lowered program with each name looked up.
use Rattle.std.specs.Prelude.{◌≡◌, [], ◌∷◌, pos}
use Rattle.cw_model.specs.Syntax.{Number, Variable, Program}
use Rattle.cw_model.specs.ExamplePrograms as example
use Rattle.cw_tree.specs.Resolved.{resolved}
use Rattle.cw_loops.specs.Slotted.{Array, Shared, slotted_arguments, slotted_functions}
use Rattle.cw_loops.specs.Expanded.{lowered_by_slot}
use Rattle.cw_loops.specs.Examples.{nested, readers, maximum_program}

-- lowering by slot and lowering by name agree on this program
abbrev pub LowersBySlot : Program → Type 0
LowersBySlot program = lowered_by_slot (resolved program) ≡ slotted_functions program

pub record SlotExamples : Type 0 where
  pub sums : LowersBySlot (example.sum_program 0 4)
  pub greatest : LowersBySlot (maximum_program 0 4)
  pub squares : LowersBySlot (example.square_program 5 0 5 4)
  pub idle : LowersBySlot (example.idle_loop (Number (pos 0)) 4)
  pub fill : LowersBySlot example.fill_program
  pub cut : LowersBySlot (example.cut_program 3)
  pub fib : LowersBySlot example.fib_program
  -- nested loops over an array of the iteration, with captured integers at both levels, a call and a sync
  pub inner : LowersBySlot (nested 2)
  -- calls in an iteration that only read one of its arrays
  pub together : LowersBySlot readers
  pub given_and_read :
      slotted_arguments (record { ints = []; arrays = example.y ∷ example.z ∷ [] })
      (example.array_param example.a ∷ example.const_param example.b ∷ [])
      (Variable example.z ∷ Variable example.y ∷ [])
      ≡ Array 1 ∷ Shared 0 ∷ []
