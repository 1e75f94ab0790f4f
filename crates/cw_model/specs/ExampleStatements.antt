-- Worked examples of statements: their effects, their costs, and the halves of loops.
-- `a || b` is a child of weight a in parallel with a continuation of weight b.
use Rattle.std.specs.Prelude.{◌≡◌, ℕ, zero, suc, pos, List, [], ◌∷◌, None, codes}
use Rattle.cw_model.specs.declared.trap.Trap.TheVariants as trap
use Rattle.cw_model.specs.declared.syntax.CallKind.TheVariants.{Plain, Spawned}
use Rattle.cw_model.specs.declared.syntax.Operator.TheVariants.{Equal, Less, AtMost, Times, Divide}
use Rattle.cw_model.specs.declared.syntax.Reduction.TheVariants.{Sum, Max}
use Rattle.cw_model.specs.Syntax.{Variable, Element, Length, Negative, Not, Binary, Stmt, Declare, DeclareArray}
use Rattle.cw_model.specs.Syntax.{Assign, AssignElement, Reduce, Start, Begin, Sync, If, IfElse, While, For, Scope}
use Rattle.cw_model.specs.Syntax.{Cut, Region, Print, Return, Block, End, Then, Function, Program}
use Rattle.cw_model.specs.Captured.{captured}
use Rattle.cw_model.specs.Trees.{Tree, Leaf, Seq, Par}
use Rattle.cw_model.specs.Loops.{loop_tree, inner_nodes, loop_cost}
use Rattle.cw_model.specs.Frames.{no_frame}
use Rattle.cw_model.specs.Outcome.{Trace, Outcome, Done, Trapped}
use Rattle.cw_model.specs.Meaning.{Returned, Deeper}
use Rattle.cw_model.specs.Meaning as meaning
use Rattle.cw_model.specs.Answers.{TrappedAt}
use Rattle.cw_model.specs.Examples.{serial, Writes, Scales, Attributes, TrapsAt, IsOver, Costs}
use Rattle.cw_model.specs.ExamplePrograms.{a, b, f, g, h, i, j, l, n, p, r, s, t, v, x, y, z, main, number, plus}
use Rattle.cw_model.specs.ExamplePrograms.{minus, int_param, array_param, int_function, void_function, of_functions}
use Rattle.cw_model.specs.ExamplePrograms.{on_line, block, give, call, call_into, spawn, spawn_into, main_of, alone}
use Rattle.cw_model.specs.ExamplePrograms.{with_sum, with_maximum, maximum_program, least, in_every_block}

-- a declaration in a line, and its value printed
abbrev pub declared_and_printed : ℕ → Block
declared_and_printed line = on_line line (Declare y (number line) ∷ Print (Variable y) ∷ [])

-- int f(int v, int n) { return v - n; } void g(int a[], int b[]) { a[0] = 1; b[0] = 2; } int h(int v, int b[]) { b[0] =
-- v; return len(b); } before main
abbrev pub with_callees : List Stmt → Program
with_callees ss = of_functions (
    int_function f 1 (int_param v ∷ int_param n ∷ []) (block (give (minus (Variable v) (Variable n)) ∷ []))
    ∷ void_function g (array_param a ∷ array_param b ∷ [])
    (block (AssignElement a (number 0) (number 1) ∷ AssignElement b (number 0) (number 2) ∷ []))
    ∷ int_function h 1 (int_param v ∷ array_param b ∷ [])
    (block (AssignElement b (number 0) (Variable v) ∷ give (Length b) ∷ []))
    ∷ main_of ss ∷ [])

-- the first elements of a and of b are printed
abbrev pub print_both : List Stmt
print_both = Print (Element a (number 0)) ∷ Print (Element b (number 0)) ∷ give (number 0) ∷ []

-- an array of one element, and then these statements
abbrev pub array_and : Block → Program
array_and body = of_functions (int_function main 1 [] (Then 1 (DeclareArray a (number 1)) body) ∷ [])

-- the effects of statements
pub record EffectExamples : Type 0 where
  -- a name ends with its block, so that each print shows its own; a while whose test fails and the other branch print
  -- nothing
  pub names_end_with_blocks :
      Costs (array_and
      (in_every_block declared_and_printed (on_line 17 (Declare y (number 17) ∷ give (Variable y) ∷ [])))) [] 72
      (codes "3" ∷ codes "5" ∷ codes "10" ∷ codes "12" ∷ codes "14" ∷ codes "16" ∷ codes "return 17" ∷ [])
  pub names_end_with_a_turn :
      Writes (alone (Declare i (number 0)
      ∷ While (Binary Less (Variable i) (number 2))
      (block (Declare y (Variable i) ∷ Print (Variable y) ∷ Assign i (plus (Variable i) (number 1)) ∷ []))
      ∷ give (number 0) ∷ []))
      [] 1000
      (codes "0" ∷ codes "1" ∷ codes "return 0" ∷ [])
  pub names_end_with_the_other_branch :
      Writes (alone (IfElse (number 0) End (block (Declare y (number 1) ∷ [])) ∷ Declare y (number 2)
      ∷ give (Variable y) ∷ []))
      [] 1000 (codes "return 2" ∷ [])
  pub outer_names_stay :
      Writes (alone (Declare x (number 0) ∷ If (number 1) (block (Assign x (number 5) ∷ Declare y (number 1) ∷ []))
      ∷ give (Variable x) ∷ []))
      [] 1000 (codes "return 5" ∷ [])
  pub early_return :
      Costs (alone (If (number 1) (block (give (number 5) ∷ [])) ∷ give (number 6) ∷ [])) [] 4 (codes "return 5" ∷ [])
  pub return_of_one_branch :
      Costs (alone (IfElse (number 1) (block (give (number 5) ∷ [])) End ∷ give (number 6) ∷ [])) [] 4
      (codes "return 5" ∷ [])
  pub return_of_the_other_branch :
      Costs (alone (IfElse (number 0) End (block (give (number 5) ∷ [])) ∷ give (number 6) ∷ [])) [] 4
      (codes "return 5" ∷ [])
  pub return_of_a_turn :
      Costs (alone (While (number 1) (block (give (number 5) ∷ [])) ∷ give (number 6) ∷ [])) [] 4
      (codes "return 5" ∷ [])
  pub arguments_by_place :
      Costs (with_callees (Declare x (number 0) ∷ call_into x 1 f (number 5 ∷ number 3 ∷ []) ∷ give (Variable x) ∷ []))
      [] 11 (codes "return 2" ∷ [])
  pub spawned_arguments :
      Costs (with_callees
      (Declare x (number 0) ∷ spawn_into x 1 f (number 5 ∷ number 3 ∷ []) ∷ Sync ∷ give (Variable x) ∷ []))
      [] 12 (codes "return 2" ∷ [])
  -- the first argument traps before the second is looked at
  pub arguments_from_the_left :
      TrapsAt (with_callees (
      call 1 f (Binary Divide (number 1) (number 0) ∷ plus (number 9223372036854775807) (number 1) ∷ [])
      ∷ give (number 0) ∷ []))
      [] 1000 trap.DivisionByZero 1
  pub dropped_result :
      Costs (with_callees (Declare x (number 7) ∷ call 1 f (number 5 ∷ number 3 ∷ []) ∷ give (Variable x) ∷ [])) [] 11
      (codes "return 7" ∷ [])
  pub arrays_by_place :
      Costs (with_callees (DeclareArray a (number 1) ∷ DeclareArray b (number 1)
      ∷ call 1 g (Variable b ∷ Variable a ∷ []) ∷ print_both))
      [] 20 (codes "2" ∷ codes "1" ∷ codes "return 0" ∷ [])
  pub integer_and_array :
      Costs (with_callees (DeclareArray a (number 3) ∷ Declare x (number 0)
      ∷ spawn_into x 1 h (number 9 ∷ Variable a ∷ []) ∷ Sync ∷ Print (Element a (number 0))
      ∷ give (Variable x) ∷ []))
      [] 17 (codes "9" ∷ codes "return 3" ∷ [])
  pub sums_of_two_reducers :
      Writes (record {
        reducers = (record { name = s; how = Sum; line = 1 }) ∷ (record { name = t; how = Sum; line = 1 }) ∷ [];
        functions = main_of
            (Reduce Sum t (number 1) ∷ Reduce Sum s (number 2) ∷ Reduce Sum t (number 3) ∷ give (number 0) ∷ []) ∷ [];
      })
      [] 1000
      (codes "sum s = 2" ∷ codes "sum t = 4" ∷ codes "return 0" ∷ [])
  pub greatest : Costs (maximum_program 0 4) [] 122 (codes "max s = 2" ∷ codes "return 0" ∷ [])
  pub greatest_of_nothing : Writes (maximum_program 5 3) [] 1000 (codes "max s = none" ∷ codes "return 0" ∷ [])
  pub greatest_below_zero :
      Writes (with_maximum (main_of
      (Reduce Max s (Negative (number 5)) ∷ Reduce Max s (Negative (number 3)) ∷ Reduce Max s (Negative (number 4))
      ∷ give (number 0) ∷ []) ∷ [])) [] 1000
      (codes "max s = -3" ∷ codes "return 0" ∷ [])
  pub totals_of_both_kinds :
      Writes (record {
        reducers = (record { name = s; how = Max; line = 1 }) ∷ (record { name = t; how = Sum; line = 1 }) ∷ [];
        functions = main_of
            (Reduce Sum t (number 1) ∷ Reduce Max s (number 2) ∷ Reduce Sum t (number 3) ∷ Reduce Max s (number 1)
            ∷ give (number 0) ∷ []) ∷ [];
      })
      [] 1000
      (codes "max s = 2" ∷ codes "sum t = 4" ∷ codes "return 0" ∷ [])
  pub sums_after_printed_lines :
      Writes (with_sum (main_of (Print (number 1) ∷ Reduce Sum s (number 2) ∷ Print (number 3) ∷ give (number 0) ∷ [])
      ∷ []))
      [] 1000
      (codes "1" ∷ codes "3" ∷ codes "sum s = 2" ∷ codes "return 0" ∷ [])
  pub arguments_of_main :
      Writes (of_functions (int_function main 1 (int_param n ∷ int_param v ∷ [])
      (block (give (minus (Variable n) (Variable v)) ∷ [])) ∷ []))
      (5 ∷ 3 ∷ []) 1000 (codes "return 2" ∷ [])
  pub parts_of_a_cut : Writes (alone (
      DeclareArray a (number 3) ∷ AssignElement a (number 0) (number 1) ∷ AssignElement a (number 1) (number 2)
      ∷ AssignElement a (number 2) (number 3)
      ∷ Cut a (number 1) l r (block (Print (Length l) ∷ Print (Length r) ∷ Print (Element l (number 0))
      ∷ Print (Element r (number 0)) ∷ AssignElement r (number 1) (number 9) ∷ []))
      ∷ Print (Element a (number 0)) ∷ Print (Element a (number 1)) ∷ give (Element a (number 2)) ∷ [])) [] 1000
      (codes "1" ∷ codes "2" ∷ codes "1" ∷ codes "2" ∷ codes "1" ∷ codes "2" ∷ codes "return 9" ∷ [])
  pub integers_written_in_a_cut :
      Writes (alone (
      Declare x (number 1) ∷ DeclareArray a (number 2)
      ∷ Cut a (number 1) l r (block (Assign x (number 5) ∷ [])) ∷ give (Variable x) ∷ []))
      [] 1000 (codes "return 5" ∷ [])
  pub parts_end_with_a_cut :
      Writes (alone (DeclareArray a (number 2) ∷ Cut a (number 1) l r End
      ∷ Cut a (number 0) l r (block (Print (Length l) ∷ [])) ∷ give (number 0) ∷ [])) [] 1000
      (codes "0" ∷ codes "return 0" ∷ [])
  pub new_array_is_zero :
      Writes (alone (DeclareArray a (number 2) ∷ give (Element a (number 1)) ∷ [])) [] 1000 (codes "return 0" ∷ [])
  pub arrays_end_with_blocks :
      Costs (alone (If (number 1) (block (DeclareArray b (number 1) ∷ [])) ∷ DeclareArray b (number 2) ∷ give (Length b)
      ∷ [])) [] 8 (codes "return 2" ∷ [])
  -- the lines printed before a trap are shown in order, including the lines of the enclosing calls
  pub lines_before_a_trap :
      serial (of_functions (void_function p []
      (on_line 2 (Print (number 2) ∷ Print (Binary Divide (number 1) (number 0)) ∷ []))
      ∷ main_of (Print (number 1) ∷ call 1 p [] ∷ give (number 0) ∷ []) ∷ [])) [] 1000
      ≡ TrappedAt trap.DivisionByZero 2 (pos 1 ∷ pos 2 ∷ [])

-- int main() { int i = 0; while (i < 2) { if (i == 0) { print(7); } else { print(8); } i = i + 1; } return i; }
abbrev pub turns_program : Program
turns_program = alone (
    Declare i (number 0)
    ∷ While (Binary Less (Variable i) (number 2)) (block (
    IfElse (Binary Equal (Variable i) (number 0)) (block (Print (number 7) ∷ [])) (block (Print (number 8) ∷ []))
    ∷ Assign i (plus (Variable i) (number 1)) ∷ []))
    ∷ give (Variable i) ∷ [])

-- the costs of statements
pub record CostExamples : Type 0 where
  pub turns : Costs turns_program [] 39 (codes "7" ∷ codes "8" ∷ codes "return 2" ∷ [])
  pub assignment :
      Costs (alone (Declare x (number 0) ∷ Assign x (number 5) ∷ give (Variable x) ∷ [])) [] 6 (codes "return 5" ∷ [])
  pub new_array : Costs (alone (DeclareArray a (number 1) ∷ give (number 0) ∷ [])) [] 4 (codes "return 0" ∷ [])
  pub addition :
      Costs (with_sum (main_of (Reduce Sum s (number 5) ∷ give (number 0) ∷ []) ∷ [])) [] 4
      (codes "sum s = 5" ∷ codes "return 0" ∷ [])
  pub test_that_fails :
      Costs (alone (If (number 0) (block (Print (number 1) ∷ [])) ∷ give (number 0) ∷ [])) [] 4 (codes "return 0" ∷ [])
  pub test_that_holds : Costs (alone (If (number 1) End ∷ give (number 0) ∷ [])) [] 4 (codes "return 0" ∷ [])
  pub sync : Costs (alone (Sync ∷ give (number 0) ∷ [])) [] 3 (codes "return 0" ∷ [])
  pub scope : Costs (alone (Scope End ∷ give (number 0) ∷ [])) [] 4 (codes "return 0" ∷ [])
  pub region : Costs (alone (Region t End ∷ give (number 0) ∷ [])) [] 4 (codes "return 0" ∷ [])
  pub void_call :
      Costs (of_functions (void_function g [] End ∷ main_of (call 1 g [] ∷ give (number 0) ∷ []) ∷ [])) [] 4
      (codes "return 0" ∷ [])
  pub plain_return :
      Costs (of_functions
      (void_function g [] (block (Return None ∷ [])) ∷ main_of (call 1 g [] ∷ give (number 0) ∷ []) ∷ []))
      [] 4 (codes "return 0" ∷ [])

-- void p() { print(1); }, which costs 3, before main
abbrev pub with_printer : List Stmt → Program
with_printer ss = of_functions (void_function p [] (block (Print (number 1) ∷ [])) ∷ main_of ss ∷ [])

-- `with_printer` with void g() { cilk_spawn p(); .. }, which main calls
abbrev pub with_spawner : List Stmt → Program
with_spawner ss = of_functions (
    void_function p [] (block (Print (number 1) ∷ []))
    ∷ void_function g [] (block (spawn 1 p [] ∷ ss))
    ∷ main_of (call 2 g [] ∷ give (number 0) ∷ []) ∷ [])

-- void p() { .. }, a loop that costs 62
abbrev pub idle_loop_function : Function
idle_loop_function = void_function p [] (block (For i i i (number 0) (number 4) 64 [] End ∷ []))

-- void f() { }, and a main with a statement after the spawn of that loop
abbrev pub beside_a_loop : Stmt → Program
beside_a_loop st =
    of_functions (idle_loop_function ∷ void_function f [] End ∷ main_of (spawn 1 p [] ∷ st ∷ give (number 0) ∷ []) ∷ [])

-- the spawns that each sync block joins, at its end and not before; the child is the longer side
pub record JoinExamples : Type 0 where
  -- a return joins after its expression and before its instruction: 1 + (3 || 1) + 1
  pub return_of_a_value : Scales (with_printer (spawn 1 p [] ∷ give (number 0) ∷ [])) [] 0
      (codes ",6,5,1.200,5,1.200" ∷ [])
  pub plain_return : Scales (with_spawner (Return None ∷ [])) [] 0 (codes ",8,8,1.000,8,1.000" ∷ [])
  pub end_of_a_call : Scales (with_spawner []) [] 0 (codes ",8,8,1.000,8,1.000" ∷ [])
  pub scope : Scales (with_printer (Scope (block (spawn 1 p [] ∷ [])) ∷ give (number 0) ∷ [])) [] 0
      (codes ",8,8,1.000,8,1.000" ∷ [])
  pub cut :
      Scales (with_printer
      (DeclareArray a (number 1) ∷ Cut a (number 0) l r (block (spawn 1 p [] ∷ [])) ∷ give (number 0) ∷ [])) []
      0 (codes ",11,11,1.000,11,1.000" ∷ [])
  pub region :
      Scales (with_printer (Region t (block (spawn 1 p [] ∷ [])) ∷ give (number 0) ∷ [])) [] 0
      (codes ",8,8,1.000,8,1.000" ∷ codes "t,4,4,1.000,4,1.000" ∷ [])
  pub turn :
      Scales (with_printer (For i i i (number 0) (number 1) 64 [] (block (spawn 1 p [] ∷ [])) ∷ give (number 0) ∷ []))
      [] 0 (codes ",34,34,1.000,34,1.000" ∷ [])
  -- a block joins no spawn from before it: 1 + (3 || 3) + 1, then 1 + (62 || 50) + 1 and 1 + (62 || 5) + 1
  pub spawn_before_a_scope :
      Scales (with_printer (spawn 1 p [] ∷ Scope End ∷ give (number 0) ∷ [])) [] 0 (codes ",8,5,1.600,5,1.600" ∷ [])
  pub spawn_before_a_loop :
      Scales (beside_a_loop (For i i i (number 0) (number 2) 1 [] End)) [] 0 (codes ",139,64,2.171,64,2.171" ∷ [])
  pub spawn_before_a_lowered_loop :
      Scales (beside_a_loop (Begin f (number 0) (number 1) [] [])) [] 0 (codes ",69,64,1.078,64,1.078" ∷ [])

-- a loop lowered by hand: its function is begun on a range of two arrays with two integers from outside
abbrev pub begun_program : Program
begun_program = of_functions (
    void_function f (int_param i ∷ int_param j ∷ int_param x ∷ int_param y ∷ array_param a ∷ array_param b
    ∷ []) (block (
    Print (Variable i) ∷ Print (Variable j) ∷ Print (minus (Variable x) (Variable y)) ∷ Print (Element a (number 0))
    ∷ Print (Length b)
    ∷ AssignElement a (number 1) (number 8) ∷ AssignElement b (number 1) (number 9) ∷ []))
    ∷ main_of (
    Declare x (number 7) ∷ Declare y (number 4) ∷ DeclareArray a (number 4) ∷ DeclareArray b (number 3)
    ∷ AssignElement a (number 1) (number 5) ∷ AssignElement a (number 3) (number 6)
    ∷ Begin f (number 1) (number 3) (x ∷ y ∷ []) (a ∷ b ∷ [])
    ∷ Print (Element a (number 1)) ∷ Print (Element a (number 2)) ∷ Print (Element a (number 3))
    ∷ give (Element b (number 2)) ∷ [])
    ∷ [])

-- one statement on line 5, in a function that is called at the maximum depth
abbrev pub at_greatest_depth : Stmt → Outcome Returned
at_greatest_depth st =
    meaning.call 3 9999 (void_function p [] End ∷ []) Deeper (void_function g [] (on_line 5 (st ∷ []))) no_frame 4 100

-- the program traps on line 1 for a range past an array, at this cost and not below it
abbrev pub TrapsWith : Program → (cost : ℕ) → Type 0
TrapsWith program zero = ⊥
TrapsWith program (suc cost) = TrapsAt program [] (suc cost) trap.OutOfBounds 1 × IsOver program [] cost

-- an array of two and an integer, and a loop lowered by hand that captures the one and goes past the other
abbrev pub captured_by_a_lowered_loop : Program
captured_by_a_lowered_loop = of_functions (
    void_function f [] End
    ∷ main_of (
    DeclareArray a (number 2) ∷ Declare x (number 7)
    ∷ Begin f (number 0) (number 3) (x ∷ []) (a ∷ []) ∷ give (number 0) ∷ []) ∷ [])

-- the program of `captured_by_a_lowered_loop`, with a `cilk_for`
abbrev pub captured_by_a_loop : Program
captured_by_a_loop = alone (
    DeclareArray a (number 2) ∷ Declare x (number 7)
    ∷ For i i i (number 0) (number 3) 64 (a ∷ []) (block (Print (Variable x) ∷ [])) ∷ give (number 0) ∷ [])

-- the effects of the statements of lowered loops
pub record LoweredExamples : Type 0 where
  -- main 14, the start 5, the function 20, and 12 after it
  pub begun : Costs begun_program [] 51
      (codes "1" ∷ codes "3" ∷ codes "3" ∷ codes "5" ∷ codes "2" ∷ codes "5" ∷ codes "8" ∷ codes "6" ∷ codes "return 9"
      ∷ [])
  pub begun_past_the_end :
      TrapsAt (of_functions (void_function f [] End
      ∷ main_of
      (DeclareArray a (number 2) ∷ Begin f (number 0) (number 3) [] (a ∷ []) ∷ give (number 0) ∷ [])
      ∷ [])) [] 1000 trap.OutOfBounds 1
  -- without an iteration the upper end equals the lower end, so the test of the loop's function does not trap:
  -- 1 + 4 + 1, then 7 and 2
  pub begun_on_the_widest_range_without_a_turn :
      Costs (of_functions (
      void_function f (int_param i ∷ int_param j ∷ [])
      (block (If (Binary AtMost (minus (Variable j) (Variable i)) (number 64)) End ∷ []))
      ∷ main_of (Begin f (number 9223372036854775807) least [] [] ∷ give (number 0) ∷ []) ∷ []))
      [] 15 (codes "return 0" ∷ [])
  -- the captured integer is loaded before the instruction that traps: 2 + 2 + 1 + 1 + 1 + 1
  pub captured_before_the_start : TrapsWith captured_by_a_lowered_loop 8
  pub started_arrays :
      Costs (with_callees (DeclareArray a (number 1) ∷ DeclareArray b (number 1)
      ∷ Start Plain g (Variable b ∷ Variable a ∷ []) ∷ print_both))
      [] 20 (codes "2" ∷ codes "1" ∷ codes "return 0" ∷ [])
  -- the function of a loop is no site
  pub started : Attributes (with_printer (Start Plain p [] ∷ give (number 0) ∷ [])) []
      (codes "0,root,1,main,1,6,6,6,6" ∷ [])
  pub started_beside : Attributes (with_printer (Start Spawned p [] ∷ give (number 0) ∷ [])) []
      (codes "0,root,1,main,1,6,5,6,5" ∷ [])
  -- the function of a loop has the depth of its caller; a call that is too deep traps in its line
  pub started_at_the_greatest_depth : (trace : Trace)
      × (at_greatest_depth (Start Plain p []) ≡ Done (None, no_frame) 97 trace)
  pub begun_at_the_greatest_depth : (trace : Trace)
      × (at_greatest_depth (Begin p (number 0) (number 1) [] []) ≡ Done (None, no_frame) 95 trace)
  pub called_at_the_greatest_depth : at_greatest_depth (call 1 p []) ≡ Trapped trap.TooDeep 5 []

-- a loop that names two outer integers
abbrev pub capture_program : (grain : ℕ) → Program
capture_program grain = with_sum (main_of (
    Declare a (number 2) ∷ Declare b (number 3)
    ∷ For i i i (number 0) (number 2) grain []
    (block (Reduce Sum s (plus (Binary Times (Variable a) (Variable i)) (Variable b)) ∷ []))
    ∷ give (number 0) ∷ []) ∷ [])

-- a loop with one iteration whose body is a loop with an outer integer as its bound
abbrev pub inner_bound_program : Program
inner_bound_program = alone (
    Declare n (number 1)
    ∷ For i i i (number 0) (number 1) 64 [] (block (For j j j (number 0) (Variable n) 64 [] End ∷ []))
    ∷ give (number 0) ∷ [])

-- a loop over i with this statement in its body captures only x
abbrev pub CapturesX : Stmt → Type 0
CapturesX st = captured i (block (st ∷ [])) ≡ x ∷ []

-- a loop over two arrays
abbrev pub two_arrays_program : Program
two_arrays_program = alone (
    DeclareArray a (number 2) ∷ DeclareArray b (number 2)
    ∷ For i i i (number 0) (number 2) 1 (a ∷ b ∷ [])
    (block (AssignElement b (Variable i) (Variable i) ∷ AssignElement a (Variable i) (Element b (Variable i)) ∷ []))
    ∷ give (Element a (number 1)) ∷ [])

-- the tree of a leaf with one iteration, whose body is one strand
abbrev pub leaf_of : ℕ → Tree
leaf_of k = Seq (Leaf 8) (Seq (Leaf 5) (Seq (Leaf k) (Seq (Leaf 6) (Leaf 6))))

-- loops: their costs, the integers that they capture, and the order of their iterations
pub record LoopExamples : Type 0 where
  pub captured_integers : Costs (capture_program 64) [] 59 (codes "sum s = 8" ∷ codes "return 0" ∷ [])
  pub captured_by_halves : Costs (capture_program 1) [] 98 (codes "sum s = 8" ∷ codes "return 0" ∷ [])
  pub inner_bound : Costs inner_bound_program [] 61 (codes "return 0" ∷ [])
  pub own_names :
      Costs (alone (For i i i (number 0) (number 1) 64 [] (block (Declare x (number 1) ∷ Declare n (Variable x) ∷ []))
      ∷ give (number 0) ∷ []))
      [] 34 (codes "return 0" ∷ [])
  pub two_arrays : Costs two_arrays_program [] 117 (codes "return 1" ∷ [])
  pub two_leaves :
      Costs (alone (For i i i (number 0) (number 2) 1 [] End ∷ give (number 0) ∷ [])) [] 76 (codes "return 0" ∷ [])
  pub turns_in_order :
      Writes (alone (For i i i (number 3) (number 8) 2 [] (block (Print (Variable i) ∷ [])) ∷ give (number 0) ∷ [])) []
      1000
      (codes "3" ∷ codes "4" ∷ codes "5" ∷ codes "6" ∷ codes "7" ∷ codes "return 0" ∷ [])
  pub names_end_with_a_turn :
      Writes (alone (For i i i (number 0) (number 2) 64 [] (block (Declare y (Variable i) ∷ Print (Variable y) ∷ []))
      ∷ Declare y (number 5) ∷ give (Variable y) ∷ []))
      [] 1000
      (codes "0" ∷ codes "1" ∷ codes "return 5" ∷ [])
  -- if the upper end is not above the lower end, there is no iteration and no trap
  pub equal_ends : Costs
      (alone (DeclareArray a (number 2) ∷ For i i i (number 9) (number 9) 64 (a ∷ []) End ∷ give (number 0) ∷ [])) [] 21
      (codes "return 0" ∷ [])
  pub lower_end_above : Costs
      (alone (DeclareArray a (number 2) ∷ For i i i (number 9) (number 8) 64 (a ∷ []) End ∷ give (number 0) ∷ [])) [] 21
      (codes "return 0" ∷ [])
  pub range_past_the_second_array :
      TrapsAt (alone (DeclareArray a (number 2) ∷ DeclareArray b (number 1)
      ∷ For i i i (number 0) (number 2) 64 (a ∷ b ∷ []) End ∷ give (number 0) ∷ [])) [] 1000
      trap.OutOfBounds 1
  pub range_shifted_past_the_end :
      TrapsAt (alone (
      DeclareArray a (number 2) ∷ For i i i (number 1) (number 3) 64 (a ∷ []) End ∷ give (number 0) ∷ []))
      [] 1000 trap.OutOfBounds 1
  -- the captured integer is loaded before the instruction that traps: 2 + 2 + 1 + 1 + 1 + 1
  pub captured_before_the_start : TrapsWith captured_by_a_loop 8
  pub both_halves_are_kept :
      Costs (alone (DeclareArray a (number 2)
      ∷ For i i i (number 0) (number 2) 1 (a ∷ []) (block (AssignElement a (Variable i) (number 5) ∷ []))
      ∷ give (Element a (number 0)) ∷ []))
      [] 94 (codes "return 5" ∷ [])
  -- 2 + 3 + 14 + 2 * (11 + 5) + 3
  pub both_turns_are_kept :
      Costs (alone (DeclareArray a (number 2)
      ∷ For i i i (number 0) (number 2) 64 (a ∷ []) (block (AssignElement a (Variable i) (number 5) ∷ []))
      ∷ give (Element a (number 0)) ∷ []))
      [] 54 (codes "return 5" ∷ [])
  -- the smaller half of an odd range is spawned: 3 + 17 + (3 + 47 || 36) + 1 + 2
  pub odd_range : Scales (alone (For i i i (number 0) (number 5) 4 [] End ∷ give (number 0) ∷ [])) [] 0
      (codes ",109,73,1.493,73,1.493" ∷ [])
  -- a node ends after its join, also where the child is the longer side: 3 + 17 + (35 || 3 + 29) + 1 + 2
  pub longer_child :
      Scales (alone (
      For i i i (number 0) (number 2) 1 []
      (block (If (Binary Less (Variable i) (number 1))
      (block (Print (number 1) ∷ Print (number 2) ∷ Print (number 3) ∷ [])) ∷ []))
      ∷ give (number 0) ∷ [])) [] 0 (codes ",90,58,1.551,58,1.551" ∷ [])
  -- a half joins only at its own end: 3 + 17 + (92 || 3 + 17 + (29 || 3 + 29) + 1) + 1 + 2
  pub longest_first_leaf :
      Scales (of_functions (
      idle_loop_function
      ∷ main_of (For i i i (number 0) (number 3) 1 []
      (block (If (Binary Less (Variable i) (number 1)) (block (call 1 p [] ∷ [])) ∷ [])) ∷ give (number 0)
      ∷ [])
      ∷ [])) [] 0 (codes ",197,115,1.713,115,1.713" ∷ [])
  -- own names do not change the cost of an index of a loop array: 2 + 3 + 14 + 2 * (11 + 11) + 3
  pub index_beside_own_names :
      Costs (alone (DeclareArray a (number 2)
      ∷ For i i i (number 0) (number 2) 64 (a ∷ [])
      (block (Declare y (number 0) ∷ Assign y (number 1) ∷ DeclareArray b (number 1)
      ∷ AssignElement a (Variable i) (Variable y) ∷ [])) ∷ give (Element a (number 1)) ∷ []))
      [] 66 (codes "return 1" ∷ [])
  -- blocks in the body do not change the cost of an index of a loop array: 2 + 3 + 14 + 2 * (11 + 7) + 3
  pub index_after_a_block :
      Costs (alone (DeclareArray a (number 2)
      ∷ For i i i (number 0) (number 2) 64 (a ∷ [])
      (block (If (number 1) End ∷ AssignElement a (Variable i) (Variable i) ∷ []))
      ∷ give (Element a (number 1)) ∷ []))
      [] 58 (codes "return 1" ∷ [])
  -- three leaves and two inner nodes: 3 * 14 + 5 * 11 + 2 * (21 + 5 + 2 * 2)
  pub cost_of_five_turns : loop_cost 2 2 1 5 ≡ 157
  pub cost_of_a_leaf : loop_cost 5 2 1 5 ≡ 69
  pub nodes_of_five_turns : inner_nodes 6 2 5 ≡ 2
  -- the whole loop, and each of its halves of four iterations
  pub nodes_of_eight_turns : inner_nodes 9 2 8 ≡ 3
  -- one integer and two arrays: a node is 17 + 4 * 2 + 1 up to its spawn, 3 + 1 up to its call, and 2 + 1 after its
  -- join
  pub tree_of_three_turns : loop_tree 4 1 1 2 (Leaf 7 ∷ Leaf 11 ∷ Leaf 13 ∷ []) ≡
      Seq (Leaf 26) (Seq (Par (leaf_of 7)
      (Seq (Leaf 4) (Seq (Leaf 26) (Seq (Par (leaf_of 11) (Seq (Leaf 4) (leaf_of 13))) (Leaf 3)))))
      (Leaf 3))

-- where a body names an outer integer
pub record CaptureExamples : Type 0 where
  pub no_name : captured i (block (Print (number 1) ∷ Sync ∷ Return None ∷ [])) ≡ []
  pub no_array : captured i (block (Print (Length a) ∷ AssignElement a (number 0) (Element b (number 0)) ∷ [])) ≡ []
  pub no_variable : captured i (block (Print (Variable i) ∷ [])) ≡ []
  pub no_target : captured i (block (Assign y (number 0) ∷ call_into y 1 f [] ∷ Reduce Sum s (number 0) ∷ [])) ≡ []
  pub own_integer : captured i (block (Declare x (number 0) ∷ Print (Variable x) ∷ [])) ≡ []
  pub own_array : captured i (block (DeclareArray z (number 1) ∷ call 1 g (Variable z ∷ []) ∷ [])) ≡ []
  pub own_variable :
      captured i (block (For j j j (number 0) (number 1) 64 [] (block (Print (Variable j) ∷ [])) ∷ [])) ≡ []
  pub own_parts :
      captured i
      (block (Cut z (number 0) l r (block (call 1 g (Variable l ∷ []) ∷ call 2 g (Variable r ∷ []) ∷ [])) ∷ []))
      ≡ []
  pub own_in_each_block :
      captured j (in_every_block
      (λ line. on_line line (Declare (line ∷ []) (number 0) ∷ Print (Variable (line ∷ [])) ∷ [])) End) ≡ []
  pub in_order_and_once :
      captured i (block (Print (plus (Variable x) (Variable y)) ∷ Print (plus (Variable z) (Variable x)) ∷ []))
      ≡ x ∷ y ∷ z ∷ []
  pub printed : CapturesX (Print (Variable x))
  pub declared : CapturesX (Declare y (Variable x))
  pub length_of_a_new_array : CapturesX (DeclareArray b (Variable x))
  pub assigned : CapturesX (Assign y (Variable x))
  pub index_written : CapturesX (AssignElement b (Variable x) (number 0))
  pub value_of_an_element : CapturesX (AssignElement b (number 0) (Variable x))
  pub added : CapturesX (Reduce Sum s (Variable x))
  pub second_argument : CapturesX (call 1 f (number 0 ∷ Variable x ∷ []))
  pub test_of_if : CapturesX (If (Variable x) End)
  pub test_of_if_else : CapturesX (IfElse (Variable x) End End)
  pub test_of_while : CapturesX (While (Variable x) End)
  pub lower_end : CapturesX (For j j j (Variable x) (number 0) 64 [] End)
  pub upper_end : CapturesX (For j j j (number 0) (Variable x) 64 [] End)
  pub place_of_a_cut : CapturesX (Cut a (Variable x) l r End)
  pub result : CapturesX (give (Variable x))
  pub index : CapturesX (Print (Element a (Variable x)))
  pub negative : CapturesX (Print (Negative (Variable x)))
  pub not : CapturesX (Print (Not (Variable x)))
  pub left_operand : CapturesX (Print (plus (Variable x) (number 1)))
  pub right_operand : CapturesX (Print (plus (number 1) (Variable x)))
  pub lowered_call : CapturesX (Start Plain f (number 0 ∷ Variable x ∷ []))
  pub lowered_from : CapturesX (Begin f (Variable x) (number 0) [] [])
  pub lowered_to : CapturesX (Begin f (number 0) (Variable x) [] [])
  pub lowered_captured : CapturesX (Begin f (number 0) (number 0) (x ∷ []) (a ∷ []))
