-- Worked examples of arrays that several calls read: const parameters, and the arrays that spawns freeze.
use Rattle.std.specs.Prelude.{◌≡◌, ℕ, List, [], ◌∷◌, ◌++◌, codes}
use Rattle.cw_model.specs.declared.limits.TheConstants.{USUAL_LIMIT}
use Rattle.cw_model.specs.Syntax.{Variable, Element, Length, Stmt, Declare, DeclareArray, Assign, AssignElement, Sync}
use Rattle.cw_model.specs.Syntax.{If, IfElse, While, For, Scope, Cut, Region, Print, Name, Block, End, Then, Program}
use Rattle.cw_model.specs.Sizes.{static_size}
use Rattle.cw_model.specs.Examples.{IsAccepted, BreaksTypes, BreaksOwnership, Writes, Scales}
use Rattle.cw_model.specs.ExamplePrograms.{a, b, f, g, h, i, j, l, n, p, q, r, s, t, v, x, y, z, main, number, plus}
use Rattle.cw_model.specs.ExamplePrograms.{int_param, array_param, const_param, int_function, void_function}
use Rattle.cw_model.specs.ExamplePrograms.{of_functions, on_line, block, give, call, call_into, spawn, spawn_into}
use Rattle.cw_model.specs.ExamplePrograms.{main_of, followed_by}

-- int f(const int a[]) { return len(a); } int g(int a[]) { return 0; } void h(int a[], const int b[]) { }
-- void p(const int b[], int a[]) { } int q(const int a[], const int b[]) { return a[0] + b[0]; }
-- int n(const int a[], int v) { return a[v]; } void s(int a[], int b[], const int i[], const int j[]) { } before main
abbrev pub with_readers : Block → Program
with_readers body = of_functions (
    int_function f 1 (const_param a ∷ []) (block (give (Length a) ∷ []))
    ∷ int_function g 1 (array_param a ∷ []) (block (give (number 0) ∷ []))
    ∷ void_function h (array_param a ∷ const_param b ∷ []) End
    ∷ void_function p (const_param b ∷ array_param a ∷ []) End
    ∷ int_function q 1 (const_param a ∷ const_param b ∷ [])
    (block (give (plus (Element a (number 0)) (Element b (number 0))) ∷ []))
    ∷ int_function n 1 (const_param a ∷ int_param v ∷ []) (block (give (Element a (Variable v)) ∷ []))
    ∷ void_function s (array_param a ∷ array_param b ∷ const_param i ∷ const_param j ∷ []) End
    ∷ int_function main 1 [] body ∷ [])

-- a statement on line 2 of int n(const int a[], int x), after two other functions
abbrev pub amid : Stmt → Program
amid st = of_functions (
    int_function f 1 (const_param a ∷ []) (block (give (Length a) ∷ []))
    ∷ int_function g 1 (array_param a ∷ []) (block (give (number 0) ∷ []))
    ∷ int_function n 1 (const_param a ∷ int_param x ∷ []) (Then 2 st (Then 3 (give (number 0)) End))
    ∷ main_of (give (number 0) ∷ []) ∷ [])

-- the types of the program are rejected
abbrev pub IsMistyped : Stmt → Type 0
IsMistyped st = BreaksTypes (amid st) (2 ∷ [])

-- the program is accepted
abbrev pub IsTyped : Stmt → Type 0
IsTyped st = IsAccepted (amid st)

-- a const parameter may be used in a[e], in len(a) and as the argument for a const parameter
pub record ConstTypeExamples : Type 0 where
  pub element_read : IsTyped (Print (Element a (Variable x)))
  pub length : IsTyped (Print (Length a))
  pub passed_on : IsTyped (call_into x 1 f (Variable a ∷ []))
  pub passed_on_by_a_spawn : IsTyped (spawn 1 f (Variable a ∷ []))
  pub own_array_passed : IsTyped (Scope (on_line 2 (DeclareArray z (number 1) ∷ call 1 f (Variable z ∷ []) ∷ [])))
  pub written : IsMistyped (AssignElement a (number 0) (number 1))
  pub given_away : IsMistyped (call 1 g (Variable a ∷ []))
  pub given_away_by_a_spawn : IsMistyped (spawn 1 g (Variable a ∷ []))
  pub cut : IsMistyped (Cut a (number 0) l r End)
  pub looped_over : IsMistyped (For i i i (number 0) (number 1) 64 (a ∷ []) End)
  pub looped_over_behind_another :
      IsMistyped (Scope (on_line 2
      (DeclareArray z (number 1) ∷ For i i i (number 0) (number 1) 64 (z ∷ a ∷ []) End ∷ [])))
  pub read_alone : IsMistyped (Print (Variable a))
  pub assigned : IsMistyped (Assign a (number 1))
  pub target : IsMistyped (call_into a 1 f (Variable a ∷ []))
  pub declared_again : IsMistyped (DeclareArray a (number 1))
  pub integer_for_it : IsMistyped (call 1 f (Variable x ∷ []))
  pub element_for_it : IsMistyped (call 1 f (Element a (number 0) ∷ []))
  pub number_for_it : IsMistyped (call 1 f (number 1 ∷ []))
  pub unknown_name_for_it : IsMistyped (call 1 f (Variable y ∷ []))
  pub parameter_of_main :
      BreaksTypes (of_functions (int_function main 1 (const_param a ∷ []) (block (give (number 0) ∷ [])) ∷ [])) (1 ∷ [])

-- a main of an integer and two arrays, and then these statements
abbrev pub with_names : Block → Program
with_names body =
    with_readers (Then 1 (Declare x (number 0)) (Then 1 (DeclareArray a (number 2))
    (Then 1 (DeclareArray b (number 2)) body)))

-- a sync, and the end
abbrev pub joined_at : ℕ → Block
joined_at line = on_line line (Sync ∷ give (number 0) ∷ [])

-- a spawn reads a, another one takes b, and then comes a statement on line 2
abbrev pub beside_reader : Stmt → Program
beside_reader st =
    with_names (Then 1 (spawn 1 f (Variable a ∷ [])) (Then 1 (spawn 2 g (Variable b ∷ [])) (Then 2 st (joined_at 3))))

-- the ownership of the program is rejected
abbrev pub IsRejected : Stmt → Type 0
IsRejected st = BreaksOwnership (beside_reader st) (2 ∷ [])

-- the program is accepted
abbrev pub IsFine : Stmt → Type 0
IsFine st = IsAccepted (beside_reader st)

-- a write to a, on line 3, after a statement on line 2
abbrev pub before_write : Stmt → Program
before_write st = with_names (Then 2 st (Then 3 (AssignElement a (number 0) (number 1)) (joined_at 4)))

-- a print of an element of a, on line 3, after a statement on line 2
abbrev pub before_read : Stmt → Program
before_read st = with_names (Then 2 st (Then 3 (Print (Element a (number 0))) (joined_at 4)))

-- a spawn that reads a
abbrev pub reads_a : Block
reads_a = on_line 2 (spawn 1 f (Variable a ∷ []) ∷ [])

-- a spawn that takes a
abbrev pub takes_a : Block
takes_a = on_line 2 (spawn 2 g (Variable a ∷ []) ∷ [])

-- an array declared on line 2, which a spawn reads on the same line
abbrev pub reads_its_own : Block
reads_its_own = on_line 2 (DeclareArray z (number 1) ∷ spawn 1 f (Variable z ∷ []) ∷ [])

-- a loop over a on line 2, with this statement on line 3 in its body
abbrev pub in_loop : Stmt → Program
in_loop st = with_names (Then 2 (For i i i (number 0) (number 2) 64 (a ∷ []) (Then 3 st End)) (joined_at 4))

-- a block with an array of its own, and this statement, on line 3
abbrev pub beside_own : Stmt → Stmt
beside_own st = Scope (on_line 3 (DeclareArray z (number 1) ∷ st ∷ []))

-- a call on line 2 that is given a and b, and reads two arrays; there is an array z
abbrev pub given_two : (first second : Name) → Program
given_two first second =
    with_names (Then 2 (Scope (on_line 2 (DeclareArray z (number 1)
    ∷ call 1 s (Variable a ∷ Variable b ∷ Variable first ∷ Variable second ∷ []) ∷ []))) (joined_at 3))

-- a frozen array may be read, and may not be changed
pub record FrozenExamples : Type 0 where
  pub element_read : IsFine (Print (Element a (number 1)))
  pub length : IsFine (Print (Length a))
  pub passed_to_be_read : IsFine (call_into x 3 f (Variable a ∷ []))
  pub frozen_twice : IsFine (spawn 3 f (Variable a ∷ []))
  pub passed_twice_to_be_read : IsFine (call 3 q (Variable a ∷ Variable a ∷ []))
  pub passed_twice_by_a_spawn : IsFine (spawn 3 q (Variable a ∷ Variable a ∷ []))
  pub written : IsRejected (AssignElement a (number 0) (number 1))
  pub given_away : IsRejected (call 3 g (Variable a ∷ []))
  pub given_away_by_a_spawn : IsRejected (spawn 3 g (Variable a ∷ []))
  pub cut : IsRejected (Cut a (number 0) l r End)
  pub looped_over : IsRejected (For i i i (number 0) (number 1) 64 (a ∷ []) End)
  pub taken_passed_to_be_read : IsRejected (call 3 f (Variable b ∷ []))
  pub taken_passed_to_be_read_by_a_spawn : IsRejected (spawn 3 f (Variable b ∷ []))
  pub taken_beside_a_frozen_one : IsRejected (call 3 q (Variable a ∷ Variable b ∷ []))
  pub call_freezes_nothing : IsAccepted (before_write (call 1 f (Variable a ∷ [])))
  pub spawn_freezes : BreaksOwnership (before_write (spawn 1 f (Variable a ∷ []))) (3 ∷ [])
  pub spawn_takes_its_target :
      BreaksOwnership (with_names (Then 2 (spawn_into x 1 f (Variable a ∷ [])) (Then 3 (Print (Variable x)) (joined_at 4))))
      (3 ∷ [])
  pub first_argument_frozen :
      BreaksOwnership (before_write (spawn 1 q (Variable a ∷ Variable b ∷ []))) (3 ∷ [])
  pub second_argument_frozen :
      BreaksOwnership (before_write (spawn 1 q (Variable b ∷ Variable a ∷ []))) (3 ∷ [])
  pub second_argument_read : IsAccepted (before_read (spawn 1 q (Variable b ∷ Variable a ∷ [])))
  pub given_away_beside_one_to_be_read : IsAccepted (before_read (spawn 1 h (Variable b ∷ Variable a ∷ [])))
  pub read_beside_one_given_away : BreaksOwnership (before_read (spawn 1 h (Variable a ∷ Variable b ∷ []))) (3 ∷ [])
  -- one array may be the argument for several parameters only if all of them are const
  pub twice_the_first_given_away :
      BreaksOwnership (with_names (Then 2 (call 1 h (Variable a ∷ Variable a ∷ [])) (joined_at 3))) (2 ∷ [])
  pub twice_the_second_given_away :
      BreaksOwnership (with_names (Then 2 (call 1 p (Variable a ∷ Variable a ∷ [])) (joined_at 3))) (2 ∷ [])
  pub two_arrays : IsAccepted (with_names (Then 2 (call 1 p (Variable a ∷ Variable b ∷ [])) (joined_at 3)))
  pub second_given_away_read : BreaksOwnership (given_two b b) (2 ∷ [])
  pub second_given_away_read_behind_another : BreaksOwnership (given_two z b) (2 ∷ [])
  pub another_read_twice : IsAccepted (given_two z z)
  -- an integer that is passed is a copy
  pub integer_argument_written :
      IsAccepted (with_names (Then 2 (spawn 1 n (Variable a ∷ Variable x ∷ []))
      (Then 3 (Assign x (number 1)) (joined_at 4))))
  -- a join of the block of a spawn makes the frozen arrays writable again
  pub sync :
      IsAccepted (with_names (Then 2 (spawn 1 f (Variable a ∷ []))
      (Then 2 Sync (Then 3 (AssignElement a (number 0) (number 1)) (joined_at 4)))))
  pub sync_in_scope :
      BreaksOwnership (with_names (Then 2 (spawn 1 f (Variable a ∷ []))
      (Then 2 (Scope (on_line 2 (Sync ∷ []))) (Then 3 (AssignElement a (number 0) (number 1)) (joined_at 4)))))
      (3 ∷ [])
  pub after_a_cut_of_a_frozen_array :
      BreaksOwnership (with_names (Then 2 (spawn 1 f (Variable a ∷ []))
      (Then 3 (Cut a (number 0) l r End) (Then 4 (AssignElement a (number 0) (number 1)) (joined_at 5)))))
      (3 ∷ 4 ∷ [])
  pub spawn_in_scope : IsAccepted (before_write (Scope reads_a))
  pub spawn_in_if : BreaksOwnership (before_write (If (number 1) reads_a)) (3 ∷ [])
  pub spawn_in_one_branch : BreaksOwnership (before_write (IfElse (number 1) reads_a End)) (3 ∷ [])
  pub spawn_in_the_other_branch : BreaksOwnership (before_write (IfElse (number 1) End reads_a)) (3 ∷ [])
  pub read_after_one_branch : IsAccepted (before_read (IfElse (number 1) reads_a End))
  pub frozen_or_taken : BreaksOwnership (before_read (IfElse (number 1) reads_a takes_a)) (3 ∷ [])
  pub taken_or_frozen : BreaksOwnership (before_read (IfElse (number 1) takes_a reads_a)) (3 ∷ [])
  pub written_in_the_next_turn :
      BreaksOwnership (with_names (Then 2 (While (number 0)
      (Then 3 (AssignElement a (number 0) (number 1)) (Then 4 (spawn 1 f (Variable a ∷ [])) End))) (joined_at 5)))
      (3 ∷ [])
  pub read_in_the_next_turn :
      IsAccepted (with_names (Then 2 (While (number 0)
      (Then 3 (Print (Element a (number 0))) (Then 4 (spawn 1 f (Variable a ∷ [])) End))) (joined_at 5)))
  -- an array that is still frozen as its block ends counts at its declaration
  pub let_out_of_scope : BreaksOwnership (with_names (Then 1 (If (number 1) reads_its_own) (joined_at 3))) (2 ∷ [])
  pub joined_at_its_end : IsAccepted (with_names (Then 1 (Scope reads_its_own) (joined_at 3)))
  -- parts of a cut, and bodies of loops
  pub parts_of_a_cut :
      IsAccepted (with_names (Then 2 (Cut a (number 1) l r (on_line 2 (spawn 1 f (Variable l ∷ [])
      ∷ spawn 2 f (Variable r ∷ []) ∷ Print (Element l (number 0)) ∷ []))) (joined_at 3)))
  pub frozen_part_written :
      BreaksOwnership (with_names (Then 2 (Cut a (number 1) l r (on_line 3 (spawn 1 f (Variable l ∷ [])
      ∷ AssignElement l (number 0) (number 1) ∷ []))) (joined_at 4)))
      (3 ∷ [])
  pub whole_passed_in_its_cut :
      BreaksOwnership (with_names (Then 2 (Cut a (number 1) l r (on_line 3 (call 1 f (Variable a ∷ []) ∷ [])))
      (joined_at 4)))
      (3 ∷ [])
  pub array_of_a_loop_passed : BreaksOwnership (in_loop (call 1 f (Variable a ∷ []))) (3 ∷ [])
  pub outer_array_passed : BreaksOwnership (in_loop (call 1 f (Variable b ∷ []))) (3 ∷ [])
  pub outer_array_passed_before_an_own :
      BreaksOwnership (in_loop (beside_own (call 1 q (Variable b ∷ Variable z ∷ [])))) (3 ∷ [])
  pub outer_array_passed_behind_an_own :
      BreaksOwnership (in_loop (beside_own (call 1 q (Variable z ∷ Variable b ∷ [])))) (3 ∷ [])
  pub outer_integer_passed : IsAccepted (in_loop (beside_own (call 1 n (Variable z ∷ Variable x ∷ []))))
  pub own_array_of_a_turn : IsAccepted (in_loop (Scope reads_its_own))

-- a spawn reads a, then comes a statement on line 2, and a write to a on line 3
abbrev pub between : Stmt → Program
between st =
    with_names (Then 2 (spawn 1 f (Variable a ∷ []))
    (Then 2 st (Then 3 (AssignElement a (number 0) (number 1)) (joined_at 4))))

-- the program is rejected
abbrev pub StaysFrozen : Stmt → Type 0
StaysFrozen st = BreaksOwnership (between st) (3 ∷ [])

-- a block with only a sync, and a block with only a return
abbrev pub syncs : Block
syncs = on_line 2 (Sync ∷ [])

abbrev pub returns : Block
returns = on_line 2 (give (number 0) ∷ [])

-- at its end or return, a block makes the arrays that its own spawns froze writable again, but no array that was frozen
-- outside of it
pub record ThawedExamples : Type 0 where
  pub by_a_region : IsAccepted (before_write (Region t reads_a))
  pub by_a_cut_of_another : IsAccepted (before_write (Cut b (number 0) l r reads_a))
  pub by_a_return :
      IsAccepted (with_names (Then 1 (If (number 1) (followed_by reads_its_own returns)) (joined_at 3)))
  pub by_both_branches : IsAccepted (between (IfElse (number 1) syncs syncs))
  pub not_by_a_scope : StaysFrozen (Scope syncs)
  pub not_by_a_region : StaysFrozen (Region t syncs)
  pub not_by_a_cut : StaysFrozen (Cut b (number 0) l r syncs)
  pub not_by_a_loop : StaysFrozen (For i i i (number 0) (number 1) 64 [] syncs)
  pub not_by_an_if_that_joins : StaysFrozen (If (number 1) syncs)
  pub not_by_an_if_that_returns : StaysFrozen (If (number 1) returns)
  pub not_by_one_branch : StaysFrozen (IfElse (number 1) syncs End)
  pub not_by_the_other_branch : StaysFrozen (IfElse (number 1) End syncs)
  pub not_by_a_while_that_joins : StaysFrozen (While (number 0) syncs)
  pub not_by_a_while_that_returns : StaysFrozen (While (number 0) returns)

-- int g(const int a[], int v) { return a[v]; } int main() { int a[2]; int x = 0; a[1] = 5; x = cilk_spawn g(a, 1); .. }
-- with statements before the sync, and after it a[0] = x; return a[0];
abbrev pub read_beside : Stmt → List Stmt → Program
read_beside first beside = of_functions (
    int_function g 1 (const_param a ∷ int_param v ∷ []) (on_line 1 (first ∷ give (Element a (Variable v)) ∷ []))
    ∷ main_of (DeclareArray a (number 2) ∷ Declare x (number 0) ∷ AssignElement a (number 1) (number 5)
    ∷ spawn_into x 1 g (Variable a ∷ number 1 ∷ [])
    ∷ (beside ++ Sync ∷ AssignElement a (number 0) (Variable x) ∷ give (Element a (number 0)) ∷ []))
    ∷ [])

-- `read_beside` without a first statement in the callee
abbrev pub read_program : List Stmt → Program
read_program beside = of_functions (
    int_function g 1 (const_param a ∷ int_param v ∷ []) (block (give (Element a (Variable v)) ∷ []))
    ∷ main_of (DeclareArray a (number 2) ∷ Declare x (number 0) ∷ AssignElement a (number 1) (number 5)
    ∷ spawn_into x 1 g (Variable a ∷ number 1 ∷ [])
    ∷ (beside ++ Sync ∷ AssignElement a (number 0) (Variable x) ∷ give (Element a (number 0)) ∷ []))
    ∷ [])

-- a spawned call and the rest of its block read the same elements
pub record ReadRunExamples : Type 0 where
  pub accepted : IsAccepted (read_program (Print (Element a (number 1)) ∷ []))
  pub runs :
      Writes (read_program (Print (Element a (number 1)) ∷ [])) [] USUAL_LIMIT (codes "5" ∷ codes "return 5" ∷ [])
  pub scale : Scales (read_program (Print (Element a (number 1)) ∷ [])) [] 0 (codes ",22,19,1.157,19,1.157" ∷ [])
  pub size : static_size (read_program (Print (Element a (number 1)) ∷ [])) ≡ 22
  pub written_beside :
      BreaksOwnership (read_program (AssignElement a (number 0) (number 1) ∷ Print (Element a (number 1)) ∷ [])) (1 ∷ [])
  pub written_by_the_reader :
      BreaksTypes
      (read_beside (AssignElement a (Variable v) (number 0)) (Print (Element a (number 1)) ∷ []))
      (1 ∷ [])
  -- an array that is given away comes back, in a call that also reads another array
  pub one_of_each :
      Writes (of_functions (
      void_function h (array_param a ∷ const_param b ∷ [])
      (block (AssignElement a (number 0) (Element b (number 0)) ∷ []))
      ∷ main_of (DeclareArray a (number 1) ∷ DeclareArray b (number 1) ∷ AssignElement b (number 0) (number 7)
      ∷ spawn 1 h (Variable a ∷ Variable b ∷ []) ∷ Print (Element b (number 0)) ∷ Sync
      ∷ give (plus (Element a (number 0)) (Element b (number 0))) ∷ [])
      ∷ []))
      [] USUAL_LIMIT (codes "7" ∷ codes "return 14" ∷ [])
  pub one_array_for_two :
      Writes (of_functions (
      int_function q 1 (const_param a ∷ const_param b ∷ [])
      (block (give (plus (Element a (number 0)) (Element b (number 1))) ∷ []))
      ∷ main_of (DeclareArray z (number 2) ∷ Declare x (number 0) ∷ AssignElement z (number 0) (number 3)
      ∷ AssignElement z (number 1) (number 4) ∷ call_into x 1 q (Variable z ∷ Variable z ∷ []) ∷ give (Variable x) ∷ [])
      ∷ []))
      [] USUAL_LIMIT (codes "return 7" ∷ [])
