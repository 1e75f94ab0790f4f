-- Worked examples of ownership: programs that break one rule each, and some that keep it narrowly.
use Rattle.std.specs.Prelude.{◌≡◌, ℕ, [], ◌∷◌}
use Rattle.cw_model.specs.declared.syntax.CallKind.TheVariants.{Plain}
use Rattle.cw_model.specs.declared.syntax.Reduction.TheVariants.{Sum}
use Rattle.cw_model.specs.Syntax.{Variable, Element, Length, Negative, Not, Stmt, Declare, DeclareArray, Assign}
use Rattle.cw_model.specs.Syntax.{AssignElement, Reduce, Start, Begin, Sync, If, IfElse, While, For, Scope, Cut}
use Rattle.cw_model.specs.Syntax.{Region, Print, Block, End, Then, Program}
use Rattle.cw_model.specs.Ownership.{ownership_faults}
use Rattle.cw_model.specs.Examples.{IsAccepted, BreaksOwnership}
use Rattle.cw_model.specs.ExamplePrograms.{a, b, f, g, h, i, j, l, n, p, q, r, s, t, v, x, y, z, main, number, plus}
use Rattle.cw_model.specs.ExamplePrograms.{int_param, array_param, int_function, void_function, of_functions, on_line}
use Rattle.cw_model.specs.ExamplePrograms.{block, give, call, call_into, spawn, spawn_into, main_of, alone}
use Rattle.cw_model.specs.ExamplePrograms.{same_function, with_sum, followed_by, in_every_block, once_in_every_block}

-- int f(int v) { return v; } int g(int a[]) { return 0; } int q(int v, int b[]) { return v; } void h(int a[], int b[])
-- { } before main
abbrev pub with_callees : Block → Program
with_callees body = with_sum (
    same_function
    ∷ int_function g 1 (array_param a ∷ []) (block (give (number 0) ∷ []))
    ∷ int_function q 1 (int_param v ∷ array_param b ∷ []) (block (give (Variable v) ∷ []))
    ∷ void_function h (array_param a ∷ array_param b ∷ []) End
    ∷ int_function main 1 [] body ∷ [])

-- a main of two integers and two arrays, and then these statements
abbrev pub with_names : Block → Program
with_names body =
    with_callees (followed_by (on_line 1 (Declare x (number 0) ∷ Declare y (number 0) ∷ DeclareArray a (number 2)
    ∷ DeclareArray b (number 2) ∷ [])) body)

-- a sync, and the end
abbrev pub joined_at : ℕ → Block
joined_at line = on_line line (Sync ∷ give (number 0) ∷ [])

-- a spawn takes x, another one a, and then comes a statement on line 2
abbrev pub beside_spawns : Stmt → Program
beside_spawns st =
    with_names
    (Then 1 (spawn_into x 1 f (number 1 ∷ [])) (Then 1 (spawn 2 g (Variable a ∷ [])) (Then 2 st (joined_at 3))))

-- the ownership of the program is rejected
abbrev pub IsRejected : Stmt → Type 0
IsRejected st = BreaksOwnership (beside_spawns st) (2 ∷ [])

-- the program is accepted
abbrev pub IsFine : Stmt → Type 0
IsFine st = IsAccepted (beside_spawns st)

-- a taken name may not be touched
pub record TakenExamples : Type 0 where
  pub another_read : IsFine (Print (plus (Variable y) (Element b (Variable y))))
  pub another_written : IsFine (AssignElement b (Variable y) (Length b))
  pub declared : IsRejected (Declare z (Variable x))
  pub length_of_a_new_array : IsRejected (DeclareArray z (Variable x))
  pub value : IsRejected (Assign y (Variable x))
  pub target : IsRejected (Assign x (number 1))
  pub index_written : IsRejected (AssignElement b (Variable x) (number 1))
  pub value_of_an_element : IsRejected (AssignElement b (number 0) (Variable x))
  pub element_written : IsRejected (AssignElement a (number 0) (number 1))
  pub addition : IsRejected (Reduce Sum s (Variable x))
  pub argument : IsRejected (call 3 f (Variable x ∷ []))
  pub argument_beside_a_free_one : IsRejected (call 3 q (Variable x ∷ Variable b ∷ []))
  pub second_argument : IsRejected (call 3 h (Variable b ∷ Variable a ∷ []))
  pub array_passed : IsRejected (call 3 g (Variable a ∷ []))
  pub target_of_a_call : IsRejected (call_into x 3 f (number 1 ∷ []))
  pub target_of_a_spawn : IsRejected (spawn_into x 3 f (number 1 ∷ []))
  pub test_of_if : IsRejected (If (Variable x) End)
  pub test_of_if_else : IsRejected (IfElse (Variable x) End End)
  pub test_of_while : IsRejected (While (Variable x) End)
  pub lower_end : IsRejected (For i i i (Variable x) (number 1) 64 [] End)
  pub upper_end : IsRejected (For i i i (number 0) (Variable x) 64 [] End)
  pub loop_over : IsRejected (For i i i (number 0) (number 1) 64 (b ∷ a ∷ []) End)
  pub place_of_a_cut : IsRejected (Cut b (Variable x) l r End)
  pub cut_again : IsRejected (Cut a (number 0) l r End)
  pub printed : IsRejected (Print (Variable x))
  pub result : BreaksOwnership (beside_spawns (If (number 1) (on_line 2 (give (Variable x) ∷ [])))) (2 ∷ [])
  pub negative : IsRejected (Print (Negative (Variable x)))
  pub not : IsRejected (Print (Not (Variable x)))
  pub left_operand : IsRejected (Print (plus (Variable x) (number 1)))
  pub right_operand : IsRejected (Print (plus (number 1) (Variable x)))
  pub index : IsRejected (Print (Element b (Variable x)))
  pub element : IsRejected (Print (Element a (number 0)))
  pub length : IsRejected (Print (Length a))
  pub in_each_block :
      BreaksOwnership (with_names (Then 1 (spawn_into x 1 f (number 1 ∷ []))
      (once_in_every_block (λ line. Print (Variable x)) (joined_at 17))))
      (3 ∷ 5 ∷ 6 ∷ 8 ∷ 10 ∷ 12 ∷ 14 ∷ 16 ∷ [])
  -- nothing but a join frees it
  pub after_each_block :
      BreaksOwnership (with_names (Then 1 (spawn_into x 1 f (number 1 ∷ []))
      (once_in_every_block (λ line. Print (number 1)) (Then 17 (Print (Variable x)) (joined_at 18)))))
      (17 ∷ [])
  pub two_lines_later :
      BreaksOwnership (with_names (Then 1 (spawn_into x 1 f (number 1 ∷ []))
      (Then 2 (Declare z (number 1))
      (Then 3 (call_into z 2 f (Variable z ∷ [])) (Then 4 (Print (Variable x)) (joined_at 5))))))
      (4 ∷ [])
  -- statements that only lowering makes
  pub lowered_call : ownership_faults (alone (Start Plain h [] ∷ [])) ≡ 1 ∷ []
  pub lowered_loop : ownership_faults (alone (Begin h (number 0) (number 1) [] [] ∷ [])) ≡ 1 ∷ []

-- a statement on line 2, after no spawn, and a print of x on line 3
abbrev pub before_print : Stmt → Program
before_print st = with_names (Then 2 st (Then 3 (Print (Variable x)) (joined_at 4)))

-- a spawn takes x, then comes a statement on line 2, and a print of x on line 3
abbrev pub between : Stmt → Program
between st =
    with_names (Then 1 (spawn_into x 1 f (number 1 ∷ [])) (Then 2 st (Then 3 (Print (Variable x)) (joined_at 4))))

-- a spawn into x
abbrev pub takes_x : Block
takes_x = on_line 2 (spawn_into x 1 f (number 1 ∷ []) ∷ [])

-- a block with only a sync
abbrev pub syncs : Block
syncs = on_line 2 (Sync ∷ [])

-- a name declared in a line, which a spawn takes on the same line
abbrev pub takes_its_own : ℕ → Block
takes_its_own line = on_line line (Declare z (number 0) ∷ spawn_into z 1 f (number 1 ∷ []) ∷ [])

-- an array declared in a line, which a spawn takes on the same line
abbrev pub takes_its_own_array : ℕ → Block
takes_its_own_array line = on_line line (DeclareArray z (number 1) ∷ spawn 1 g (Variable z ∷ []) ∷ [])

-- a spawn takes x, then comes a statement on line 2 around a sync and, on line 5, a print of x
abbrev pub around_print : (Block → Stmt) → Program
around_print around =
    with_names (Then 1 (spawn_into x 1 f (number 1 ∷ []))
    (Then 2 (around (Then 4 Sync (Then 5 (Print (Variable x)) End))) (joined_at 6)))

-- how names are taken and freed
pub record FreedExamples : Type 0 where
  pub spawn_takes_its_target : BreaksOwnership (before_print (spawn_into x 1 f (Variable x ∷ []))) (3 ∷ [])
  pub spawn_takes_no_integer : IsAccepted (before_print (spawn_into y 1 f (Variable x ∷ [])))
  pub call_gives_back :
      IsAccepted (with_names (on_line 2 (call 1 h (Variable a ∷ Variable b ∷ []) ∷ call_into x 2 g (Variable a ∷ [])
      ∷ Print (plus (Variable x) (Element b (number 0))) ∷ give (number 0) ∷ [])))
  pub second_argument_taken :
      BreaksOwnership
      (with_names (Then 2 (spawn 1 q (number 1 ∷ Variable a ∷ [])) (Then 3 (Print (Length a)) (joined_at 4))))
      (3 ∷ [])
  pub one_array_twice :
      BreaksOwnership (with_names (Then 2 (call 1 h (Variable a ∷ Variable a ∷ [])) (joined_at 3))) (2 ∷ [])
  pub over_twice :
      BreaksOwnership (with_names (Then 2 (For i i i (number 0) (number 2) 64 (a ∷ a ∷ []) End) (joined_at 3))) (2 ∷ [])
  pub sync : IsAccepted (between Sync)
  pub sync_of_an_array :
      IsAccepted (with_names (on_line 2
      (spawn 1 g (Variable a ∷ []) ∷ Sync ∷ AssignElement a (number 0) (number 1) ∷ give (number 0) ∷ [])))
  -- a sync block joins only its own spawns
  pub sync_in_scope : BreaksOwnership (between (Scope syncs)) (3 ∷ [])
  pub sync_in_cut : BreaksOwnership (between (Cut a (number 0) l r syncs)) (3 ∷ [])
  pub sync_in_region : BreaksOwnership (between (Region t syncs)) (3 ∷ [])
  pub sync_in_loop : BreaksOwnership (between (For i i i (number 0) (number 1) 64 [] syncs)) (3 ∷ [])
  pub sync_before_a_print_in_scope : BreaksOwnership (around_print (λ body. Scope body)) (5 ∷ [])
  pub sync_before_a_print_in_cut : BreaksOwnership (around_print (λ body. Cut a (number 0) l r body)) (5 ∷ [])
  pub sync_before_a_print_in_region : BreaksOwnership (around_print (λ body. Region t body)) (5 ∷ [])
  pub sync_before_a_print_in_loop :
      BreaksOwnership (around_print (λ body. For i i i (number 0) (number 1) 64 [] body)) (5 ∷ [])
  -- the block of an if or a while is not a sync block
  pub sync_before_a_print_in_if : IsAccepted (around_print (λ body. If (number 1) body))
  pub sync_before_a_print_in_one_branch : IsAccepted (around_print (λ body. IfElse (number 1) body End))
  pub sync_before_a_print_in_the_other_branch : IsAccepted (around_print (λ body. IfElse (number 1) End body))
  pub sync_before_a_print_in_while : IsAccepted (around_print (λ body. While (number 0) body))
  pub spawn_in_scope : IsAccepted (before_print (Scope takes_x))
  pub spawn_in_cut : IsAccepted (before_print (Cut a (number 0) l r takes_x))
  pub spawn_in_region : IsAccepted (before_print (Region t takes_x))
  pub spawn_and_sync_in_scope :
      IsAccepted (with_names (on_line 2 (Scope
      (on_line 2 (spawn_into x 1 f (number 1 ∷ []) ∷ Sync ∷ Print (Variable x) ∷ []))
      ∷ give (number 0) ∷ [])))
  pub spawn_in_the_scope_around :
      BreaksOwnership (with_names (Then 2 (Scope (on_line 3
      (spawn_into x 1 f (number 1 ∷ []) ∷ Scope (on_line 4 (Sync ∷ Print (Variable x) ∷ [])) ∷ [])))
      (joined_at 5)))
      (4 ∷ [])
  -- a missing else is an empty branch
  pub sync_in_if : BreaksOwnership (between (If (number 1) syncs)) (3 ∷ [])
  pub sync_in_one_branch : BreaksOwnership (between (IfElse (number 1) syncs End)) (3 ∷ [])
  pub sync_in_the_other_branch : BreaksOwnership (between (IfElse (number 1) End syncs)) (3 ∷ [])
  pub sync_in_both_branches : IsAccepted (between (IfElse (number 1) syncs syncs))
  pub sync_in_while : BreaksOwnership (between (While (number 0) syncs)) (3 ∷ [])
  pub spawn_in_if : BreaksOwnership (before_print (If (number 1) takes_x)) (3 ∷ [])
  pub spawn_in_one_branch : BreaksOwnership (before_print (IfElse (number 1) takes_x End)) (3 ∷ [])
  pub spawn_in_the_other_branch : BreaksOwnership (before_print (IfElse (number 1) End takes_x)) (3 ∷ [])
  pub spawn_after_a_print_in_if :
      BreaksOwnership
      (before_print (If (number 1) (on_line 2 (Print (number 1) ∷ spawn_into x 1 f (number 1 ∷ []) ∷ [])))) (3 ∷ [])
  pub spawn_before_a_sync_in_if :
      IsAccepted (before_print (If (number 1) (on_line 2 (spawn_into x 1 f (number 1 ∷ []) ∷ Sync ∷ []))))
  -- the second iteration writes a name that the first iteration took
  pub spawn_in_while : BreaksOwnership (before_print (While (number 0) takes_x)) (2 ∷ 3 ∷ [])
  pub spawn_into_the_test_of_while :
      BreaksOwnership
      (with_names (Then 2 (While (Variable x) (on_line 3 (spawn_into x 1 f (number 1 ∷ []) ∷ []))) (joined_at 4)))
      (2 ∷ 3 ∷ [])
  -- a branch that surely returns leaves nothing taken
  pub spawn_before_return :
      IsAccepted (before_print (If (number 1) (on_line 2 (spawn_into x 1 f (number 1 ∷ []) ∷ give (number 0) ∷ []))))
  pub return_in_if : BreaksOwnership (between (If (number 1) (on_line 2 (give (number 0) ∷ [])))) (3 ∷ [])
  pub return_in_one_branch :
      BreaksOwnership (between (IfElse (number 1) (on_line 2 (give (number 0) ∷ [])) End)) (3 ∷ [])
  -- a name that is still taken as its block ends counts at its declaration; a sync block joins first
  pub own_names : BreaksOwnership (with_names (in_every_block takes_its_own (joined_at 17))) (3 ∷ 5 ∷ 6 ∷ 8 ∷ [])
  pub own_arrays : BreaksOwnership (with_names (in_every_block takes_its_own_array (joined_at 17))) (3 ∷ 5 ∷ 6 ∷ 8 ∷ [])
  -- a name that is declared again is another name
  pub declared_again :
      BreaksOwnership (with_names (Then 2 (If (number 1) (Then 2 (Print (number 1)) (takes_its_own 3)))
      (Then 4 (Declare z (number 0)) (Then 5 (Print (Variable z)) (joined_at 6)))))
      (3 ∷ [])
  pub own_name_before_return :
      IsAccepted (with_names
      (Then 2 (If (number 1) (followed_by (takes_its_own 2) (on_line 2 (give (number 0) ∷ [])))) (joined_at 3)))
  pub body_joins :
      IsAccepted (with_sum (same_function ∷ void_function p [] (takes_its_own 2) ∷ main_of (give (number 0) ∷ []) ∷ []))
  -- the end of a cut frees its array, and no other array
  pub after_cut :
      IsAccepted (with_names
      (on_line 2 (Cut a (number 0) l r End ∷ AssignElement a (number 0) (number 1) ∷ give (number 0) ∷ [])))
  pub in_cut :
      BreaksOwnership (with_names (Then 2 (Cut a (number 0) l r (on_line 3 (Print (Length a) ∷ []))) (joined_at 4)))
      (3 ∷ [])
  pub sync_in_its_cut :
      BreaksOwnership
      (with_names (Then 2 (Cut a (number 0) l r (on_line 3 (Sync ∷ Print (Length a) ∷ []))) (joined_at 4))) (3 ∷ [])
  -- a cut holds its array only for its block: an array that a spawn took before is still taken
  pub after_a_cut_of_a_taken_array :
      BreaksOwnership (with_names (Then 2 (spawn 1 g (Variable a ∷ []))
      (Then 3 (Cut a (number 0) l r End) (Then 4 (Print (Length a)) (joined_at 5))))) (3 ∷ 4 ∷ [])
  pub after_an_inner_cut :
      BreaksOwnership (with_names (Then 2
      (Cut a (number 0) l r (Then 3 (Cut b (number 0) n z End) (Then 4 (Print (Length a)) End)))
      (joined_at 5)))
      (4 ∷ [])

-- a loop over a on line 2, with this statement on line 3 in its body; b is not one of its arrays
abbrev pub in_loop : Stmt → Program
in_loop st = with_names (Then 2 (For i i i (number 0) (number 2) 64 (a ∷ []) (Then 3 st End)) (joined_at 4))

-- the statement breaks the rule of the loop
abbrev pub IsRejectedInLoop : Stmt → Type 0
IsRejectedInLoop st = BreaksOwnership (in_loop st) (3 ∷ [])

-- a loop's body names its arrays only by its variable, reads outer integers, and names no other outer array
pub record LoopOwnerExamples : Type 0 where
  pub outer_integer_read : IsAccepted (in_loop (Print (plus (Variable x) (Variable i))))
  pub element_read : IsAccepted (in_loop (Print (Element a (Variable i))))
  pub element_written : IsAccepted (in_loop (AssignElement a (Variable i) (Variable i)))
  pub own_array :
      IsAccepted (in_loop (Scope (on_line 3 (DeclareArray z (number 1) ∷ AssignElement z (number 0) (Variable i)
      ∷ Print (plus (Element z (Variable x)) (Element z (plus (number 0) (number 0))))
      ∷ AssignElement z (Variable x) (Length z) ∷ []))))
  pub own_array_passed :
      IsAccepted (in_loop (Scope
      (on_line 3 (DeclareArray z (number 1) ∷ call 1 g (Variable z ∷ []) ∷ Cut z (number 0) l r End ∷ []))))
  pub own_integer_written :
      IsAccepted (in_loop
      (Scope (on_line 3 (Declare z (number 1) ∷ Assign z (number 2) ∷ call_into z 1 f (number 1 ∷ []) ∷ []))))
  pub array_not_listed : IsRejectedInLoop (Print (Element b (Variable i)))
  pub array_not_listed_written : IsRejectedInLoop (AssignElement b (Variable i) (number 1))
  pub length : IsRejectedInLoop (Print (Length a))
  pub length_of_another : IsRejectedInLoop (Print (Length b))
  pub other_index : IsRejectedInLoop (Print (Element a (number 0)))
  pub other_index_written : IsRejectedInLoop (AssignElement a (number 0) (number 1))
  pub other_variable : IsRejectedInLoop (Print (Element a (Variable x)))
  pub next_element : IsRejectedInLoop (Print (Element a (plus (Variable i) (number 1))))
  pub in_an_index : IsRejectedInLoop (Print (Element a (Element a (Variable i))))
  pub in_the_index_of_an_own_array :
      BreaksOwnership (in_loop (Scope (Then 3 (DeclareArray z (number 1)) (Then 5 (Print (Element z (Length a))) End))))
      (5 ∷ [])
  pub in_negative : IsRejectedInLoop (Print (Negative (Length a)))
  pub in_not : IsRejectedInLoop (Print (Not (Length a)))
  pub in_left_operand : IsRejectedInLoop (Print (plus (Length a) (number 1)))
  pub in_right_operand : IsRejectedInLoop (Print (plus (number 1) (Length a)))
  pub outer_integer_written : IsRejectedInLoop (Assign x (number 1))
  pub variable_written : IsRejectedInLoop (Assign i (number 1))
  pub outer_target : IsRejectedInLoop (call_into x 1 f (number 1 ∷ []))
  pub outer_target_of_a_spawn : IsRejectedInLoop (spawn_into x 1 f (number 1 ∷ []))
  pub array_passed : IsRejectedInLoop (call 1 g (Variable a ∷ []))
  pub array_cut : IsRejectedInLoop (Cut a (number 0) l r End)
  pub inner_loop_over_it : IsRejectedInLoop (For j j j (number 0) (number 1) 64 (a ∷ []) End)
  pub lower_end_of_an_inner_loop : IsRejectedInLoop (For j j j (Element a (Variable i)) (number 2) 64 [] End)
  pub upper_end_of_an_inner_loop : IsRejectedInLoop (For j j j (number 0) (Element a (Variable i)) 64 [] End)
  pub element_in_an_inner_loop :
      BreaksOwnership
      (in_loop (For j j j (number 0) (number 1) 64 [] (on_line 5 (Print (Element a (Variable i)) ∷ [])))) (5 ∷ [])
  pub variable_written_in_an_inner_loop :
      BreaksOwnership (in_loop (For j j j (number 0) (number 1) 64 [] (on_line 5 (Assign i (number 1) ∷ [])))) (5 ∷ [])
  pub name_of_a_turn_written_in_an_inner_loop :
      BreaksOwnership (in_loop (Scope (on_line 3 (Declare z (number 0)
      ∷ For j j j (number 0) (number 1) 64 [] (on_line 5 (Assign z (number 1) ∷ [])) ∷ []))))
      (5 ∷ [])
  pub array_of_a_turn_in_an_inner_loop :
      BreaksOwnership (in_loop (Scope (on_line 3 (DeclareArray z (number 1)
      ∷ For j j j (number 0) (number 1) 64 [] (on_line 5 (Print (Length z) ∷ [])) ∷ []))))
      (5 ∷ [])
  pub in_each_block :
      BreaksOwnership (with_names (Then 1
      (For j j j (number 0) (number 1) 64 [] (once_in_every_block (λ line. Assign x (number 1)) End))
      (joined_at 17)))
      (3 ∷ 5 ∷ 6 ∷ 8 ∷ 10 ∷ 12 ∷ 13 ∷ 14 ∷ 16 ∷ [])
  pub in_an_inner_loop_in_each_block :
      BreaksOwnership (with_names (once_in_every_block
      (λ line. For j j j (number 0) (number 1) 64 [] (on_line line (Assign x (number 1) ∷ [])))
      (joined_at 17)))
      (3 ∷ 5 ∷ 6 ∷ 8 ∷ 10 ∷ 12 ∷ 14 ∷ 16 ∷ [])
  pub parameter_written :
      BreaksOwnership (of_functions (int_function f 1 (int_param v ∷ [])
      (on_line 2 (For i i i (number 0) (number 2) 64 [] (on_line 3 (Assign v (number 1) ∷ []))
      ∷ give (number 0) ∷ [])) ∷ main_of (give (number 0) ∷ []) ∷ []))
      (3 ∷ [])
  pub parts_of_a_cut :
      IsAccepted (with_names (on_line 2 (Cut a (number 1) l r
      (on_line 2 (For i i i (number 0) (number 1) 64 (l ∷ r ∷ [])
      (on_line 2 (AssignElement l (Variable i) (Element r (Variable i)) ∷ [])) ∷ []))
      ∷ give (number 0) ∷ [])))
  pub left_part_in_a_loop :
      BreaksOwnership (with_names (on_line 2 (Cut a (number 1) l r
      (on_line 2 (For i i i (number 0) (number 1) 64 [] (on_line 3 (Print (Length l) ∷ [])) ∷ []))
      ∷ give (number 0) ∷ [])))
      (3 ∷ [])
  pub right_part_in_a_loop :
      BreaksOwnership (with_names (on_line 2 (Cut a (number 1) l r
      (on_line 2 (For i i i (number 0) (number 1) 64 [] (on_line 3 (Print (Length r) ∷ [])) ∷ []))
      ∷ give (number 0) ∷ [])))
      (3 ∷ [])
