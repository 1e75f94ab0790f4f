-- Worked examples of names and types: programs that break one rule each, and some that keep it narrowly.
use Rattle.std.specs.Prelude.{false, [], ◌∷◌, None}
use Rattle.cw_model.specs.declared.syntax.CallKind.TheVariants.{Plain}
use Rattle.cw_model.specs.declared.syntax.Reduction.TheVariants.{Sum, Max}
use Rattle.cw_model.specs.Syntax.{Variable, Element, Length, Negative, Not, Stmt, Declare, DeclareArray, Assign}
use Rattle.cw_model.specs.Syntax.{AssignElement, Reduce, Start, Begin, If, IfElse, While, For, Scope, Cut, Print}
use Rattle.cw_model.specs.Syntax.{Return, Block, End, Then, Function, Program}
use Rattle.cw_model.specs.Examples.{IsAccepted, BreaksTypes}
use Rattle.cw_model.specs.ExamplePrograms.{a, b, f, g, h, i, l, q, r, s, t, v, x, y, main, number, plus, int_param}
use Rattle.cw_model.specs.ExamplePrograms.{array_param, int_function, void_function, of_functions, on_line, block}
use Rattle.cw_model.specs.ExamplePrograms.{give, call, call_into, main_of, alone, same_function, with_sum}
use Rattle.cw_model.specs.ExamplePrograms.{with_maximum, once_in_every_block}

-- int f(int v) { return v; } void g(int a[]) { } void h() { } int q(int v, int b[]) { return v; } before main
abbrev pub with_callees : Function → Program
with_callees last = with_sum (
    same_function
    ∷ void_function g (array_param a ∷ []) End
    ∷ void_function h [] End
    ∷ int_function q 1 (int_param v ∷ array_param b ∷ []) (block (give (Variable v) ∷ []))
    ∷ last ∷ [])

-- a statement on line 2 of a main where x is an integer, a an array and s a reducer
abbrev pub amid : Stmt → Program
amid st =
    with_callees (int_function main 1 [] (Then 1 (Declare x (number 0))
    (Then 1 (DeclareArray a (number 2)) (Then 2 st (Then 3 (give (number 0)) End)))))

-- the types of the program are rejected
abbrev pub IsMistyped : Stmt → Type 0
IsMistyped st = BreaksTypes (amid st) (2 ∷ [])

-- the program is accepted
abbrev pub IsFine : Stmt → Type 0
IsFine st = IsAccepted (amid st)

-- a main with an array, on line 1, and then these statements
abbrev pub array_and : Block → Program
array_and body = of_functions (int_function main 1 [] (Then 1 (DeclareArray a (number 2)) body) ∷ [])

-- an expression uses only known names, each according to its kind
pub record ExpressionTypeExamples : Type 0 where
  pub every_form : IsFine (Print (plus (Negative (Length a)) (Not (Element a (Variable x)))))
  pub unknown_name : IsMistyped (Print (Variable y))
  pub array_on_the_left : IsMistyped (Print (plus (Variable a) (number 1)))
  pub array_on_the_right : IsMistyped (Print (plus (number 1) (Variable a)))
  pub element_of_an_integer : IsMistyped (Print (Element x (number 0)))
  pub unknown_index : IsMistyped (Print (Element a (Variable y)))
  pub length_of_an_integer : IsMistyped (Print (Length x))
  pub negative_of_an_array : IsMistyped (Print (Negative (Variable a)))
  pub not_of_an_array : IsMistyped (Print (Not (Variable a)))
  pub reducer_read : IsMistyped (Print (Variable s))
  pub function_read : IsMistyped (Print (Variable f))

-- declarations and writes
pub record WriteTypeExamples : Type 0 where
  pub own_initializer : IsMistyped (Declare y (Variable y))
  pub own_length : IsMistyped (DeclareArray b (Variable b))
  pub length_of_itself : IsMistyped (DeclareArray b (Length b))
  pub known_integer : IsMistyped (Declare x (number 1))
  pub known_array : IsMistyped (DeclareArray a (number 1))
  pub integer_named_as_a_function : IsMistyped (Declare f (number 1))
  pub array_named_as_a_function : IsMistyped (DeclareArray f (number 1))
  pub integer_named_as_a_reducer : IsMistyped (Declare s (number 1))
  pub unknown_target : IsMistyped (Assign y (number 1))
  pub array_assigned : IsMistyped (Assign a (number 1))
  pub unknown_value : IsMistyped (Assign x (Variable y))
  pub element_of_an_integer_written : IsMistyped (AssignElement x (number 0) (number 1))
  pub unknown_index_written : IsMistyped (AssignElement a (Variable y) (number 1))
  pub unknown_value_of_an_element : IsMistyped (AssignElement a (number 0) (Variable y))
  pub sum_of_a_variable : IsMistyped (Reduce Sum x (number 1))
  pub greatest_of_a_variable : IsMistyped (Reduce Max x (number 1))
  pub greatest_of_a_sum : IsMistyped (Reduce Max s (number 1))
  pub sum_of_a_greatest :
      BreaksTypes (with_maximum (main_of (Reduce Sum s (number 1) ∷ give (number 0) ∷ []) ∷ [])) (1 ∷ [])
  pub greatest_of_a_greatest :
      BreaksTypes (with_maximum (main_of (Reduce Max s (number 1) ∷ give (number 0) ∷ []) ∷ [])) []
  pub sum_of_a_function : IsMistyped (Reduce Sum f (number 1))
  pub unknown_addition : IsMistyped (Reduce Sum s (Variable y))
  pub every_write :
      IsFine (Scope
      (on_line 4 (Assign x (number 1) ∷ AssignElement a (Variable x) (Length a) ∷ Reduce Sum s (Variable x) ∷ [])))

-- calls
pub record CallTypeExamples : Type 0 where
  pub result_dropped : IsFine (call 1 f (Variable x ∷ []))
  pub void_called : IsFine (call 1 h [])
  pub both_kinds_passed : IsFine (call_into x 1 q (number 1 ∷ Variable a ∷ []))
  pub main_called : IsMistyped (call 1 main [])
  pub too_few_arguments : IsMistyped (call 1 f [])
  pub too_many_arguments : IsMistyped (call 1 f (number 1 ∷ number 2 ∷ []))
  pub unknown_argument : IsMistyped (call 1 q (Variable y ∷ Variable a ∷ []))
  pub array_for_an_integer : IsMistyped (call 1 f (Variable a ∷ []))
  pub integer_for_an_array : IsMistyped (call 1 g (Variable x ∷ []))
  pub number_for_an_array : IsMistyped (call 1 g (number 1 ∷ []))
  pub element_for_an_array : IsMistyped (call 1 g (Element a (number 0) ∷ []))
  pub second_argument : IsMistyped (call 1 q (number 1 ∷ Variable x ∷ []))
  pub result_of_void : IsMistyped (call_into x 1 h [])
  pub result_into_an_array : IsMistyped (call_into a 1 f (number 1 ∷ []))
  pub result_into_an_unknown_name : IsMistyped (call_into y 1 f (number 1 ∷ []))
  -- a call means the first function of its name
  pub first_of_two : BreaksTypes (of_functions (
      same_function ∷ (record { name = f; line = 2; gives_int = false; params = []; body = End })
      ∷ int_function main 3 [] (Then 4 (Declare x (number 0)) (Then 5 (call_into x 1 f (number 1 ∷ []))
      (Then 6 (give (Variable x)) End))) ∷ [])) (2 ∷ [])
  -- statements that only lowering makes
  pub lowered_call : IsMistyped (Start Plain h [])
  pub lowered_loop : IsMistyped (Begin h (number 0) (number 1) [] [])

-- loops and cuts
pub record HeadTypeExamples : Type 0 where
  pub another_name_tested : IsMistyped (For i x i (number 0) (number 4) 1 [] End)
  pub another_name_stepped : IsMistyped (For i i x (number 0) (number 4) 1 [] End)
  pub known_variable : IsMistyped (For x x x (number 0) (number 4) 1 [] End)
  pub variable_named_as_a_function : IsMistyped (For f f f (number 0) (number 4) 1 [] End)
  pub unknown_lower_end : IsMistyped (For i i i (Variable y) (number 4) 1 [] End)
  pub unknown_upper_end : IsMistyped (For i i i (number 0) (Variable i) 1 [] End)
  pub over_an_integer : IsMistyped (For i i i (number 0) (number 4) 1 (a ∷ x ∷ []) End)
  pub over_an_array : IsFine (For i i i (number 0) (number 4) 1 (a ∷ []) End)
  pub grain_0 : IsMistyped (For i i i (number 0) (number 4) 0 [] End)
  pub grain_too_great : IsMistyped (For i i i (number 0) (number 4) 1000001 [] End)
  pub greatest_grain : IsFine (For i i i (number 0) (number 4) 1000000 [] End)
  pub integer_cut : IsMistyped (Cut x (number 0) l r End)
  pub cut_at_an_array : IsMistyped (Cut a (Variable a) l r End)
  pub cut_at_its_left_part : IsMistyped (Cut a (Length l) l r End)
  pub cut_at_its_right_part : IsMistyped (Cut a (Length r) l r End)
  pub known_left_part : IsMistyped (Cut a (number 0) x r End)
  pub known_right_part : IsMistyped (Cut a (number 0) l x End)
  pub one_name_for_both_parts : IsMistyped (Cut a (number 1) l l End)
  pub parts_are_arrays : IsFine (Cut a (number 1) l r (on_line 4 (Print (plus (Length l) (Length r)) ∷ [])))
  pub left_part_read : BreaksTypes (amid (Cut a (number 1) l r (on_line 4 (Print (Variable l) ∷ [])))) (4 ∷ [])
  pub right_part_read : BreaksTypes (amid (Cut a (number 1) l r (on_line 4 (Print (Variable r) ∷ [])))) (4 ∷ [])

-- blocks, tests and returns
pub record BlockTypeExamples : Type 0 where
  pub test_of_if : IsMistyped (If (Variable y) End)
  pub test_of_if_else : IsMistyped (IfElse (Variable y) End End)
  pub test_of_while : IsMistyped (While (Variable y) End)
  pub in_each_block :
      BreaksTypes (array_and (once_in_every_block (λ line. Print (Variable y)) (on_line 17 (give (number 0) ∷ []))))
      (3 ∷ 5 ∷ 6 ∷ 8 ∷ 10 ∷ 12 ∷ 14 ∷ 16 ∷ [])
  -- a name ends with its block
  pub names_of_blocks :
      IsAccepted (array_and (once_in_every_block (λ line. Declare y (number 0))
      (on_line 17 (Declare y (number 0) ∷ give (Variable y) ∷ []))))
  -- the statement on line 4 surely returns
  pub returns_in_blocks :
      BreaksTypes (array_and (once_in_every_block (λ line. give (number 0)) (on_line 17 (give (number 0) ∷ []))))
      (4 ∷ 10 ∷ 12 ∷ 14 ∷ 16 ∷ [])
  pub unknown_result : BreaksTypes (alone (give (Variable y) ∷ [])) (1 ∷ [])
  pub result_of_int_missing :
      BreaksTypes
      (of_functions (int_function f 1 [] (on_line 2 (Return None ∷ [])) ∷ main_of (give (number 0) ∷ []) ∷ []))
      (2 ∷ [])
  pub result_of_void_given :
      BreaksTypes
      (of_functions (void_function g [] (on_line 2 (give (number 1) ∷ [])) ∷ main_of (give (number 0) ∷ []) ∷ []))
      (2 ∷ [])
  pub void_returns :
      IsAccepted (of_functions (void_function g [] (block (Return None ∷ [])) ∷ main_of (give (number 0) ∷ []) ∷ []))
  pub nothing_returned : BreaksTypes (of_functions (int_function main 1 [] End ∷ [])) (1 ∷ [])
  pub print_at_the_end :
      BreaksTypes (of_functions (int_function main 1 [] (on_line 2 (Print (number 1) ∷ [])) ∷ [])) (1 ∷ [])
  pub if_at_the_end :
      BreaksTypes (of_functions
      (int_function main 1 [] (on_line 2 (If (number 1) (on_line 2 (give (number 0) ∷ [])) ∷ [])) ∷ []))
      (1 ∷ [])
  pub while_at_the_end :
      BreaksTypes (of_functions
      (int_function main 1 [] (on_line 2 (While (number 1) (on_line 2 (give (number 0) ∷ [])) ∷ [])) ∷ []))
      (1 ∷ [])
  pub print_after_return :
      BreaksTypes
      (of_functions (int_function main 1 [] (Then 2 (give (number 0)) (Then 3 (Print (number 1)) End)) ∷ []))
      (1 ∷ 2 ∷ [])
  pub return_after_return :
      BreaksTypes (of_functions (int_function main 1 [] (Then 2 (give (number 0)) (Then 3 (give (number 1)) End)) ∷ []))
      (2 ∷ [])
  pub one_branch_returns : BreaksTypes (alone (IfElse (number 1) (block (give (number 0) ∷ [])) End ∷ [])) (1 ∷ [])
  pub other_branch_returns : BreaksTypes (alone (IfElse (number 1) End (block (give (number 0) ∷ [])) ∷ [])) (1 ∷ [])
  pub both_branches_return :
      IsAccepted (alone (IfElse (number 1) (block (give (number 0) ∷ [])) (block (give (number 1) ∷ [])) ∷ []))

-- a function f with this head, on line 2, in a program with a reducer s and a main on line 1
abbrev pub headed : Function → Program
headed first = with_sum (first ∷ main_of (give (number 0) ∷ []) ∷ [])

-- heads, and names of functions and reducers
pub record GlobalTypeExamples : Type 0 where
  pub parameter_twice :
      BreaksTypes (headed (int_function f 2 (int_param v ∷ int_param v ∷ []) (block (give (Variable v) ∷ [])))) (2 ∷ [])
  pub later_parameters_alike :
      BreaksTypes
      (headed (int_function f 2 (int_param v ∷ int_param y ∷ int_param y ∷ []) (block (give (Variable v) ∷ []))))
      (2 ∷ [])
  pub parameter_named_as_its_function :
      BreaksTypes (headed (int_function f 2 (int_param f ∷ []) (block (give (number 0) ∷ [])))) (2 ∷ [])
  pub parameter_named_as_a_reducer :
      BreaksTypes (headed (int_function f 2 (int_param s ∷ []) (block (give (number 0) ∷ [])))) (2 ∷ [])
  pub parameter_declared :
      BreaksTypes
      (headed (int_function f 2 (int_param v ∷ []) (on_line 3 (Declare v (number 0) ∷ give (number 0) ∷ []))))
      (3 ∷ [])
  pub parameters_known :
      IsAccepted (headed
      (int_function f 2 (int_param v ∷ array_param b ∷ []) (on_line 3 (give (Element b (Variable v)) ∷ []))))
  pub parameter_of_the_other_kind :
      BreaksTypes (headed
      (int_function f 2 (int_param v ∷ array_param b ∷ []) (on_line 3 (give (Element v (Variable b)) ∷ []))))
      (3 ∷ [])
  pub missing_main : BreaksTypes (of_functions (int_function f 5 [] (block (give (number 0) ∷ [])) ∷ [])) (1 ∷ [])
  pub void_main :
      BreaksTypes (of_functions ((record { name = main; line = 2; gives_int = false; params = []; body = End }) ∷ []))
      (2 ∷ [])
  pub main_of_an_array :
      BreaksTypes
      (of_functions (int_function main 2 (int_param v ∷ array_param b ∷ []) (block (give (number 0) ∷ [])) ∷ []))
      (2 ∷ [])
  pub three_of_one_name :
      BreaksTypes (of_functions (int_function f 1 [] (block (give (number 0) ∷ []))
      ∷ int_function f 2 [] (block (give (number 0) ∷ []))
      ∷ int_function main 3 [] (block (give (number 0) ∷ []))
      ∷ int_function f 4 [] (block (give (number 0) ∷ [])) ∷ []))
      (2 ∷ 4 ∷ [])
  pub two_reducers_of_one_name :
      BreaksTypes (record {
        reducers = (record { name = s; how = Sum; line = 1 }) ∷ (record { name = t; how = Sum; line = 2 })
            ∷ (record { name = s; how = Sum; line = 3 }) ∷ [];
        functions = main_of (give (number 0) ∷ []) ∷ [];
      })
      (3 ∷ [])
  -- of a function and a reducer of one name the later breaks the rule
  pub function_before_its_reducer :
      BreaksTypes (record {
        reducers = (record { name = f; how = Sum; line = 3 }) ∷ [];
        functions = int_function f 2 [] (block (give (number 0) ∷ [])) ∷ main_of (give (number 0) ∷ [])
            ∷ [];
      })
      (3 ∷ [])
  pub reducer_before_its_function :
      BreaksTypes (record {
        reducers = (record { name = main; how = Sum; line = 1 }) ∷ [];
        functions = int_function main 2 [] (block (give (number 0) ∷ [])) ∷ [];
      })
      (2 ∷ [])
  pub reducer_of_the_second_name :
      BreaksTypes (record {
        reducers = (record { name = main; how = Sum; line = 9 }) ∷ [];
        functions = int_function f 2 [] (block (give (number 0) ∷ [])) ∷ main_of (give (number 0) ∷ [])
            ∷ [];
      })
      (9 ∷ [])
  pub reducer_for_main :
      BreaksTypes (record {
        reducers = (record { name = main; how = Sum; line = 3 }) ∷ [];
        functions = int_function f 2 [] (block (give (number 0) ∷ [])) ∷ [];
      })
      (1 ∷ [])
