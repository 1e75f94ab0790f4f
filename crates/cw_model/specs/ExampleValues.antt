-- Worked examples of expressions: their values, their costs and their traps.
use Rattle.std.specs.Prelude.{◌≡◌, ℕ, zero, suc, pos, negsuc, List, [], ◌∷◌, codes}
use Rattle.cw_model.specs.declared.trap.Trap.{Trap}
use Rattle.cw_model.specs.declared.trap.Trap.TheVariants as trap
use Rattle.cw_model.specs.declared.syntax.Operator.{Operator}
use Rattle.cw_model.specs.declared.syntax.Operator.TheVariants.{Equal, Unequal, Less, AtMost, Greater, AtLeast, Plus}
use Rattle.cw_model.specs.declared.syntax.Operator.TheVariants.{Minus, Times, Divide, Modulo}
use Rattle.cw_model.specs.declared.syntax.Reduction.TheVariants.{Sum}
use Rattle.cw_model.specs.Syntax.{Expr, Variable, Element, Length, Negative, Not, Binary, Stmt, Declare, DeclareArray}
use Rattle.cw_model.specs.Syntax.{AssignElement, Reduce, If, IfElse, While, For, Cut, Region, Print, End, Then}
use Rattle.cw_model.specs.Syntax.{Program}
use Rattle.cw_model.specs.Ints.{Value, trap_number, natural}
use Rattle.cw_model.specs.Meaning.{new_length}
use Rattle.cw_model.specs.Examples.{TrapsAt, IsOver, Costs}
use Rattle.cw_model.specs.ExamplePrograms.{a, b, f, i, l, r, s, t, x, main, number, plus, minus, int_function}
use Rattle.cw_model.specs.ExamplePrograms.{on_line, give, call, alone, same_function, with_sum}

-- a number below 0
abbrev pub below_0 : ℕ → Expr
below_0 k = Negative (number k)

-- the maximum number
abbrev pub greatest : Expr
greatest = number 9223372036854775807

-- int main() { return .. ; } has this cost and returns this
abbrev pub Computes : Expr → (cost : ℕ) → (text : List ℕ) → Type 0
Computes e cost text = Costs (alone (give e ∷ [])) [] cost (text ∷ [])

-- an operator on two small numbers
abbrev pub of_two : Operator → ℕ → ℕ → Expr
of_two operator d e = Binary operator (number d) (number e)

-- the values of operators; a return costs 1 in addition to its expression
pub record OperatorExamples : Type 0 where
  pub number_alone : Computes (number 5) 2 (codes "return 5")
  pub equal : Computes (of_two Equal 2 2) 4 (codes "return 1")
  pub not_equal : Computes (of_two Equal 2 3) 4 (codes "return 0")
  pub unequal : Computes (of_two Unequal 2 3) 4 (codes "return 1")
  pub not_unequal : Computes (of_two Unequal 2 2) 4 (codes "return 0")
  pub less : Computes (of_two Less 2 3) 4 (codes "return 1")
  pub not_less : Computes (of_two Less 2 2) 4 (codes "return 0")
  pub at_most : Computes (of_two AtMost 2 2) 4 (codes "return 1")
  pub not_at_most : Computes (of_two AtMost 3 2) 4 (codes "return 0")
  pub greater : Computes (of_two Greater 3 2) 4 (codes "return 1")
  pub not_greater : Computes (of_two Greater 2 2) 4 (codes "return 0")
  pub at_least : Computes (of_two AtLeast 2 2) 4 (codes "return 1")
  pub not_at_least : Computes (of_two AtLeast 2 3) 4 (codes "return 0")
  pub below_0_is_less : Computes (Binary Less (below_0 3) (number 2)) 5 (codes "return 1")
  pub sum : Computes (of_two Plus 2 3) 4 (codes "return 5")
  pub difference : Computes (of_two Minus 2 3) 4 (codes "return -1")
  pub product : Computes (Binary Times (below_0 3) (number 4)) 5 (codes "return -12")
  pub quotient : Computes (of_two Divide 7 2) 4 (codes "return 3")
  pub rest : Computes (of_two Modulo 7 4) 4 (codes "return 3")
  pub negative : Computes (Negative (below_0 5)) 4 (codes "return 5")
  pub not_0 : Computes (Not (number 0)) 3 (codes "return 1")
  pub not_5 : Computes (Not (number 5)) 3 (codes "return 0")
  pub not_below_0 : Computes (Not (below_0 5)) 4 (codes "return 0")
  pub length : Costs (alone (DeclareArray a (number 7) ∷ give (Length a) ∷ [])) [] 4 (codes "return 7" ∷ [])
  pub element :
      Costs
      (alone (DeclareArray a (number 2) ∷ AssignElement a (number 1) (number 9) ∷ give (Element a (number 1)) ∷ []))
      [] 8 (codes "return 9" ∷ [])
  pub variable : Costs (alone (Declare x (number 3) ∷ give (Variable x) ∷ [])) [] 4 (codes "return 3" ∷ [])
  pub greatest_sum : Computes (plus (number 9223372036854775806) (number 1)) 4 (codes "return 9223372036854775807")
  pub count_of_a_number_below_0 : natural (negsuc 4) ≡ 0
  pub longest_array : new_length (pos 16777216) ≡ Value (pos 16777216)

-- an array of two elements on line 1, a statement on line 2, and the end on line 3
abbrev pub trapping : Stmt → Program
trapping st =
    with_sum (same_function
    ∷ int_function main 1 [] (Then 1 (DeclareArray a (number 2)) (Then 2 st (Then 3 (give (number 0)) End))) ∷ [])

-- the statement traps in this line, at this cost of the run and not before
abbrev pub TrapsWithin : Stmt → (cost : ℕ) → Trap → (line : ℕ) → Type 0
TrapsWithin st zero trap line = ⊥
TrapsWithin st (suc cost) trap line = TrapsAt (trapping st) [] (suc cost) trap line × IsOver (trapping st) [] cost

-- traps: the instruction that traps is counted, and none after it; the array costs 2
pub record TrapExamples : Type 0 where
  pub sum_too_great : TrapsWithin (Print (plus greatest (number 1))) 5 trap.Overflow 2
  pub difference_too_small : TrapsWithin (Print (minus (below_0 9223372036854775807) (number 2))) 6 trap.Overflow 2
  pub product_too_great : TrapsWithin (Print (Binary Times greatest (number 2))) 5 trap.Overflow 2
  pub quotient_by_0 : TrapsWithin (Print (of_two Divide 1 0)) 5 trap.DivisionByZero 2
  pub rest_by_0 : TrapsWithin (Print (of_two Modulo 1 0)) 5 trap.DivisionByZero 2
  pub left_operand_first :
      TrapsWithin (Print (plus (of_two Divide 1 0) (plus greatest (number 1)))) 5 trap.DivisionByZero 2
  pub right_operand : TrapsWithin (Print (plus (number 1) (of_two Divide 1 0))) 6 trap.DivisionByZero 2
  pub under_negative : TrapsWithin (Print (Negative (of_two Divide 1 0))) 5 trap.DivisionByZero 2
  pub past_the_end : TrapsWithin (Print (Element a (number 2))) 4 trap.OutOfBounds 2
  pub before_the_start : TrapsWithin (Print (Element a (below_0 1))) 5 trap.OutOfBounds 2
  pub written_past_the_end : TrapsWithin (AssignElement a (number 2) (number 1)) 5 trap.OutOfBounds 2
  pub written_before_the_start : TrapsWithin (AssignElement a (below_0 1) (number 1)) 6 trap.OutOfBounds 2
  -- the index comes first, then the value, and last the test of the bound
  pub index_first : TrapsWithin (AssignElement a (of_two Divide 1 0) (plus greatest (number 1))) 5 trap.DivisionByZero 2
  pub bound_last : TrapsWithin (AssignElement a (number 2) (of_two Divide 1 0)) 6 trap.DivisionByZero 2
  pub initializer : TrapsWithin (Declare x (of_two Divide 1 0)) 5 trap.DivisionByZero 2
  pub length_below_0 : TrapsWithin (DeclareArray b (below_0 1)) 5 trap.BadLength 2
  pub length_too_great : TrapsWithin (DeclareArray b (number 16777217)) 4 trap.BadLength 2
  pub addition : TrapsWithin (Reduce Sum s (of_two Divide 1 0)) 5 trap.DivisionByZero 2
  pub argument : TrapsWithin (call 1 f (of_two Divide 1 0 ∷ [])) 5 trap.DivisionByZero 2
  pub result : TrapsWithin (give (of_two Divide 1 0)) 5 trap.DivisionByZero 2
  pub test_of_if : TrapsWithin (If (of_two Divide 1 0) (on_line 4 (Print (number 1) ∷ []))) 5 trap.DivisionByZero 2
  pub test_of_if_else : TrapsWithin (IfElse (of_two Divide 1 0) End End) 5 trap.DivisionByZero 2
  pub test_of_while :
      TrapsWithin (While (of_two Divide 1 0) (on_line 4 (Print (number 1) ∷ []))) 5 trap.DivisionByZero 2
  pub lower_end :
      TrapsWithin (For i i i (of_two Divide 1 0) (plus greatest (number 1)) 64 [] End) 5 trap.DivisionByZero 2
  pub upper_end : TrapsWithin (For i i i (number 0) (of_two Divide 1 0) 64 [] End) 6 trap.DivisionByZero 2
  pub range_past_the_end : TrapsWithin (For i i i (number 0) (number 3) 64 (a ∷ []) End) 5 trap.OutOfBounds 2
  pub range_before_the_start : TrapsWithin (For i i i (below_0 1) (number 2) 64 (a ∷ []) End) 6 trap.OutOfBounds 2
  -- the trap for too many iterations precedes the trap for a range outside an array
  pub too_many_turns_first :
      TrapsWithin (For i i i (number 0) (number 2147483648) 64 (a ∷ []) End) 5 trap.TooManyIterations 2
  pub cut_past_the_end : TrapsWithin (Cut a (number 3) l r End) 4 trap.OutOfBounds 2
  pub cut_before_the_start : TrapsWithin (Cut a (below_0 1) l r End) 5 trap.OutOfBounds 2
  -- the line is that of the innermost statement
  pub in_if : TrapsWithin (If (number 1) (on_line 4 (Print (of_two Divide 1 0) ∷ []))) 7 trap.DivisionByZero 4
  pub in_while : TrapsWithin (While (number 1) (on_line 4 (Print (of_two Divide 1 0) ∷ []))) 7 trap.DivisionByZero 4
  pub in_cut : TrapsWithin (Cut a (number 1) l r (on_line 4 (Print (Element l (number 1)) ∷ []))) 6 trap.OutOfBounds 4
  pub in_region : TrapsWithin (Region t (on_line 4 (Print (of_two Divide 1 0) ∷ []))) 6 trap.DivisionByZero 4
  pub number_of_overflow : trap_number trap.Overflow ≡ 1
  pub number_of_a_zero_divisor : trap_number trap.DivisionByZero ≡ 2
  pub number_of_a_place_outside : trap_number trap.OutOfBounds ≡ 3
  pub number_of_a_bad_length : trap_number trap.BadLength ≡ 4
  pub number_of_too_many_turns : trap_number trap.TooManyIterations ≡ 5
  pub number_of_too_deep : trap_number trap.TooDeep ≡ 6
