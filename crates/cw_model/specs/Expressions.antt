-- The value of an expression in the state of a call, and its cost in instructions.
use Rattle.std.specs.Prelude.{ℕ, ◌+◌, ℤ, pos, negsuc, ◌+ℤ◌, ◌-ℤ◌, ◌*ℤ◌, neg_ℤ, int_lt, int_le, not, if◌then◌else◌}
use Rattle.std.specs.Prelude.{List, length, Option, Some, None, slice_get}
use Rattle.cw_model.specs.declared.trap.Trap.{Trap}
use Rattle.cw_model.specs.declared.trap.Trap.TheVariants as trap
use Rattle.cw_model.specs.Ints.{Result, Value, Fails, exact, truth, quotient, remainder, is_zero, int_eq}
use Rattle.cw_model.specs.declared.syntax.Operator.{Operator}
use Rattle.cw_model.specs.declared.syntax.Operator.TheVariants.{Equal, Unequal, Less, AtMost, Greater, AtLeast, Plus}
use Rattle.cw_model.specs.declared.syntax.Operator.TheVariants.{Minus, Times, Divide, Modulo}
use Rattle.cw_model.specs.Syntax.{Name, Expr, Number, Variable, Element, Length, Negative, Not, Binary}
use Rattle.cw_model.specs.Names.{is_among}
use Rattle.cw_model.specs.Frames.{Frame, int_of, array_of}

-- the result of an expression: a value or a trap, with the cost up to and including its last instruction
pub data Evaluated : Type 0 where
  Gives : (value : ℤ) (cost : ℕ) → Evaluated
  Traps : (trap : Trap) (cost : ℕ) → Evaluated

-- an instruction at this cost returns a value, or traps
abbrev pub done_at : ℕ → Result → Evaluated
done_at cost (Value v) = Gives v cost
done_at cost (Fails trap) = Traps trap cost

-- evaluates an expression, then one instruction on its value
abbrev pub and_then : Evaluated → (ℤ → Result) → Evaluated
and_then (Traps trap cost) operation = Traps trap cost
and_then (Gives v cost) operation = done_at (cost + 1) (operation v)

-- evaluates two expressions in order, then one instruction on both values
abbrev pub also : Evaluated → Evaluated → (ℤ → ℤ → Result) → Evaluated
also (Traps trap cost) second operation = Traps trap cost
also (Gives v cost) (Traps trap cost') operation = Traps trap (cost + cost')
also (Gives v cost) (Gives w cost') operation = and_then (Gives w (cost + cost')) (operation v)

-- adds `k` instructions that cannot trap
abbrev pub dearer : ℕ → Evaluated → Evaluated
dearer k (Gives v cost) = Gives v (cost + k)
dearer k (Traps trap cost) = Traps trap cost

-- the element at an index, if the index is within the list
abbrev pub element : List ℤ → ℤ → Option ℤ
element xs (pos i) = slice_get xs i
element xs (negsuc i) = None

-- the element, or a trap if there is none
abbrev pub in_bounds : Option ℤ → Result
in_bounds None = Fails trap.OutOfBounds
in_bounds (Some v) = Value v

-- the value to be written at index `i`, or a trap if there is no element at `i`
abbrev pub written : List ℤ → ℤ → ℤ → Result
written xs i v = in_place (element xs i)
  where
    in_place : Option ℤ → Result
    in_place None = Fails trap.OutOfBounds
    in_place (Some w) = Value v

-- the extra cost of an index into an array of an enclosing loop: 2, because the loop's function counts from the
-- range's start
abbrev pub index_cost : Frame → Name → ℕ
index_cost frame a = if is_among a frame.sliced then 2 else 0

-- the result of an operator on two values
abbrev pub apply : Operator → ℤ → ℤ → Result
apply Equal a b = truth (int_eq a b)
apply Unequal a b = truth (not (int_eq a b))
apply Less a b = truth (int_lt a b)
apply AtMost a b = truth (int_le a b)
apply Greater a b = truth (int_lt b a)
apply AtLeast a b = truth (int_le b a)
apply Plus a b = exact (a +ℤ b)
apply Minus a b = exact (a -ℤ b)
apply Times a b = exact (a *ℤ b)
apply Divide a b = quotient a b
apply Modulo a b = remainder a b

-- the value or trap of an expression, with its cost
abbrev pub evaluate : Expr → Frame → Evaluated
evaluate (Number n) frame = Gives n 1
evaluate (Variable x) frame = Gives (int_of frame x) 1
evaluate (Element a e) frame =
    and_then (dearer (index_cost frame a) (evaluate e frame)) (λ i. in_bounds (element (array_of frame a) i))
evaluate (Length a) frame = Gives (pos (length (array_of frame a))) 1
evaluate (Negative e) frame = and_then (evaluate e frame) (λ v. exact (neg_ℤ v))
evaluate (Not e) frame = and_then (evaluate e frame) (λ v. truth (is_zero v))
evaluate (Binary operator d e) frame = also (evaluate d frame) (evaluate e frame) (apply operator)
