-- Signed 64-bit integers: an operation returns a value or traps.
use Rattle.std.specs.Prelude.{ℕ, zero, suc, ◌^◌, Bool, true, false, ℤ, pos, negsuc, ◌-ℤ◌, int_div, int_rem, nat_lt}
use Rattle.std.specs.Prelude.{if◌then◌else◌}
use Rattle.cw_model.specs.declared.trap.Trap.{Trap}
use Rattle.cw_model.specs.declared.trap.Trap.TheVariants as trap

-- the result of an operation: a value or a trap
pub data Result : Type 0 where
  Value : ℤ → Result
  Fails : Trap → Result

-- the number by which a trap is reported
abbrev pub trap_number : Trap → ℕ
trap_number trap.Overflow = 1
trap_number trap.DivisionByZero = 2
trap_number trap.OutOfBounds = 3
trap_number trap.BadLength = 4
trap_number trap.TooManyIterations = 5
trap_number trap.TooDeep = 6

-- the integer is in the range of 64 bits
abbrev pub fits : ℤ → Bool
fits (pos n) = nat_lt n (2 ^ 63)
fits (negsuc n) = nat_lt n (2 ^ 63)

-- the exact result if it is in the range of 64 bits, otherwise an overflow
abbrev pub exact : ℤ → Result
exact z = if fits z then Value z else Fails trap.Overflow

-- 1 for true, 0 for false
abbrev pub truth : Bool → Result
truth b = Value (pos (if b then 1 else 0))

-- the integer is 0, the only value that a condition takes as false
abbrev pub is_zero : ℤ → Bool
is_zero (pos zero) = true
is_zero (pos (suc n)) = false
is_zero (negsuc n) = false

-- two integers are equal
abbrev pub int_eq : ℤ → ℤ → Bool
int_eq a b = is_zero (a -ℤ b)

-- the quotient, rounded toward zero; it overflows only for the minimum integer divided by -1
abbrev pub quotient : ℤ → ℤ → Result
quotient a b = if is_zero b then Fails trap.DivisionByZero else exact (int_div a b)

-- the remainder, with the sign of the dividend; it overflows if the quotient does
abbrev pub remainder : ℤ → ℤ → Result
remainder a b =
    if is_zero b then Fails trap.DivisionByZero
    else (if fits (int_div a b) then Value (int_rem a b) else Fails trap.Overflow)

-- an integer as a natural number, 0 if it is negative
abbrev pub natural : ℤ → ℕ
natural (pos n) = n
natural (negsuc n) = 0
