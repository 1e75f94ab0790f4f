-- 128-bit numbers that wrap around.
use Rattle.std.specs.Prelude.{◌≡◌, ℕ, ℤ, ◌+◌, ◌^◌, ◌%◌, nat_lt, true}
use Rattle.std.specs.Int.{cast_unsigned, w128}
use Rattle.cw_reduce.specs.Remainders.{remainder_below}

-- a number of 128 bits
pub record Word : Type 0 where
  pub bits : ℕ
  pub within : nat_lt bits (2 ^ 128) ≡ true

-- a number modulo 2^128
abbrev pub word : ℕ → Word
word n = record { bits = n % 2 ^ 128; within = remainder_below n }

-- an integer modulo 2^128, in two's complement
abbrev pub word_of : ℤ → Word
word_of z = word (cast_unsigned w128 z)

-- the number 0
abbrev pub nothing : Word
nothing = word 0

-- the sum of two numbers modulo 2^128
abbrev pub plus : Word → Word → Word
plus a b = word (a.bits + b.bits)
