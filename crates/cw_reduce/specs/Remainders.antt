-- A remainder is less than the divisor.
use Rattle.std.specs.Prelude.{◌≡◌, ℕ, ◌^◌, ◌%◌, nat_lt, true}
use Rattle.std.proofs.Common.{arith}
use Rattle.std.proofs.Math.Nat.{mod-lt}
use Rattle.cw_facts.specs.Tests.{below}

pub remainder_below : (n : ℕ) → nat_lt (n % 2 ^ 128) (2 ^ 128) ≡ true
remainder_below n = below (n % 2 ^ 128) (2 ^ 128) (mod-lt n (omega arith))
