use Rattle.std.proofs.Common.{◌≡◌, ◌+◌, ◌^◌, inl, inr, arith}
use Prim.Native.Nat.{ℕ}
use Rattle.cw_slices.specs.Blocks.{IsCount}
use Rattle.cw_slices.proofs.block.with_shared.Goals as goal

pub returns-then-out-lt-MANY : goal.returns-then-out-lt-MANY
returns-then-out-lt-MANY c m e s few is counted = by counted
  where
    by : IsCount e s → (t : ℕ) × (c.args.out + c.args.count ≡ m + t) × IsCount (e + c.args.count) t
    by (inl k) = (s + c.args.count, omega (arith, is), inl (omega (arith, k.0), omega (arith, k.1, is, c.if-out-lt-MANY.true, c.requires)))
    by (inr k) = absurd (omega (arith, k.0, is, c.if-out-lt-MANY.true))

pub returns-then-out-lt-STUCK : goal.returns-then-out-lt-STUCK
returns-then-out-lt-STUCK c m e s few is counted = by counted
  where
    by : IsCount e s → (t : ℕ) × (c.args.out + 2 ^ 63 ≡ m + t) × IsCount (e + c.args.count) t
    by (inl k) = (s + 2 ^ 63, omega (arith, is), inr (omega arith, omega (arith, k.1)))
    by (inr k) = absurd (omega (arith, k.0, is, c.if-out-lt-STUCK.true))
