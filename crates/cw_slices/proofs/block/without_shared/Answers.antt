use Rattle.std.proofs.Common.{◌≡◌, ◌+◌, ◌-◌, inl, inr, refl, arith}
use Prim.Native.Nat.{ℕ}
use Rattle.cw_slices.specs.Blocks.{IsCount}
use Rattle.cw_slices.proofs.block.without_shared.Goals as goal

pub returns-then-out-lt-STUCK : goal.returns-then-out-lt-STUCK
returns-then-out-lt-STUCK c m e s few is counted = by counted
  where
    by : IsCount (e + c.args.count) s → (t : ℕ) × (c.args.out - c.args.count ≡ m + t) × IsCount e t
    by (inl k) = (e, omega (arith, is, k.0), inl (refl, omega (arith, k)))
    by (inr k) = absurd (omega (arith, k.0, is, c.if-out-lt-STUCK.true))
