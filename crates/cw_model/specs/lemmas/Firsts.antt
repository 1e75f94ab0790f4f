-- Only one position is the first that is not ASCII.
use Rattle.std.proofs.Common.{◌≡◌, ℕ, ◌<◌, ◌≤◌, List, ◌⊎◌, inl, inr, arith}
use Rattle.std.proofs.lemmas.Bool.{cases_lt}
use Rattle.cw_model.specs.Text.{IsFirstAbove}

not_before : (bytes : List ℕ) (at other : ℕ) → IsFirstAbove bytes at → IsFirstAbove bytes other → at < other → ⊥
not_before bytes at other a b h = let low = b.before at h in omega (arith, low, a.above)

pub same_above : (bytes : List ℕ) (at other : ℕ) → IsFirstAbove bytes at → IsFirstAbove bytes other → at ≡ other
same_above bytes at other a b = by_order (cases_lt at other) (cases_lt other at)
  where
    by_order : (at < other) ⊎ (other ≤ at) → (other < at) ⊎ (at ≤ other) → at ≡ other
    by_order (inl h) _ = absurd (not_before bytes at other a b h)
    by_order _ (inl k) = absurd (not_before bytes other at b a k)
    by_order (inr h) (inr k) = omega (arith, h, k)
