-- How often the right to each place of a block was halved, after shares are made and merged.
use Rattle.std.proofs.Common.{◌≡◌, ℕ, ◌+◌, ◌≤◌, List, length, replicate, slice_get, ap}
use Rattle.std.proofs.Common.{◌∙◌, arith}
use Rattle.std.specs.Coded.{Coded-set, coded_list, coded_ℕ}
use Rattle.cw_slices.specs.Blocks.{patched, AreHalved, IsWhole, Lodged}
use Rattle.cw_slices.specs.lemmas.Patches.{length_patched, patched_at}
use Rattle.cw_slices.specs.lemmas.Patches.{length_replicated, get_replicated}

-- if all rights are halved equally often, so is each part of them
pub halved_of : (rights : List ℕ) (n d from count : ℕ) → rights ≡ replicate n d → from + count ≤ n
    → AreHalved rights from count d
halved_of rights n d from count e fits k lt =
    ap (λ (l : List ℕ). slice_get l (from + k)) e ∙ get_replicated n d (from + k) (omega (arith, lt, fits))

module _ (from count d : ℕ) (rights : List ℕ) (fits : from + count ≤ length rights) where
  within : from + length (replicate count d) ≤ length rights
  within = omega (arith, length_replicated count d, fits)

  -- patching the rights keeps their number, sets `count` of them and leaves the others
  pub as_many : length (patched from (replicate count d) rights) ≡ length rights
  as_many = length_patched from (replicate count d) rights within

  pub halved_there : AreHalved (patched from (replicate count d) rights) from count d
  halved_there k lt =
      patched_at from (replicate count d) rights within k (omega (arith, lt, length_replicated count d)) ∙
      get_replicated count d k lt

-- `IsWhole` is a proposition
pub whole_prop : (b : Lodged) → IsProp (IsWhole b)
whole_prop b = λ p q. Coded-set (coded_list coded_ℕ) b.rights (replicate (length b.cells) b.spot.halved) p q
