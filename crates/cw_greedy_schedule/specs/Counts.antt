-- The numbers of processors that speedups are reported for.
use Rattle.std.specs.Prelude.{ℕ, zero, suc, ◌+◌, ◌^◌, nat_lt, List, [], ◌∷◌, ◌++◌}
use Rattle.std.specs.List.{filter}

-- this number of powers of two, from this exponent on
abbrev pub powers : (exponent many : ℕ) → List ℕ
powers exponent zero = []
powers exponent (suc many) = 2 ^ exponent ∷ powers (exponent + 1) many

-- the powers that are below a number
abbrev pub powers_below : (most exponent many : ℕ) → List ℕ
powers_below most exponent many = filter (λ power. nat_lt power most) (powers exponent many)

-- the powers of two below a number of processors, and then the number itself; 2 ^ 20 is above the most processors that can
-- be asked for
abbrev pub processor_counts : (most : ℕ) → List ℕ
processor_counts most = powers_below most 0 20 ++ most ∷ []
