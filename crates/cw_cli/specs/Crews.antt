-- The number of bodies of a crew.
use Rattle.std.specs.Prelude.{ℕ, ◌-◌, min}
use Rattle.cw_pool.specs.declared.run.TheConstants.{MOST_BODIES}

-- one body for each worker except the caller's thread, up to the maximum size of a crew
abbrev pub bodies_for : (workers : ℕ) → ℕ
bodies_for workers = min (workers - 1) MOST_BODIES
