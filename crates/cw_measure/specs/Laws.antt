-- Statements of laws.
use Rattle.std.specs.Prelude.{ℕ, Bool}
use Rattle.cw_model.specs.Trees.{Mark, Tree}
use Rattle.cw_measure.specs.Outermost.{Meters, Reading, TalliesAreOutermost}

-- for every metered reading and every predicate on marks, each step of a run preserves the tally
abbrev pub AllTalliesKeep : Type 0
AllTalliesKeep =
    (f : Tree → ℕ) (read : Reading) (picks : Mark → Bool) (busy : ℕ) → Meters f read → TalliesAreOutermost f read picks busy
