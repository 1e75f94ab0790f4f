-- Each run has a part, wherever a strand that executes it stops.
use Rattle.std.specs.Prelude.{ℕ, ◌≤◌}
use Rattle.cw_model.specs.declared.burden.Burden.{Burden}
use Rattle.cw_model.specs.declared.limits.TheConstants.{MOST_LIMIT}
use Rattle.cw_part.specs.RunParts.{RunPart}
use Rattle.cw_part.specs.Runs.{Run, Numbering, IsJoinedOf}

-- a part of a run, with the cost counted before it
pub record HasPart (burden : Burden) (numbering : Numbering) (limit before : ℕ) (run : Run) : Type 0 where
  pub part : RunPart
  pub is_joined : IsJoinedOf burden numbering limit before run part

-- for each limit, and each cost before the run that is within it
abbrev pub RunsHaveParts : Type 0
RunsHaveParts =
    (burden : Burden) (numbering : Numbering) (limit before : ℕ) (run : Run) → limit ≤ MOST_LIMIT → before ≤ limit
    → HasPart burden numbering limit before run
