-- Lists of lines that break a rule: a program keeps the rule if the list is empty; a rejection names the lowest line.
use Rattle.std.specs.Prelude.{ℕ, ◌≤◌, nat_le, Bool, true, false, if◌then◌else◌, List, [], ◌∷◌, Option, Some, None}
use Rattle.std.specs.Prelude.{All, Contains}

-- no line if the rule is kept, otherwise this line
abbrev pub unless : Bool → ℕ → List ℕ
unless true line = []
unless false line = line ∷ []

-- the lowest of these lines
pub record IsLeastLine (lines : List ℕ) (line : ℕ) : Type 0 where
  pub there : Contains lines line
  pub least : All (λ other. line ≤ other) lines

-- the lower of the lowest line so far and another line
abbrev pub lesser : Option ℕ → ℕ → Option ℕ
lesser None line = Some line
lesser (Some least) line = Some (if nat_le least line then least else line)

-- the lowest of all lines and of the lowest line so far
abbrev pub lowest : Option ℕ → List ℕ → Option ℕ
lowest least [] = least
lowest least (line ∷ lines) = lowest (lesser least line) lines
