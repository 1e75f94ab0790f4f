-- The effect of recording lines on the least recorded line and on the room left under a limit.
use Rattle.std.specs.Prelude.{◌≡◌, ℕ, List, ◌++◌, drop}
use Rattle.cw_model.specs.Lines.{lowest}
use Rattle.cw_text.specs.declared.least.LeastLine.{LeastLine}

-- `after` holds the least of `before` and `lines`
abbrev pub AreRecorded : List ℕ → (before after : LeastLine) → Type 0
AreRecorded lines before after = after.line ≡ lowest before.line lines

-- the entries of `lines` past the first `room` are recorded, and room for `left` more entries remains
abbrev pub TakesRoom : (room left : ℕ) → List ℕ → (before after : LeastLine) → Type 0
TakesRoom room left lines before after =
    (more : List ℕ) → lowest after.line (drop left more) ≡ lowest before.line (drop room (lines ++ more))
