-- The limit that tokens exceed, and the line.
use Rattle.std.specs.Prelude.{◌≡◌, ◌<◌, ℕ, nat_le, Bool, true, false, if◌then◌else◌, List, [], ◌∷◌, Option, Some, None}
use Rattle.std.specs.Prelude.{Contains}
use Rattle.cw_model.specs.declared.limits.TheConstants.{MOST_OPEN_BRACKETS, MOST_TOKENS_IN_A_ROW}
use Rattle.cw_model.specs.declared.token.Token.{Token}
use Rattle.cw_model.specs.Lines.{IsLeastLine}
use Rattle.cw_model.specs.Sizes.{open_after, row_after, token_faults}
use Rattle.cw_text.specs.declared.reasons.At.{At}
use Rattle.cw_text.specs.declared.fault.Fault.{Fault}
use Rattle.cw_text.specs.declared.fault.Fault.TheVariants as fault
use Rattle.cw_parse.specs.declared.nesting.TooNested.{TooNested}
use Rattle.cw_parse.specs.declared.nesting.TooNested.TheVariants as reason

-- the number of open brackets and of tokens in a row after a token, with the line of the token
pub record Nesting : Type 0 where
  pub line : ℕ
  pub brackets : ℕ
  pub row : ℕ

-- the nesting after each token
abbrev pub nestings : (brackets row : ℕ) → List Token → List Nesting
nestings brackets row [] = []
nestings brackets row (t ∷ ts) =
    record { line = t.line; brackets = open_after brackets t.kind; row = row_after row t.kind }
    ∷ nestings (open_after brackets t.kind) (row_after row t.kind) ts

-- too many brackets are open, or too many tokens are in a row
abbrev pub IsTooNested : (brackets row : ℕ) → TooNested → Type 0
IsTooNested brackets row reason.Brackets = MOST_OPEN_BRACKETS < brackets
IsTooNested brackets row reason.Row = MOST_TOKENS_IN_A_ROW < row

-- a token in this line exceeds the limit
pub record IsPassedByTokens (tokens : List Token) (line : ℕ) (r : TooNested) : Type 0 where
  pub nesting : Nesting
  pub there : Contains (nestings 0 0 tokens) nesting
  pub at_line : nesting.line ≡ line
  pub passed : IsTooNested nesting.brackets nesting.row r

-- the least line of a token that exceeds a limit, and a limit that it exceeds
pub record IsFirstPassed (tokens : List Token) (at : At TooNested) : Type 0 where
  pub least : IsLeastLine (token_faults 0 0 tokens) at.line
  pub holds : IsPassedByTokens tokens at.line at.reason

-- the condition that tokens satisfy if the check of limits returns this fault
abbrev pub IsRejected : List Token → Fault → Type 0
IsRejected tokens (fault.Size p) = IsLeastLine (token_faults 0 0 tokens) p.line
IsRejected tokens _ = ⊥

-- records a line, unless the limit is kept: the least line remains, with the first limit recorded for it
abbrev pub noted : Bool → TooNested → (line : ℕ) → Option (At TooNested) → Option (At TooNested)
noted true r line first = first
noted false r line None = Some (record { line = line; reason = r })
noted false r line (Some at) = if nat_le at.line line then Some at else Some (record { line = line; reason = r })

-- tests both limits at each token and records the lines that exceed one
abbrev pub first_passed : Option (At TooNested) → (brackets row : ℕ) → List Token → Option (At TooNested)
first_passed first brackets row [] = first
first_passed first brackets row (t ∷ ts) =
    let opened = open_after brackets t.kind in
    let next = row_after row t.kind in
    first_passed
    (noted (nat_le next MOST_TOKENS_IN_A_ROW) reason.Row t.line
    (noted (nat_le opened MOST_OPEN_BRACKETS) reason.Brackets t.line first))
    opened next ts
