-- The text of a source, and its lines.
use Rattle.std.specs.Prelude.{◌≡◌, ℕ, ◌+◌, ◌-◌, ◌<◌, ◌≤◌, List, length, take, drop, All, slice_index, count_by, ◌==◌}
use Rattle.cw_model.specs.declared.limits.TheConstants.{MOST_SOURCE_BYTES}

-- each byte is ASCII
abbrev pub IsAscii : List ℕ → Type 0
IsAscii bytes = All (λ b. b < 128) bytes

-- the bytes of a source: ASCII, and within the maximum length
pub record IsSourceText (bytes : List ℕ) : Type 0 where
  pub short : length bytes ≤ MOST_SOURCE_BYTES
  pub ascii : IsAscii bytes

-- the line of a position: 1 plus the number of LF bytes before it
abbrev pub line_at : List ℕ → ℕ → ℕ
line_at text at = 1 + count_by (λ b. b == 10) (take at text)

-- the line of the end of a text
abbrev pub end_line : List ℕ → ℕ
end_line text = 1 + count_by (λ b. b == 10) text

-- the bytes from one position up to another
abbrev pub between : List ℕ → ℕ → ℕ → List ℕ
between text from to = take (to - from) (drop from text)

-- the position of the first byte that is not ASCII
pub record IsFirstAbove (bytes : List ℕ) (at : ℕ) : Type 0 where
  pub within : at < length bytes
  pub above : 128 ≤ slice_index bytes at
  pub before : (k : ℕ) → k < at → slice_index bytes k < 128

-- the source is too long: a fault in line 1, which precedes every other fault
pub record IsTooLong (bytes : List ℕ) (line : ℕ) : Type 0 where
  pub long : MOST_SOURCE_BYTES < length bytes
  pub first : line ≡ 1

-- a byte above 127: a fault in its line, which precedes every other fault except excessive length
pub record IsNotAscii (bytes : List ℕ) (line : ℕ) : Type 0 where
  pub short : length bytes ≤ MOST_SOURCE_BYTES
  pub at : ℕ
  pub above : IsFirstAbove bytes at
  pub same_line : line ≡ line_at bytes at
