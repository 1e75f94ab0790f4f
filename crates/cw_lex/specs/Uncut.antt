-- The reasons why bytes are not cut into tokens.
use Rattle.std.specs.Prelude.{◌≡◌, ℕ, List, length, take, slice_index, ◌⊎◌}
use Rattle.cw_model.specs.Text.{IsSourceText, IsTooLong, IsNotAscii}
use Rattle.cw_model.specs.Tokens.{StartsNothing, HasLargeNumber, HasLongName, FaultAt}
use Rattle.cw_text.specs.declared.reasons.At.{At}
use Rattle.cw_text.specs.declared.fault.Fault.{Fault}
use Rattle.cw_text.specs.declared.fault.Fault.TheVariants as fault
use Rattle.cw_text.specs.Sources.{IsNoSource}
use Rattle.cw_lex.specs.declared.reason.Uncut.{Uncut}
use Rattle.cw_lex.specs.declared.reason.Uncut.TheVariants as reason
use Rattle.cw_lex.specs.Faults.{HasNoCut}

-- the bytes begin with no token for this reason; the reason has the byte that starts nothing, or all bytes of the
-- number or of the name
abbrev pub IsNoToken : Uncut → List ℕ → Type 0
IsNoToken (reason.NoToken byte) bytes = StartsNothing bytes × (byte ≡ slice_index bytes 0)
IsNoToken (reason.LargeNumber number) bytes = (f : HasLargeNumber bytes) × (number.now ≡ take f.len bytes)
IsNoToken (reason.LongName name) bytes = (f : HasLongName bytes) × (name.now ≡ take f.len bytes)
IsNoToken _ bytes = ⊥

-- the bytes are not cut for this reason, in this line: there are too many bytes; otherwise it is the first byte above
-- 127; otherwise the first fault of the text
abbrev pub IsUncutFor : List ℕ → Uncut → ℕ → Type 0
IsUncutFor bytes (reason.TooLong count) line = IsTooLong bytes line × (count ≡ length bytes)
IsUncutFor bytes (reason.NotAscii byte) line = (f : IsNotAscii bytes line) × (byte ≡ slice_index bytes f.at)
IsUncutFor bytes r line = IsSourceText bytes × FaultAt (IsNoToken r) bytes line

abbrev pub IsUncut : List ℕ → At Uncut → Type 0
IsUncut bytes found = IsUncutFor bytes found.reason found.line

-- the fault that reports a reason
abbrev pub fault_of : Uncut → (line : ℕ) → Fault
fault_of (reason.TooLong count) line = fault.Size (record { line = line })
fault_of (reason.NotAscii byte) line = fault.Lexical (record { line = line })
fault_of (reason.NoToken byte) line = fault.Lexical (record { line = line })
fault_of (reason.LargeNumber number) line = fault.Lexical (record { line = line })
fault_of (reason.LongName name) line = fault.Size (record { line = line })

-- reading the bytes as a source, or cutting their text, returns this fault
abbrev pub IsRejected : List ℕ → Fault → Type 0
IsRejected bytes f = IsNoSource bytes f ⊎ (IsSourceText bytes × HasNoCut bytes f)
