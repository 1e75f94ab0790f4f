-- The reasons why bytes are not a source.
use Rattle.std.specs.Prelude.{ℕ, List}
use Rattle.cw_model.specs.Text.{IsTooLong, IsNotAscii}
use Rattle.cw_text.specs.declared.fault.Fault.{Fault}
use Rattle.cw_text.specs.declared.fault.Fault.TheVariants as fault

-- the condition that the bytes satisfy if reading them returns this fault
abbrev pub IsNoSource : List ℕ → Fault → Type 0
IsNoSource bytes (fault.Size p) = IsTooLong bytes p.line
IsNoSource bytes (fault.Lexical p) = IsNotAscii bytes p.line
IsNoSource bytes fault.Memory = Unit {0}
IsNoSource bytes _ = ⊥
