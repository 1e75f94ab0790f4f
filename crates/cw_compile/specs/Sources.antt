-- The program that bytes are a source of, and the reasons why bytes are rejected.
use Rattle.std.specs.Prelude.{◌≡◌, ℕ, List, []}
use Rattle.cw_model.specs.declared.token.Token.{Token}
use Rattle.cw_model.specs.Lines.{IsLeastLine}
use Rattle.cw_model.specs.Text.{IsSourceText, IsTooLong, IsNotAscii}
use Rattle.cw_model.specs.Tokens.{IsTokenCut, HasLexicalFault, HasNameFault}
use Rattle.cw_model.specs.Syntax.{Program}
use Rattle.cw_model.specs.Ownership.{KeepsOwnership, ownership_faults}
use Rattle.cw_model.specs.Sizes.{token_faults, limit_faults, loop_faults, program_faults}
use Rattle.cw_parse.specs.Parsed.{IsParsed, IsUnderivable}
use Rattle.cw_model.specs.Typing.{type_faults}
use Rattle.cw_types.specs.Faults.{IsFirstTypeFault}
use Rattle.cw_text.specs.declared.fault.Fault.{Fault}
use Rattle.cw_text.specs.declared.fault.Fault.TheVariants as fault

-- the bytes are a source text with these tokens
pub record HasTokens (bytes : List ℕ) (tokens : List Token) : Type 0 where
  pub text : IsSourceText bytes
  pub cut : IsTokenCut bytes tokens

-- the bytes are a source of this program by the limits on tokens and the grammar only
pub record IsSourceOf (bytes : List ℕ) (program : Program) : Type 0 where
  pub tokens : List Token
  pub has_tokens : HasTokens bytes tokens
  pub parsed : IsParsed bytes tokens program

-- the bytes are a source of this program, which exceeds no limit on its parts and keeps every rule
pub record IsAccepted (bytes : List ℕ) (program : Program) : Type 0 where
  pub source : IsSourceOf bytes program
  pub within : limit_faults program ≡ []
  pub typed : type_faults program ≡ []
  pub owned : KeepsOwnership program

-- the bytes are a source of this accepted program, which has few enough loops and is small enough
pub record Compiles (bytes : List ℕ) (program : Program) : Type 0 where
  pub accepted : IsAccepted bytes program
  pub loops : loop_faults program ≡ []
  pub small : program_faults program ≡ []

-- the bytes are no source text, or their first fault is a byte that starts no token or a number that is too large
pub data IsLexicallyRejected (bytes : List ℕ) (line : ℕ) : Type 0 where
  byte : IsNotAscii bytes line → IsLexicallyRejected bytes line
  token : IsSourceText bytes → HasLexicalFault bytes line → IsLexicallyRejected bytes line

-- the bytes have tokens that exceed no limit and are no source; `line` is the line where a source cannot continue
pub record IsSyntacticallyRejected (bytes : List ℕ) (line : ℕ) : Type 0 where
  pub tokens : List Token
  pub has_tokens : HasTokens bytes tokens
  pub syntax : IsUnderivable bytes tokens line

-- no limit is exceeded, and `line` is the least line that breaks a rule of names and types
pub record IsTypeRejected (bytes : List ℕ) (line : ℕ) : Type 0 where
  pub program : Program
  pub source : IsSourceOf bytes program
  pub types : IsFirstTypeFault program line

-- the types are right, and `line` is the least line that breaks a rule of ownership
pub record IsDisowned (bytes : List ℕ) (line : ℕ) : Type 0 where
  pub program : Program
  pub source : IsSourceOf bytes program
  pub within : limit_faults program ≡ []
  pub typed : type_faults program ≡ []
  pub least : IsLeastLine (ownership_faults program) line

-- the first exceeded limit by stage: bytes, a name, tokens, the parts of the program, its loops, and its code
pub data PassesLimit (bytes : List ℕ) (line : ℕ) : Type 0 where
  length : IsTooLong bytes line → PassesLimit bytes line
  name : IsSourceText bytes → HasNameFault bytes line → PassesLimit bytes line
  tokens : (ts : List Token) → HasTokens bytes ts → IsLeastLine (token_faults 0 0 ts) line → PassesLimit bytes line
  parts : (program : Program) → IsSourceOf bytes program → IsLeastLine (limit_faults program) line
      → PassesLimit bytes line
  loops : (program : Program) → IsAccepted bytes program → IsLeastLine (loop_faults program) line
      → PassesLimit bytes line
  code : (program : Program) → IsAccepted bytes program → loop_faults program ≡ []
      → IsLeastLine (program_faults program) line → PassesLimit bytes line

-- the condition that the bytes satisfy if compiling them returns this fault: the first stage that rejects them
abbrev pub IsRejected : List ℕ → Fault → Type 0
IsRejected bytes (fault.Lexical p) = IsLexicallyRejected bytes p.line
IsRejected bytes (fault.Syntax p) = IsSyntacticallyRejected bytes p.line
IsRejected bytes (fault.Types p) = IsTypeRejected bytes p.line
IsRejected bytes (fault.Ownership p) = IsDisowned bytes p.line
IsRejected bytes (fault.Size p) = PassesLimit bytes p.line
IsRejected bytes fault.Memory = Unit {0}
IsRejected bytes _ = ⊥
