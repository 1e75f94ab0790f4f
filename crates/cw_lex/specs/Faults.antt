-- The token cut of a text, or the reason why it has none.
use Rattle.std.specs.Prelude.{ℕ, List}
use Rattle.std.specs.Global.{Vec}
use Rattle.cw_model.specs.declared.token.Token.{Token}
use Rattle.cw_model.specs.Tokens.{IsTokenCut, HasLexicalFault, HasNameFault}
use Rattle.cw_text.specs.declared.fault.Fault.{Fault}
use Rattle.cw_text.specs.declared.fault.Fault.TheVariants as fault

-- these tokens are the token cut of the text
abbrev pub IsCut : List ℕ → Vec Token → Type 0
IsCut text tokens = IsTokenCut text tokens.items

-- the condition that the text satisfies if cutting it returns this fault
abbrev pub HasNoCut : List ℕ → Fault → Type 0
HasNoCut text (fault.Lexical p) = HasLexicalFault text p.line
HasNoCut text (fault.Size p) = HasNameFault text p.line
HasNoCut text fault.Memory = Unit {0}
HasNoCut text _ = ⊥
