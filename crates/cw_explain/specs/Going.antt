-- Texts that a source can begin with.
use Rattle.std.specs.Prelude.{ℕ, List, ◌++◌, ◌⊎◌, codes}
use Rattle.cw_model.specs.declared.token.Token.{Token}
use Rattle.cw_model.specs.Grammar.{Derives, HasSyntaxFault}
use Rattle.cw_model.specs.Syntax.{Program}
use Rattle.cw_model.specs.Text.{end_line}
use Rattle.cw_model.specs.Tokens.{IsTokenCut}

-- the tokens of the text form a program, or their syntax fault is in the line of the text's end
pub record GoesOn (text : List ℕ) : Type 0 where
  pub tokens : List Token
  pub cut : IsTokenCut text tokens
  pub further : ((program : Program) × Derives text tokens program) ⊎ HasSyntaxFault text tokens (end_line text)

-- a text followed by a word, each on lines of its own
abbrev pub followed : (text word : List ℕ) → List ℕ
followed text word = text ++ codes "\n" ++ word ++ codes "\n"

-- the word can follow the text
abbrev pub CanFollow : (text word : List ℕ) → Type 0
CanFollow text word = GoesOn (followed text word)
