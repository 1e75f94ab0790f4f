-- The next token, fault or end of a text.
use Rattle.std.specs.Prelude.{◌≡◌, ℕ, ◌<◌, ◌≤◌, List, length, drop}
use Rattle.cw_model.specs.declared.token.Token.{Token}
use Rattle.cw_model.specs.Text.{line_at}
use Rattle.cw_model.specs.Tokens.{IsGap, IsToken}
use Rattle.cw_text.specs.declared.reasons.At.{At}
use Rattle.cw_lex.specs.declared.reason.Uncut.{Uncut}
use Rattle.cw_lex.specs.declared.traversal.Next.{Next}
use Rattle.cw_lex.specs.declared.traversal.Next.TheVariants as next
use Rattle.cw_lex.specs.Uncut.{IsNoToken}

-- after `from` there is a gap, then this token, which ends in the line in which it begins
pub record IsNextToken (text : List ℕ) (from : ℕ) (t : Token) : Type 0 where
  pub gap : IsGap text from t.start
  pub token : IsToken text t
  pub rises : from < t.end
  pub within : t.end ≤ length text
  pub same_line : t.line ≡ line_at text t.end

-- after `from` there is a gap, then bytes that are no token, for this reason and in this line
pub record IsNextFault (text : List ℕ) (from : ℕ) (found : At Uncut) : Type 0 where
  pub at : ℕ
  pub gap : IsGap text from at
  pub faulty : IsNoToken found.reason (drop at text)
  pub same_line : found.line ≡ line_at text at

-- the condition that the text after `from` satisfies for each result
abbrev pub IsNext : (text : List ℕ) (from : ℕ) → Next → Type 0
IsNext text from (next.Token t) = IsNextToken text from t
IsNext text from next.End = IsGap text from (length text)
IsNext text from (next.Uncut found) = IsNextFault text from found
