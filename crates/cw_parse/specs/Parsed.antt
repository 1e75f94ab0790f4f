-- The tokens that the parser accepts, and why it rejects others.
use Rattle.std.specs.Prelude.{◌≡◌, ◌≤◌, ℕ, List, [], ◌∷◌, ◌++◌, length, take, drop}
use Rattle.cw_model.specs.declared.token.Token.{Token}
use Rattle.cw_model.specs.Lines.{IsLeastLine}
use Rattle.cw_model.specs.Sizes.{token_faults}
use Rattle.cw_model.specs.Syntax.{Program}
use Rattle.cw_model.specs.Grammar.{CanBegin, Derives, HasSyntaxFault}
use Rattle.cw_text.specs.declared.fault.Fault.{Fault}
use Rattle.cw_text.specs.declared.fault.Fault.TheVariants as fault

-- no token exceeds a limit
abbrev pub IsShort : List Token → Type 0
IsShort ts = token_faults 0 0 ts ≡ []

-- no token exceeds a limit, and the tokens are a source with this tree
pub record IsParsed (text : List ℕ) (ts : List Token) (program : Program) : Type 0 where
  pub short : IsShort ts
  pub derived : Derives text ts program

-- no token exceeds a limit, and the tokens are no source
pub record IsUnderivable (text : List ℕ) (ts : List Token) (line : ℕ) : Type 0 where
  pub short : IsShort ts
  pub fault : HasSyntaxFault text ts line

-- the condition that the tokens of a text satisfy if parsing returns this fault: the least line of a token that exceeds
-- a limit; if no token exceeds one, the first token that cannot continue
abbrev pub IsUnparsed : List ℕ → List Token → Fault → Type 0
IsUnparsed text ts (fault.Size p) = IsLeastLine (token_faults 0 0 ts) p.line
IsUnparsed text ts (fault.Syntax p) = IsUnderivable text ts p.line
IsUnparsed text ts fault.Memory = Unit {0}
IsUnparsed text ts _ = ⊥

-- the condition that the tokens of a text satisfy if building the tree returns this fault
abbrev pub HasNoTree : List ℕ → List Token → Fault → Type 0
HasNoTree text ts (fault.Syntax p) = HasSyntaxFault text ts p.line
HasNoTree text ts fault.Memory = Unit {0}
HasNoTree text ts _ = ⊥

-- the tokens are no source: the tokens before the place begin a source, and with the token at the place they begin
-- none; if no token is at the place, the source ends too early
pub record IsRejectedAt (text : List ℕ) (ts : List Token) (place : ℕ) : Type 0 where
  pub within : place ≤ length ts
  pub goes_on : CanBegin text (take place ts)
  pub no_further : (t : Token) (us : List Token) → drop place ts ≡ t ∷ us → CanBegin text (take place ts ++ t ∷ []) → ⊥
  pub no_end : drop place ts ≡ [] → (program : Program) → Derives text ts program → ⊥

-- tokens have at most one tree
abbrev pub HasOneTree : List ℕ → List Token → Type 0
HasOneTree text ts = (p q : Program) → Derives text ts p → Derives text ts q → p ≡ q

-- tokens with a fault have no tree, and the fault has one line
pub record FaultsAreOne (text : List ℕ) (ts : List Token) : Type 0 where
  pub no_tree : (line : ℕ) (program : Program) → HasSyntaxFault text ts line → Derives text ts program → ⊥
  pub one_line : (line other : ℕ) → HasSyntaxFault text ts line → HasSyntaxFault text ts other → line ≡ other
