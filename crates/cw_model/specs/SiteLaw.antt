-- The law of the numbers of call statements.
use Rattle.std.specs.Prelude.{◌≡◌, ℕ, true, List}
use Rattle.cw_model.specs.declared.token.Token.{Token}
use Rattle.cw_model.specs.Syntax.{Program}
use Rattle.cw_model.specs.Sites.{are_numbered, call_sites}
use Rattle.cw_model.specs.Grammar.{Derives}

-- the call statements of a derived program are numbered from 1, in source order
abbrev pub SitesAreNumbered : Type 0
SitesAreNumbered =
    (text : List ℕ) (ts : List Token) (program : Program) → Derives text ts program
    → are_numbered 0 (call_sites program) ≡ true
