-- A text has no more tokens than bytes.
use Rattle.std.proofs.Common.{ℕ, ◌+◌, ◌≤◌, List, [], ◌∷◌, length, arith}
use Rattle.cw_model.specs.declared.token.Token.{Token}
use Rattle.cw_model.specs.Tokens.{AreTokens}
use Rattle.cw_lex.specs.lemmas.Gaps.{gap_rises}

pub fewer_tokens : (text : List ℕ) (from : ℕ) (ts : List Token) (to : ℕ) → AreTokens text from ts to → from + length ts ≤ to
fewer_tokens text from [] to g = let h = gap_rises g in omega arith
fewer_tokens text from (t ∷ ts) to (g, is, others) =
    let h = gap_rises g in
    let k = fewer_tokens text t.end ts to others in
    let rises = is.rises in
    omega arith
