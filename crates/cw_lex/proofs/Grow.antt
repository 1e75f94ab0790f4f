-- A cut extended at its end by a gap or a token.
use Rattle.std.proofs.Common.{ℕ, List, [], ◌∷◌, ◌++◌}
use Rattle.cw_model.specs.declared.token.Token.{Token}
use Rattle.cw_model.specs.Tokens.{IsGap, none, separator, comment, IsToken, AreTokens}

pub gap_gap : (text : List ℕ) {from at to : ℕ} → IsGap text from at → IsGap text at to → IsGap text from to
gap_gap text none h = h
gap_gap text (separator lt s g) h = separator lt s (gap_gap text g h)
gap_gap text (comment len l c g) h = comment len l c (gap_gap text g h)

pub add_gap : (text : List ℕ) (from : ℕ) (ts : List Token) (at to : ℕ) → AreTokens text from ts at → IsGap text at to → AreTokens text from ts to
add_gap text from [] at to g h = gap_gap text g h
add_gap text from (t ∷ ts) at to g h = (g.0, g.1, add_gap text t.end ts at to g.2 h)

pub add_token : (text : List ℕ) (from : ℕ) (ts : List Token) (t : Token) → AreTokens text from ts t.start → IsToken text t → AreTokens text from (ts ++ t ∷ []) t.end
add_token text from [] t g h = (g, h, none)
add_token text from (u ∷ ts) t g h = (g.0, g.1, add_token text u.end ts t g.2 h)
