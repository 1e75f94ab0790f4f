-- The tokens of a cut follow each other, each within the text.
use Rattle.std.proofs.Common.{ℕ, ◌<◌, ◌≤◌, List, [], ◌∷◌, length, All, arith}
use Rattle.std.proofs.lemmas.List.Elements.{All-cons}
use Rattle.cw_model.specs.declared.token.Token.{Token}
use Rattle.cw_model.specs.Tokens.{AreTokens, IsTokenCut}
use Rattle.cw_lex.specs.Laws.{AreRising}
use Rattle.cw_lex.specs.lemmas.Gaps.{gap_rises}

tokens_rise : (text : List ℕ) (from : ℕ) (ts : List Token) (to : ℕ) → AreTokens text from ts to → AreRising from ts to
tokens_rise text from [] to g = gap_rises g
tokens_rise text from (t ∷ ts) to g = (gap_rises g.0, g.1.rises, tokens_rise text t.end ts to g.2)

rising_ends : (from : ℕ) (ts : List Token) (to : ℕ) → AreRising from ts to → from ≤ to
rising_ends from [] to r = r
rising_ends from (t ∷ ts) to r = omega (arith, r.0, r.1, rising_ends t.end ts to r.2)

abbrev IsWithin : ℕ → Token → Type 0
IsWithin to t = (t.start < t.end) × (t.end ≤ to)

rising_within : (from : ℕ) (ts : List Token) (to : ℕ) → AreRising from ts to → All (IsWithin to) ts
rising_within from [] to r = λ k d lt. absurd (omega arith)
rising_within from (t ∷ ts) to r = All-cons (IsWithin to) t ts (r.1, rising_ends t.end ts to r.2) (rising_within t.end ts to r.2)

pub cut_rises : (text : List ℕ) (ts : List Token) → IsTokenCut text ts → AreRising 0 ts (length text)
cut_rises text ts cut = tokens_rise text 0 ts (length text) cut

pub cut_within : (text : List ℕ) (ts : List Token) → IsTokenCut text ts → All (λ t. (t.start < t.end) × (t.end ≤ length text)) ts
cut_within text ts cut = rising_within 0 ts (length text) (cut_rises text ts cut)
