-- Laws of every text: it has at most one cut or one fault.
use Rattle.std.specs.Prelude.{◌≡◌, ℕ, ◌<◌, ◌≤◌, List, [], ◌∷◌, length, All, ◌⊎◌}
use Rattle.cw_model.specs.declared.token.Token.{Token}
use Rattle.cw_model.specs.Tokens.{IsTokenCut, HasLexicalFault, HasNameFault}
use Rattle.cw_text.specs.declared.reasons.At.{At}
use Rattle.cw_lex.specs.declared.reason.Uncut.{Uncut}
use Rattle.cw_lex.specs.declared.reason.Uncut.TheVariants as reason
use Rattle.cw_lex.specs.Uncut.{IsRejected, IsUncut, fault_of}

-- a text has at most one token cut
abbrev pub HasOneCut : Type 0
HasOneCut = (text : List ℕ) (ts us : List Token) → IsTokenCut text ts → IsTokenCut text us → ts ≡ us

-- a text with a fault, in any line, has no token cut
abbrev pub FaultsExcludeCuts : Type 0
FaultsExcludeCuts =
    (text : List ℕ) (line : ℕ) (ts : List Token) → HasLexicalFault text line ⊎ HasNameFault text line
    → IsTokenCut text ts → ⊥

-- a text does not have faults of both kinds, in any lines
abbrev pub FaultsExcludeOneAnother : Type 0
FaultsExcludeOneAnother = (text : List ℕ) (l m : ℕ) → HasLexicalFault text l → HasNameFault text m → ⊥

-- the lexical fault of a text has one line
abbrev pub LexicalFaultHasOneLine : Type 0
LexicalFaultHasOneLine = (text : List ℕ) (l m : ℕ) → HasLexicalFault text l → HasLexicalFault text m → l ≡ m

-- the fault of a text for a name that is too long has one line
abbrev pub NameFaultHasOneLine : Type 0
NameFaultHasOneLine = (text : List ℕ) (l m : ℕ) → HasNameFault text l → HasNameFault text m → l ≡ m

-- if bytes are not cut for a reason, they are rejected with the fault of this reason, in its line
abbrev pub ReasonsAreFaults : Type 0
ReasonsAreFaults = (bytes : List ℕ) (found : At Uncut) → IsUncut bytes found → IsRejected bytes (fault_of found.reason found.line)

-- the number of a reason, with its count or its bytes
abbrev pub content_of : Uncut → ℕ × List ℕ
content_of (reason.TooLong count) = (0, count ∷ [])
content_of (reason.NotAscii byte) = (1, byte ∷ [])
content_of (reason.NoToken byte) = (2, byte ∷ [])
content_of (reason.LargeNumber number) = (3, number.now)
content_of (reason.LongName name) = (4, name.now)

-- at most one reason, in one line, explains why bytes are not cut
abbrev pub HasOneReason : Type 0
HasOneReason =
    (bytes : List ℕ) (found other : At Uncut) → IsUncut bytes found → IsUncut bytes other
    → (found.line ≡ other.line) × (content_of found.reason ≡ content_of other.reason)

-- each token begins where the previous one ends or later, and ends after it begins
abbrev pub AreRising : ℕ → List Token → ℕ → Type 0
AreRising from [] to = from ≤ to
AreRising from (t ∷ ts) to = (from ≤ t.start) × (t.start < t.end) × AreRising t.end ts to

-- the tokens of a cut lie in order between the first byte and the end of the text
abbrev pub CutsRise : Type 0
CutsRise = (text : List ℕ) (ts : List Token) → IsTokenCut text ts → AreRising 0 ts (length text)

-- each token of a cut is a nonempty part of the text
abbrev pub CutsAreWithin : Type 0
CutsAreWithin =
    (text : List ℕ) (ts : List Token) → IsTokenCut text ts → All (λ t. (t.start < t.end) × (t.end ≤ length text)) ts
