-- The token cut: the only way to divide a text into tokens, and the first place where the text cannot be divided.
use Rattle.std.specs.Prelude.{◌≡◌, ℕ, ◌+◌, ◌-◌, ◌<◌, ◌≤◌, true, false, if◌then◌else◌, List, [], ◌∷◌, length, take}
use Rattle.std.specs.Prelude.{drop, slice_index, codes, Some, ◌⊎◌}
use Rattle.std.specs.Str.{bytes_eq}
use Rattle.cw_model.specs.declared.token.Token.{Token}
use Rattle.cw_model.specs.declared.token.Kind.{Kind}
use Rattle.cw_model.specs.declared.token.Kind.TheVariants as kind
use Rattle.cw_model.specs.declared.limits.TheConstants.{MOST_NAME_BYTES, MOST_NUMBER}
use Rattle.cw_model.specs.Text.{line_at, between}
use Rattle.cw_model.specs.Pieces.{is_separator, is_word, is_number, is_comment, is_piece, symbol, decimal_value}

-- the keywords, which are not names
abbrev pub keywords : List (List ℕ × Kind)
keywords =
    (codes "int", kind.Int) ∷ (codes "void", kind.Void) ∷ (codes "const", kind.Const) ∷ (codes "if", kind.If)
    ∷ (codes "else", kind.Else) ∷ (codes "while", kind.While) ∷
    (codes "return", kind.Return) ∷ (codes "print", kind.Print) ∷ (codes "len", kind.Len) ∷ (codes "cut", kind.Cut)
    ∷ (codes "at", kind.At) ∷
    (codes "as", kind.As) ∷ (codes "region", kind.Region) ∷ (codes "reducer", kind.Reducer) ∷ (codes "sum", kind.Sum)
    ∷ (codes "max", kind.Max)
    ∷ (codes "grain", kind.Grain) ∷
    (codes "over", kind.Over) ∷ (codes "cilk_spawn", kind.Spawn) ∷ (codes "cilk_sync", kind.Sync)
    ∷ (codes "cilk_scope", kind.Scope) ∷
    (codes "cilk_for", kind.For) ∷ []

-- the keyword in a table that equals a word, or a name if there is none
abbrev pub lookup : List (List ℕ × Kind) → List ℕ → Kind
lookup [] word = kind.Name
lookup (k ∷ ks) word = if bytes_eq k.0 word then k.1 else lookup ks word

-- the token kind of a word: a keyword, or a name
unfoldable pub word_kind : List ℕ → Kind
word_kind = lookup keywords

-- the longest piece at the start of these bytes has this length
pub record IsLongest (bytes : List ℕ) (len : ℕ) : Type 0 where
  pub within : len ≤ length bytes
  pub piece : is_piece (take len bytes) ≡ true
  pub longest : (n : ℕ) → n ≤ length bytes → is_piece (take n bytes) ≡ true → n ≤ len

-- the text that spells a token of each kind
pub data IsSpelled : Kind → List ℕ → Type 0 where
  word : {text : List ℕ} → is_word text ≡ true → (word_kind text ≡ kind.Name → length text ≤ MOST_NAME_BYTES)
      → IsSpelled (word_kind text) text
  number : {text : List ℕ} → is_number text ≡ true → decimal_value text ≤ MOST_NUMBER
      → IsSpelled (kind.Number (decimal_value text)) text
  mark : {k : Kind} {text : List ℕ} → symbol text ≡ Some k → IsSpelled k text

-- a token of the text: the longest piece at its position, with its kind and its line
pub record IsToken (text : List ℕ) (t : Token) : Type 0 where
  pub rises : t.start < t.end
  pub longest : IsLongest (drop t.start text) (t.end - t.start)
  pub spelled : IsSpelled t.kind (between text t.start t.end)
  pub line : t.line ≡ line_at text t.start

-- there are only separators and comments from one position to another
pub data IsGap (text : List ℕ) : ℕ → ℕ → Type 0 where
  none : {at : ℕ} → IsGap text at at
  separator : {at to : ℕ} → at < length text → is_separator (slice_index text at) ≡ true → IsGap text (at + 1) to
      → IsGap text at to
  comment : {at to : ℕ} (len : ℕ) → IsLongest (drop at text) len → is_comment (take len (drop at text)) ≡ true
      → IsGap text (at + len) to → IsGap text at to

-- the bytes between two positions are exactly these tokens, with gaps before, between and after them
abbrev pub AreTokens : List ℕ → ℕ → List Token → ℕ → Type 0
AreTokens text from [] to = IsGap text from to
AreTokens text from (t ∷ ts) to = IsGap text from t.start × IsToken text t × AreTokens text t.end ts to

-- the token cut of the whole text
abbrev pub IsTokenCut : List ℕ → List Token → Type 0
IsTokenCut text ts = AreTokens text 0 ts (length text)

-- there are bytes, and they start with no token, comment or separator
pub record StartsNothing (bytes : List ℕ) : Type 0 where
  pub some : 0 < length bytes
  pub separates : is_separator (slice_index bytes 0) ≡ false
  pub starts : (n : ℕ) → is_piece (take n bytes) ≡ false

-- these bytes start with a number above the maximum
pub record HasLargeNumber (bytes : List ℕ) : Type 0 where
  pub len : ℕ
  pub longest : IsLongest bytes len
  pub number : is_number (take len bytes) ≡ true
  pub large : MOST_NUMBER < decimal_value (take len bytes)

-- these bytes start with a name above the maximum length
pub record HasLongName (bytes : List ℕ) : Type 0 where
  pub len : ℕ
  pub longest : IsLongest bytes len
  pub word : is_word (take len bytes) ≡ true
  pub name : word_kind (take len bytes) ≡ kind.Name
  pub long : MOST_NAME_BYTES < len

-- the text before a position divides into tokens, and the bytes at that position are faulty
pub record FaultAt (Faulty : List ℕ → Type 0) (text : List ℕ) (line : ℕ) : Type 0 where
  pub tokens : List Token
  pub at : ℕ
  pub before : AreTokens text 0 tokens at
  pub faulty : Faulty (drop at text)
  pub same_line : line ≡ line_at text at

-- the first fault of the text is in this line: a byte that starts no token, or a number above the maximum
abbrev pub HasLexicalFault : List ℕ → ℕ → Type 0
HasLexicalFault text line = FaultAt (λ bytes. StartsNothing bytes ⊎ HasLargeNumber bytes) text line

-- the first fault of the text is in this line: a name above the maximum length
abbrev pub HasNameFault : List ℕ → ℕ → Type 0
HasNameFault text line = FaultAt HasLongName text line
