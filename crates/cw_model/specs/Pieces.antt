-- The pieces of a text: words, numbers, symbols and comments.
use Rattle.std.specs.Prelude.{ℕ, ◌+◌, ◌*◌, ◌-◌, Bool, true, false, ◌&&◌, ◌||◌, not, nat_le, ◌==◌, if◌then◌else◌, List}
use Rattle.std.specs.Prelude.{[], ◌∷◌, Option, Some, None, is_some, fold}
use Rattle.std.specs.List.{list_all}
use Rattle.cw_model.specs.declared.token.Kind.{Kind}
use Rattle.cw_model.specs.declared.token.Kind.TheVariants as kind

-- a separator: space, tab, CR or LF
abbrev pub is_separator : ℕ → Bool
is_separator b = b == 32 || b == 9 || b == 13 || b == 10

-- a digit: 0 to 9
abbrev pub is_digit : ℕ → Bool
is_digit b = nat_le 48 b && nat_le b 57

-- a letter: a to z, A to Z, or _
abbrev pub is_letter : ℕ → Bool
is_letter b = (nat_le 97 b && nat_le b 122) || (nat_le 65 b && nat_le b 90) || b == 95

-- a byte of a word: a letter or a digit
abbrev pub is_word_byte : ℕ → Bool
is_word_byte b = is_letter b || is_digit b

-- a byte inside a line: any byte but LF
abbrev pub is_inner : ℕ → Bool
is_inner b = not (b == 10)

-- the symbol that one byte spells
abbrev pub one_byte : ℕ → Option Kind
one_byte b =
    if b == 40 then Some kind.LeftParen else
    if b == 41 then Some kind.RightParen else
    if b == 123 then Some kind.LeftBrace else
    if b == 125 then Some kind.RightBrace else
    if b == 91 then Some kind.LeftBracket else
    if b == 93 then Some kind.RightBracket else
    if b == 44 then Some kind.Comma else
    if b == 59 then Some kind.Semicolon else
    if b == 61 then Some kind.Assign else
    if b == 43 then Some kind.Plus else
    if b == 45 then Some kind.Minus else
    if b == 42 then Some kind.Star else
    if b == 47 then Some kind.Slash else
    if b == 37 then Some kind.Percent else
    if b == 60 then Some kind.Less else
    if b == 62 then Some kind.Greater else
    if b == 33 then Some kind.Not else None

-- the symbol that two bytes spell
abbrev pub two_bytes : ℕ → ℕ → Option Kind
two_bytes b c =
    if b == 43 && c == 61 then Some kind.AddAssign else
    if b == 43 && c == 43 then Some kind.Increment else
    if b == 60 && c == 61 then Some kind.LessEqual else
    if b == 62 && c == 61 then Some kind.GreaterEqual else
    if b == 61 && c == 61 then Some kind.Equal else
    if b == 33 && c == 61 then Some kind.NotEqual else None

-- the symbol that these bytes spell
abbrev pub symbol : List ℕ → Option Kind
symbol [] = None
symbol (b ∷ []) = one_byte b
symbol (b ∷ c ∷ []) = two_bytes b c
symbol (b ∷ c ∷ d ∷ bs) = None

-- a comment: two slashes, then bytes other than LF
abbrev pub is_comment : List ℕ → Bool
is_comment [] = false
is_comment (b ∷ []) = false
is_comment (b ∷ c ∷ cs) = b == 47 && c == 47 && list_all is_inner cs

-- a word: a letter, then letters and digits
abbrev pub is_word : List ℕ → Bool
is_word [] = false
is_word (b ∷ bs) = is_letter b && list_all is_word_byte bs

-- the list has no byte
abbrev pub is_empty : List ℕ → Bool
is_empty [] = true
is_empty (b ∷ bs) = false

-- a number: 0, or digits that do not start with 0
abbrev pub is_number : List ℕ → Bool
is_number [] = false
is_number (b ∷ bs) = is_digit b && (if b == 48 then is_empty bs else list_all is_digit bs)

-- a piece: a token or a comment
abbrev pub is_piece : List ℕ → Bool
is_piece bs = is_word bs || is_number bs || is_some (symbol bs) || is_comment bs

-- the value of a decimal number
abbrev pub decimal_value : List ℕ → ℕ
decimal_value digits = fold (λ n b. 10 * n + (b - 48)) 0 digits
