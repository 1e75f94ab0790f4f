-- Bytes as the text of an HTML element.
use Rattle.std.specs.Prelude.{◌≡◌, ℕ, suc, ◌+◌, ◌<◌, ◌==◌, ◌&&◌, ◌||◌, nat_le, nat_lt, Bool}
use Rattle.std.specs.Prelude.{if◌then◌else◌, List, [], ◌∷◌, ◌++◌, All, flat_map, length, codes, decimal}
use Rattle.std.specs.Prelude.{Option, Some, None, option_map}
use Rattle.cw_model.specs.Pieces.{is_digit}

-- `&`, `<`, `>`, both quotes, and CR, which HTML would read as LF
abbrev pub is_special : ℕ → Bool
is_special b = (b == 38) || (b == 60) || (b == 62) || (b == 34) || (b == 39) || (b == 13)

-- TAB, LF, and the visible characters of ASCII with the space
abbrev pub is_shown : ℕ → Bool
is_shown b = (b == 9) || (b == 10) || (nat_le 32 b && nat_le b 126)

-- the reference to a character
abbrev pub reference : ℕ → List ℕ
reference n = codes "&#" ++ (decimal n ++ codes ";")

-- a byte as one character: itself, or a reference to it; the picture of a control character; or, above 127, the
-- replacement character
abbrev pub escaped_byte : ℕ → List ℕ
escaped_byte b =
    if is_special b then reference b else
    if is_shown b then b ∷ [] else
    if nat_lt b 32 then reference (9216 + b) else
    if b == 127 then reference 9249 else reference 65533

-- a text
abbrev pub escaped : List ℕ → List ℕ
escaped text = flat_map escaped_byte text

-- ---- how HTML reads an escaped text

-- `<`, `>` and both quotes
abbrev pub is_markup : ℕ → Bool
is_markup b = (b == 60) || (b == 62) || (b == 34) || (b == 39)

-- between two characters, after `&`, after `&#`, or after `&#` and digits
pub data Reading : Type 0 where
  between : Reading
  started : Reading
  begun : Reading
  numbered : Reading

-- the number of characters of a text, where `&#`, digits and `;` are one, and every other byte is one; none if the text has
-- markup, or `&` that does not begin such a reference
abbrev pub characters : Reading → List ℕ → Option ℕ
characters between [] = Some 0
characters started [] = None
characters begun [] = None
characters numbered [] = None
characters between (x ∷ xs) =
    if x == 38 then characters started xs else if is_markup x then None else option_map suc (characters between xs)
characters started (x ∷ xs) = if x == 35 then characters begun xs else None
characters begun (x ∷ xs) = if is_digit x then characters numbered xs else None
characters numbered (x ∷ xs) =
    if is_digit x then characters numbered xs else if x == 59 then option_map suc (characters between xs) else None

-- escaped bytes are a text without markup, with one character for each byte
abbrev pub EscapedIsText : Type 0
EscapedIsText = (text : List ℕ) → All (λ b. b < 256) text → characters between (escaped text) ≡ Some (length text)
