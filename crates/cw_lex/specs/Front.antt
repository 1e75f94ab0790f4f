-- The token, separator or comment at the front of a text.
use Rattle.std.specs.Prelude.{◌≡◌, ℕ, ◌<◌, Bool, true, List, take, slice_index}
use Rattle.cw_lex.specs.declared.front.Front.{Front}
use Rattle.cw_lex.specs.declared.front.Front.TheVariants as front
use Rattle.cw_lex.specs.declared.bytes.Class.{Class}
use Rattle.cw_lex.specs.declared.bytes.Class.TheVariants as class
use Rattle.cw_model.specs.Pieces.{is_separator, is_digit, is_word_byte, is_inner, is_comment}
use Rattle.cw_model.specs.Tokens.{IsLongest, IsSpelled}
use Rattle.cw_lex.specs.Uncut.{IsNoToken}

-- whether a byte belongs to a class
abbrev pub passes : Class → ℕ → Bool
passes class.Digit b = is_digit b
passes class.Word b = is_word_byte b
passes class.Inner b = is_inner b

-- the condition that a text satisfies if it has this front
abbrev pub IsFront : List ℕ → Front → Type 0
IsFront bytes front.Separator = is_separator (slice_index bytes 0) ≡ true
IsFront bytes (front.Comment len) = (0 < len) × IsLongest bytes len × (is_comment (take len bytes) ≡ true)
IsFront bytes (front.Token k len) = (0 < len) × IsLongest bytes len × IsSpelled k (take len bytes)
IsFront bytes (front.Uncut reason) = IsNoToken reason bytes
