-- The kinds of tokens that the grammar names.
use Rattle.std.specs.Prelude.{Bool, true, false, if◌then◌else◌, List, [], ◌∷◌, Option, Some, None}
use Rattle.cw_model.specs.declared.token.Token.{Token}
use Rattle.cw_model.specs.declared.token.Kind.{Kind}
use Rattle.cw_model.specs.declared.token.Kind.TheVariants as kind
use Rattle.cw_parse.specs.declared.marks.Mark.{Mark}
use Rattle.cw_parse.specs.declared.marks.Mark.TheVariants as mark

-- a token of this kind matches the mark
abbrev pub is_mark : Mark → Kind → Bool
is_mark mark.Name kind.Name = true
is_mark mark.Int kind.Int = true
is_mark mark.Const kind.Const = true
is_mark mark.Else kind.Else = true
is_mark mark.At kind.At = true
is_mark mark.As kind.As = true
is_mark mark.Grain kind.Grain = true
is_mark mark.Over kind.Over = true
is_mark mark.Spawn kind.Spawn = true
is_mark mark.LeftParen kind.LeftParen = true
is_mark mark.RightParen kind.RightParen = true
is_mark mark.LeftBracket kind.LeftBracket = true
is_mark mark.RightBracket kind.RightBracket = true
is_mark mark.LeftBrace kind.LeftBrace = true
is_mark mark.RightBrace kind.RightBrace = true
is_mark mark.Comma kind.Comma = true
is_mark mark.Semicolon kind.Semicolon = true
is_mark mark.Assign kind.Assign = true
is_mark mark.Increment kind.Increment = true
is_mark mark.Less kind.Less = true
is_mark _ _ = false

-- the first token and the tokens after it, if the first token matches the mark
abbrev pub past : Mark → List Token → Option (Token × List Token)
past m [] = None
past m (t ∷ ts) = if is_mark m t.kind then Some (t, ts) else None
