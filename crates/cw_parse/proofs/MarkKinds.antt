-- The kinds that match each mark.
use Rattle.std.proofs.Common.{◌≡◌, true, refl, ap, ◌∙◌}
use Rattle.cw_model.specs.declared.token.Kind.{Kind}
use Rattle.cw_model.specs.declared.token.Kind.TheVariants as kind
use Rattle.cw_parse.specs.declared.marks.Mark.{Mark}
use Rattle.cw_parse.specs.declared.marks.Mark.TheVariants as mark
use Rattle.cw_parse.specs.Marks.{is_mark}
use Rattle.cw_parse.proofs.Exact.{Passes}

-- the kind that matches a mark
abbrev pub kind_of : Mark → Kind
kind_of mark.Name = kind.Name
kind_of mark.Int = kind.Int
kind_of mark.Const = kind.Const
kind_of mark.Else = kind.Else
kind_of mark.At = kind.At
kind_of mark.As = kind.As
kind_of mark.Grain = kind.Grain
kind_of mark.Over = kind.Over
kind_of mark.Spawn = kind.Spawn
kind_of mark.LeftParen = kind.LeftParen
kind_of mark.RightParen = kind.RightParen
kind_of mark.LeftBracket = kind.LeftBracket
kind_of mark.RightBracket = kind.RightBracket
kind_of mark.LeftBrace = kind.LeftBrace
kind_of mark.RightBrace = kind.RightBrace
kind_of mark.Comma = kind.Comma
kind_of mark.Semicolon = kind.Semicolon
kind_of mark.Assign = kind.Assign
kind_of mark.Increment = kind.Increment
kind_of mark.Less = kind.Less

-- a kind matches a mark
abbrev pub Is : Mark → Kind → Type 0
Is m k = k ≡ kind_of m

mark_only : (m : Mark) (k : Kind) → is_mark m k ≡ true → k ≡ kind_of m
mark_only mark.Name kind.Name e = refl
mark_only mark.Name _ e = absurd cc
mark_only mark.Int kind.Int e = refl
mark_only mark.Int _ e = absurd cc
mark_only mark.Const kind.Const e = refl
mark_only mark.Const _ e = absurd cc
mark_only mark.Else kind.Else e = refl
mark_only mark.Else _ e = absurd cc
mark_only mark.At kind.At e = refl
mark_only mark.At _ e = absurd cc
mark_only mark.As kind.As e = refl
mark_only mark.As _ e = absurd cc
mark_only mark.Grain kind.Grain e = refl
mark_only mark.Grain _ e = absurd cc
mark_only mark.Over kind.Over e = refl
mark_only mark.Over _ e = absurd cc
mark_only mark.Spawn kind.Spawn e = refl
mark_only mark.Spawn _ e = absurd cc
mark_only mark.LeftParen kind.LeftParen e = refl
mark_only mark.LeftParen _ e = absurd cc
mark_only mark.RightParen kind.RightParen e = refl
mark_only mark.RightParen _ e = absurd cc
mark_only mark.LeftBracket kind.LeftBracket e = refl
mark_only mark.LeftBracket _ e = absurd cc
mark_only mark.RightBracket kind.RightBracket e = refl
mark_only mark.RightBracket _ e = absurd cc
mark_only mark.LeftBrace kind.LeftBrace e = refl
mark_only mark.LeftBrace _ e = absurd cc
mark_only mark.RightBrace kind.RightBrace e = refl
mark_only mark.RightBrace _ e = absurd cc
mark_only mark.Comma kind.Comma e = refl
mark_only mark.Comma _ e = absurd cc
mark_only mark.Semicolon kind.Semicolon e = refl
mark_only mark.Semicolon _ e = absurd cc
mark_only mark.Assign kind.Assign e = refl
mark_only mark.Assign _ e = absurd cc
mark_only mark.Increment kind.Increment e = refl
mark_only mark.Increment _ e = absurd cc
mark_only mark.Less kind.Less e = refl
mark_only mark.Less _ e = absurd cc

mark_is : (m : Mark) → is_mark m (kind_of m) ≡ true
mark_is mark.Name = refl
mark_is mark.Int = refl
mark_is mark.Const = refl
mark_is mark.Else = refl
mark_is mark.At = refl
mark_is mark.As = refl
mark_is mark.Grain = refl
mark_is mark.Over = refl
mark_is mark.Spawn = refl
mark_is mark.LeftParen = refl
mark_is mark.RightParen = refl
mark_is mark.LeftBracket = refl
mark_is mark.RightBracket = refl
mark_is mark.LeftBrace = refl
mark_is mark.RightBrace = refl
mark_is mark.Comma = refl
mark_is mark.Semicolon = refl
mark_is mark.Assign = refl
mark_is mark.Increment = refl
mark_is mark.Less = refl

pub passes : (m : Mark) → Passes (is_mark m) (Is m)
passes m = record { only = mark_only m; is = λ k e. ap (is_mark m) e ∙ mark_is m }
