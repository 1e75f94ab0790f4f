-- A text has one result: its token cut, or the line of its only fault.
use Rattle.std.proofs.Common.{◌≡◌, ℕ, ◌<◌, List, length, take, drop, sym, ap, subst, ◌∙◌, arith, inl, inr, ◌⊎◌, length-drop}
use Rattle.cw_model.specs.declared.token.Token.{Token}
use Rattle.cw_model.specs.Text.{line_at}
use Rattle.cw_model.specs.Tokens.{AreTokens, IsTokenCut, StartsNothing, HasLargeNumber, HasLongName, HasLexicalFault, HasNameFault}
use Rattle.cw_lex.proofs.Apart.{word_no_number}
use Rattle.cw_lex.proofs.Walks.{same_longest, piece_some, walk_of, same_walk, Stops, stops_at_end, stops_at_lexical, stops_at_name}

-- two cuts of prefixes at whose ends no step is possible have the same tokens and the same end
pub same_before : (text : List ℕ) (ts us : List Token) (at to : ℕ) → AreTokens text 0 ts at → AreTokens text 0 us to → Stops text at → Stops text to → (ts ≡ us) × (at ≡ to)
same_before text ts us at to a b s r = same_walk (walk_of text 0 ts at a) (walk_of text 0 us to b) s r

pub one_cut : (text : List ℕ) (ts us : List Token) → IsTokenCut text ts → IsTokenCut text us → ts ≡ us
one_cut text ts us a b = (same_before text ts us (length text) (length text) a b (stops_at_end text) (stops_at_end text)).0

lexical_within : (text : List ℕ) (at : ℕ) → StartsNothing (drop at text) ⊎ HasLargeNumber (drop at text) → at < length text
lexical_within text at (inl f) = omega (arith, f.some, length-drop at text)
lexical_within text at (inr f) = omega (arith, piece_some (drop at text) f.len f.longest.piece, length-drop at text)

name_within : (text : List ℕ) (at : ℕ) → HasLongName (drop at text) → at < length text
name_within text at f = omega (arith, piece_some (drop at text) f.len f.longest.piece, length-drop at text)

pub no_cut : (text : List ℕ) (line : ℕ) (ts : List Token) → HasLexicalFault text line ⊎ HasNameFault text line → IsTokenCut text ts → ⊥
no_cut text line ts (inl f) cut =
    let same = same_before text f.tokens ts f.at (length text) f.before cut (stops_at_lexical text f.at f.faulty) (stops_at_end text) in
    omega (arith, same.1, lexical_within text f.at f.faulty)
no_cut text line ts (inr f) cut =
    let same = same_before text f.tokens ts f.at (length text) f.before cut (stops_at_name text f.at f.faulty) (stops_at_end text) in
    omega (arith, same.1, name_within text f.at f.faulty)

kinds_apart : (bytes : List ℕ) → StartsNothing bytes ⊎ HasLargeNumber bytes → HasLongName bytes → ⊥
kinds_apart bytes (inl f) g = let is = g.longest.piece in let not = f.starts g.len in cc
kinds_apart bytes (inr f) g =
    let same = same_longest bytes f.len g.len f.longest g.longest in
    word_no_number (take g.len bytes) g.word (rw (← same) f.number)

pub one_kind : (text : List ℕ) (l m : ℕ) → HasLexicalFault text l → HasNameFault text m → ⊥
one_kind text l m f g =
    let same = same_before text f.tokens g.tokens f.at g.at f.before g.before (stops_at_lexical text f.at f.faulty) (stops_at_name text g.at g.faulty) in
    let P : ℕ → Type 0 = λ at. HasLongName (drop at text) in
    kinds_apart (drop f.at text) f.faulty (subst P (sym same.1) g.faulty)

pub lexical_line : (text : List ℕ) (l m : ℕ) → HasLexicalFault text l → HasLexicalFault text m → l ≡ m
lexical_line text l m f g =
    let same = same_before text f.tokens g.tokens f.at g.at f.before g.before (stops_at_lexical text f.at f.faulty) (stops_at_lexical text g.at g.faulty) in
    f.same_line ∙ ap (line_at text) same.1 ∙ sym g.same_line

pub name_line : (text : List ℕ) (l m : ℕ) → HasNameFault text l → HasNameFault text m → l ≡ m
name_line text l m f g =
    let same = same_before text f.tokens g.tokens f.at g.at f.before g.before (stops_at_name text f.at f.faulty) (stops_at_name text g.at g.faulty) in
    f.same_line ∙ ap (line_at text) same.1 ∙ sym g.same_line
