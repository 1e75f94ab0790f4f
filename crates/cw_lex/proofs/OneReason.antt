-- Bytes are not cut for one reason, in one line.
use Rattle.std.proofs.Common.{◌≡◌, ℕ, ◌≤◌, List, [], ◌∷◌, length, get_or, take, drop, sym, ap, subst, ◌∙◌, arith, inl, inr}
use Rattle.cw_model.specs.declared.limits.TheConstants.{MOST_SOURCE_BYTES}
use Rattle.cw_model.specs.Text.{line_at, IsNotAscii, IsSourceText, IsTooLong}
use Rattle.cw_model.specs.Tokens.{FaultAt}
use Rattle.cw_model.specs.lemmas.Firsts.{same_above}
use Rattle.cw_lex.specs.declared.reason.Uncut.{Uncut}
use Rattle.cw_lex.specs.declared.reason.Uncut.TheVariants as reason
use Rattle.cw_lex.specs.Laws.{HasOneReason, content_of}
use Rattle.cw_lex.specs.Uncut.{IsNoToken, IsUncutFor}
use Rattle.cw_lex.proofs.Apart.{word_no_number}
use Rattle.cw_lex.proofs.Walks.{same_longest, Stops, stops_at_lexical, stops_at_name}
use Rattle.cw_lex.proofs.OneAnswer.{same_before}

stops_for : (text : List ℕ) (at : ℕ) (r : Uncut) → IsNoToken r (drop at text) → Stops text at
stops_for text at (reason.TooLong n) h = absurd h
stops_for text at (reason.NotAscii b) h = absurd h
stops_for text at (reason.NoToken b) h = stops_at_lexical text at (inl h.0)
stops_for text at (reason.LargeNumber w) h = stops_at_lexical text at (inr h.0)
stops_for text at (reason.LongName w) h = stops_at_name text at h.0

abbrev content : ℕ → List ℕ → ℕ × List ℕ
content which bytes = (which, bytes)

abbrev content_byte : ℕ → ℕ → ℕ × List ℕ
content_byte which byte = (which, byte ∷ [])

word_here : (bytes : List ℕ) (which m n : ℕ) (v w : List ℕ) → v ≡ take m bytes → w ≡ take n bytes → m ≡ n → content which v ≡ content which w
word_here bytes which m n v w e f same = ap (content which) (e ∙ ap (λ k. take k bytes) same ∙ sym f)

one_here : (bytes : List ℕ) (r s : Uncut) → IsNoToken r bytes → IsNoToken s bytes → content_of r ≡ content_of s
one_here bytes (reason.TooLong n) s h k = absurd h
one_here bytes (reason.NotAscii b) s h k = absurd h
one_here bytes r (reason.TooLong n) h k = absurd k
one_here bytes r (reason.NotAscii b) h k = absurd k
one_here bytes (reason.NoToken b) (reason.NoToken c) h k = ap (content_byte 2) (h.1 ∙ sym k.1)
one_here bytes (reason.NoToken b) (reason.LargeNumber w) h k = absurd (let is = k.0.longest.piece in let not = h.0.starts k.0.len in cc)
one_here bytes (reason.NoToken b) (reason.LongName w) h k = absurd (let is = k.0.longest.piece in let not = h.0.starts k.0.len in cc)
one_here bytes (reason.LargeNumber v) (reason.NoToken c) h k = absurd (let is = h.0.longest.piece in let not = k.0.starts h.0.len in cc)
one_here bytes (reason.LargeNumber v) (reason.LargeNumber w) h k = word_here bytes 3 h.0.len k.0.len v.now w.now h.1 k.1 (same_longest bytes h.0.len k.0.len h.0.longest k.0.longest)
one_here bytes (reason.LargeNumber v) (reason.LongName w) h k =
    let same = same_longest bytes h.0.len k.0.len h.0.longest k.0.longest in
    absurd (word_no_number (take k.0.len bytes) k.0.word (rw (← same) h.0.number))
one_here bytes (reason.LongName v) (reason.NoToken c) h k = absurd (let is = h.0.longest.piece in let not = k.0.starts h.0.len in cc)
one_here bytes (reason.LongName v) (reason.LargeNumber w) h k =
    let same = same_longest bytes h.0.len k.0.len h.0.longest k.0.longest in
    absurd (word_no_number (take h.0.len bytes) h.0.word (rw same k.0.number))
one_here bytes (reason.LongName v) (reason.LongName w) h k = word_here bytes 4 h.0.len k.0.len v.now w.now h.1 k.1 (same_longest bytes h.0.len k.0.len h.0.longest k.0.longest)

abbrev AreOne : (r s : Uncut) (l m : ℕ) → Type 0
AreOne r s l m = (l ≡ m) × (content_of r ≡ content_of s)

one_text : (text : List ℕ) (r s : Uncut) (l m : ℕ) → FaultAt (IsNoToken r) text l → FaultAt (IsNoToken s) text m → AreOne r s l m
one_text text r s l m f g =
    let same = same_before text f.tokens g.tokens f.at g.at f.before g.before (stops_for text f.at r f.faulty) (stops_for text g.at s g.faulty) in
    (f.same_line ∙ ap (line_at text) same.1 ∙ sym g.same_line, one_here (drop f.at text) r s f.faulty (subst (λ at. IsNoToken s (drop at text)) (sym same.1) g.faulty))

above_apart : (bytes : List ℕ) (l : ℕ) → IsNotAscii bytes l → IsSourceText bytes → ⊥
above_apart bytes l f s = let low = s.ascii f.at 0 f.above.within in omega (arith, low, f.above.above)

long_apart : (bytes : List ℕ) (l : ℕ) → IsTooLong bytes l → length bytes ≤ MOST_SOURCE_BYTES → ⊥
long_apart bytes l f short = omega (arith, f.long)

one_above : (bytes : List ℕ) (b c l m : ℕ) (f : IsNotAscii bytes l) (g : IsNotAscii bytes m) → b ≡ get_or bytes f.at 0 → c ≡ get_or bytes g.at 0 → AreOne (reason.NotAscii b) (reason.NotAscii c) l m
one_above bytes b c l m f g e h =
    let same = same_above bytes f.at g.at f.above g.above in
    (f.same_line ∙ ap (line_at bytes) same ∙ sym g.same_line, ap (content_byte 1) (e ∙ ap (λ k. get_or bytes k 0) same ∙ sym h))

one_for : (bytes : List ℕ) (r s : Uncut) (l m : ℕ) → IsUncutFor bytes r l → IsUncutFor bytes s m → AreOne r s l m
one_for bytes (reason.TooLong n) (reason.TooLong o) l m h k = (h.0.first ∙ sym k.0.first, ap (content_byte 0) (h.1 ∙ sym k.1))
one_for bytes (reason.TooLong n) (reason.NotAscii c) l m h k = absurd (long_apart bytes l h.0 k.0.short)
one_for bytes (reason.TooLong n) (reason.NoToken c) l m h k = absurd (long_apart bytes l h.0 k.0.short)
one_for bytes (reason.TooLong n) (reason.LargeNumber w) l m h k = absurd (long_apart bytes l h.0 k.0.short)
one_for bytes (reason.TooLong n) (reason.LongName w) l m h k = absurd (long_apart bytes l h.0 k.0.short)
one_for bytes (reason.NotAscii b) (reason.TooLong o) l m h k = absurd (long_apart bytes m k.0 h.0.short)
one_for bytes (reason.NotAscii b) (reason.NotAscii c) l m h k = one_above bytes b c l m h.0 k.0 h.1 k.1
one_for bytes (reason.NotAscii b) (reason.NoToken c) l m h k = absurd (above_apart bytes l h.0 k.0)
one_for bytes (reason.NotAscii b) (reason.LargeNumber w) l m h k = absurd (above_apart bytes l h.0 k.0)
one_for bytes (reason.NotAscii b) (reason.LongName w) l m h k = absurd (above_apart bytes l h.0 k.0)
one_for bytes (reason.NoToken b) (reason.TooLong o) l m h k = absurd (long_apart bytes m k.0 h.0.short)
one_for bytes (reason.NoToken b) (reason.NotAscii c) l m h k = absurd (above_apart bytes m k.0 h.0)
one_for bytes (reason.NoToken b) (reason.NoToken c) l m h k = one_text bytes (reason.NoToken b) (reason.NoToken c) l m h.1 k.1
one_for bytes (reason.NoToken b) (reason.LargeNumber w) l m h k = one_text bytes (reason.NoToken b) (reason.LargeNumber w) l m h.1 k.1
one_for bytes (reason.NoToken b) (reason.LongName w) l m h k = one_text bytes (reason.NoToken b) (reason.LongName w) l m h.1 k.1
one_for bytes (reason.LargeNumber v) (reason.TooLong o) l m h k = absurd (long_apart bytes m k.0 h.0.short)
one_for bytes (reason.LargeNumber v) (reason.NotAscii c) l m h k = absurd (above_apart bytes m k.0 h.0)
one_for bytes (reason.LargeNumber v) (reason.NoToken c) l m h k = one_text bytes (reason.LargeNumber v) (reason.NoToken c) l m h.1 k.1
one_for bytes (reason.LargeNumber v) (reason.LargeNumber w) l m h k = one_text bytes (reason.LargeNumber v) (reason.LargeNumber w) l m h.1 k.1
one_for bytes (reason.LargeNumber v) (reason.LongName w) l m h k = one_text bytes (reason.LargeNumber v) (reason.LongName w) l m h.1 k.1
one_for bytes (reason.LongName v) (reason.TooLong o) l m h k = absurd (long_apart bytes m k.0 h.0.short)
one_for bytes (reason.LongName v) (reason.NotAscii c) l m h k = absurd (above_apart bytes m k.0 h.0)
one_for bytes (reason.LongName v) (reason.NoToken c) l m h k = one_text bytes (reason.LongName v) (reason.NoToken c) l m h.1 k.1
one_for bytes (reason.LongName v) (reason.LargeNumber w) l m h k = one_text bytes (reason.LongName v) (reason.LargeNumber w) l m h.1 k.1
one_for bytes (reason.LongName v) (reason.LongName w) l m h k = one_text bytes (reason.LongName v) (reason.LongName w) l m h.1 k.1

pub one_reason : HasOneReason
one_reason bytes found other h k = one_for bytes found.reason other.reason found.line other.line h k
