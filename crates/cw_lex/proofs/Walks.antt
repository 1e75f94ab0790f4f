-- A traversal of a text is a sequence of steps, and at each place at most one step is possible.
use Rattle.std.proofs.Common.{◌≡◌, ℕ, zero, suc, ◌+◌, ◌-◌, ◌<◌, true, List, [], ◌∷◌, length, get_or, take, drop, Option, Some}
use Rattle.std.proofs.Common.{None, refl, sym, ap, subst, ◌∙◌, arith, inl, inr, ◌⊎◌, length-drop, add-zero}
use Rattle.std.proofs.lemmas.List.{get_or-drop, length-take}
use Rattle.cw_model.specs.declared.token.Token.{Token}
use Rattle.cw_model.specs.declared.token.Kind.{Kind}
use Rattle.cw_model.specs.Text.{line_at}
use Rattle.cw_model.specs.Pieces.{is_separator, is_comment, is_piece}
use Rattle.cw_model.specs.Tokens.{IsLongest, IsSpelled, IsToken, IsGap, none, separator, comment, AreTokens, StartsNothing, HasLargeNumber, HasLongName}
use Rattle.cw_lex.proofs.Apart.{separator_no_piece, spelled_no_comment, spelled_no_large, spelled_no_long, same_kind, number_no_comment, word_no_comment}

-- ---- steps

-- the piece at a place, and the place after it
pub data Step (text : List ℕ) : ℕ → Option Token → ℕ → Type 0 where
  past_separator : {at : ℕ} → at < length text → is_separator (get_or text at 0) ≡ true → Step text at None (at + 1)
  past_comment : {at : ℕ} (len : ℕ) → IsLongest (drop at text) len → is_comment (take len (drop at text)) ≡ true → Step text at None (at + len)
  past_token : {at : ℕ} (t : Token) → t.start ≡ at → IsToken text t → Step text at (Some t) t.end

pub same_longest : (bs : List ℕ) (m n : ℕ) → IsLongest bs m → IsLongest bs n → m ≡ n
same_longest bs m n a b =
    let le = a.longest n b.within b.piece in
    let ge = b.longest m a.within a.piece in
    omega arith

pub piece_some : (bs : List ℕ) (n : ℕ) → is_piece (take n bs) ≡ true → 0 < length bs
piece_some bs zero p = absurd cc
piece_some [] (suc n) p = absurd cc
piece_some (b ∷ bs) (suc n) p = omega arith

-- a separator at a place of the text is a separator at the front of the rest
at_front : (text : List ℕ) (at : ℕ) → is_separator (get_or text at 0) ≡ true → is_separator (get_or (drop at text) 0 0) ≡ true
at_front text at h = rw (get_or-drop, add-zero) h

-- a token, described at the place where it starts
pub token_here : (text : List ℕ) (at : ℕ) (t : Token) → t.start ≡ at → IsToken text t
    → IsLongest (drop at text) (t.end - at) × IsSpelled t.kind (take (t.end - at) (drop at text)) × (t.line ≡ line_at text at) × (at < t.end)
token_here text at t e h =
    let P : ℕ → Type 0 = λ s. IsLongest (drop s text) (t.end - s) × IsSpelled t.kind (take (t.end - s) (drop s text)) × (t.line ≡ line_at text s) × (s < t.end) in
    subst P e (h.longest, h.spelled, h.line, h.rises)

abbrev made : Kind → ℕ → ℕ → ℕ → Token
made k s e l = record { kind = k; start = s; end = e; line = l }

same_made : (k k' : Kind) (s s' e e' l l' : ℕ) → k ≡ k' → s ≡ s' → e ≡ e' → l ≡ l' → made k s e l ≡ made k' s' e' l'
same_made k k' s s' e e' l l' p q r u = rw (p, q, r, u) refl

same_token : (t u : Token) → t.kind ≡ u.kind → t.start ≡ u.start → t.end ≡ u.end → t.line ≡ u.line → t ≡ u
same_token t u p q r v = same_made t.kind u.kind t.start u.start t.end u.end t.line u.line p q r v

both_tokens : (text : List ℕ) (at : ℕ) (t u : Token) → t.start ≡ at → IsToken text t → u.start ≡ at → IsToken text u → t ≡ u
both_tokens text at t u e h f i =
    let a = token_here text at t e h in
    let b = token_here text at u f i in
    let len = same_longest (drop at text) (t.end - at) (u.end - at) a.0 b.0 in
    let spelled : IsSpelled u.kind (take (t.end - at) (drop at text)) = rw len b.1 in
    same_token t u (same_kind (take (t.end - at) (drop at text)) a.1 spelled) (e ∙ sym f) (omega (arith, len, a.3, b.3)) (a.2 ∙ sym b.2)

no_comment_and_token : (text : List ℕ) (at len : ℕ) (t : Token) → IsLongest (drop at text) len → is_comment (take len (drop at text)) ≡ true → t.start ≡ at → IsToken text t → ⊥
no_comment_and_token text at len t l c e h =
    let a = token_here text at t e h in
    let same = same_longest (drop at text) len (t.end - at) l a.0 in
    spelled_no_comment (take (t.end - at) (drop at text)) a.1 (rw (← same) c)

-- at most one step is possible
pub same_step : {text : List ℕ} {at m n : ℕ} {o p : Option Token} → Step text at o m → Step text at p n → (o ≡ p) × (m ≡ n)
same_step (past_separator lt s) (past_separator lt' s') = (refl, refl)
same_step {text = text} {at = at} (past_separator lt s) (past_comment len l c) = absurd (separator_no_piece (drop at text) len (at_front text at s) l.piece)
same_step {text = text} {at = at} (past_separator lt s) (past_token t e h) = absurd (separator_no_piece (drop at text) (t.end - at) (at_front text at s) (token_here text at t e h).0.piece)
same_step {text = text} {at = at} (past_comment len l c) (past_separator lt s) = absurd (separator_no_piece (drop at text) len (at_front text at s) l.piece)
same_step {text = text} {at = at} (past_comment len l c) (past_comment len' l' c') = (refl, ap (λ n. at + n) (same_longest (drop at text) len len' l l'))
same_step {text = text} {at = at} (past_comment len l c) (past_token t e h) = absurd (no_comment_and_token text at len t l c e h)
same_step {text = text} {at = at} (past_token t e h) (past_separator lt s) = absurd (separator_no_piece (drop at text) (t.end - at) (at_front text at s) (token_here text at t e h).0.piece)
same_step {text = text} {at = at} (past_token t e h) (past_comment len l c) = absurd (no_comment_and_token text at len t l c e h)
same_step {text = text} {at = at} (past_token t e h) (past_token u f i) = let same = both_tokens text at t u e h f i in (ap Some same, ap (λ v. v.end) same)

-- ---- traversals

abbrev add : Option Token → List Token → List Token
add None ts = ts
add (Some t) ts = t ∷ ts

pub data Walk (text : List ℕ) : ℕ → List Token → ℕ → Type 0 where
  stay : {at : ℕ} → Walk text at [] at
  go : {at mid to : ℕ} {o : Option Token} {ts us : List Token} → Step text at o mid → Walk text mid ts to → us ≡ add o ts → Walk text at us to

gap_walk : {text : List ℕ} {at mid to : ℕ} {ts : List Token} → IsGap text at mid → Walk text mid ts to → Walk text at ts to
gap_walk none w = w
gap_walk (separator lt s g) w = go (past_separator lt s) (gap_walk g w) refl
gap_walk (comment len l c g) w = go (past_comment len l c) (gap_walk g w) refl

-- the tokens between two places are the tokens of a traversal
pub walk_of : (text : List ℕ) (from : ℕ) (ts : List Token) (to : ℕ) → AreTokens text from ts to → Walk text from ts to
walk_of text from [] to g = gap_walk g stay
walk_of text from (t ∷ ts) to g = gap_walk g.0 (go (past_token t refl g.1) (walk_of text t.end ts to g.2) refl)

-- no step is possible
abbrev pub Stops : List ℕ → ℕ → Type 0
Stops text at = (o : Option Token) (m : ℕ) → Step text at o m → ⊥

added : (o p : Option Token) (ts us : List Token) → o ≡ p → ts ≡ us → add o ts ≡ add p us
added o p ts us e f = ap (λ x. add x ts) e ∙ ap (add p) f

-- two maximal traversals from one place are equal
pub same_walk : {text : List ℕ} {at to end : ℕ} {ts us : List Token} → Walk text at ts to → Walk text at us end → Stops text to → Stops text end → (ts ≡ us) × (to ≡ end)
same_walk stay stay s s' = (refl, refl)
same_walk stay (go st w e) s s' = absurd (s _ _ st)
same_walk (go st w e) stay s s' = absurd (s' _ _ st)
same_walk {text = text} {end = end} (go st w e) (go {ts = vs} st' w' e') s s' =
    let same = same_step st st' in
    let rest = same_walk w (subst (λ m. Walk text m vs end) (sym same.1) w') s s' in
    (e ∙ added _ _ _ _ same.0 rest.0 ∙ sym e', rest.1)

-- ---- the places where a traversal stops

step_within : {text : List ℕ} {at m : ℕ} {o : Option Token} → Step text at o m → at < length text
step_within (past_separator lt s) = lt
step_within {text = text} {at = at} (past_comment len l c) = omega (arith, piece_some (drop at text) len l.piece, length-drop at text)
step_within {text = text} {at = at} (past_token t e h) = omega (arith, piece_some (drop at text) (t.end - at) (token_here text at t e h).0.piece, length-drop at text)

pub stops_at_end : (text : List ℕ) → Stops text (length text)
stops_at_end text o m st = omega (arith, step_within st)

no_step_nothing : {text : List ℕ} {at m : ℕ} {o : Option Token} → StartsNothing (drop at text) → Step text at o m → ⊥
no_step_nothing {text = text} {at = at} f (past_separator lt s) = let is = at_front text at s in let not = f.separates in cc
no_step_nothing f (past_comment len l c) = let is = l.piece in let not = f.starts len in cc
no_step_nothing {text = text} {at = at} f (past_token t e h) = let is = (token_here text at t e h).0.piece in let not = f.starts (t.end - at) in cc

no_step_large : {text : List ℕ} {at m : ℕ} {o : Option Token} → HasLargeNumber (drop at text) → Step text at o m → ⊥
no_step_large {text = text} {at = at} f (past_separator lt s) = separator_no_piece (drop at text) f.len (at_front text at s) f.longest.piece
no_step_large {text = text} {at = at} f (past_comment len l c) = let same = same_longest (drop at text) len f.len l f.longest in number_no_comment (take f.len (drop at text)) f.number (rw (← same) c)
no_step_large {text = text} {at = at} f (past_token t e h) =
    let a = token_here text at t e h in
    let same = same_longest (drop at text) (t.end - at) f.len a.0 f.longest in
    spelled_no_large (take f.len (drop at text)) (let P : ℕ → Type 0 = λ n. IsSpelled t.kind (take n (drop at text)) in subst P same a.1) f.number f.large

no_step_long : {text : List ℕ} {at m : ℕ} {o : Option Token} → HasLongName (drop at text) → Step text at o m → ⊥
no_step_long {text = text} {at = at} f (past_separator lt s) = separator_no_piece (drop at text) f.len (at_front text at s) f.longest.piece
no_step_long {text = text} {at = at} f (past_comment len l c) = let same = same_longest (drop at text) len f.len l f.longest in word_no_comment (take f.len (drop at text)) f.word (rw (← same) c)
no_step_long {text = text} {at = at} f (past_token t e h) =
    let a = token_here text at t e h in
    let same = same_longest (drop at text) (t.end - at) f.len a.0 f.longest in
    spelled_no_long (take f.len (drop at text)) (let P : ℕ → Type 0 = λ n. IsSpelled t.kind (take n (drop at text)) in subst P same a.1) f.word
    f.name (omega (arith, f.long, f.longest.within, length-take f.len (drop at text)))

pub stops_at_lexical : (text : List ℕ) (at : ℕ) → StartsNothing (drop at text) ⊎ HasLargeNumber (drop at text) → Stops text at
stops_at_lexical text at (inl f) o m st = no_step_nothing f st
stops_at_lexical text at (inr f) o m st = no_step_large f st

pub stops_at_name : (text : List ℕ) (at : ℕ) → HasLongName (drop at text) → Stops text at
stops_at_name text at f o m st = no_step_long f st
