-- Readers: functions that read tokens from left to right and stop at the first token that does not fit.
use Rattle.std.specs.Prelude.{◌≡◌, ℕ, zero, suc, Bool, if◌then◌else◌, List, [], ◌∷◌, length, Result, Ok, Err}
use Rattle.std.specs.Borrow.{Bor}
use Rattle.cw_model.specs.declared.token.Token.{Token}
use Rattle.cw_model.specs.declared.token.Kind.{Kind}
use Rattle.cw_parse.specs.declared.stop.Stop.{Stop}
use Rattle.cw_parse.specs.declared.stop.Stop.TheVariants as stop

-- a value with the tokens after it, or the number of tokens left where reading stops
abbrev pub Read : Type 0 → Type 0
Read A = Result (A × List Token) ℕ

-- a reader of a value from the front of tokens
abbrev pub Reader : Type 0 → Type 0
Reader A = List Token → Read A

infixl 10 ◌>>=◌
-- sequencing: continues with the value and the rest, unless reading stopped
abbrev pub ◌>>=◌ : {A B : Type 0} → Read A → (A × List Token → Read B) → Read B
(Ok x) >>= f = f x
(Err e) >>= f = Err e

-- if a function of the code stops at a token, the reader stops at the same token; out of memory implies nothing
abbrev pub Fails : {Y : Type 0} → Stop → Result Y ℕ → Type 0
Fails stop.Memory read = Unit {0}
Fails (stop.At n) read = read ≡ Err n

-- the result of a function, under a view, is the result of the reader, unless memory ran out
abbrev pub Gives : {X Y : Type 0} → (X → Y) → Result X Stop → Result Y ℕ → Type 0
Gives view (Ok x) read = read ≡ Ok (view x)
Gives view (Err e) read = Fails e read

-- the part that a function returned and the tokens after it are the result of the reader, unless memory ran out
abbrev pub Parses : {X Y : Type 0} → (X → Y) → Result (X × Bor (List Token)) Stop → Read Y → Type 0
Parses view result read = Gives (λ x. (view x.0, x.1.now)) result read

-- reads a token whose kind passes the test
abbrev pub token : (Kind → Bool) → Reader Token
token p [] = Err 0
token p (t ∷ ts) = if p t.kind then Ok (t, ts) else Err (length (t ∷ ts))

-- reads by the kind of the first token
abbrev pub by_first : {A : Type 0} → (Token → Kind → Reader A) → Reader A
by_first f [] = Err 0
by_first f (t ∷ ts) = f t t.kind ts

-- reads with `f` after a token whose kind passes the test, otherwise with `g`
abbrev pub if_next : {A : Type 0} → (Kind → Bool) → (Token → Reader A) → Reader A → Reader A
if_next p f g [] = g []
if_next p f g (t ∷ ts) = if p t.kind then f t ts else g (t ∷ ts)

-- returns a value that was read, unless the next token has a kind that passes the test
abbrev pub unless_next : {A : Type 0} → (Kind → Bool) → A → Reader A
unless_next p a [] = Ok (a, [])
unless_next p a (t ∷ ts) = if p t.kind then Err (length (t ∷ ts)) else Ok (a, t ∷ ts)

-- reads consecutive parts up to a closing token, in at most `n` steps; each part begins with the state after the
-- previous part
unfoldable pub row : {A S B : Type 0} → (Kind → Bool) → (S → B) → (A → B → B) → (S → Reader (A × S)) → ℕ → S → Reader B
row close end join part zero s ts = Err (length ts)
row close end join part (suc n) s ts =
    if_next close (λ _ us. Ok (end s, us))
    (λ us. part s us >>= λ x. row close end join part n x.0.1 x.1 >>= λ y. Ok (join x.0.0 y.0, y.1)) ts

-- joins the parts of a list to a result, from the last part to the first
abbrev pub pile : {A B : Type 0} → (A → B → B) → List A → B → B
pile join [] b = b
pile join (a ∷ front) b = join a (pile join front b)

-- joins parts that were read before to the result of reading the others
abbrev pub with_front : {A B : Type 0} → (A → B → B) → List A → Read B → Read B
with_front join front read = read >>= λ y. Ok (pile join front y.0, y.1)
