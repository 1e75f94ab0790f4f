-- Calls and other parts: a call begins with a name and an opening parenthesis.
use Rattle.std.proofs.Common.{◌≡◌, ℕ, ◌≤◌, Bool, true, false, cond, List, [], ◌∷◌, ◌++◌, length as len, Ok, Err, refl, sym, ap, ◌∙◌, ◌⊎◌, inl, inr}
use Rattle.cw_model.specs.declared.token.Token.{Token}
use Rattle.cw_model.specs.declared.token.Kind.TheVariants as kind
use Rattle.cw_parse.specs.declared.marks.Mark.TheVariants as mark
use Rattle.cw_parse.specs.Marks.{is_mark}
use Rattle.cw_parse.specs.Reading.{Read, Reader}
use Rattle.cw_parse.specs.Parts.{is_call}
use Rattle.cw_parse.proofs.Reader.{Stops, Front, SomeText, Seq, tok, Stuck}
use Rattle.cw_parse.proofs.Exact.{Exact, any, any_stops, mark as token_of, differ}
use Rattle.cw_parse.proofs.MarkKinds.{passes}
use Rattle.cw_parse.proofs.Pieces.{Marked}

-- the tokens begin with a name and an opening parenthesis
pub data Opens : List Token → Type 0 where
  opens : {t u : Token} {ts : List Token} → t.kind ≡ kind.Name → u.kind ≡ kind.LeftParen → Opens (t ∷ u ∷ ts)

opens_is : {ts : List Token} → Opens ts → is_call ts ≡ true
opens_is (opens {t = t} {u = u} is is') = rw ((passes mark.Name).is t.kind is, (passes mark.LeftParen).is u.kind is') refl

is_opens : (ts : List Token) → is_call ts ≡ true → Opens ts
is_opens [] e = absurd cc
is_opens (t ∷ []) e = absurd cc
is_opens (t ∷ u ∷ ts) e = go (is_mark mark.Name t.kind) refl e
  where
    go : (b : Bool) → is_mark mark.Name t.kind ≡ b → cond b (is_mark mark.LeftParen u.kind) false ≡ true → Opens (t ∷ u ∷ ts)
    go true h e = opens ((passes mark.Name).only t.kind h) ((passes mark.LeftParen).only u.kind e)
    go false h e = absurd cc

module _ (U : Type 0) {A : Type 0} (n : ℕ) (G : Token → List Token → A → List Token → Type 0) (Q : List Token → A → List Token → Type 0) (f g : Reader A)
    (some_call : (t : Token) → SomeText (G t)) (some_other : (t : Token) → t.kind ≡ kind.Name → SomeText (λ ts. Q (t ∷ ts)))
    (apart : (ts : List Token) (b : A) (rest : List Token) → Opens ts → Q ts b rest → ⊥) where
  -- the relation of a call
  abbrev pub P : List Token → A → List Token → Type 0
  P = Seq (Marked mark.Name) (λ f. Seq (Marked mark.LeftParen) (λ (_ : Token). G f))

  call_opens : {ts : List Token} {b : A} {rest : List Token} → P ts b rest → Opens ts
  call_opens (t, us, tok is, (u, vs, tok is', d)) = opens is is'

  abbrev pub Either : List Token → A → List Token → Type 0
  Either ts b rest = P ts b rest ⊎ Q ts b rest

  abbrev either : Reader A
  either ts = cond (is_call ts) (f ts) (g ts)

  -- a name can be continued to a call
  call_alive : (t : Token) → t.kind ≡ kind.Name → (vs : List Token) × (b : A) × P (t ∷ vs) b []
  call_alive t is = let x = some_call t in (
    token_of kind.LeftParen ∷ (x.text ++ []),
    x.value,
    (t, token_of kind.LeftParen ∷ (x.text ++ []), tok is, (token_of kind.LeftParen, x.text ++ [], tok refl, x.reads [])),
  )

  -- if a call is stuck at the token `w`, tokens that open a call still open one with any tokens after `w`
  no_call_dead : (ts front rest : List Token) → ts ≡ front ++ rest → Opens ts → (w : Token) (us : List Token) → rest ≡ w ∷ us
      → ((vs : List Token) (b : A) (after : List Token) → P (front ++ w ∷ vs) b after → ⊥) → (vs : List Token) → Opens (front ++ w ∷ vs)
  no_call_dead ts [] rest e o w us is dead vs = absurd (alive (e ∙ is) o)
    where
      alive : {zs : List Token} → zs ≡ w ∷ us → Opens zs → ⊥
      alive h (opens {t = t} i i') = let same : t ≡ w = cc in let x = call_alive w (ap (λ (y : Token). y.kind) (sym same) ∙ i) in dead x.0 x.1 [] x.2
  no_call_dead ts (x ∷ []) rest e o w us is dead vs = two (e ∙ ap (λ v. x ∷ v) is) o
    where
      two : {zs : List Token} → zs ≡ x ∷ w ∷ us → Opens zs → Opens (x ∷ w ∷ vs)
      two h (opens {t = t} {u = u} i i') = let a : t ≡ x = cc in let b : u ≡ w = cc in opens (ap (λ (y : Token). y.kind) (sym a) ∙ i) (ap (λ (y : Token). y.kind) (sym b) ∙ i')
  no_call_dead ts (x ∷ z ∷ front) rest e o w us is dead vs = two e o
    where
      two : {zs : List Token} → zs ≡ x ∷ z ∷ (front ++ rest) → Opens zs → Opens (x ∷ z ∷ (front ++ w ∷ vs))
      two h (opens {t = t} {u = u} i i') = let a : t ≡ x = cc in let b : u ≡ z = cc in opens (ap (λ (y : Token). y.kind) (sym a) ∙ i) (ap (λ (y : Token). y.kind) (sym b) ∙ i')

  -- if another part is stuck at the token `w`, tokens that open a call with other tokens after `w` also open one with
  -- their own
  no_other_dead : (ts front rest : List Token) → ts ≡ front ++ rest → (w : Token) (us : List Token) → rest ≡ w ∷ us
      → ((vs : List Token) (b : A) (after : List Token) → Q (front ++ w ∷ vs) b after → ⊥) → (vs : List Token) → Opens (front ++ w ∷ vs) → Opens ts
  no_other_dead ts [] rest e w us is dead vs (opens i i') = absurd (let x = some_other w i in dead (x.text ++ []) x.value [] (x.reads []))
  no_other_dead ts (x ∷ []) rest e w us is dead vs (opens i i') = rw (e ∙ ap (λ v. x ∷ v) is) (opens i i')
  no_other_dead ts (x ∷ z ∷ front) rest e w us is dead vs (opens i i') = rw e (opens i i')

  module _ (x : Exact U n P any f) (y : Exact U n Q any g) where
    from_call : (ts : List Token) (m : ℕ) → Opens ts → Stuck P any ts m → Stuck Either any ts m
    from_call ts m o d = record {
      front = d.front;
      rest = d.rest;
      parts = d.parts;
      left = d.left;
      more = d.more;
      value = d.value;
      completes = λ after. inl (d.completes after);
      dead = dead;
    }
      where
        dead : (w : Token) (us : List Token) → d.rest ≡ w ∷ us → (vs : List Token) (b : A) (after : List Token) → Either (d.front ++ w ∷ vs) b after → Stops any after → ⊥
        dead w us is vs b after (inl r) stop = d.dead w us is vs b after r stop
        dead w us is vs b after (inr q) stop = apart (d.front ++ w ∷ vs) b after (no_call_dead ts d.front d.rest d.parts o w us is (λ vs b after r. d.dead w us is vs b after r (any_stops after)) vs) q

    from_other : (ts : List Token) (m : ℕ) → (Opens ts → ⊥) → Stuck Q any ts m → Stuck Either any ts m
    from_other ts m none d = record {
      front = d.front;
      rest = d.rest;
      parts = d.parts;
      left = d.left;
      more = d.more;
      value = d.value;
      completes = λ after. inr (d.completes after);
      dead = dead;
    }
      where
        dead : (w : Token) (us : List Token) → d.rest ≡ w ∷ us → (vs : List Token) (b : A) (after : List Token) → Either (d.front ++ w ∷ vs) b after → Stops any after → ⊥
        dead w us is vs b after (inl r) stop = none (no_other_dead ts d.front d.rest d.parts w us is (λ vs b after r. d.dead w us is vs b after r (any_stops after)) vs (call_opens r))
        dead w us is vs b after (inr q) stop = d.dead w us is vs b after q stop

    stable_either : (ts : List Token) (b : A) (rest : List Token) → len ts ≤ n → Either ts b rest → Front Either ts b rest
    stable_either ts b rest few (inl r) = let z = x.stable ts b rest few r in record { front = z.front; parts = z.parts; again = λ ws. inl (z.again ws) }
    stable_either ts b rest few (inr r) = let z = y.stable ts b rest few r in record { front = z.front; parts = z.parts; again = λ ws. inr (z.again ws) }

    sound_either : (ts : List Token) (b : A) (rest : List Token) → either ts ≡ Ok (b, rest) → Either ts b rest
    sound_either ts b rest e = go (is_call ts) e
      where
        go : (c : Bool) → cond {A = Read A} c (f ts) (g ts) ≡ Ok (b, rest) → Either ts b rest
        go true e = inl (x.sound ts b rest e)
        go false e = inr (y.sound ts b rest e)

    complete_either : (ts : List Token) (b : A) (rest : List Token) → len ts ≤ n → Either ts b rest → either ts ≡ Ok (b, rest)
    complete_either ts b rest few (inl r) = rw (opens_is (call_opens r)) (x.complete ts b rest few r (any_stops rest))
    complete_either ts b rest few (inr q) = go (is_call ts) refl
      where
        go : (c : Bool) → is_call ts ≡ c → cond {A = Read A} c (f ts) (g ts) ≡ Ok (b, rest)
        go true h = absurd (apart ts b rest (is_opens ts h) q)
        go false h = y.complete ts b rest few q (any_stops rest)

    unique_either : U → (ts : List Token) (b c : A) (us vs : List Token) → Either ts b us → Either ts c vs → (b ≡ c) × (us ≡ vs)
    unique_either u ts b c us vs (inl r) (inl r') = x.unique u ts b c us vs r (any_stops us) r' (any_stops vs)
    unique_either u ts b c us vs (inl r) (inr q) = absurd (apart ts c vs (call_opens r) q)
    unique_either u ts b c us vs (inr q) (inl r) = absurd (apart ts b us (call_opens r) q)
    unique_either u ts b c us vs (inr q) (inr q') = y.unique u ts b c us vs q (any_stops us) q' (any_stops vs)

    stuck_either : U → (ts : List Token) (m : ℕ) → len ts ≤ n → either ts ≡ Err m → Stuck Either any ts m
    stuck_either u ts m few e = go (is_call ts) refl e
      where
        go : (c : Bool) → is_call ts ≡ c → cond {A = Read A} c (f ts) (g ts) ≡ Err m → Stuck Either any ts m
        go true h e = from_call ts m (is_opens ts h) (x.stuck u ts m few e)
        go false h e = from_other ts m (λ o. differ (opens_is o) h) (y.stuck u ts m few e)

    pub call_or_exact : Exact U n Either any either
    call_or_exact = record {
      some = record { text = y.some.text; value = y.some.value; reads = λ after. inr (y.some.reads after) };
      stable = stable_either;
      sound = sound_either;
      complete = λ ts b rest few r stop. complete_either ts b rest few r;
      unique = λ u ts b c us vs r su q sv. unique_either u ts b c us vs r q;
      stuck = stuck_either;
    }
