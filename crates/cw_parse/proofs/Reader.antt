-- Relations that read a part from the front of a list, and the place where reading stops.
use Rattle.std.proofs.Common.{◌≡◌, ℕ, ◌≤◌, Bool, true, List, [], ◌∷◌, ◌++◌, length, Ok, Err, refl, sym, ap, subst, ◌∙◌, append_assoc, arith, ◌⊎◌, inl, inr}
use Rattle.std.proofs.lemmas.List.{length-append}
use Rattle.cw_model.specs.declared.token.Token.{Token}
use Rattle.cw_model.specs.declared.token.Kind.{Kind}
use Rattle.cw_parse.specs.Reading.{Read, ◌>>=◌}

-- the tokens are empty or begin with a kind that `s` accepts
abbrev pub Stops : (Kind → Bool) → List Token → Type 0
Stops s [] = Unit {0}
Stops s (t ∷ ts) = s t.kind ≡ true

-- the tokens that were read are a prefix, and they are read in the same way before any other tokens
pub record Front {A : Type 0} (R : List Token → A → List Token → Type 0) (ts : List Token) (a : A) (rest : List Token) : Type 0 where
  pub front : List Token
  pub parts : ts ≡ front ++ rest
  pub again : (ws : List Token) → R (front ++ ws) a ws

-- `R` is deterministic where it ends before a token that `s` accepts
abbrev pub IsUnique : {A : Type 0} → (List Token → A → List Token → Type 0) → (Kind → Bool) → Type 0
IsUnique {A} R s = (ts : List Token) (a b : A) (us vs : List Token) → R ts a us → Stops s us → R ts b vs → Stops s vs → (a ≡ b) × (us ≡ vs)

-- some text can be read
pub record SomeText {A : Type 0} (R : List Token → A → List Token → Type 0) : Type 0 where
  pub text : List Token
  pub value : A
  pub reads : (after : List Token) → R (text ++ after) value after

-- one part followed by another that depends on the value of the first
abbrev pub Seq : {A B : Type 0} → (List Token → A → List Token → Type 0) → (A → List Token → B → List Token → Type 0) → List Token → B → List Token → Type 0
Seq {A} R G ts b rest = (a : A) × (us : List Token) × R ts a us × G a us b rest

-- one token whose kind satisfies `K`
pub data Tok (K : Kind → Type 0) : List Token → Token → List Token → Type 0 where
  tok : {t : Token} {ts : List Token} → K t.kind → Tok K (t ∷ ts) t ts

-- no token
pub data Done {A : Type 0} (a : A) : List Token → A → List Token → Type 0 where
  done : {ts : List Token} → Done a ts a ts

-- reading stops where `m` tokens are left: the tokens before can be completed, but not if the next token is included
pub record Stuck {A : Type 0} (R : List Token → A → List Token → Type 0) (s : Kind → Bool) (ts : List Token) (m : ℕ) : Type 0 where
  pub front : List Token
  pub rest : List Token
  pub parts : ts ≡ front ++ rest
  pub left : m ≡ length rest
  pub more : List Token
  pub value : A
  pub completes : (after : List Token) → R (front ++ (more ++ after)) value after
  pub dead : (t : Token) (us : List Token) → rest ≡ t ∷ us → (vs : List Token) (b : A) (after : List Token) → R (front ++ t ∷ vs) b after → Stops s after → ⊥

-- the tokens that `G` reads, with the tokens after them, are empty or begin with a kind that `s` accepts
abbrev pub Follows : {A B : Type 0} → (A → List Token → B → List Token → Type 0) → (Kind → Bool) → (Kind → Bool) → Type 0
Follows {A} {B} G s s' = (a : A) (us : List Token) (b : B) (rest : List Token) → G a us b rest → Stops s' rest → Stops s us

pub shorter : {A : Type 0} {R : List Token → A → List Token → Type 0} (ts : List Token) (a : A) (rest : List Token) → Front R ts a rest → length rest ≤ length ts
shorter ts a rest f = omega (arith, ap length f.parts, length-append f.front rest)

-- a sequence is stuck if its first part is stuck
pub stuck_left : {A B : Type 0} (R : List Token → A → List Token → Type 0) (G : A → List Token → B → List Token → Type 0) (s s' : Kind → Bool) (ts : List Token) (m : ℕ)
    → Follows G s s' → ((a : A) → SomeText (G a)) → Stuck R s ts m → Stuck (Seq R G) s' ts m
stuck_left R G s s' ts m follows some d =
    let e = some d.value in
    record {
      front = d.front;
      rest = d.rest;
      parts = d.parts;
      left = d.left;
      more = d.more ++ e.text;
      value = e.value;
      completes = λ after. (d.value, e.text ++ after, rw (append_assoc d.more e.text after) (d.completes (e.text ++ after)), e.reads after);
      dead = λ t us is vs b after r stop. d.dead t us is vs r.0 r.1 r.2 (follows r.0 r.1 b after r.3 stop);
    }

-- `Stops` depends only on the first token
same_first : (s : Kind → Bool) (front : List Token) (t : Token) (us vs : List Token) → Stops s (front ++ t ∷ us) → Stops s (front ++ t ∷ vs)
same_first s [] t us vs h = h
same_first s (u ∷ front) t us vs h = h

-- a sequence is stuck if its first part is read and its second part is stuck
pub stuck_right : {A B : Type 0} (R : List Token → A → List Token → Type 0) (G : A → List Token → B → List Token → Type 0) (s s' : Kind → Bool) (ts : List Token) (m : ℕ) (a : A) (us : List Token)
    → Follows G s s' → IsUnique R s → Front R ts a us → Stops s us → Stuck (G a) s' us m → Stuck (Seq R G) s' ts m
stuck_right {A} {B} R G s s' ts m a us follows unique x stop d =
    record {
      front = x.front ++ d.front;
      rest = d.rest;
      parts = x.parts ∙ ap (λ w. x.front ++ w) d.parts ∙ sym (append_assoc x.front d.front d.rest);
      left = d.left;
      more = d.more;
      value = d.value;
      completes = λ after. (a, d.front ++ (d.more ++ after), rw (append_assoc x.front d.front (d.more ++ after)) (x.again (d.front ++ (d.more ++ after))), d.completes after);
      dead = dead;
    }
  where
    dead : (t : Token) (ws : List Token) → d.rest ≡ t ∷ ws → (vs : List Token) (b : B) (after : List Token) → Seq R G ((x.front ++ d.front) ++ t ∷ vs) b after → Stops s' after → ⊥
    dead t ws is vs b after r end =
        let here : Stops s (d.front ++ t ∷ vs) = same_first s d.front t ws vs (subst (Stops s) (d.parts ∙ ap (λ w. d.front ++ w) is) stop) in
        let first : R (x.front ++ (d.front ++ t ∷ vs)) r.0 r.1 = subst (λ w. R w r.0 r.1) (append_assoc x.front d.front (t ∷ vs)) r.2 in
        let one = unique (x.front ++ (d.front ++ t ∷ vs)) r.0 a r.1 (d.front ++ t ∷ vs) first (follows r.0 r.1 b after r.3 end) (x.again (d.front ++ t ∷ vs)) here in
        let second : G a (d.front ++ t ∷ vs) b after = subst (λ w. G a w b after) one.1 (subst (λ y. G y r.1 b after) one.0 r.3) in
        d.dead t ws is vs b after second end

-- ---- results of composed readers

pub bind_ok : {A B : Type 0} (r : Read A) (f : A × List Token → Read B) (y : B × List Token) → (r >>= f) ≡ Ok y → (x : A × List Token) × (r ≡ Ok x) × (f x ≡ Ok y)
bind_ok (Ok x) f y e = (x, refl, e)
bind_ok (Err d) f y e = absurd cc

pub bind_err : {A B : Type 0} (r : Read A) (f : A × List Token → Read B) (m : ℕ) → (r >>= f) ≡ Err m → (r ≡ Err m) ⊎ ((x : A × List Token) × (r ≡ Ok x) × (f x ≡ Err m))
bind_err (Ok x) f m e = inr (x, refl, e)
bind_err (Err d) f m e = inl cc

abbrev read : {A : Type 0} → A × List Token → Read A
read x = Ok x

pub ok_is : {A : Type 0} (x y : A × List Token) → read x ≡ read y → x ≡ y
ok_is x y e = cc

pub seq_text : {A B : Type 0} (R : List Token → A → List Token → Type 0) (G : A → List Token → B → List Token → Type 0) → SomeText R → ((a : A) → SomeText (G a)) → SomeText (Seq R G)
seq_text R G r g =
    let e = g r.value in
    record { text = r.text ++ e.text; value = e.value; reads = λ after. (r.value, e.text ++ after, rw (append_assoc r.text e.text after) (r.reads (e.text ++ after)), e.reads after) }

-- ---- a part after known tokens

pub stuck_behind : {A B : Type 0} (Q : List Token → A → List Token → Type 0) (R : List Token → B → List Token → Type 0) (s : Kind → Bool) (before : List Token) (h : A → B)
    → ((ts : List Token) (a : A) (rest : List Token) → Q ts a rest → R (before ++ ts) (h a) rest)
    → ((ts : List Token) (b : B) (rest : List Token) → R (before ++ ts) b rest → Stops s rest → (a : A) × Q ts a rest)
    → (ts : List Token) (m : ℕ) → Stuck Q s ts m → Stuck R s (before ++ ts) m
stuck_behind Q R s before h into out ts m d = record {
  front = before ++ d.front;
  rest = d.rest;
  parts = ap (λ w. before ++ w) d.parts ∙ sym (append_assoc before d.front d.rest);
  left = d.left;
  more = d.more;
  value = h d.value;
  completes = λ after. rw (append_assoc before d.front (d.more ++ after)) (into _ _ _ (d.completes after));
  dead = λ t us is vs b after r stop.
      let q = out (d.front ++ t ∷ vs) b after (subst (λ w. R w b after) (append_assoc before d.front (t ∷ vs)) r) stop in
      d.dead t us is vs q.0 after q.1 stop;
}

-- reading is stuck at the first token if no text begins with it
pub stuck_here : {A : Type 0} (R : List Token → A → List Token → Type 0) (s : Kind → Bool) (ts : List Token) → SomeText R
    → ((t : Token) (us vs : List Token) (b : A) (after : List Token) → ts ≡ t ∷ us → R (t ∷ vs) b after → Stops s after → ⊥) → Stuck R s ts (length ts)
stuck_here R s ts some never = record {
  front = [];
  rest = ts;
  parts = refl;
  left = refl;
  more = some.text;
  value = some.value;
  completes = some.reads;
  dead = λ t us is vs b after r stop. never t us vs b after is r stop;
}
