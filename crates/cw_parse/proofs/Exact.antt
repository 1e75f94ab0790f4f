-- Readers that are exact for a relation, composed from smaller ones.
use Rattle.std.proofs.Common.{◌≡◌, ℕ, suc, ◌<◌, ◌≤◌, Bool, true, false, cond, List, [], ◌∷◌, ◌++◌, length as len, Ok, Err, refl, sym, ap, subst, ◌∙◌, append_assoc, arith, ◌⊎◌, inl, inr}
use Rattle.cw_model.specs.declared.token.Token.{Token}
use Rattle.cw_model.specs.declared.token.Kind.{Kind}
use Rattle.cw_parse.specs.Reading.{Read, Reader, ◌>>=◌, token, by_first, if_next, unless_next}
use Rattle.cw_parse.proofs.Reader.{Stops, Front, IsUnique, SomeText, Seq, Tok, tok, Done, done, Stuck, Follows, shorter, stuck_left}
use Rattle.cw_parse.proofs.Reader.{stuck_right, stuck_behind, stuck_here, bind_ok, bind_err, ok_is, seq_text}

-- a token of this kind
abbrev pub mark : Kind → Token
mark k = record { kind = k; start = 0; end = 0; line = 0 }

-- every kind of token; a part that ends by itself may be followed by any token
abbrev pub any : Kind → Bool
any k = true

pub any_stops : (ts : List Token) → Stops any ts
any_stops [] = tt
any_stops (t ∷ ts) = refl

-- On at most `n` tokens, the reader `f` reads what `R` reads up to a token that `s` accepts, and if `f` stops, `R` is
-- stuck. Two of the facts depend on `U`, which says that the relations of a recursion are deterministic.
pub record Exact (U : Type 0) {A : Type 0} (n : ℕ) (R : List Token → A → List Token → Type 0) (s : Kind → Bool) (f : Reader A) : Type 0 where
  pub some : SomeText R
  pub stable : (ts : List Token) (a : A) (rest : List Token) → len ts ≤ n → R ts a rest → Front R ts a rest
  pub sound : (ts : List Token) (a : A) (rest : List Token) → f ts ≡ Ok (a, rest) → R ts a rest
  pub complete : (ts : List Token) (a : A) (rest : List Token) → len ts ≤ n → R ts a rest → Stops s rest → f ts ≡ Ok (a, rest)
  pub unique : U → IsUnique R s
  pub stuck : U → (ts : List Token) (m : ℕ) → len ts ≤ n → f ts ≡ Err m → Stuck R s ts m

-- the tokens that `f` leaves, of at most `n` tokens, begin with a token that `s` accepts
abbrev pub Halts : {A : Type 0} → ℕ → (Kind → Bool) → Reader A → Type 0
Halts {A} n s f = (ts : List Token) (a : A) (rest : List Token) → len ts ≤ n → f ts ≡ Ok (a, rest) → Stops s rest

pub any_halts : {A : Type 0} (n : ℕ) (f : Reader A) → Halts n any f
any_halts n f ts a rest le e = any_stops rest

-- the test `p` decides `K`
pub record Passes (p : Kind → Bool) (K : Kind → Type 0) : Type 0 where
  pub only : (k : Kind) → p k ≡ true → K k
  pub is : (k : Kind) → K k → p k ≡ true

pub differ : {b : Bool} → b ≡ true → b ≡ false → ⊥
differ e f = let clash : true ≡ false = sym e ∙ f in cc

err_is : {A : Type 0} (v w : ℕ) → ◌≡◌ {A = Read A} (Err v) (Err w) → v ≡ w
err_is v w e = cc

-- ---- one token

tok_first : {K : Kind → Type 0} (x : Token) (vs : List Token) (b : Token) (after : List Token) → Tok K (x ∷ vs) b after → K x.kind
tok_first x vs b after (tok is) = is

pub token_exact : (U : Type 0) (n : ℕ) (p : Kind → Bool) (K : Kind → Type 0) → Passes p K → (k : Kind) → K k → Exact U n (Tok K) any (token p)
token_exact U n p K x k fits = record {
  some = record { text = mark k ∷ []; value = mark k; reads = λ after. tok fits };
  stable = λ ts t rest le d. front d;
  sound = sound;
  complete = λ ts t rest le d stop. reads d;
  unique = λ u ts a b us vs d _ e _. same d e;
  stuck = λ u ts m le e. stuck ts m e;
}
  where
    front : {ts : List Token} {t : Token} {rest : List Token} → Tok K ts t rest → Front (Tok K) ts t rest
    front (tok {t = t} is) = record { front = t ∷ []; parts = refl; again = λ ws. tok is }

    sound : (ts : List Token) (t : Token) (rest : List Token) → token p ts ≡ Ok (t, rest) → Tok K ts t rest
    sound [] t rest e = absurd cc
    sound (v ∷ vs) t rest e = go (p v.kind) refl e
      where
        go : (b : Bool) → p v.kind ≡ b → cond {A = Read Token} b (Ok (v, vs)) (Err (len (v ∷ vs))) ≡ Ok (t, rest) → Tok K (v ∷ vs) t rest
        go true h e = subst (λ (y : Token × List Token). Tok K (v ∷ vs) y.0 y.1) (ok_is (v, vs) (t, rest) e) (tok (x.only v.kind h))
        go false h e = absurd cc

    reads : {ts : List Token} {t : Token} {rest : List Token} → Tok K ts t rest → token p ts ≡ Ok (t, rest)
    reads (tok {t = t} is) = rw (x.is t.kind is) refl

    same : {ts : List Token} {a b : Token} {us vs : List Token} → Tok K ts a us → Tok K ts b vs → (a ≡ b) × (us ≡ vs)
    same (tok is) (tok is') = (refl, refl)

    stuck : (ts : List Token) (m : ℕ) → token p ts ≡ Err m → Stuck (Tok K) any ts m
    stuck [] m e = record {
      front = [];
      rest = [];
      parts = refl;
      left = cc;
      more = mark k ∷ [];
      value = mark k;
      completes = λ after. tok fits;
      dead = λ t us h vs b after r stop. absurd cc;
    }
    stuck (v ∷ vs) m e = go (p v.kind) refl e
      where
        go : (b : Bool) → p v.kind ≡ b → cond {A = Read Token} b (Ok (v, vs)) (Err (len (v ∷ vs))) ≡ Err m → Stuck (Tok K) any (v ∷ vs) m
        go true h e = absurd cc
        go false h e = record {
          front = [];
          rest = v ∷ vs;
          parts = refl;
          left = cc;
          more = mark k ∷ [];
          value = mark k;
          completes = λ after. tok fits;
          dead = λ t us parts ws b after r stop. let one : v ≡ t = cc in differ (x.is t.kind (tok_first t ws b after r)) (ap (λ (y : Token). p y.kind) (sym one) ∙ h);
        }

-- ---- no token

pub done_exact : (U : Type 0) (n : ℕ) {A : Type 0} (a : A) → Exact U n (Done a) any (λ ts. Ok (a, ts))
done_exact U n {A} a = record {
  some = record { text = []; value = a; reads = λ after. done };
  stable = λ ts b rest le d. front d;
  sound = λ ts b rest e. subst (λ (y : A × List Token). Done a ts y.0 y.1) (ok_is (a, ts) (b, rest) e) done;
  complete = λ ts b rest le d stop. reads d;
  unique = λ u ts b c us vs d _ e _. same d e;
  stuck = λ u ts m le e. absurd (never ts m e);
}
  where
    front : {ts : List Token} {b : A} {rest : List Token} → Done a ts b rest → Front (Done a) ts b rest
    front done = record { front = []; parts = refl; again = λ ws. done }

    reads : {ts : List Token} {b : A} {rest : List Token} → Done a ts b rest → ◌≡◌ {A = Read A} (Ok (a, ts)) (Ok (b, rest))
    reads done = refl

    same : {ts : List Token} {b c : A} {us vs : List Token} → Done a ts b us → Done a ts c vs → (b ≡ c) × (us ≡ vs)
    same done done = (refl, refl)

    never : (ts : List Token) (m : ℕ) → ◌≡◌ {A = Read A} (Ok (a, ts)) (Err m) → ⊥
    never ts m e = cc

pub done_rest : {A : Type 0} {a : A} (s : Kind → Bool) (us : List Token) (b : A) (rest : List Token) → Done a us b rest → Stops s rest → Stops s us
done_rest s us b rest done h = h

-- ---- sequences of two parts

module _ (U : Type 0) {A B : Type 0} (m n : ℕ) (R : List Token → A → List Token → Type 0) (G : A → List Token → B → List Token → Type 0) (s s' : Kind → Bool) (f : Reader A) (g : A → Reader B)
    (first : Exact U m R s f) (halts : Halts m s f) (second : (a : A) → Exact U n (G a) s' (g a))
    (less : (ts : List Token) (a : A) (rest : List Token) → len ts ≤ m → R ts a rest → len rest ≤ n)
    (follows : Follows G s s') where
  seq_front : (ts : List Token) (b : B) (rest : List Token) → len ts ≤ m → Seq R G ts b rest → Front (Seq R G) ts b rest
  seq_front ts b rest le d =
      let x = first.stable ts d.0 d.1 le d.2 in
      let y = (second d.0).stable d.1 b rest (less ts d.0 d.1 le d.2) d.3 in
      record {
        front = x.front ++ y.front;
        parts = x.parts ∙ ap (λ w. x.front ++ w) y.parts ∙ sym (append_assoc x.front y.front rest);
        again = λ ws. (d.0, y.front ++ ws, rw (append_assoc x.front y.front ws) (x.again (y.front ++ ws)), y.again ws);
      }

  seq_unique : U → IsUnique (Seq R G) s'
  seq_unique u ts b c us vs d su e sv =
      let here = first.unique u ts d.0 e.0 d.1 e.1 d.2 (follows d.0 d.1 b us d.3 su) e.2 (follows e.0 e.1 c vs e.3 sv) in
      let there : G d.0 d.1 c vs = subst (λ w. G d.0 w c vs) (sym here.1) (subst (λ a. G a e.1 c vs) (sym here.0) e.3) in
      (second d.0).unique u d.1 b c us vs d.3 su there sv

  seq_stuck : U → (ts : List Token) (e : ℕ) → len ts ≤ m → (f ts >>= λ x. g x.0 x.1) ≡ Err e → Stuck (Seq R G) s' ts e
  seq_stuck u ts e le h = elim (bind_err (f ts) (λ x. g x.0 x.1) e h) [
    | inl w ↦ stuck_left R G s s' ts e follows (λ a. (second a).some) (first.stuck u ts e le w)
    | inr (x, w, w') ↦
        let r = first.sound ts x.0 x.1 w in
        stuck_right R G s s' ts e x.0 x.1 follows (first.unique u) (first.stable ts x.0 x.1 le r) (halts ts x.0 x.1 le w)
        ((second x.0).stuck u x.1 e (less ts x.0 x.1 le r) w')
  ]

  pub seq_exact : Exact U m (Seq R G) s' (λ ts. f ts >>= λ x. g x.0 x.1)
  seq_exact = record {
    some = seq_text R G first.some (λ a. (second a).some);
    stable = seq_front;
    sound = λ ts b rest e. let x = bind_ok (f ts) (λ x. g x.0 x.1) (b, rest) e in (x.0.0, x.0.1, first.sound ts x.0.0 x.0.1 x.1, (second x.0.0).sound x.0.1 b rest x.2);
    complete = λ ts b rest le d stop. ap (λ r. r >>= λ x. g x.0 x.1) (first.complete ts d.0 d.1 le d.2 (follows d.0 d.1 b rest d.3 stop))
        ∙ (second d.0).complete d.1 b rest (less ts d.0 d.1 le d.2) d.3 stop;
    unique = seq_unique;
    stuck = seq_stuck;
  }

-- a part that ends by itself, followed by another
pub after_part : (U : Type 0) (n : ℕ) {A B : Type 0} (R : List Token → A → List Token → Type 0) (f : Reader A) (G : A → List Token → B → List Token → Type 0) (s : Kind → Bool) (g : A → Reader B)
    → Exact U n R any f → ((a : A) → Exact U n (G a) s (g a)) → Exact U n (Seq R G) s (λ ts. f ts >>= λ x. g x.0 x.1)
after_part U n R f G s g first second =
    seq_exact U n n R G any s f g first (any_halts n f) second (λ ts a rest le d. let x = shorter ts a rest (first.stable ts a rest le d) in omega arith) (λ a us b rest r h. any_stops us)

-- a part that ends by itself is also exact for a smaller set of following tokens
pub narrow_exact : (U : Type 0) (n : ℕ) {A : Type 0} (R : List Token → A → List Token → Type 0) (s : Kind → Bool) (f : Reader A) → Exact U n R any f → Exact U n R s f
narrow_exact U n R s f x = record {
  some = x.some;
  stable = x.stable;
  sound = x.sound;
  complete = λ ts a rest le r stop. x.complete ts a rest le r (any_stops rest);
  unique = λ u ts a b us vs r su q sv. x.unique u ts a b us vs r (any_stops us) q (any_stops vs);
  stuck = λ u ts m le e. narrow ts m (x.stuck u ts m le e);
}
  where
    narrow : (ts : List Token) (m : ℕ) → Stuck R any ts m → Stuck R s ts m
    narrow ts m y = record {
      front = y.front;
      rest = y.rest;
      parts = y.parts;
      left = y.left;
      more = y.more;
      value = y.value;
      completes = y.completes;
      dead = λ t us is vs b after r stop. y.dead t us is vs b after r (any_stops after);
    }

-- an exact reader of a relation is exact for an equivalent relation
pub same_exact : (U : Type 0) (n : ℕ) {A : Type 0} (R Q : List Token → A → List Token → Type 0) (s : Kind → Bool) (f : Reader A)
    → ((ts : List Token) (a : A) (rest : List Token) → R ts a rest → Q ts a rest) → ((ts : List Token) (a : A) (rest : List Token) → Q ts a rest → R ts a rest)
    → Exact U n R s f → Exact U n Q s f
same_exact U n R Q s f into out x = record {
  some = record { text = x.some.text; value = x.some.value; reads = λ after. into (x.some.text ++ after) x.some.value after (x.some.reads after) };
  stable = λ ts a rest le q. let y = x.stable ts a rest le (out ts a rest q) in record { front = y.front; parts = y.parts; again = λ ws. into (y.front ++ ws) a ws (y.again ws) };
  sound = λ ts a rest e. into ts a rest (x.sound ts a rest e);
  complete = λ ts a rest le q stop. x.complete ts a rest le (out ts a rest q) stop;
  unique = λ u ts a b us vs q su q' sv. x.unique u ts a b us vs (out ts a us q) su (out ts b vs q') sv;
  stuck = λ u ts m le e. let y = x.stuck u ts m le e in record {
    front = y.front;
    rest = y.rest;
    parts = y.parts;
    left = y.left;
    more = y.more;
    value = y.value;
    completes = λ after. into (y.front ++ (y.more ++ after)) y.value after (y.completes after);
    dead = λ t us is vs b after q stop. y.dead t us is vs b after (out (y.front ++ t ∷ vs) b after q) stop;
  };
}

-- an exact reader remains exact under a stronger assumption `V`
pub given : (U V : Type 0) (n : ℕ) {A : Type 0} (R : List Token → A → List Token → Type 0) (s : Kind → Bool) (f : Reader A) → (V → U) → Exact U n R s f → Exact V n R s f
given U V n R s f u x = record {
  some = x.some;
  stable = x.stable;
  sound = x.sound;
  complete = x.complete;
  unique = λ v. x.unique (u v);
  stuck = λ v. x.stuck (u v);
}

-- an exact reader is exact on fewer tokens
pub fewer_exact : (U : Type 0) (m n : ℕ) {A : Type 0} (R : List Token → A → List Token → Type 0) (s : Kind → Bool) (f : Reader A) → m ≤ n → Exact U n R s f → Exact U m R s f
fewer_exact U m n R s f small x = record {
  some = x.some;
  sound = x.sound;
  unique = x.unique;
  stable = λ ts a rest le r. x.stable ts a rest (omega arith) r;
  complete = λ ts a rest le r stop. x.complete ts a rest (omega arith) r stop;
  stuck = λ u ts m' le e. x.stuck u ts m' (omega arith) e;
}

-- on 0 tokens, a reader that stops is exact for a relation that needs a token
pub zero_exact : (U : Type 0) {A : Type 0} (R : List Token → A → List Token → Type 0) (s : Kind → Bool)
    → SomeText R → ((ts : List Token) (a : A) (rest : List Token) → R ts a rest → 0 < len ts) → (U → IsUnique R s) → Exact U 0 R s (λ ts. Err (len ts))
zero_exact U {A} R s some long unique = record {
  some = some;
  stable = λ ts a rest le r. absurd (let l = long ts a rest r in omega arith);
  sound = λ ts a rest e. absurd (clash (len ts) (a, rest) e);
  complete = λ ts a rest le r stop. absurd (let l = long ts a rest r in omega arith);
  unique = unique;
  stuck = λ u ts m le e. none_left ts m le e;
}
  where
    clash : (v : ℕ) (x : A × List Token) → ◌≡◌ {A = Read A} (Err v) (Ok x) → ⊥
    clash v x e = cc

    none_left : (ts : List Token) (m : ℕ) → len ts ≤ 0 → ◌≡◌ {A = Read A} (Err (len ts)) (Err m) → Stuck R s ts m
    none_left [] m le e = subst (λ v. Stuck R s [] v) (err_is 0 m e) (stuck_here R s [] some (λ t us vs b after h r stop. absurd cc))
    none_left (t ∷ ts) m le e = absurd (omega arith)

-- a relation is deterministic if there is an exact reader for each length
pub one_way : {A : Type 0} (V : ℕ → Type 0) (R : List Token → A → List Token → Type 0) (s : Kind → Bool) (f : ℕ → Reader A) → ((n : ℕ) → Exact (V n) n R s (f n)) → IsUnique R s
one_way {A} V R s f x ts b c us vs r su q sv =
    let e = (x (len ts)).complete ts b us (omega arith) r su in
    let d = (x (len ts)).complete ts c vs (omega arith) q sv in
    let same = ok_is (b, us) (c, vs) (sym e ∙ d) in
    (ap (λ (z : A × List Token). z.0) same, ap (λ (z : A × List Token). z.1) same)

-- ---- a value that a certain kind of token must not follow

-- `s` rejects exactly the kinds that pass `p`
pub record Against (p s : Kind → Bool) : Type 0 where
  pub on : (k : Kind) → p k ≡ true → s k ≡ false
  pub off : (k : Kind) → p k ≡ false → s k ≡ true

module _ {A : Type 0} (p s : Kind → Bool) (against : Against p s) where
  unless_ok : (a : A) (ts : List Token) (b : A) (rest : List Token) → unless_next p a ts ≡ Ok (b, rest) → (◌≡◌ {A = A × List Token} (a, ts) (b, rest)) × Stops s rest
  unless_ok a [] b rest e = let q = ok_is (a, []) (b, rest) e in (q, subst (λ (z : A × List Token). Stops s z.1) q tt)
  unless_ok a (t ∷ ts) b rest e = go (p t.kind) refl e
    where
      go : (c : Bool) → p t.kind ≡ c → cond {A = Read A} c (Err (len (t ∷ ts))) (Ok (a, t ∷ ts)) ≡ Ok (b, rest) → (◌≡◌ {A = A × List Token} (a, t ∷ ts) (b, rest)) × Stops s rest
      go true h e = absurd cc
      go false h e = let q = ok_is (a, t ∷ ts) (b, rest) e in (q, subst (λ (z : A × List Token). Stops s z.1) q (against.off t.kind h))

  unless_at : (a : A) (ts : List Token) → Stops s ts → unless_next p a ts ≡ Ok (a, ts)
  unless_at a [] stop = refl
  unless_at a (t ∷ ts) stop = go (p t.kind) refl
    where
      go : (c : Bool) → p t.kind ≡ c → cond {A = Read A} c (Err (len (t ∷ ts))) (Ok (a, t ∷ ts)) ≡ Ok (a, t ∷ ts)
      go true h = absurd (differ stop (against.on t.kind h))
      go false h = refl

  unless_err : (a : A) (ts : List Token) (m : ℕ) → unless_next p a ts ≡ Err m → (Stops s ts → ⊥) × (m ≡ len ts)
  unless_err a [] m e = absurd cc
  unless_err a (t ∷ ts) m e = go (p t.kind) refl e
    where
      go : (c : Bool) → p t.kind ≡ c → cond {A = Read A} c (Err (len (t ∷ ts))) (Ok (a, t ∷ ts)) ≡ Err m → (s t.kind ≡ true → ⊥) × (m ≡ len (t ∷ ts))
      go true h e = ((λ stop. differ stop (against.on t.kind h)), cc)
      go false h e = absurd cc

  abbrev pub guarded : Reader A → Reader A
  guarded f ts = f ts >>= λ y. unless_next p y.0 y.1

  pub guard_halts : (n : ℕ) (f : Reader A) → Halts n s (guarded f)
  guard_halts n f ts a rest le e =
      let y = bind_ok (f ts) (λ y. unless_next p y.0 y.1) (a, rest) e in
      (unless_ok y.0.0 y.0.1 a rest y.2).1

  -- an optional part halts where its reader halts
  pub perhaps_halts : (n : ℕ) (f : Token → Reader A) (a : A) → ((t : Token) → Halts n s (f t)) → Halts n s (if_next p f (λ us. Ok (a, us)))
  perhaps_halts n f a x [] b rest le e = let q = ok_is (a, []) (b, rest) e in subst (λ (z : A × List Token). Stops s z.1) q tt
  perhaps_halts n f a x (t ∷ ts) b rest le e = go (p t.kind) refl e
    where
      go : (c : Bool) → p t.kind ≡ c → cond {A = Read A} c (f t ts) (Ok (a, t ∷ ts)) ≡ Ok (b, rest) → Stops s rest
      go true h e = x t ts b rest (omega arith) e
      go false h e = let q = ok_is (a, t ∷ ts) (b, rest) e in subst (λ (z : A × List Token). Stops s z.1) q (against.off t.kind h)

  module _ (U : Type 0) (n : ℕ) (R : List Token → A → List Token → Type 0) (f : Reader A) (x : Exact U n R any f) where
    guard_stuck : U → (ts : List Token) (a : A) (us : List Token) (m : ℕ) → Front R ts a us → (Stops s us → ⊥) → m ≡ len us → Stuck R s ts m
    guard_stuck u ts a us m y off left = record {
      front = y.front;
      rest = us;
      parts = y.parts;
      left = left;
      more = [];
      value = a;
      completes = λ after. y.again after;
      dead = λ t ws is vs b after r stop.
          let one = x.unique u (y.front ++ t ∷ vs) b a after (t ∷ vs) r (any_stops after) (y.again (t ∷ vs)) (any_stops (t ∷ vs)) in
          let here : s t.kind ≡ true = subst (Stops s) one.1 stop in
          off (subst (Stops s) (sym is) here);
    }

    pub guard_exact : Exact U n R s (guarded f)
    guard_exact = record {
      some = x.some;
      stable = x.stable;
      sound = λ ts a rest e.
          let y = bind_ok (f ts) (λ y. unless_next p y.0 y.1) (a, rest) e in
          subst (λ (z : A × List Token). R ts z.0 z.1) (unless_ok y.0.0 y.0.1 a rest y.2).0 (x.sound ts y.0.0 y.0.1 y.1);
      complete = λ ts a rest le r stop. ap (λ r. r >>= λ y. unless_next p y.0 y.1) (x.complete ts a rest le r (any_stops rest)) ∙ unless_at a rest stop;
      unique = λ u ts a b us vs r su q sv. x.unique u ts a b us vs r (any_stops us) q (any_stops vs);
      stuck = λ u ts m le e. elim (bind_err (f ts) (λ y. unless_next p y.0 y.1) m e) [
        | inl w ↦ (narrow_exact U n R s f x).stuck u ts m le w
        | inr (y, w, w') ↦
            let end = unless_err y.0 y.1 m w' in
            guard_stuck u ts y.0 y.1 m (x.stable ts y.0 y.1 le (x.sound ts y.0 y.1 w)) end.0 end.1
      ];
    }

-- mapping the value does not change where a reader halts
pub map_halts : {A B : Type 0} (n : ℕ) (s : Kind → Bool) (f : Reader A) (h : A → B) → Halts n s f → Halts n s (λ ts. f ts >>= λ x. Ok (h x.0, x.1))
map_halts {A} {B} n s f h x ts b rest le e =
    let y = bind_ok (f ts) (λ x. Ok (h x.0, x.1)) (b, rest) e in
    subst (λ (z : B × List Token). Stops s z.1) (ok_is (h y.0.0, y.0.1) (b, rest) y.2) (x ts y.0.0 y.0.1 le y.1)

-- a reader that is equal to an exact one at each input is exact
pub same_reader : (U : Type 0) (n : ℕ) {A : Type 0} (R : List Token → A → List Token → Type 0) (s : Kind → Bool) (f g : Reader A)
    → ((ts : List Token) → g ts ≡ f ts) → Exact U n R s f → Exact U n R s g
same_reader U n R s f g e x = record {
  some = x.some;
  stable = x.stable;
  sound = λ ts a rest h. x.sound ts a rest (sym (e ts) ∙ h);
  complete = λ ts a rest le r stop. e ts ∙ x.complete ts a rest le r stop;
  unique = x.unique;
  stuck = λ u ts m le h. x.stuck u ts m le (sym (e ts) ∙ h);
}

-- ---- by the kind of the first token

abbrev pub First : {A : Type 0} → (Token → Kind → List Token → A → List Token → Type 0) → List Token → A → List Token → Type 0
First {A} B ts a rest = (t : Token) × (us : List Token) × (ts ≡ t ∷ us) × B t t.kind us a rest

-- no text is read after this token
pub record Refuses {A : Type 0} (R : List Token → A → List Token → Type 0) (t : Token) (f : Reader A) : Type 0 where
  pub stops : (ts : List Token) → f ts ≡ Err (len (t ∷ ts))
  pub never : (ts : List Token) (a : A) (rest : List Token) → R ts a rest → ⊥

abbrev pub Branch : Type 0 → {A : Type 0} → ℕ → (List Token → A → List Token → Type 0) → (Kind → Bool) → Token → Reader A → Type 0
Branch U {A} n R s t f = Exact U n R s f ⊎ Refuses R t f

module _ (U : Type 0) {A : Type 0} (n : ℕ) (B : Token → Kind → List Token → A → List Token → Type 0) (s : Kind → Bool) (f : Token → Kind → Reader A)
    (some : SomeText (First B)) (branch : (t : Token) (k : Kind) → Branch U n (B t k) s t (f t k)) where
  front_by : (t : Token) (ts us : List Token) (a : A) (rest : List Token) → Branch U n (B t t.kind) s t (f t t.kind) → len ts ≤ suc n → ts ≡ t ∷ us → B t t.kind us a rest → Front (First B) ts a rest
  front_by t ts us a rest (inr off) le e r = absurd (off.never us a rest r)
  front_by t ts us a rest (inl x) le e r =
      let l = ap len e in
      let y = x.stable us a rest (omega arith) r in
      record { front = t ∷ y.front; parts = e ∙ ap (λ w. t ∷ w) y.parts; again = λ ws. (t, y.front ++ ws, refl, y.again ws) }

  sound_by : (t : Token) (us : List Token) (a : A) (rest : List Token) → Branch U n (B t t.kind) s t (f t t.kind) → f t t.kind us ≡ Ok (a, rest) → First B (t ∷ us) a rest
  sound_by t us a rest (inr off) e = absurd (let clash = sym (off.stops us) ∙ e in cc)
  sound_by t us a rest (inl x) e = (t, us, refl, x.sound us a rest e)

  sound_first : (ts : List Token) (a : A) (rest : List Token) → by_first f ts ≡ Ok (a, rest) → First B ts a rest
  sound_first [] a rest e = absurd cc
  sound_first (t ∷ us) a rest e = sound_by t us a rest (branch t t.kind) e

  complete_by : (t : Token) (ts us : List Token) (a : A) (rest : List Token) → Branch U n (B t t.kind) s t (f t t.kind) → len ts ≤ suc n
      → ts ≡ t ∷ us → B t t.kind us a rest → Stops s rest → by_first f ts ≡ Ok (a, rest)
  complete_by t ts us a rest (inr off) le e r stop = absurd (off.never us a rest r)
  complete_by t ts us a rest (inl x) le e r stop = let l = ap len e in ap (λ w. by_first f w) e ∙ x.complete us a rest (omega arith) r stop

  unique_by : U → (t : Token) (ts : List Token) (a b : A) (us vs : List Token) → Branch U n (B t t.kind) s t (f t t.kind) → B t t.kind ts a us
      → Stops s us → B t t.kind ts b vs → Stops s vs → (a ≡ b) × (us ≡ vs)
  unique_by u t ts a b us vs (inr off) r su q sv = absurd (off.never ts a us r)
  unique_by u t ts a b us vs (inl x) r su q sv = x.unique u ts a b us vs r su q sv

  unique_first : U → IsUnique (First B) s
  unique_first u ts a b us vs (t, ws, e, r) su (t', ws', e', r') sv =
      let both : t ∷ ws ≡ t' ∷ ws' = sym e ∙ e' in
      let head : t ≡ t' = cc in
      let tail : ws ≡ ws' = cc in
      let q : B t t.kind ws b vs = subst (λ w. B t t.kind w b vs) (sym tail) (subst (λ (w : Token). B w w.kind ws' b vs) (sym head) r') in
      unique_by u t ws a b us vs (branch t t.kind) r su q sv

  stuck_by : U → (t : Token) (us : List Token) (m : ℕ) → Branch U n (B t t.kind) s t (f t t.kind) → len us ≤ n → f t t.kind us ≡ Err m → Stuck (First B) s (t ∷ us) m
  stuck_by u t us m (inr off) le e =
      subst (λ v. Stuck (First B) s (t ∷ us) v) (err_is (len (t ∷ us)) m (sym (off.stops us) ∙ e)) (stuck_here (First B) s (t ∷ us) some dead)
    where
      dead : (w : Token) (ws vs : List Token) (b : A) (after : List Token) → t ∷ us ≡ w ∷ ws → First B (w ∷ vs) b after → Stops s after → ⊥
      dead w ws vs b after h (v, xs, e, r) stop =
          let one : t ≡ w = cc in
          let two : w ≡ v = cc in
          off.never xs b after (subst (λ (y : Token). B y y.kind xs b after) (sym (one ∙ two)) r)
  stuck_by u t us m (inl x) le e =
      stuck_behind (B t t.kind) (First B) s (t ∷ []) (λ b. b) (λ ws a rest r. (t, ws, refl, r)) (λ ws b rest r stop. (b, inside ws b rest r)) us m (x.stuck u us m le e)
    where
      inside : (ws : List Token) (b : A) (rest : List Token) → First B (t ∷ ws) b rest → B t t.kind ws b rest
      inside ws b rest (v, xs, e, r) =
          let head : v ≡ t = cc in
          let tail : xs ≡ ws = cc in
          subst (λ w. B t t.kind w b rest) tail (subst (λ (w : Token). B w w.kind xs b rest) head r)

  stuck_first : U → (ts : List Token) (m : ℕ) → len ts ≤ suc n → by_first f ts ≡ Err m → Stuck (First B) s ts m
  stuck_first u [] m le e = subst (λ v. Stuck (First B) s [] v) (err_is 0 m e) (stuck_here (First B) s [] some (λ t us vs b after h r stop. absurd cc))
  stuck_first u (t ∷ us) m le e = stuck_by u t us m (branch t t.kind) (omega arith) e

  pub first_exact : Exact U (suc n) (First B) s (by_first f)
  first_exact = record {
    some = some;
    stable = λ ts a rest le d. front_by d.0 ts d.1 a rest (branch d.0 d.0.kind) le d.2 d.3;
    sound = sound_first;
    complete = λ ts a rest le d stop. complete_by d.0 ts d.1 a rest (branch d.0 d.0.kind) le d.2 d.3 stop;
    unique = unique_first;
    stuck = stuck_first;
  }

-- a part at a first token whose kind is known
pub at_first : {A : Type 0} (B : Token → Kind → List Token → A → List Token → Type 0) (t : Token) (k : Kind) → t.kind ≡ k
    → (us : List Token) (a : A) (rest : List Token) → B t k us a rest → First B (t ∷ us) a rest
at_first B t k is us a rest r = (t, us, refl, subst (λ k. B t k us a rest) (sym is) r)

-- ---- a choice by the next token

begins_same : (t : Token) (ts front rest : List Token) (u : Token) (us vs : List Token) (w : Token) (ws : List Token) → t ∷ ts ≡ front ++ rest → rest ≡ u ∷ us → front ++ u ∷ vs ≡ w ∷ ws → t ≡ w
begins_same t ts [] rest u us vs w ws e f g = let h : t ∷ ts ≡ u ∷ us = e ∙ f in let one : t ≡ u = cc in let two : u ≡ w = cc in one ∙ two
begins_same t ts (x ∷ front) rest u us vs w ws e f g = let one : t ≡ x = cc in let two : x ≡ w = cc in one ∙ two

none_left : (front rest : List Token) (u : Token) (us : List Token) → [] ≡ front ++ rest → rest ≡ u ∷ us → ⊥
none_left [] rest u us e f = let g : [] ≡ u ∷ us = e ∙ f in cc
none_left (x ∷ front) rest u us e f = cc

module _ (U : Type 0) {A : Type 0} (m n : ℕ) (le : n ≤ suc m) (p : Kind → Bool) (K : Kind → Type 0) (test : Passes p K)
    (P : Token → List Token → A → List Token → Type 0) (Q : List Token → A → List Token → Type 0)
    (s : Kind → Bool) (f : Token → Reader A) (g : Reader A) (x : (t : Token) → Exact U m (P t) s (f t)) (y : Exact U n Q s g)
    (apart : (t : Token) (us : List Token) (b : A) (rest : List Token) → K t.kind → Q (t ∷ us) b rest → Stops s rest → ⊥) where
  abbrev pub Either : List Token → A → List Token → Type 0
  Either ts b rest = Seq (Tok K) P ts b rest ⊎ Q ts b rest

  left_front : {ts : List Token} {b : A} {rest : List Token} → len ts ≤ n → Seq (Tok K) P ts b rest → Front Either ts b rest
  left_front {b = b} {rest = rest} few (t, us, tok is, d) =
      let z = (x t).stable us b rest (omega arith) d in
      record { front = t ∷ z.front; parts = ap (λ w. t ∷ w) z.parts; again = λ ws. inl (t, z.front ++ ws, tok is, z.again ws) }

  stable_either : (ts : List Token) (b : A) (rest : List Token) → len ts ≤ n → Either ts b rest → Front Either ts b rest
  stable_either ts b rest few (inl d) = left_front few d
  stable_either ts b rest few (inr r) = let z = y.stable ts b rest few r in record { front = z.front; parts = z.parts; again = λ ws. inr (z.again ws) }

  sound_either : (ts : List Token) (b : A) (rest : List Token) → if_next p f g ts ≡ Ok (b, rest) → Either ts b rest
  sound_either [] b rest e = inr (y.sound [] b rest e)
  sound_either (t ∷ ts) b rest e = go (p t.kind) refl e
    where
      go : (c : Bool) → p t.kind ≡ c → cond {A = Read A} c (f t ts) (g (t ∷ ts)) ≡ Ok (b, rest) → Either (t ∷ ts) b rest
      go true h e = inl (t, ts, tok (test.only t.kind h), (x t).sound ts b rest e)
      go false h e = inr (y.sound (t ∷ ts) b rest e)

  left_complete : {ts : List Token} {b : A} {rest : List Token} → len ts ≤ n → Seq (Tok K) P ts b rest → Stops s rest → if_next p f g ts ≡ Ok (b, rest)
  left_complete {b = b} {rest = rest} few (t, us, tok is, d) stop = rw (test.is t.kind is) ((x t).complete us b rest (omega arith) d stop)

  right_complete : (ts : List Token) (b : A) (rest : List Token) → len ts ≤ n → Q ts b rest → Stops s rest → if_next p f g ts ≡ Ok (b, rest)
  right_complete [] b rest few r stop = y.complete [] b rest few r stop
  right_complete (t ∷ ts) b rest few r stop = go (p t.kind) refl
    where
      go : (c : Bool) → p t.kind ≡ c → cond {A = Read A} c (f t ts) (g (t ∷ ts)) ≡ Ok (b, rest)
      go true h = absurd (apart t ts b rest (test.only t.kind h) r stop)
      go false h = y.complete (t ∷ ts) b rest few r stop

  complete_either : (ts : List Token) (b : A) (rest : List Token) → len ts ≤ n → Either ts b rest → Stops s rest → if_next p f g ts ≡ Ok (b, rest)
  complete_either ts b rest few (inl d) stop = left_complete few d stop
  complete_either ts b rest few (inr r) stop = right_complete ts b rest few r stop

  both_ways : {ts : List Token} {b c : A} {us vs : List Token} → Seq (Tok K) P ts b us → Q ts c vs → Stops s vs → ⊥
  both_ways {c = c} {vs = vs} (t, ws, tok is, d) r stop = apart t ws c vs is r stop

  left_unique : U → {ts : List Token} {b c : A} {us vs : List Token} → Seq (Tok K) P ts b us → Stops s us → Seq (Tok K) P ts c vs → Stops s vs → (b ≡ c) × (us ≡ vs)
  left_unique u {b = b} {c = c} {us = us} {vs = vs} (t, ws, tok is, d) su (t', ws', tok is', d') sv = (x t).unique u ws b c us vs d su d' sv

  unique_either : U → (ts : List Token) (b c : A) (us vs : List Token) → Either ts b us → Stops s us → Either ts c vs → Stops s vs → (b ≡ c) × (us ≡ vs)
  unique_either u ts b c us vs (inl d) su (inl e) sv = left_unique u d su e sv
  unique_either u ts b c us vs (inl d) su (inr r) sv = absurd (both_ways d r sv)
  unique_either u ts b c us vs (inr r) su (inl d) sv = absurd (both_ways d r su)
  unique_either u ts b c us vs (inr r) su (inr q) sv = y.unique u ts b c us vs r su q sv

  left_first : {zs : List Token} {b : A} {after : List Token} → Seq (Tok K) P zs b after → (v : Token) × (ws : List Token) × (zs ≡ v ∷ ws) × K v.kind
  left_first (v, ws, tok is, d) = (v, ws, refl, is)

  left_behind : {t : Token} {zs : List Token} {b : A} {after : List Token} → Seq (Tok K) P (t ∷ zs) b after → P t zs b after
  left_behind (v, ws, tok is, d) = d

  from_left : (t : Token) (ts : List Token) (e : ℕ) → K t.kind → Stuck (P t) s ts e → Stuck Either s (t ∷ ts) e
  from_left t ts e is d = record {
    front = t ∷ d.front;
    rest = d.rest;
    parts = ap (λ w. t ∷ w) d.parts;
    left = d.left;
    more = d.more;
    value = d.value;
    completes = λ after. inl (t, d.front ++ (d.more ++ after), tok is, d.completes after);
    dead = dead;
  }
    where
      dead : (w : Token) (us : List Token) → d.rest ≡ w ∷ us → (vs : List Token) (b : A) (after : List Token) → Either ((t ∷ d.front) ++ w ∷ vs) b after → Stops s after → ⊥
      dead w us same vs b after (inl r) stop = d.dead w us same vs b after (left_behind r) stop
      dead w us same vs b after (inr q) stop = apart t (d.front ++ w ∷ vs) b after is q stop

  from_right : (ts : List Token) (e : ℕ) → ((front rest : List Token) (u : Token) (us vs : List Token) (b : A) (after : List Token)
      → ts ≡ front ++ rest → rest ≡ u ∷ us → Seq (Tok K) P (front ++ u ∷ vs) b after → ⊥)
      → Stuck Q s ts e → Stuck Either s ts e
  from_right ts e none d = record {
    front = d.front;
    rest = d.rest;
    parts = d.parts;
    left = d.left;
    more = d.more;
    value = d.value;
    completes = λ after. inr (d.completes after);
    dead = dead;
  }
    where
      dead : (w : Token) (us : List Token) → d.rest ≡ w ∷ us → (vs : List Token) (b : A) (after : List Token) → Either (d.front ++ w ∷ vs) b after → Stops s after → ⊥
      dead w us same vs b after (inl r) stop = none d.front d.rest w us vs b after d.parts same r
      dead w us same vs b after (inr q) stop = d.dead w us same vs b after q stop

  stuck_either : U → (ts : List Token) (e : ℕ) → len ts ≤ n → if_next p f g ts ≡ Err e → Stuck Either s ts e
  stuck_either u [] e few h = from_right [] e (λ front rest w us vs b after parts is d. none_left front rest w us parts is) (y.stuck u [] e few h)
  stuck_either u (t ∷ ts) e few h = go (p t.kind) refl h
    where
      go : (c : Bool) → p t.kind ≡ c → cond {A = Read A} c (f t ts) (g (t ∷ ts)) ≡ Err e → Stuck Either s (t ∷ ts) e
      go true k h = from_left t ts e (test.only t.kind k) ((x t).stuck u ts e (omega arith) h)
      go false k h =
          from_right (t ∷ ts) e
          (λ front rest w us vs b after parts is d.
          let z = left_first d in
          let same = begins_same t ts front rest w us vs z.0 z.1 parts is z.2 in
          differ (test.is z.0.kind z.3) (ap (λ (v : Token). p v.kind) (sym same) ∙ k))
          (y.stuck u (t ∷ ts) e few h)

  pub if_next_exact : Exact U n Either s (if_next p f g)
  if_next_exact = record {
    some = record { text = y.some.text; value = y.some.value; reads = λ after. inr (y.some.reads after) };
    stable = stable_either;
    sound = sound_either;
    complete = complete_either;
    unique = unique_either;
    stuck = stuck_either;
  }
