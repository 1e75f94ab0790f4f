-- The openings of blocks, with the opening brace.
use Rattle.std.proofs.Common.{◌≡◌, ℕ, suc, List, [], ◌∷◌, Ok, refl, sym, ap, subst, ◌∙◌, arith, inl, inr}
use Rattle.cw_model.specs.declared.token.Token.{Token}
use Rattle.cw_model.specs.declared.token.Kind.{Kind}
use Rattle.cw_model.specs.declared.token.Kind.TheVariants as kind
use Rattle.cw_model.specs.Syntax.{Name, Expr}
use Rattle.cw_model.specs.Grammar as grammar
use Rattle.cw_model.specs.Grammar.{name_of, ReadsWhole, ReadsMoreNames, ReadsGrain, ReadsOver, ReadsHead, Head}
use Rattle.cw_parse.specs.declared.marks.Mark.TheVariants as mark
use Rattle.cw_parse.specs.Marks.{is_mark}
use Rattle.cw_parse.specs.Reading.{Reader, ◌>>=◌, by_first}
use Rattle.cw_parse.specs.Parts.{marked, some_of, name, add_front, Opening, If, While, For, Scope, Cut, Region, condition, turns}
use Rattle.cw_parse.specs.Parts.{grain, over, range_from, range_to, range_step, head, cut, region, opening}
use Rattle.cw_parse.proofs.Reader.{SomeText, Seq, tok, Done, done}
use Rattle.cw_parse.proofs.Exact.{Exact, Branch, First, any, mark as token_of, done_exact, same_reader, fewer_exact, first_exact, at_first}
use Rattle.cw_parse.proofs.Pieces.{Piece, ◌>>>◌, expect, give, choose}
use Rattle.cw_parse.proofs.Expressions.{expr_before}
use Rattle.cw_parse.proofs.Lists.{ReadsName, names_exact}
use Rattle.cw_parse.proofs.Statements.{spread}

module _ (text : List ℕ) where
  abbrev condition_piece : {U : Type 0} {n : ℕ} → Piece U n any Expr
  condition_piece = expect mark.LeftParen >>> λ _. expr_before text mark.RightParen refl (λ e. expect mark.LeftBrace >>> λ _. give e)

  -- ---- the head of a loop

  abbrev from_piece : {U : Type 0} {n : ℕ} → Piece U n any (Name × Expr)
  from_piece =
      expect mark.LeftParen >>> λ _. expect mark.Int >>> λ _. expect mark.Name >>> λ x. expect mark.Assign >>> λ _.
      expr_before text mark.Semicolon refl (λ e. give (name_of text x, e))

  abbrev to_piece : {U : Type 0} {n : ℕ} → Piece U n any (Name × Expr)
  to_piece = expect mark.Name >>> λ y. expect mark.Less >>> λ _. expr_before text mark.Semicolon refl (λ e. give (name_of text y, e))

  abbrev step_piece : {U : Type 0} {n : ℕ} → Piece U n any Name
  step_piece = expect mark.Name >>> λ z. expect mark.Increment >>> λ _. expect mark.RightParen >>> λ _. give (name_of text z)

  abbrev TurnsBy : Token → Kind → List Token → ℕ → List Token → Type 0
  TurnsBy t (kind.Number v) = Done v
  TurnsBy t _ = λ ts v rest. ⊥

  turns_branch : (U : Type 0) (n : ℕ) (t : Token) (k : Kind) → Branch U n (TurnsBy t k) any t (turns t k)
  turns_branch U n t (kind.Number v) = inl (done_exact U n v)
  turns_branch U n t _ = inr (record { stops = λ ts. refl; never = λ ts a rest d. d })

  some_turns : SomeText (First TurnsBy)
  some_turns = record { text = token_of (kind.Number 1) ∷ []; value = 1; reads = λ after. at_first TurnsBy (token_of (kind.Number 1)) (kind.Number 1) refl after 1 after done }

  pub turns_exact : (U : Type 0) (n : ℕ) → Exact U n (First TurnsBy) any (by_first turns)
  turns_exact U n = fewer_exact U n (suc n) (First TurnsBy) any (by_first turns) (omega arith) (first_exact U n TurnsBy any turns some_turns (turns_branch U n))

  abbrev turns_piece : {U : Type 0} {n : ℕ} → Piece U n any ℕ
  turns_piece {U} {n} = record { rel = First TurnsBy; read = by_first turns; exact = turns_exact U n }

  abbrev names_piece : {U : Type 0} {n : ℕ} → Piece U n any (List Name)
  names_piece {U} {n} = record { rel = Seq (ReadsName text) (λ x. Seq (ReadsMoreNames text) (λ xs. Done (add_front x xs))); read = some_of (name text) n; exact = names_exact text U n }

  module _ (from to : Name × Expr) (step : Name) where
    abbrev made : ℕ → List Name → Head
    made n xs = record { variable = from.0; tested = to.0; stepped = step; from = from.1; to = to.1; grain = n; over = xs }

    abbrev brace : {U : Type 0} {n : ℕ} → ℕ → List Name → Piece U n any Head
    brace g xs = expect mark.LeftBrace >>> λ _. give (made g xs)

    pub no_over : (g : ℕ) {t : Token} {us : List Token} {h : Head} {rest : List Token} → t.kind ≡ kind.Over → (brace {U = Unit {0}} {n = 0} g []).rel (t ∷ us) h rest → ⊥
    no_over g is (u, vs, tok i, d) = let clash : kind.Over ≡ kind.LeftBrace = sym is ∙ i in cc

    abbrev over_choice : {U : Type 0} {n : ℕ} → ℕ → Piece U n any Head
    over_choice g = choose mark.Over (λ _. (expect mark.LeftParen >>> λ _. names_piece) >>> λ xs. brace g xs) (brace g []) (λ t us b rest is d h. no_over g is d)

    pub over_read : (n g : ℕ) → Reader Head
    over_read n g ts = over text n ts >>= λ o. marked mark.LeftBrace o.1 >>= λ b. Ok (made g o.0, b.1)

    pub over_exact : (U : Type 0) (n g : ℕ) → Exact U n (over_choice {U = Unit {0}} {n = 0} g).rel any (over_read n g)
    unfolding over over_read
    over_exact U n g =
        same_reader U n (over_choice {U = Unit {0}} {n = 0} g).rel any (over_choice {U = U} {n = n} g).read (over_read n g)
        (spread (is_mark mark.Over) (λ _ us. marked mark.LeftParen us >>= λ u. some_of (name text) n u.1) (λ us. Ok ([], us)) (λ o. marked mark.LeftBrace o.1 >>= λ b. Ok (made g o.0, b.1)))
        (over_choice {U = U} {n = n} g).exact

    abbrev over_piece : {U : Type 0} {n : ℕ} → ℕ → Piece U n any Head
    over_piece {U} {n} g = record { rel = (over_choice {U = Unit {0}} {n = 0} g).rel; read = over_read n g; exact = over_exact U n g }

    pub no_grain : {t : Token} {us : List Token} {h : Head} {rest : List Token} → t.kind ≡ kind.Grain → (over_choice {U = Unit {0}} {n = 0} 64).rel (t ∷ us) h rest → ⊥
    no_grain is (inr (u, vs, tok i, d)) = let clash : kind.Grain ≡ kind.LeftBrace = sym is ∙ i in cc
    no_grain is (inl (u, vs, tok i, d)) = let clash : kind.Grain ≡ kind.Over = sym is ∙ i in cc

    abbrev grain_choice : {U : Type 0} {n : ℕ} → Piece U n any Head
    grain_choice = choose mark.Grain (λ _. turns_piece >>> λ g. over_piece g) (over_piece 64) (λ t us b rest is d h. no_grain is d)

    pub grain_read : (n : ℕ) → Reader Head
    grain_read n ts = grain ts >>= λ g. over text n g.1 >>= λ o. marked mark.LeftBrace o.1 >>= λ b. Ok (made g.0 o.0, b.1)

    pub grain_exact : (U : Type 0) (n : ℕ) → Exact U n (grain_choice {U = Unit {0}} {n = 0}).rel any (grain_read n)
    unfolding grain grain_read over_read
    grain_exact U n =
        same_reader U n (grain_choice {U = Unit {0}} {n = 0}).rel any (grain_choice {U = U} {n = n}).read (grain_read n)
        (spread (is_mark mark.Grain) (λ _ us. by_first turns us) (λ us. Ok (64, us)) (λ g. over text n g.1 >>= λ o. marked mark.LeftBrace o.1 >>= λ b. Ok (made g.0 o.0, b.1)))
        (grain_choice {U = U} {n = n}).exact

    abbrev grain_piece : {U : Type 0} {n : ℕ} → Piece U n any Head
    grain_piece {U} {n} = record { rel = (grain_choice {U = Unit {0}} {n = 0}).rel; read = grain_read n; exact = grain_exact U n }

  abbrev head_piece : {U : Type 0} {n : ℕ} → Piece U n any Head
  head_piece = from_piece >>> λ f. to_piece >>> λ t. step_piece >>> λ z. grain_piece f t z

  -- ---- complete openings

  abbrev cut_piece : {U : Type 0} {n : ℕ} → Piece U n any Opening
  cut_piece =
      expect mark.Name >>> λ a. expect mark.At >>> λ _. expr_before text mark.As refl (λ e.
      expect mark.Name >>> λ l. expect mark.Comma >>> λ _. expect mark.Name >>> λ r. expect mark.LeftBrace >>> λ _.
      give (Cut (name_of text a) e (name_of text l) (name_of text r)))

  abbrev region_piece : {U : Type 0} {n : ℕ} → Piece U n any Opening
  region_piece = expect mark.Name >>> λ x. expect mark.LeftBrace >>> λ _. give (Region (name_of text x))

  abbrev if_piece : {U : Type 0} {n : ℕ} → Piece U n any Opening
  if_piece = condition_piece >>> λ e. give (If e)

  abbrev while_piece : {U : Type 0} {n : ℕ} → Piece U n any Opening
  while_piece = condition_piece >>> λ e. give (While e)

  abbrev for_piece : {U : Type 0} {n : ℕ} → Piece U n any Opening
  for_piece = head_piece >>> λ h. give (For h)

  abbrev scope_piece : {U : Type 0} {n : ℕ} → Piece U n any Opening
  scope_piece = expect mark.LeftBrace >>> λ _. give Scope

  abbrev pub OpeningBy : Token → Kind → List Token → Opening → List Token → Type 0
  OpeningBy t kind.If = (if_piece {U = Unit {0}} {n = 0}).rel
  OpeningBy t kind.While = (while_piece {U = Unit {0}} {n = 0}).rel
  OpeningBy t kind.For = (for_piece {U = Unit {0}} {n = 0}).rel
  OpeningBy t kind.Scope = (scope_piece {U = Unit {0}} {n = 0}).rel
  OpeningBy t kind.Cut = (cut_piece {U = Unit {0}} {n = 0}).rel
  OpeningBy t kind.Region = (region_piece {U = Unit {0}} {n = 0}).rel
  OpeningBy t _ = λ ts o rest. ⊥

  head_read : (U : Type 0) (n : ℕ) → Exact U n (head_piece {U = Unit {0}} {n = 0}).rel any (head text n)
  unfolding head range_from range_to range_step grain_read
  head_read U n = (head_piece {U = U} {n = n}).exact

  pub opening_branch : (U : Type 0) (n : ℕ) (t : Token) (k : Kind) → Branch U n (OpeningBy t k) any t (opening text n t k)
  unfolding opening condition cut region head range_from range_to range_step grain_read
  opening_branch U n t kind.If = inl (if_piece {U = U} {n = n}).exact
  opening_branch U n t kind.While = inl (while_piece {U = U} {n = n}).exact
  opening_branch U n t kind.For = inl (for_piece {U = U} {n = n}).exact
  opening_branch U n t kind.Scope = inl (scope_piece {U = U} {n = n}).exact
  opening_branch U n t kind.Cut = inl (cut_piece {U = U} {n = n}).exact
  opening_branch U n t kind.Region = inl (region_piece {U = U} {n = n}).exact
  opening_branch U n t _ = inr (record { stops = λ ts. refl; never = λ ts a rest d. d })

  -- ---- the head of a loop in the grammar

  turns_into : (t : Token) (k : Kind) → t.kind ≡ k → (us : List Token) (v : ℕ) (rest : List Token) → TurnsBy t k us v rest → (t.kind ≡ kind.Number v) × (us ≡ rest)
  turns_into t (kind.Number v) is us w rest done = (is, refl)
  turns_into t _ is us v rest d = absurd d

  -- the head of a loop followed by a brace
  pub data Headed : List Token → Head → List Token → Type 0 where
    headed : {b : Token} {ts rest : List Token} {h : Head} → ReadsHead text ts h (b ∷ rest) → b.kind ≡ kind.LeftBrace → Headed ts h rest

  module _ (from to : Name × Expr) (step : Name) where
    -- the arrays of a loop followed by a brace
    data Overed (g : ℕ) : List Token → Head → List Token → Type 0 where
      overed : {b : Token} {ts rest : List Token} {xs : List Name} → ReadsOver text ts xs (b ∷ rest) → b.kind ≡ kind.LeftBrace → Overed g ts (made from to step g xs) rest

    -- the grain, the arrays of a loop, and a brace
    data Grained : List Token → Head → List Token → Type 0 where
      grained : {b : Token} {ts us rest : List Token} {n : ℕ} {xs : List Name} → ReadsGrain ts n us → ReadsOver text us xs (b ∷ rest)
          → b.kind ≡ kind.LeftBrace → Grained ts (made from to step n xs) rest

    over_into : (g : ℕ) (ts : List Token) (h : Head) (rest : List Token) → (over_choice from to step {U = Unit {0}} {n = 0} g).rel ts h rest → Overed g ts h rest
    over_into g ts h rest (inr (b, us, tok is, done)) = overed grammar.nothing is
    over_into g ts h rest (inl (o, us, tok io, (xs, vs, (l, ws, tok il, (x, zs, (u, cs, tok iu, done), (ys, ds, q, done))), (b, es, tok is, done)))) = overed (grammar.over io il iu q) is

    over_out : {g : ℕ} {ts us rest : List Token} {xs : List Name} {b : Token} → ReadsOver text ts xs us → us ≡ b ∷ rest → b.kind ≡ kind.LeftBrace
        → (over_choice from to step {U = Unit {0}} {n = 0} g).rel ts (made from to step g xs) rest
    over_out {rest = rest} {b = b} grammar.nothing e is = rw e (inr (b, rest, tok is, done))
    over_out {us = us} {rest = rest} {b = b} (grammar.over {t = t} {u = u} {v = v} {ts = ts} {xs = xs} it iu iv q) e is =
        let q' : ReadsMoreNames text ts xs (b ∷ rest) = subst (λ w. ReadsMoreNames text ts xs w) e q in
        inl (t, u ∷ v ∷ ts, tok it, (name_of text v ∷ xs, b ∷ rest, (u, v ∷ ts, tok iu, (name_of text v, ts, (v, ts, tok iv, done), (xs, b ∷ rest, q', done))), (b, rest, tok is, done)))

    with_grain : {n : ℕ} {ts us : List Token} {h : Head} {rest : List Token} → ReadsGrain ts n us → Overed n us h rest → Grained ts h rest
    with_grain g (overed r is) = grained g r is

    grain_into : (ts : List Token) (h : Head) (rest : List Token) → (grain_choice from to step {U = Unit {0}} {n = 0}).rel ts h rest → Grained ts h rest
    grain_into ts h rest (inr d) = with_grain grammar.usual (over_into 64 ts h rest d)
    grain_into ts h rest (inl (g, us, tok ig, (n, vs, (t, ws, parts, r), d))) =
        let z = turns_into t t.kind refl ws n vs r in
        rw (parts ∙ ap (λ w. t ∷ w) z.1) (with_grain (grammar.grain ig z.0) (over_into n vs h rest d))

    grain_out : {n : ℕ} {ts us rest : List Token} {xs : List Name} {b : Token} → ReadsGrain ts n us → ReadsOver text us xs (b ∷ rest)
        → b.kind ≡ kind.LeftBrace → (grain_choice from to step {U = Unit {0}} {n = 0}).rel ts (made from to step n xs) rest
    grain_out grammar.usual r is = inr (over_out r refl is)
    grain_out (grammar.grain {t = t} {u = u} {ts = ts} {n = n} it iu) r is = inl (t, u ∷ ts, tok it, (n, ts, at_first TurnsBy u (kind.Number n) iu ts n ts done, over_out r refl is))

  -- a complete head is derived from its parts
  whole_head : {left int x equals semicolon y less semicolon' z increment right : Token} {ts us vs rest : List Token} {from to : Expr} {h : Head} →
      left.kind ≡ kind.LeftParen → int.kind ≡ kind.Int → x.kind ≡ kind.Name → equals.kind ≡ kind.Assign →
      ReadsWhole text ts from (semicolon ∷ y ∷ less ∷ us) → semicolon.kind ≡ kind.Semicolon → y.kind ≡ kind.Name → less.kind ≡ kind.Less →
      ReadsWhole text us to (semicolon' ∷ z ∷ increment ∷ right ∷ vs) → semicolon'.kind ≡ kind.Semicolon → z.kind ≡ kind.Name → increment.kind ≡ kind.Increment →
      right.kind ≡ kind.RightParen → Grained (name_of text x, from) (name_of text y, to) (name_of text z) vs h rest → Headed (left ∷ int ∷ x ∷ equals ∷ ts) h rest
  whole_head i1 i2 i3 i4 r1 i5 i6 i7 r2 i8 i9 i10 i11 (grained g o is) = headed (grammar.head i1 i2 i3 i4 r1 i5 i6 i7 r2 i8 i9 i10 i11 g o) is

  pub head_into : (ts : List Token) (h : Head) (rest : List Token) → (head_piece {U = Unit {0}} {n = 0}).rel ts h rest → Headed ts h rest
  head_into ts h rest (
    f,
    us,
    (l, us1, tok i1, (int, us2, tok i2, (x, us3, tok i3, (eq, us4, tok i4, (from, us5, r1, (semi, us6, tok i5, done)))))),
    (t, vs, (y, vs1, tok i6, (less, vs2, tok i7, (to, vs3, r2, (semi', vs4, tok i8, done)))), (z, ws, (w, ws1, tok i9, (inc, ws2, tok i10, (right, ws3, tok i11, done))), d)),
  ) =
      whole_head i1 i2 i3 i4 r1 i5 i6 i7 r2 i8 i9 i10 i11 (grain_into (name_of text x, from) (name_of text y, to) (name_of text w) ws h rest d)

  pub head_out : {ts us rest : List Token} {h : Head} {b : Token} → ReadsHead text ts h us → us ≡ b ∷ rest → b.kind ≡ kind.LeftBrace → (head_piece {U = Unit {0}} {n = 0}).rel ts h rest
  head_out {us = us} {rest = rest} {b = b}
      (grammar.head {left = left} {int = int} {x = x} {equals = equals} {semicolon = semicolon} {y = y} {less = less} {semicolon' = semicolon'}
      {z = z} {increment = increment} {right = right} {ts = ts} {us = as'} {vs = vs} {ws = ws} {from = from} {to = to} {n = n} {xs = xs}
      i1 i2 i3 i4 r1 i5 i6 i7 r2 i8 i9 i10 i11 g o) e is =
      let o' : ReadsOver text ws xs (b ∷ rest) = subst (λ w. ReadsOver text ws xs w) e o in (
        (name_of text x, from),
        y ∷ less ∷ as',
        (
          left,
          int ∷ x ∷ equals ∷ ts,
          tok i1,
          (
            int,
            x ∷ equals ∷ ts,
            tok i2,
            (x, equals ∷ ts, tok i3, (equals, ts, tok i4, (from, semicolon ∷ y ∷ less ∷ as', r1, (semicolon, y ∷ less ∷ as', tok i5, done)))),
          ),
        ),
        (
          (name_of text y, to),
          z ∷ increment ∷ right ∷ vs,
          (y, less ∷ as', tok i6, (less, as', tok i7, (to, semicolon' ∷ z ∷ increment ∷ right ∷ vs, r2, (semicolon', z ∷ increment ∷ right ∷ vs, tok i8, done)))),
          (
            name_of text z,
            vs,
            (z, increment ∷ right ∷ vs, tok i9, (increment, right ∷ vs, tok i10, (right, vs, tok i11, done))),
            grain_out (name_of text x, from) (name_of text y, to) (name_of text z) g o' is,
          ),
        ),
      )
