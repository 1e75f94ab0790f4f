-- Lists with commas.
use Rattle.std.proofs.Common.{◌≡◌, ℕ, ◌<◌, ◌≤◌, Bool, true, List, [], ◌∷◌, length as len, Ok, refl, sym, ◌∙◌, arith, ◌⊎◌, inl, inr}
use Rattle.cw_model.specs.declared.token.Token.{Token}
use Rattle.cw_model.specs.declared.token.Kind.{Kind}
use Rattle.cw_model.specs.declared.token.Kind.TheVariants as kind
use Rattle.cw_model.specs.declared.syntax.NameKind.TheVariants as name_kind
use Rattle.cw_model.specs.Syntax.{Name, Expr, Param}
use Rattle.cw_model.specs.Grammar as grammar
use Rattle.cw_model.specs.Grammar.{name_of, ReadsWhole, ReadsMoreArguments, ReadsArguments, ReadsMoreNames, ReadsParam, ReadsMoreParams, ReadsParams}
use Rattle.cw_parse.specs.declared.marks.Mark.TheVariants as mark
use Rattle.cw_parse.specs.Marks.{is_mark}
use Rattle.cw_parse.specs.Reading.{Reader, ◌>>=◌, token}
use Rattle.cw_parse.specs.Parts.{expr, add_front, further, others, some_of, list, name, param, written}
use Rattle.cw_parse.proofs.Reader.{Stops, IsUnique, Seq, tok, Done, done, shorter}
use Rattle.cw_parse.proofs.Exact.{Exact, Halts, Against, any, any_halts, done_exact, done_rest, seq_exact, after_part, same_exact, given, one_way, guard_halts, perhaps_halts, narrow_exact, map_halts}
use Rattle.cw_parse.proofs.Pieces.{Marked, Piece, ◌>>>◌, expect, give, choose, perhaps, guard, but, against, marked_stops, then_halts, choose_halts, row_by}
use Rattle.cw_parse.proofs.Operators.{stops}
use Rattle.cw_parse.proofs.Expressions.{expr_exact, expr_halts, begins_not}

abbrev pub alone : {A : Type 0} → A → A × Unit {0}
alone a = (a, tt)

-- a comma and a part, as a relation
abbrev pub Further : {A : Type 0} → (List Token → A → List Token → Type 0) → Unit {0} → List Token → A × Unit {0} → List Token → Type 0
Further R s = Seq (Marked mark.Comma) (λ (_ : Token). Seq R (λ a. Done (alone a)))

-- the closing parenthesis; or a comma, a part and the rest of the list
abbrev pub Listed : {A : Type 0} → (List Token → A → List Token → Type 0) → (List Token → List A → List Token → Type 0) → List Token → List A → List Token → Type 0
Listed R Q ts xs rest = Seq (Marked mark.RightParen) (λ (_ : Token). Done []) ts xs rest ⊎ Seq (Further R tt) (λ x. Seq Q (λ bs. Done (add_front x.0 bs))) ts xs rest

-- Lists of parts that `R` reads; `Q` reads the parts after the first one.
module _ {A : Type 0} (R : List Token → A → List Token → Type 0) (r : Kind → Bool) (part : ℕ → Reader A) (comma : r kind.Comma ≡ true) (close : r kind.RightParen ≡ true)
    (parts : (U : Type 0) (n : ℕ) → Exact U n R r (part n)) (halts : (n : ℕ) → Halts n r (part n))
    (Q : List Token → List A → List Token → Type 0)
    (into : (ts : List Token) (xs : List A) (rest : List Token) → Listed R Q ts xs rest → Q ts xs rest)
    (out : (ts : List Token) (xs : List A) (rest : List Token) → Q ts xs rest → Listed R Q ts xs rest) where
  less : (n : ℕ) (ts : List Token) (a : A) (rest : List Token) → len ts ≤ n → R ts a rest → len rest ≤ n
  less n ts a rest few d = let y = shorter ts a rest ((parts (Unit {0}) n).stable ts a rest few d) in omega arith

  then_exact : (U : Type 0) (n : ℕ) → Exact U n (Seq R (λ a. Done (alone a))) r (λ ts. part n ts >>= λ x. Ok (alone x.0, x.1))
  then_exact U n =
      seq_exact U n n R (λ a. Done (alone a)) r r (part n) (λ a ts. Ok (alone a, ts)) (parts U n) (halts n)
      (λ a. narrow_exact U n (Done (alone a)) r (λ ts. Ok (alone a, ts)) (done_exact U n (alone a)))
      (less n) (λ a us b rest d h. done_rest r us b rest d h)

  further_exact : (U : Type 0) (n : ℕ) (s : Unit {0}) → Exact U n (Further R s) r (further (part n) s)
  further_exact U n s = after_part U n (Marked mark.Comma) (token (is_mark mark.Comma)) (λ (_ : Token). Seq R (λ a. Done (alone a))) r
      (λ _ ts. part n ts >>= λ x. Ok (alone x.0, x.1)) (expect {U = U} {n = n} mark.Comma).exact (λ _. then_exact U n)

  further_halts : (n : ℕ) (s : Unit {0}) → Halts n r (further (part n) s)
  further_halts n s = then_halts (Unit {0}) n r (expect mark.Comma) (λ _ ts. part n ts >>= λ x. Ok (alone x.0, x.1)) (λ _. map_halts n r (part n) alone (halts n))

  long : {ts : List Token} {x : A × Unit {0}} {rest : List Token} → Further R tt ts x rest → 0 < len ts
  long (t, us, tok is, d) = omega arith

  apart : {t : Token} {us : List Token} {x : A × Unit {0}} {rest : List Token} → t.kind ≡ kind.RightParen → Further R tt (t ∷ us) x rest → ⊥
  apart is (t, us, tok is', d) = let clash : kind.RightParen ≡ kind.Comma = sym is ∙ is' in cc

  listed_follows : {ts : List Token} {xs : List A} {rest : List Token} → Listed R Q ts xs rest → Stops r ts
  listed_follows (inl d) = marked_stops mark.RightParen r close d.2
  listed_follows (inr d) = marked_stops mark.Comma r comma d.2.2

  pub follows : (ts : List Token) (xs : List A) (rest : List Token) → Q ts xs rest → Stops r ts
  follows ts xs rest q = listed_follows (out ts xs rest q)

  others_by : (n : ℕ) → Exact (IsUnique Q any) n Q any (others (part n) n)
  others_by n =
      row_by (IsUnique Q any) mark.RightParen (λ _. []) add_front (further (part n)) (Further R) r (λ _. Q) (λ _. into) (λ _. out) (λ s ts x rest d. long d) (λ s t us x rest is d. apart is d)
      (λ s ts xs rest q. follows ts xs rest q) (λ u s. u) n (λ s. further_exact (IsUnique Q any) n s) (λ s. further_halts n s) n (omega arith) tt

  pub others_exact : (U : Type 0) (n : ℕ) → Exact U n Q any (others (part n) n)
  others_exact U n = given (IsUnique Q any) U n Q any (others (part n) n) (λ _. one_way (λ _. IsUnique Q any) Q any (λ n. others (part n) n) others_by) (others_by n)

  -- one or more parts, as a relation
  abbrev pub SomeOf : List Token → List A → List Token → Type 0
  SomeOf = Seq R (λ a. Seq Q (λ xs. Done (add_front a xs)))

  pub some_exact : (U : Type 0) (n : ℕ) → Exact U n SomeOf any (some_of (part n) n)
  some_exact U n =
      seq_exact U n n R (λ a. Seq Q (λ xs. Done (add_front a xs))) r any (part n) (λ a ts. others (part n) n ts >>= λ y. Ok (a ∷ y.0, y.1)) (parts U n) (halts n)
      (λ a. after_part U n Q (others (part n) n) (λ xs. Done (add_front a xs)) any (λ xs ts. Ok (a ∷ xs, ts)) (others_exact U n) (λ xs. done_exact U n (add_front a xs)))
      (less n) (λ a us b rest d h. follows us d.0 d.1 d.2)

  module _ (P : List Token → List A → List Token → Type 0) (begins : (t : Token) (us : List Token) (a : A) (rest : List Token) → t.kind ≡ kind.RightParen → R (t ∷ us) a rest → ⊥)
      (list_into : (ts : List Token) (xs : List A) (rest : List Token) → Seq (Marked mark.RightParen) (λ (_ : Token). Done []) ts xs rest ⊎ SomeOf ts xs rest → P ts xs rest)
      (list_out : (ts : List Token) (xs : List A) (rest : List Token) → P ts xs rest → Seq (Marked mark.RightParen) (λ (_ : Token). Done []) ts xs rest ⊎ SomeOf ts xs rest) where
    pub list_exact : (U : Type 0) (n : ℕ) → Exact U n P any (list (part n) n)
    unfolding list
    list_exact U n =
        same_exact U n either.rel P any either.read list_into list_out either.exact
      where
        either : Piece U n any (List A)
        either = choose mark.RightParen (λ _. give []) (record { rel = SomeOf; read = some_of (part n) n; exact = some_exact U n }) (λ t us xs rest is d h. begins t us d.0 d.1 is d.2)

module _ (text : List ℕ) where
  -- ---- arguments

  argument_into : (ts : List Token) (es : List Expr) (rest : List Token) → Listed (ReadsWhole text) (ReadsMoreArguments text) ts es rest → ReadsMoreArguments text ts es rest
  argument_into ts es rest (inl (t, us, tok is, done)) = grammar.ReadsMoreArguments.close is
  argument_into ts es rest (inr (y, us, (t, vs, tok is, (d, ws, r, done)), (bs, xs, q, done))) = grammar.ReadsMoreArguments.comma is r q

  argument_out : {ts : List Token} {es : List Expr} {rest : List Token} → ReadsMoreArguments text ts es rest → Listed (ReadsWhole text) (ReadsMoreArguments text) ts es rest
  argument_out (grammar.ReadsMoreArguments.close {t = t} {ts = ts} is) = inl (t, ts, tok is, done)
  argument_out (grammar.ReadsMoreArguments.comma {t = t} {ts = ts} {us = us} {rest = rest} {e = e} {es = es} is r q) = inr ((e, tt), us, (t, ts, tok is, (e, us, r, done)), (es, rest, q, done))

  arguments_out : {ts : List Token} {es : List Expr} {rest : List Token} → ReadsArguments text ts es rest
      → Seq (Marked mark.RightParen) (λ (_ : Token). Done []) ts es rest ⊎ Seq (ReadsWhole text) (λ a. Seq (ReadsMoreArguments text) (λ xs. Done (add_front a xs))) ts es rest
  arguments_out (grammar.ReadsArguments.none {t = t} {ts = ts} is) = inl (t, ts, tok is, done)
  arguments_out (grammar.ReadsArguments.some {us = us} {rest = rest} {e = e} {es = es} r q) = inr (e, us, r, (es, rest, q, done))

  arguments_into : (ts : List Token) (es : List Expr) (rest : List Token)
      → Seq (Marked mark.RightParen) (λ (_ : Token). Done []) ts es rest
      ⊎ Seq (ReadsWhole text) (λ a. Seq (ReadsMoreArguments text) (λ xs. Done (add_front a xs))) ts es rest → ReadsArguments text ts es rest
  arguments_into ts es rest (inl (t, us, tok is, done)) = grammar.ReadsArguments.none is
  arguments_into ts es rest (inr (e, us, r, (bs, vs, q, done))) = grammar.ReadsArguments.some r q

  pub arguments_exact : (U : Type 0) (n : ℕ) → Exact U n (ReadsArguments text) any (list (expr text n) n)
  arguments_exact =
      list_exact (ReadsWhole text) (stops 4) (expr text) refl refl (expr_exact text) (expr_halts text) (ReadsMoreArguments text) argument_into (λ ts es rest q. argument_out q)
      (ReadsArguments text) (λ t us e rest is r. begins_not text mark.RightParen refl is r) arguments_into (λ ts es rest q. arguments_out q)

  -- ---- names

  abbrev pub ReadsName : List Token → Name → List Token → Type 0
  ReadsName = Seq (Marked mark.Name) (λ x. Done (name_of text x))

  name_exact : (U : Type 0) (n : ℕ) → Exact U n ReadsName any (name text)
  name_exact U n = (expect {U = U} {n = n} mark.Name >>> λ x. give (name_of text x)).exact

  name_into : (ts : List Token) (xs : List Name) (rest : List Token) → Listed ReadsName (ReadsMoreNames text) ts xs rest → ReadsMoreNames text ts xs rest
  name_into ts xs rest (inl (t, us, tok is, done)) = grammar.ReadsMoreNames.close is
  name_into ts xs rest (inr (y, us, (t, vs, tok is, (x, ws, (u, zs, tok is', done), done)), (bs, cs, q, done))) = grammar.ReadsMoreNames.comma is is' q

  name_out : {ts : List Token} {xs : List Name} {rest : List Token} → ReadsMoreNames text ts xs rest → Listed ReadsName (ReadsMoreNames text) ts xs rest
  name_out (grammar.ReadsMoreNames.close {t = t} {ts = ts} is) = inl (t, ts, tok is, done)
  name_out (grammar.ReadsMoreNames.comma {t = t} {u = u} {ts = ts} {rest = rest} {xs = xs} is is' q) =
      inr ((name_of text u, tt), ts, (t, u ∷ ts, tok is, (name_of text u, ts, (u, ts, tok is', done), done)), (xs, rest, q, done))

  pub names_exact : (U : Type 0) (n : ℕ) → Exact U n (Seq ReadsName (λ x. Seq (ReadsMoreNames text) (λ xs. Done (add_front x xs)))) any (some_of (name text) n)
  names_exact = some_exact ReadsName any (λ _. name text) refl refl name_exact (λ n. any_halts n (name text)) (ReadsMoreNames text) name_into (λ ts xs rest q. name_out q)

  -- ---- parameters

  abbrev integer : Token → Param
  integer x = record { name = name_of text x; kind = name_kind.Integer }

  abbrev array : Token → Param
  array x = record { name = name_of text x; kind = name_kind.Array }

  abbrev to_read : Token → Param
  to_read x = record { name = name_of text x; kind = name_kind.Const }

  abbrev bracket : Against (is_mark mark.LeftBracket) (but mark.LeftBracket)
  bracket = against mark.LeftBracket

  abbrev array_piece : {U : Type 0} {n : ℕ} → Token → Piece U n (but mark.LeftBracket) Param
  array_piece x = guard mark.LeftBracket bracket (expect mark.RightBracket >>> λ _. give (array x))

  abbrev written_piece : {U : Type 0} {n : ℕ} → Piece U n (but mark.LeftBracket) Param
  written_piece = expect mark.Int >>> λ _. expect mark.Name >>> λ x. perhaps mark.LeftBracket bracket (λ _. array_piece x) (integer x)

  abbrev const_piece : {U : Type 0} {n : ℕ} → Piece U n (but mark.LeftBracket) Param
  const_piece =
      guard mark.LeftBracket bracket
      (expect mark.Int >>> λ _. expect mark.Name >>> λ x. expect mark.LeftBracket >>> λ _. expect mark.RightBracket >>> λ _. give (to_read x))

  pub not_written : {t : Token} {us : List Token} {p : Param} {rest : List Token} → t.kind ≡ kind.Const → (written_piece {U = Unit {0}} {n = 0}).rel (t ∷ us) p rest → ⊥
  not_written is (u, vs, tok i, d) = let clash : kind.Const ≡ kind.Int = sym is ∙ i in cc

  abbrev param_piece : {U : Type 0} {n : ℕ} → Piece U n (but mark.LeftBracket) Param
  param_piece = choose mark.Const (λ _. const_piece) written_piece (λ t us b rest is d h. not_written is d)

  param_into : (ts : List Token) (p : Param) (rest : List Token) → (param_piece {U = Unit {0}} {n = 0}).rel ts p rest → ReadsParam text ts p rest
  param_into ts p rest (inr (t, us, tok is, (x, vs, tok is', inr done))) = grammar.ReadsParam.integer is is'
  param_into ts p rest (inr (t, us, tok is, (x, vs, tok is', inl (u, ws, tok i, (v, zs, tok i', done))))) = grammar.ReadsParam.array is is' i i'
  param_into ts p rest (inl (c, bs, tok first, (t, us, tok is, (x, vs, tok is', (u, ws, tok i, (v, zs, tok i', done)))))) =
      grammar.ReadsParam.array_to_read first is is' i i'

  param_out : {ts : List Token} {p : Param} {rest : List Token} → ReadsParam text ts p rest → (param_piece {U = Unit {0}} {n = 0}).rel ts p rest
  param_out (grammar.ReadsParam.integer {t = t} {x = x} {ts = ts} is is') = inr (t, x ∷ ts, tok is, (x, ts, tok is', inr done))
  param_out (grammar.ReadsParam.array {t = t} {x = x} {u = u} {v = v} {ts = ts} is is' i i') = inr (t, x ∷ u ∷ v ∷ ts, tok is, (x, u ∷ v ∷ ts, tok is', inl (u, v ∷ ts, tok i, (v, ts, tok i', done))))
  param_out (grammar.ReadsParam.array_to_read {c = c} {t = t} {x = x} {u = u} {v = v} {ts = ts} first is is' i i') =
      inl (c, t ∷ x ∷ u ∷ v ∷ ts, tok first, (t, x ∷ u ∷ v ∷ ts, tok is, (x, u ∷ v ∷ ts, tok is', (u, v ∷ ts, tok i, (v, ts, tok i', done)))))

  param_exact : (U : Type 0) (n : ℕ) → Exact U n (ReadsParam text) (but mark.LeftBracket) (param text)
  unfolding param
  param_exact U n = same_exact U n (param_piece {U = U} {n = n}).rel (ReadsParam text) (but mark.LeftBracket)
      (param_piece {U = U} {n = n}).read param_into (λ ts p rest r. param_out r) (param_piece {U = U} {n = n}).exact

  written_halts : (n : ℕ) → Halts n (but mark.LeftBracket) (written text)
  written_halts n =
      then_halts (Unit {0}) n (but mark.LeftBracket) (expect mark.Int) (λ _. (expect {U = Unit {0}} {n = n} mark.Name >>> λ x. perhaps mark.LeftBracket bracket (λ _. array_piece x) (integer x)).read)
      (λ _. then_halts (Unit {0}) n (but mark.LeftBracket) (expect mark.Name) (λ x. (perhaps {U = Unit {0}} {n = n} mark.LeftBracket bracket (λ _. array_piece x) (integer x)).read)
      (λ x. perhaps_halts (is_mark mark.LeftBracket) (but mark.LeftBracket) bracket n (λ _. (array_piece {U = Unit {0}} {n = n} x).read) (integer x)
      (λ _. guard_halts (is_mark mark.LeftBracket) (but mark.LeftBracket) bracket n (expect {U = Unit {0}} {n = n} mark.RightBracket >>> λ _. give (array x)).read)))

  param_halts : (n : ℕ) → Halts n (but mark.LeftBracket) (param text)
  unfolding param
  param_halts n =
      choose_halts mark.Const (but mark.LeftBracket) n (λ _. (const_piece {U = Unit {0}} {n = n}).read) (written text)
      (λ _. guard_halts (is_mark mark.LeftBracket) (but mark.LeftBracket) bracket n
      (expect {U = Unit {0}} {n = n} mark.Int >>> λ _. expect mark.Name >>> λ x. expect mark.LeftBracket >>> λ _. expect mark.RightBracket >>> λ _. give (to_read x)).read)
      (written_halts n)

  parameter_into : (ts : List Token) (ps : List Param) (rest : List Token) → Listed (ReadsParam text) (ReadsMoreParams text) ts ps rest → ReadsMoreParams text ts ps rest
  parameter_into ts ps rest (inl (t, us, tok is, done)) = grammar.ReadsMoreParams.close is
  parameter_into ts ps rest (inr (y, us, (t, vs, tok is, (q, ws, r, done)), (bs, xs, q', done))) = grammar.ReadsMoreParams.comma is r q'

  parameter_out : {ts : List Token} {ps : List Param} {rest : List Token} → ReadsMoreParams text ts ps rest → Listed (ReadsParam text) (ReadsMoreParams text) ts ps rest
  parameter_out (grammar.ReadsMoreParams.close {t = t} {ts = ts} is) = inl (t, ts, tok is, done)
  parameter_out (grammar.ReadsMoreParams.comma {t = t} {ts = ts} {us = us} {rest = rest} {p = p} {ps = ps} is r q) = inr ((p, tt), us, (t, ts, tok is, (p, us, r, done)), (ps, rest, q, done))

  params_out : {ts : List Token} {ps : List Param} {rest : List Token} → ReadsParams text ts ps rest
      → Seq (Marked mark.RightParen) (λ (_ : Token). Done []) ts ps rest ⊎ Seq (ReadsParam text) (λ a. Seq (ReadsMoreParams text) (λ xs. Done (add_front a xs))) ts ps rest
  params_out (grammar.ReadsParams.none {t = t} {ts = ts} is) = inl (t, ts, tok is, done)
  params_out (grammar.ReadsParams.some {us = us} {rest = rest} {p = p} {ps = ps} r q) = inr (p, us, r, (ps, rest, q, done))

  params_into : (ts : List Token) (ps : List Param) (rest : List Token)
      → Seq (Marked mark.RightParen) (λ (_ : Token). Done []) ts ps rest
      ⊎ Seq (ReadsParam text) (λ a. Seq (ReadsMoreParams text) (λ xs. Done (add_front a xs))) ts ps rest → ReadsParams text ts ps rest
  params_into ts ps rest (inl (t, us, tok is, done)) = grammar.ReadsParams.none is
  params_into ts ps rest (inr (p, us, r, (bs, vs, q, done))) = grammar.ReadsParams.some r q

  param_not : {t : Token} {us : List Token} {p : Param} {rest : List Token} → t.kind ≡ kind.RightParen → ReadsParam text (t ∷ us) p rest → ⊥
  param_not is (grammar.ReadsParam.integer is' i) = let clash : kind.RightParen ≡ kind.Int = sym is ∙ is' in cc
  param_not is (grammar.ReadsParam.array_to_read is' i i' i'' e) = let clash : kind.RightParen ≡ kind.Const = sym is ∙ is' in cc
  param_not is (grammar.ReadsParam.array is' i i' i'') = let clash : kind.RightParen ≡ kind.Int = sym is ∙ is' in cc

  pub params_exact : (U : Type 0) (n : ℕ) → Exact U n (ReadsParams text) any (list (param text) n)
  params_exact =
      list_exact (ReadsParam text) (but mark.LeftBracket) (λ _. param text) refl refl param_exact param_halts (ReadsMoreParams text) parameter_into (λ ts ps rest q. parameter_out q)
      (ReadsParams text) (λ t us p rest is r. param_not is r) params_into (λ ts ps rest q. params_out q)
