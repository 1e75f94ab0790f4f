-- Expressions.
use Rattle.std.proofs.Common.{◌≡◌, ℕ, zero, suc, ◌<◌, ◌≤◌, pos, Bool, true, false, cond, List, [], ◌∷◌, length as len, Option, Some, None, Ok, Err, refl, sym, ap, subst, ◌∙◌, arith, ◌⊎◌, inl, inr}
use Rattle.std.specs.Prelude.{nat_le}
use Rattle.std.proofs.lemmas.Bool.{leb-true, le-leb}
use Rattle.cw_model.specs.declared.token.Token.{Token}
use Rattle.cw_model.specs.declared.token.Kind.{Kind}
use Rattle.cw_model.specs.declared.token.Kind.TheVariants as kind
use Rattle.cw_model.specs.declared.syntax.Operator.{Operator}
use Rattle.cw_model.specs.declared.syntax.Operator.TheVariants as operator
use Rattle.cw_model.specs.declared.limits.TheConstants.{MOST_NUMBER}
use Rattle.cw_model.specs.Syntax as tree
use Rattle.cw_model.specs.Syntax.{Expr}
use Rattle.cw_model.specs.Grammar as grammar
use Rattle.cw_model.specs.Grammar.{name_of, infix_of, level as at, chain as behind, ReadsExpr, ReadsOperand, ReadsWhole}
use Rattle.cw_parse.specs.declared.marks.Mark.{Mark}
use Rattle.cw_parse.specs.declared.marks.Mark.TheVariants as mark
use Rattle.cw_parse.specs.Marks.{is_mark}
use Rattle.cw_parse.specs.Reading.{Read, Reader, ◌>>=◌, by_first, if_next, unless_next}
use Rattle.cw_parse.specs.Parts.{named, measured, atom, operand_after, at_level, beside, operator_at, chain_on, chain, level_over, operand, level, expr}
use Rattle.cw_parse.proofs.Reader.{Stops, Front, IsUnique, SomeText, Seq, Tok, tok, Done, done, shorter, bind_ok, ok_is}
use Rattle.cw_parse.proofs.Exact.{Exact, Halts, Passes, Against, Branch, First, mark as token_of, done_exact, done_rest, differ, seq_exact, narrow_exact, same_exact}
use Rattle.cw_parse.proofs.Exact.{same_reader, given, fewer_exact, zero_exact, one_way, guard_halts, perhaps_halts, map_halts, first_exact, at_first, if_next_exact}
use Rattle.cw_parse.proofs.MarkKinds.{kind_of, passes}
use Rattle.cw_parse.proofs.Pieces.{Marked, Piece, ◌>>>◌, expect, give, before, perhaps, guard}
use Rattle.cw_parse.proofs.Operators.{stops, stops_below, operator_stops, operator_on, stops_above, level_of, is_level, operator_ok, Operated, operated}

-- an opening bracket continues a name
no_index : Against (is_mark mark.LeftBracket) (stops 0)
no_index = record { on = λ k e. ap (stops 0) ((passes mark.LeftBracket).only k e); off = off }
  where
    off : (k : Kind) → is_mark mark.LeftBracket k ≡ false → stops 0 k ≡ true
    off kind.LeftBracket e = absurd cc
    off kind.Star e = refl
    off kind.Plus e = refl
    off _ e = refl

-- an operator of this level
abbrev Goes : ℕ → Kind → Type 0
Goes k x = (o : Operator) × (infix_of x ≡ Some (k, o))

abbrev is_some : Option Operator → Bool
is_some None = false
is_some (Some o) = true

abbrev or_plus : Option Operator → Operator
or_plus None = operator.Plus
or_plus (Some o) = o

abbrev goes : ℕ → Kind → Bool
goes k x = is_some (at_level k (infix_of x))

going : (k : ℕ) → Passes (goes k) (Goes k)
going k = record { only = λ x e. only x (at_level k (infix_of x)) refl e; is = λ x g. ap is_some (is_level k (infix_of x) g.0 g.1) }
  where
    only : (x : Kind) (v : Option Operator) → at_level k (infix_of x) ≡ v → is_some v ≡ true → Goes k x
    only x None h e = absurd cc
    only x (Some o) h e = (o, level_of k (infix_of x) o h)

module _ (text : List ℕ) where
  abbrev pub At : ℕ → List Token → Expr → List Token → Type 0
  At k = ReadsExpr text (at k)

  abbrev pub Behind : ℕ → Expr → List Token → Expr → List Token → Type 0
  Behind k d = ReadsExpr text (behind k d)

  -- ---- the operators of a level

  module _ (U : Type 0) (n k : ℕ) (small : k < 4) (one : U → (d : Expr) → IsUnique (Behind (suc k) d) (stops (suc k))) (next : Reader Expr)
      (lower : Exact U n (At k) (stops k) next) (halts : Halts n (stops k) next) where
    -- the right operand of an operator, and the rest of the chain
    abbrev After : Expr → Token → List Token → Expr → List Token → Type 0
    After d t = Seq (At k) (λ e. Behind (suc k) (tree.Binary (or_plus (at_level (suc k) (infix_of t.kind))) d e))

    abbrev Chain : Expr → List Token → Expr → List Token → Type 0
    Chain d ts e rest = Seq (Tok (Goes (suc k))) (After d) ts e rest ⊎ Done d ts e rest

    chain_into : (d : Expr) (ts : List Token) (e : Expr) (rest : List Token) → Chain d ts e rest → Behind (suc k) d ts e rest
    chain_into d ts e rest (inr done) = grammar.end
    chain_into d ts e rest (inl (t, us, tok (o, is), (b, vs, r, q))) =
        let here = ap or_plus (is_level (suc k) (infix_of t.kind) o is) in
        grammar.infixed is r (subst (λ o. Behind (suc k) (tree.Binary o d b) vs e rest) here q)

    chain_out : {d : Expr} {ts : List Token} {e : Expr} {rest : List Token} → Behind (suc k) d ts e rest → Chain d ts e rest
    chain_out grammar.end = inr done
    chain_out {d} {e = f} {rest = rest} (grammar.infixed {t = t} {ts = ts} {us = us} {o = o} {e = e} is r q) =
        let here = ap or_plus (is_level (suc k) (infix_of t.kind) o is) in
        inl (t, ts, tok (o, is), (e, us, r, subst (λ o. Behind (suc k) (tree.Binary o d e) us f rest) (sym here) q))

    chain_follows : {d : Expr} {us : List Token} {e : Expr} {rest : List Token} → Behind (suc k) d us e rest → Stops (stops (suc k)) rest → Stops (stops k) us
    chain_follows {us = us} grammar.end h = stops_below k us h
    chain_follows (grammar.infixed {t = t} {o = o} is r q) h = operator_stops k t o is

    step : (m : ℕ) (d : Expr) (t : Token) (ts : List Token) (v : Option Operator)
        → chain_on next (chain next (suc k) m) d (t ∷ ts) (beside ts v) ≡ cond (is_some v) (next ts >>= λ e. chain next (suc k) m (tree.Binary (or_plus v) d e.0) e.1) (Ok (d, t ∷ ts))
    step m d t ts None = refl
    step m d t ts (Some o) = refl

    abbrev after : ℕ → Expr → Token → Reader Expr
    after m d t us = next us >>= λ e. chain next (suc k) m (tree.Binary (or_plus (at_level (suc k) (infix_of t.kind))) d e.0) e.1

    chain_read : (m : ℕ) (d : Expr) (ts : List Token) → chain next (suc k) (suc m) d ts ≡ if_next (goes (suc k)) (after m d) (λ us. Ok (d, us)) ts
    unfolding chain
    chain_read m d [] = refl
    chain_read m d (t ∷ ts) = step m d t ts (at_level (suc k) (infix_of t.kind))

    apart : (d : Expr) (t : Token) (us : List Token) (b : Expr) (rest : List Token) → Goes (suc k) t.kind → Done d (t ∷ us) b rest → Stops (stops (suc k)) rest → ⊥
    apart d t us b rest g done h = operator_on (suc k) t g.0 g.1 h

    pub chain_by : (m : ℕ) → m ≤ n → (d : Expr) → Exact U m (Behind (suc k) d) (stops (suc k)) (chain next (suc k) m d)
    unfolding chain
    chain_by zero le d = record {
      some = record { text = []; value = d; reads = λ after. grammar.end };
      stable = λ ts e rest few r. nothing_stable few r;
      sound = λ ts e rest h. subst (λ (y : Expr × List Token). Behind (suc k) d ts y.0 y.1) (ok_is (d, ts) (e, rest) h) grammar.end;
      complete = λ ts e rest few r stop. nothing few r;
      unique = λ u. one u d;
      stuck = λ u ts m few h. absurd cc;
    }
      where
        nothing : {ts : List Token} {e : Expr} {rest : List Token} → len ts ≤ 0 → Behind (suc k) d ts e rest → ◌≡◌ {A = Read Expr} (Ok (d, ts)) (Ok (e, rest))
        nothing few grammar.end = refl
        nothing few (grammar.infixed is r q) = absurd (omega arith)

        nothing_stable : {ts : List Token} {e : Expr} {rest : List Token} → len ts ≤ 0 → Behind (suc k) d ts e rest → Front (Behind (suc k) d) ts e rest
        nothing_stable few grammar.end = record { front = []; parts = refl; again = λ ws. grammar.end }
        nothing_stable few (grammar.infixed is r q) = absurd (omega arith)
    chain_by (suc m) le d =
        same_reader U (suc m) (Behind (suc k) d) (stops (suc k)) (if_next (goes (suc k)) (after m d) (λ us. Ok (d, us))) (chain next (suc k) (suc m) d) (chain_read m d)
        (same_exact U (suc m) (Chain d) (Behind (suc k) d) (stops (suc k)) (if_next (goes (suc k)) (after m d) (λ us. Ok (d, us))) (chain_into d) (λ ts e rest r. chain_out r)
        (if_next_exact U m (suc m) (omega arith) (goes (suc k)) (Goes (suc k)) (going (suc k)) (After d) (Done d) (stops (suc k)) (after m d) (λ us. Ok (d, us))
        (λ t. seq_exact U m m (At k) (λ e. Behind (suc k) (tree.Binary (or_plus (at_level (suc k) (infix_of t.kind))) d e)) (stops k)
        (stops (suc k)) next (λ e. chain next (suc k) m (tree.Binary (or_plus (at_level (suc k) (infix_of t.kind))) d e))
        (fewer_exact U m n (At k) (stops k) next (omega arith) lower)
        (λ ts e rest few h. halts ts e rest (omega arith) h)
        (λ e. chain_by m (omega arith) (tree.Binary (or_plus (at_level (suc k) (infix_of t.kind))) d e))
        (λ ts e rest few r. let y = shorter ts e rest (lower.stable ts e rest (omega arith) r) in omega arith)
        (λ e us f rest r h. chain_follows r h))
        (narrow_exact U (suc m) (Done d) (stops (suc k)) (λ us. Ok (d, us)) (done_exact U (suc m) d))
        (apart d)))

    eaten : {us ts : List Token} {o : Operator} → Operated (suc k) ts o us → len us < len ts
    eaten (operated is) = omega arith

    chain_halts : (m : ℕ) → m ≤ n → (d : Expr) (ts : List Token) (e : Expr) (rest : List Token) → len ts ≤ m → Stops (stops k) ts
        → chain next (suc k) m d ts ≡ Ok (e, rest) → Stops (stops (suc k)) rest
    unfolding chain
    chain_halts zero le d [] e rest few stop h = subst (λ (y : Expr × List Token). Stops (stops (suc k)) y.1) (ok_is (d, []) (e, rest) h) tt
    chain_halts zero le d (t ∷ ts) e rest few stop h = absurd (omega arith)
    chain_halts (suc m) le d ts e rest few stop h = go (chain_halts m (omega arith)) (operator_at (suc k) ts) refl h
      where
        go : ((d : Expr) (ts : List Token) (e : Expr) (rest : List Token) → len ts ≤ m → Stops (stops k) ts → chain next (suc k) m d ts ≡ Ok (e, rest) → Stops (stops (suc k)) rest)
            → (v : Option (Operator × List Token)) → operator_at (suc k) ts ≡ v → chain_on next (chain next (suc k) m) d ts v ≡ Ok (e, rest) → Stops (stops (suc k)) rest
        go ih None f h = subst (λ (y : Expr × List Token). Stops (stops (suc k)) y.1) (ok_is (d, ts) (e, rest) h) (stops_above k ts small stop f)
        go ih (Some (o, us)) f h =
            let less = eaten (operator_ok (suc k) ts o us f) in
            let x = bind_ok (next us) _ (e, rest) h in
            let r = lower.sound us x.0.0 x.0.1 x.1 in
            let y = shorter us x.0.0 x.0.1 (lower.stable us x.0.0 x.0.1 (omega arith) r) in
            ih (tree.Binary o d x.0.0) x.0.1 e rest (omega arith) (halts us x.0.0 x.0.1 (omega arith) x.1) x.2

    level_into : (ts : List Token) (e : Expr) (rest : List Token) → Seq (At k) (λ d. Behind (suc k) d) ts e rest → At (suc k) ts e rest
    level_into ts e rest (d, us, r, q) = grammar.operators r q

    level_out : {ts : List Token} {e : Expr} {rest : List Token} → At (suc k) ts e rest → Seq (At k) (λ d. Behind (suc k) d) ts e rest
    level_out (grammar.operators {us = us} {d = d} r q) = (d, us, r, q)

    abbrev above : Reader Expr
    above ts = next ts >>= λ x. chain next (suc k) n x.0 x.1

    pub above_exact : Exact U n (At (suc k)) (stops (suc k)) above
    above_exact =
        same_exact U n (Seq (At k) (λ d. Behind (suc k) d)) (At (suc k)) (stops (suc k)) above level_into (λ ts e rest r. level_out r)
        (seq_exact U n n (At k) (λ d. Behind (suc k) d) (stops k) (stops (suc k)) next (λ d. chain next (suc k) n d) lower halts (λ d. chain_by n (omega arith) d)
        (λ ts e rest few r. let y = shorter ts e rest (lower.stable ts e rest few r) in omega arith) (λ e us f rest r h. chain_follows r h))

    pub above_halts : Halts n (stops (suc k)) above
    above_halts ts e rest few h =
        let x = bind_ok (next ts) _ (e, rest) h in
        let r = lower.sound ts x.0.0 x.0.1 x.1 in
        let y = shorter ts x.0.0 x.0.1 (lower.stable ts x.0.0 x.0.1 few r) in
        chain_halts n (omega arith) x.0.0 x.0.1 e rest (omega arith) (halts ts x.0.0 x.0.1 few x.1) x.2

  -- ---- all levels

  abbrev OneWay : Type 0
  OneWay = IsUnique (At 0) (stops 0) × ((k : ℕ) → k < 4 → (d : Expr) → IsUnique (Behind (suc k) d) (stops (suc k)))

  -- a reader of a level is exact, and it halts
  abbrev Level : Type 0 → ℕ → ℕ → Reader Expr → Type 0
  Level U n k f = Exact U n (At k) (stops k) f × Halts n (stops k) f

  level_by : (n : ℕ) (base : Reader Expr) → Level OneWay n 0 base → (k : ℕ) → k < 5 → Level OneWay n k (level_over base n k)
  unfolding level_over
  level_by n base x zero small = x
  level_by n base x (suc k) small =
      let low = level_by n base x k (omega arith) in (
        above_exact OneWay n k (omega arith) (λ u. u.1 k (omega arith)) (level_over base n k) low.0 low.1,
        above_halts OneWay n k (omega arith) (λ u. u.1 k (omega arith)) (level_over base n k) low.0 low.1,
      )

  -- ---- operands

  abbrev OperandBy : Token → Kind → List Token → Expr → List Token → Type 0
  OperandBy t kind.Minus = Seq (At 0) (λ e. Done (tree.Negative e))
  OperandBy t kind.Not = Seq (At 0) (λ e. Done (tree.Not e))
  OperandBy t (kind.Number n) = λ ts e rest. (n ≤ MOST_NUMBER) × Done (tree.Number (pos n)) ts e rest
  OperandBy t kind.Name = λ ts e rest.
      Seq (Marked mark.LeftBracket) (λ (_ : Token). Seq (At 4) (λ i. Seq (Marked mark.RightBracket) (λ (_ : Token). Done (tree.Element (name_of text t) i)))) ts e rest
      ⊎ Done (tree.Variable (name_of text t)) ts e rest
  OperandBy t kind.Len = Seq (Marked mark.LeftParen) (λ (_ : Token). Seq (Marked mark.Name) (λ a. Seq (Marked mark.RightParen) (λ (_ : Token). Done (tree.Length (name_of text a)))))
  OperandBy t kind.LeftParen = Seq (At 4) (λ e. Seq (Marked mark.RightParen) (λ (_ : Token). Done e))
  OperandBy t _ = λ ts e rest. ⊥

  operand_into : (t : Token) (k : Kind) → t.kind ≡ k → (us : List Token) (e : Expr) (rest : List Token) → OperandBy t k us e rest → At 0 (t ∷ us) e rest
  operand_into t kind.Minus is us e rest (d, vs, r, done) = grammar.operand is (grammar.negative r)
  operand_into t kind.Not is us e rest (d, vs, r, done) = grammar.operand is (grammar.negation r)
  operand_into t (kind.Number n) is us e rest (le, done) = grammar.operand is (grammar.number le)
  operand_into t kind.Name is us e rest (inr done) = grammar.operand is grammar.variable
  operand_into t kind.Name is us e rest (inl (u, vs, tok is', (i, ws, r, (v, xs, tok is'', done)))) = grammar.operand is (grammar.element is' r is'')
  operand_into t kind.Len is us e rest (u, vs, tok i, (a, ws, tok i', (w, xs, tok i'', done))) = grammar.operand is (grammar.length_of i i' i'')
  operand_into t kind.LeftParen is us e rest (d, vs, r, (u, ws, tok is', done)) = grammar.operand is (grammar.parentheses r is')
  operand_into t _ is us e rest d = absurd d

  operand_of : {t : Token} {k : Kind} {us rest : List Token} {e : Expr} → ReadsOperand text k t us e rest → OperandBy t k us e rest
  operand_of (grammar.negative {rest = rest} {e = e} r) = (e, rest, r, done)
  operand_of (grammar.negation {rest = rest} {e = e} r) = (e, rest, r, done)
  operand_of (grammar.number le) = (le, done)
  operand_of grammar.variable = inr done
  operand_of (grammar.element {u = u} {v = v} {ts = ts} {rest = rest} {e = e} is r is') = inl (u, ts, tok is, (e, v ∷ rest, r, (v, rest, tok is', done)))
  operand_of (grammar.length_of {u = u} {v = v} {w = w} {ts = ts} i i' i'') = (u, v ∷ w ∷ ts, tok i, (v, w ∷ ts, tok i', (w, ts, tok i'', done)))
  operand_of (grammar.parentheses {u = u} {rest = rest} {e = e} r is) = (e, u ∷ rest, r, (u, rest, tok is, done))

  operand_out : {ts rest : List Token} {e : Expr} → At 0 ts e rest → First OperandBy ts e rest
  operand_out (grammar.operand {k = k} {t = t} {ts = us} {rest = rest} {e = e} is r) = at_first OperandBy t k is us e rest (operand_of r)

  module _ (U : Type 0) (n : ℕ) (whole : Reader Expr) (x : Level U n 4 whole) (inner : Reader Expr) (y : Level U n 0 inner) where
    abbrev w : Piece U n (stops 4) Expr
    w = record { rel = At 4; read = whole; exact = x.0 }

    -- an operand after a sign
    signed : (h : Expr → Expr) → Exact U n (Seq (At 0) (λ e. Done (h e))) (stops 0) (λ ts. inner ts >>= λ x. Ok (h x.0, x.1))
    signed h =
        seq_exact U n n (At 0) (λ e. Done (h e)) (stops 0) (stops 0) inner (λ e ts. Ok (h e, ts)) y.0 y.1 (λ e. narrow_exact U n (Done (h e)) (stops 0) (λ ts. Ok (h e, ts)) (done_exact U n (h e)))
        (λ ts e rest few r. let z = shorter ts e rest (y.0.stable ts e rest few r) in omega arith) (λ e us f rest d stop. done_rest (stops 0) us f rest d stop)

    abbrev named_piece : Token → Piece U n (stops 0) Expr
    named_piece t =
        perhaps mark.LeftBracket no_index (λ _. guard mark.LeftBracket no_index (before w x.1 mark.RightBracket refl (λ e. give (tree.Element (name_of text t) e)))) (tree.Variable (name_of text t))

    abbrev length_piece : Piece U n (stops 0) Expr
    length_piece = guard mark.LeftBracket no_index (expect mark.LeftParen >>> λ _. expect mark.Name >>> λ a. expect mark.RightParen >>> λ _. give (tree.Length (name_of text a)))

    abbrev closed_piece : Piece U n (stops 0) Expr
    closed_piece = guard mark.LeftBracket no_index (before w x.1 mark.RightParen refl (λ e. give e))

    branch : (t : Token) (k : Kind) → Branch U n (OperandBy t k) (stops 0) t (operand_after text whole inner t k)
    unfolding operand_after named measured atom
    branch t kind.Minus = inl (signed (λ e. tree.Negative e))
    branch t kind.Not = inl (signed (λ e. tree.Not e))
    branch t kind.Name = inl (named_piece t).exact
    branch t kind.Len = inl length_piece.exact
    branch t kind.LeftParen = inl closed_piece.exact
    branch t (kind.Number v) = go (nat_le v MOST_NUMBER) refl
      where
        go : (b : Bool) → nat_le v MOST_NUMBER ≡ b
            → Branch U n (OperandBy t (kind.Number v)) (stops 0) t (λ ts. (cond {A = Read Expr} b (Ok (tree.Number (pos v), ts))
            (Err (len (t ∷ ts)))) >>= λ z. unless_next (is_mark mark.LeftBracket) z.0 z.1)
        go true e = inl (same_exact U n (Done (tree.Number (pos v))) (OperandBy t (kind.Number v)) (stops 0) (λ ts. unless_next (is_mark mark.LeftBracket) (tree.Number (pos v)) ts)
            (λ ts a rest d. (leb-true v MOST_NUMBER e, d)) (λ ts a rest d. d.1) (guard mark.LeftBracket no_index (give {U = U} {n = n} (tree.Number (pos v)))).exact)
        go false e = inr (record { stops = λ ts. refl; never = λ ts a rest d. let clash : true ≡ false = sym (le-leb v MOST_NUMBER d.0) ∙ e in cc })
    branch t _ = inr (record { stops = λ ts. refl; never = λ ts a rest d. d })

    branch_halts : (t : Token) (k : Kind) → Halts n (stops 0) (operand_after text whole inner t k)
    unfolding operand_after named
    branch_halts t kind.Minus = map_halts n (stops 0) inner (λ e. tree.Negative e) y.1
    branch_halts t kind.Not = map_halts n (stops 0) inner (λ e. tree.Not e) y.1
    branch_halts t kind.Name =
        perhaps_halts (is_mark mark.LeftBracket) (stops 0) no_index n (λ _.
        (guard mark.LeftBracket no_index (before w x.1 mark.RightBracket refl (λ e. give (tree.Element (name_of text t) e)))).read)
        (tree.Variable (name_of text t))
        (λ _. guard_halts (is_mark mark.LeftBracket) (stops 0) no_index n (before w x.1 mark.RightBracket refl (λ e. give (tree.Element (name_of text t) e))).read)
    branch_halts t k = guard_halts (is_mark mark.LeftBracket) (stops 0) no_index n (atom text whole t k)

    some_operand : SomeText (First OperandBy)
    some_operand = record {
      text = token_of (kind.Number 0) ∷ [];
      value = tree.Number (pos 0);
      reads = λ after. at_first OperandBy (token_of (kind.Number 0)) (kind.Number 0) refl after (tree.Number (pos 0)) after (omega arith, done);
    }

    operand_step : Level U (suc n) 0 (by_first (operand_after text whole inner))
    operand_step = (
      same_exact U (suc n) (First OperandBy) (At 0) (stops 0) (by_first (operand_after text whole inner))
          (λ ts e rest d. rw d.2 (operand_into d.0 d.0.kind refl d.1 e rest d.3)) (λ ts e rest r. operand_out r)
          (first_exact U n OperandBy (stops 0) (operand_after text whole inner) some_operand branch),
      halts,
    )
      where
        halts : Halts (suc n) (stops 0) (by_first (operand_after text whole inner))
        halts [] e rest few h = absurd cc
        halts (t ∷ ts) e rest few h = branch_halts t t.kind ts e rest (omega arith) h

  operand_long : {ts : List Token} {e : Expr} {rest : List Token} → At 0 ts e rest → 0 < len ts
  operand_long (grammar.operand is r) = omega arith

  some_at : SomeText (At 0)
  some_at = record { text = token_of (kind.Number 0) ∷ []; value = tree.Number (pos 0); reads = λ after. grammar.operand refl (grammar.number (omega arith)) }

  operand_by : (n : ℕ) → Level OneWay n 0 (operand text n)
  unfolding operand
  operand_by zero = (zero_exact OneWay (At 0) (stops 0) some_at (λ ts e rest r. operand_long r) (λ u. u.0), never)
    where
      never : Halts {A = Expr} 0 (stops 0) (λ ts. Err (len ts))
      never ts e rest few h = absurd cc
  operand_by (suc n) = operand_step OneWay n (level_over (operand text n) n 4) (level_by n (operand text n) (operand_by n) 4 (omega arith)) (operand text n) (operand_by n)

  levels : (n k : ℕ) → k < 5 → Level OneWay n k (level text n k)
  levels n k small = level_by n (operand text n) (operand_by n) k small

  pub one : OneWay
  one = (
    one_way (λ _. OneWay) (At 0) (stops 0) (operand text) (λ n. (operand_by n).0),
    λ k small d. one_way (λ _. OneWay) (Behind (suc k) d) (stops (suc k)) (λ n. chain (level text n k) (suc k) n d)
        (λ n. let low = levels n k (omega arith) in chain_by OneWay n k small (λ u. u.1 k small) (level text n k) low.0 low.1 n (omega arith) d),
  )

  -- a whole expression
  pub expr_exact : (U : Type 0) (n : ℕ) → Exact U n (ReadsWhole text) (stops 4) (expr text n)
  expr_exact U n = given OneWay U n (At 4) (stops 4) (expr text n) (λ _. one) (levels n 4 (omega arith)).0

  pub expr_halts : (n : ℕ) → Halts n (stops 4) (expr text n)
  expr_halts n = (levels n 4 (omega arith)).1

  abbrev pub expr_piece : {U : Type 0} {n : ℕ} → Piece U n (stops 4) Expr
  expr_piece {U} {n} = record { rel = ReadsWhole text; read = expr text n; exact = expr_exact U n }

  -- an expression followed by a token
  abbrev pub expr_before : {U : Type 0} {n : ℕ} {s : Kind → Bool} {B : Type 0} (m : Mark) → stops 4 (kind_of m) ≡ true → (Expr → Piece U n s B) → Piece U n s B
  expr_before {U} {n} m stop g = before expr_piece (expr_halts n) m stop g

  -- ---- the tokens that an expression begins with

  -- the kinds that an expression begins with
  abbrev pub begins : Kind → Bool
  begins kind.Minus = true
  begins kind.Not = true
  begins (kind.Number n) = true
  begins kind.Name = true
  begins kind.Len = true
  begins kind.LeftParen = true
  begins _ = false

  operand_begins : {k : Kind} {t : Token} {ts rest : List Token} {e : Expr} → ReadsOperand text k t ts e rest → begins k ≡ true
  operand_begins (grammar.negative r) = refl
  operand_begins (grammar.negation r) = refl
  operand_begins (grammar.number le) = refl
  operand_begins grammar.variable = refl
  operand_begins (grammar.element is r is') = refl
  operand_begins (grammar.length_of i i' i'') = refl
  operand_begins (grammar.parentheses r is) = refl

  pub expr_begins : {k : ℕ} {t : Token} {ts rest : List Token} {e : Expr} → At k (t ∷ ts) e rest → begins t.kind ≡ true
  expr_begins (grammar.operand is r) = ap begins is ∙ operand_begins r
  expr_begins (grammar.operators r q) = expr_begins r

  -- an expression does not begin with this mark
  pub begins_not : (m : Mark) → begins (kind_of m) ≡ false → {t : Token} {ts rest : List Token} {e : Expr} → t.kind ≡ kind_of m → ReadsWhole text (t ∷ ts) e rest → ⊥
  begins_not m off is r = differ (expr_begins r) (ap begins is ∙ off)
