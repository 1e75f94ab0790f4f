-- Statements with a block, and blocks.
use Rattle.std.proofs.Common.{◌≡◌, ℕ, zero, suc, ◌<◌, Bool, true, false, List, [], ◌∷◌, length as len, Err, refl, sym, ap, ◌∙◌, arith, ◌⊎◌, inl, inr}
use Rattle.cw_model.specs.declared.token.Token.{Token}
use Rattle.cw_model.specs.declared.token.Kind.{Kind}
use Rattle.cw_model.specs.declared.token.Kind.TheVariants as kind
use Rattle.cw_model.specs.Syntax as tree
use Rattle.cw_model.specs.Syntax.{Stmt, Block}
use Rattle.cw_model.specs.Grammar as grammar
use Rattle.cw_model.specs.Grammar.{name_of, ReadsStmt, ReadsStmtBy, ReadsBlock, ReadsStmts}
use Rattle.cw_parse.specs.declared.marks.Mark.TheVariants as mark
use Rattle.cw_parse.specs.Marks.{is_mark}
use Rattle.cw_parse.specs.Reading.{Reader, ◌>>=◌, by_first}
use Rattle.cw_parse.specs.Parts.{simple, Opening, If, While, For, Scope, Cut, Region, opening, around, unanswered, framed_by, framed, stmt, Line, line_by, put_before, lines_of, line, lines}
use Rattle.cw_parse.proofs.Reader.{Stops, IsUnique, SomeText, Seq, tok, Done, done}
use Rattle.cw_parse.proofs.Exact.{Exact, Halts, Branch, First, Against, any, mark as token_of, same_exact, given, zero_exact, one_way}
use Rattle.cw_parse.proofs.Exact.{guard_exact, guard_halts, perhaps_halts, map_halts, first_exact, at_first, differ}
use Rattle.cw_parse.proofs.Pieces.{Marked, Piece, ◌>>>◌, expect, give, perhaps, guard, but, against, branch_map, then_halts, row_by}
use Rattle.cw_parse.proofs.Statements.{SimpleBy, simple_branch, simple_into, simple_out}
use Rattle.cw_parse.proofs.Openings.{OpeningBy, opening_branch, Headed, headed, head_into, head_out}

abbrev no_else : Against (is_mark mark.Else) (but mark.Else)
no_else = against mark.Else

-- a statement with its line
abbrev with_line : Token → Stmt × ℕ → Line × ℕ
with_line t y = ((t.line, y.0), y.1)

module _ (text : List ℕ) where
  -- the statements of a block and its closing brace
  abbrev pub Lines : ℕ → List Token → Block × ℕ → List Token → Type 0
  Lines site ts y rest = ReadsStmts text site ts y.0 y.1 rest

  -- a statement with its line, as a relation
  pub data Lined (site : ℕ) : List Token → Line × ℕ → List Token → Type 0 where
    lined : {m : ℕ} {t : Token} {ts rest : List Token} {s : Stmt} → ReadsStmt text site (t ∷ ts) s m rest → Lined site (t ∷ ts) ((t.line, s), m) rest

  -- ---- one statement; `inner` reads its blocks

  module _ (U : Type 0) (n : ℕ) (inner : ℕ → Reader (Block × ℕ)) (blocks : (site : ℕ) → Exact U n (Lines site) any (inner site)) where
    abbrev lines_piece : ℕ → Piece U n any (Block × ℕ)
    lines_piece site = record { rel = Lines site; read = inner site; exact = blocks site }

    abbrev else_piece : (e : tree.Expr) (b : Block) (site : ℕ) → Piece U n any (Stmt × ℕ)
    else_piece e b site = expect mark.LeftBrace >>> λ _. lines_piece site >>> λ c. give (tree.IfElse e b c.0, c.1)

    abbrev alone_piece : (o : Opening) (b : Block) (site : ℕ) → Piece U n any (Stmt × ℕ)
    alone_piece o b site = give (around o b, site)

    abbrev if_piece : (e : tree.Expr) (b : Block) (site : ℕ) → Piece U n (but mark.Else) (Stmt × ℕ)
    if_piece e b site = perhaps mark.Else no_else (λ _. guard mark.Else no_else (else_piece e b site)) (tree.If e b, site)

    abbrev FramedBy : Opening → Block → ℕ → List Token → Stmt × ℕ → List Token → Type 0
    FramedBy (If e) b site = (if_piece e b site).rel
    FramedBy (While e) b site = Done (around (While e) b, site)
    FramedBy (For h) b site = Done (around (For h) b, site)
    FramedBy Scope b site = Done (around Scope b, site)
    FramedBy (Cut a e l r) b site = Done (around (Cut a e l r) b, site)
    FramedBy (Region tag) b site = Done (around (Region tag) b, site)

    framed_by_exact : (o : Opening) (b : Block) (site : ℕ) → Exact U n (FramedBy o b site) (but mark.Else) (framed_by inner o b site)
    unfolding framed_by
    framed_by_exact (If e) b site = (if_piece e b site).exact
    framed_by_exact (While e) b site = (guard mark.Else no_else (alone_piece (While e) b site)).exact
    framed_by_exact (For h) b site = (guard mark.Else no_else (alone_piece (For h) b site)).exact
    framed_by_exact Scope b site = (guard mark.Else no_else (alone_piece Scope b site)).exact
    framed_by_exact (Cut a e l r) b site = (guard mark.Else no_else (alone_piece (Cut a e l r) b site)).exact
    framed_by_exact (Region tag) b site = (guard mark.Else no_else (alone_piece (Region tag) b site)).exact

    framed_by_halts : (o : Opening) (b : Block) (site : ℕ) → Halts n (but mark.Else) (framed_by inner o b site)
    unfolding framed_by
    framed_by_halts (If e) b site =
        perhaps_halts (is_mark mark.Else) (but mark.Else) no_else n (λ _. (guard mark.Else no_else (else_piece e b site)).read) (tree.If e b, site)
        (λ _. guard_halts (is_mark mark.Else) (but mark.Else) no_else n (else_piece e b site).read)
    framed_by_halts (While e) b site = guard_halts (is_mark mark.Else) (but mark.Else) no_else n (alone_piece (While e) b site).read
    framed_by_halts (For h) b site = guard_halts (is_mark mark.Else) (but mark.Else) no_else n (alone_piece (For h) b site).read
    framed_by_halts Scope b site = guard_halts (is_mark mark.Else) (but mark.Else) no_else n (alone_piece Scope b site).read
    framed_by_halts (Cut a e l r) b site = guard_halts (is_mark mark.Else) (but mark.Else) no_else n (alone_piece (Cut a e l r) b site).read
    framed_by_halts (Region tag) b site = guard_halts (is_mark mark.Else) (but mark.Else) no_else n (alone_piece (Region tag) b site).read

    abbrev framed_by_piece : (o : Opening) (b : Block) (site : ℕ) → Piece U n (but mark.Else) (Stmt × ℕ)
    framed_by_piece o b site = record { rel = FramedBy o b site; read = framed_by inner o b site; exact = framed_by_exact o b site }

    abbrev StmtBy : (site : ℕ) → Token → Kind → List Token → Stmt × ℕ → List Token → Type 0
    StmtBy site t kind.If = Seq (OpeningBy text t kind.If) (λ o. Seq (Lines site) (λ b. FramedBy o b.0 b.1))
    StmtBy site t kind.While = Seq (OpeningBy text t kind.While) (λ o. Seq (Lines site) (λ b. FramedBy o b.0 b.1))
    StmtBy site t kind.For = Seq (OpeningBy text t kind.For) (λ o. Seq (Lines site) (λ b. FramedBy o b.0 b.1))
    StmtBy site t kind.Scope = Seq (OpeningBy text t kind.Scope) (λ o. Seq (Lines site) (λ b. FramedBy o b.0 b.1))
    StmtBy site t kind.Cut = Seq (OpeningBy text t kind.Cut) (λ o. Seq (Lines site) (λ b. FramedBy o b.0 b.1))
    StmtBy site t kind.Region = Seq (OpeningBy text t kind.Region) (λ o. Seq (Lines site) (λ b. FramedBy o b.0 b.1))
    StmtBy site t kind.Int = SimpleBy text site t kind.Int
    StmtBy site t kind.Name = SimpleBy text site t kind.Name
    StmtBy site t kind.Spawn = SimpleBy text site t kind.Spawn
    StmtBy site t kind.Sync = SimpleBy text site t kind.Sync
    StmtBy site t kind.Print = SimpleBy text site t kind.Print
    StmtBy site t kind.Return = SimpleBy text site t kind.Return
    StmtBy site t _ = λ ts y rest. ⊥

    -- a statement with a block, after its first token
    from_opening : (site : ℕ) (t : Token) (R : List Token → Opening → List Token → Type 0) (f : Reader Opening) → Branch U n R any t f
        → Branch U n (Seq R (λ o. Seq (Lines site) (λ b. FramedBy o b.0 b.1))) (but mark.Else) t (λ ts. f ts >>= λ o. inner site o.1 >>= λ b. framed_by inner o.0 b.0.0 b.0.1 b.1)
    from_opening site t R f (inl x) = inl (opened >>> λ o. lines_piece site >>> λ b. framed_by_piece o b.0 b.1).exact
      where
        opened : Piece U n any Opening
        opened = record { rel = R; read = f; exact = x }
    from_opening site t R f (inr x) = inr (record {
      stops = λ ts. ap (λ r. r >>= λ o. inner site o.1 >>= λ b. framed_by inner o.0 b.0.0 b.0.1 b.1)
          (x.stops ts);
      never = λ ts b rest d. x.never ts d.0 d.1 d.2;
    })

    -- a statement without a block, after its first token
    from_simple : (t : Token) (R : List Token → Stmt × ℕ → List Token → Type 0) (f : Reader (Stmt × ℕ)) → Branch U n R any t f → Branch U n R (but mark.Else) t (λ ts. f ts >>= λ x. unanswered x.0 x.1)
    from_simple t R f (inl x) = inl (guard_exact (is_mark mark.Else) (but mark.Else) no_else U n R f x)
    from_simple t R f (inr x) = inr (record { stops = λ ts. ap (λ r. r >>= λ x. unanswered x.0 x.1) (x.stops ts); never = x.never })

    stmt_branch : (site : ℕ) (t : Token) (k : Kind) → Branch U n (StmtBy site t k) (but mark.Else) t (stmt text n inner site t k)
    unfolding stmt framed simple
    stmt_branch site t kind.If = from_opening site t (OpeningBy text t kind.If) (opening text n t kind.If) (opening_branch text U n t kind.If)
    stmt_branch site t kind.While = from_opening site t (OpeningBy text t kind.While) (opening text n t kind.While) (opening_branch text U n t kind.While)
    stmt_branch site t kind.For = from_opening site t (OpeningBy text t kind.For) (opening text n t kind.For) (opening_branch text U n t kind.For)
    stmt_branch site t kind.Scope = from_opening site t (OpeningBy text t kind.Scope) (opening text n t kind.Scope) (opening_branch text U n t kind.Scope)
    stmt_branch site t kind.Cut = from_opening site t (OpeningBy text t kind.Cut) (opening text n t kind.Cut) (opening_branch text U n t kind.Cut)
    stmt_branch site t kind.Region = from_opening site t (OpeningBy text t kind.Region) (opening text n t kind.Region) (opening_branch text U n t kind.Region)
    stmt_branch site t kind.Int = from_simple t (SimpleBy text site t kind.Int) (simple text n site t kind.Int) (simple_branch text U n site t kind.Int)
    stmt_branch site t kind.Name = from_simple t (SimpleBy text site t kind.Name) (simple text n site t kind.Name) (simple_branch text U n site t kind.Name)
    stmt_branch site t kind.Spawn = from_simple t (SimpleBy text site t kind.Spawn) (simple text n site t kind.Spawn) (simple_branch text U n site t kind.Spawn)
    stmt_branch site t kind.Sync = from_simple t (SimpleBy text site t kind.Sync) (simple text n site t kind.Sync) (simple_branch text U n site t kind.Sync)
    stmt_branch site t kind.Print = from_simple t (SimpleBy text site t kind.Print) (simple text n site t kind.Print) (simple_branch text U n site t kind.Print)
    stmt_branch site t kind.Return = from_simple t (SimpleBy text site t kind.Return) (simple text n site t kind.Return) (simple_branch text U n site t kind.Return)
    stmt_branch site t _ = inr (record { stops = λ ts. refl; never = λ ts a rest d. d })

    framed_halts : (site : ℕ) (t : Token) (k : Kind) → Branch U n (OpeningBy text t k) any t (opening text n t k) → Halts n (but mark.Else) (framed text n inner site t k)
    unfolding framed
    framed_halts site t k (inl x) =
        then_halts U n (but mark.Else) (record { rel = OpeningBy text t k; read = opening text n t k; exact = x }) (λ o ts. inner site ts >>= λ b. framed_by inner o b.0.0 b.0.1 b.1)
        (λ o. then_halts U n (but mark.Else) (lines_piece site) (λ b. framed_by inner o b.0 b.1) (λ b. framed_by_halts o b.0 b.1))
    framed_halts site t k (inr x) = λ ts y rest few e. absurd (let clash = sym (ap (λ r. r >>= λ o. inner site o.1 >>= λ b. framed_by inner o.0 b.0.0 b.0.1 b.1) (x.stops ts)) ∙ e in cc)

    stmt_halts : (site : ℕ) (t : Token) (k : Kind) → Halts n (but mark.Else) (stmt text n inner site t k)
    unfolding stmt
    stmt_halts site t kind.If = framed_halts site t kind.If (opening_branch text U n t kind.If)
    stmt_halts site t kind.While = framed_halts site t kind.While (opening_branch text U n t kind.While)
    stmt_halts site t kind.For = framed_halts site t kind.For (opening_branch text U n t kind.For)
    stmt_halts site t kind.Scope = framed_halts site t kind.Scope (opening_branch text U n t kind.Scope)
    stmt_halts site t kind.Cut = framed_halts site t kind.Cut (opening_branch text U n t kind.Cut)
    stmt_halts site t kind.Region = framed_halts site t kind.Region (opening_branch text U n t kind.Region)
    stmt_halts site t k = guard_halts (is_mark mark.Else) (but mark.Else) no_else n (simple text n site t k)

  -- ---- statements in the grammar

  module _ (U : Type 0) (n : ℕ) (inner : ℕ → Reader (Block × ℕ)) (blocks : (site : ℕ) → Exact U n (Lines site) any (inner site)) where
    abbrev By : (site : ℕ) → Token → Kind → List Token → Stmt × ℕ → List Token → Type 0
    By = StmtBy U n inner blocks

    cut_end : {a l r : tree.Name} {e : tree.Expr} {vs us xs rest : List Token} {o : Opening} {site : ℕ} {w : Token} (b : Block × ℕ) (y : Stmt × ℕ)
        → Done (Cut a e l r) vs o us → w.kind ≡ kind.LeftBrace
        → Lines site us b xs → FramedBy U n inner blocks o b.0 b.1 xs y rest → ReadsBlock text site (w ∷ vs) b.0 b.1 rest × (y ≡ (tree.Cut a e l r b.0, b.1))
    cut_end b y done is q done = (grammar.braces is q, refl)

    cut_into : (site : ℕ) (t : Token) (ts : List Token) (o : Opening) (us : List Token) → OpeningBy text t kind.Cut ts o us → (b : Block × ℕ) (y : Stmt × ℕ) (rest xs : List Token)
        → Lines site us b xs → FramedBy U n inner blocks o b.0 b.1 xs y rest → ReadsStmtBy text site kind.Cut t ts y.0 y.1 rest
    cut_into site t ts o us (a, u1, tok i1, (at, u2, tok i2, (e, u3, r, (v, u4, tok i3, (l, u5, tok i4, (c, u6, tok i5, (w, u7, tok i6, (z, u8, tok i7, d)))))))) b y rest xs q h =
        let x = cut_end b y d i7 q h in
        rw x.1 (grammar.cut i1 i2 r i3 i4 i5 i6 x.0)

    stmt_into : (site : ℕ) (t : Token) (k : Kind) → (ts : List Token) (y : Stmt × ℕ) (rest : List Token) → By site t k ts y rest → ReadsStmtBy text site k t ts y.0 y.1 rest
    stmt_into site t kind.If ts y rest (o, us, (e, vs, (u, u1, tok i1, (d, u2, r, (v, u3, tok i2, (w, u4, tok i3, done)))), done), (b, xs, q, inr done)) = grammar.when i1 r i2 (grammar.braces i3 q)
    stmt_into site t kind.If ts y rest (
      o,
      us,
      (e, vs, (u, u1, tok i1, (d, u2, r, (v, u3, tok i2, (w, u4, tok i3, done)))), done),
      (b, xs, q, inl (l, x1, tok i4, (m, x2, tok i5, (c, x3, q', done)))),
    ) =
        grammar.choose i1 r i2 (grammar.braces i3 q) i4 (grammar.braces i5 q')
    stmt_into site t kind.While ts y rest (o, us, (e, vs, (u, u1, tok i1, (d, u2, r, (v, u3, tok i2, (w, u4, tok i3, done)))), done), (b, xs, q, done)) = grammar.repeat i1 r i2 (grammar.braces i3 q)
    stmt_into site t kind.For ts y rest (o, us, (h, vs, r, done), (b, xs, q, done)) = go (head_into text ts h us r)
      where
        go : Headed text ts h us → ReadsStmtBy text site kind.For t ts (around (For h) b.0) b.1 rest
        go (headed r is) = grammar.loop r (grammar.braces is q)
    stmt_into site t kind.Scope ts y rest (o, us, (w, u1, tok i, done), (b, xs, q, done)) = grammar.scope (grammar.braces i q)
    stmt_into site t kind.Cut ts y rest (o, us, d, (b, xs, q, e)) = cut_into site t ts o us d b y rest xs q e
    stmt_into site t kind.Region ts y rest (o, us, (x, u1, tok i1, (w, u2, tok i2, done)), (b, xs, q, done)) = grammar.region i1 (grammar.braces i2 q)
    stmt_into site t kind.Int ts y rest d = simple_into text site t kind.Int ts y rest d
    stmt_into site t kind.Name ts y rest d = simple_into text site t kind.Name ts y rest d
    stmt_into site t kind.Spawn ts y rest d = simple_into text site t kind.Spawn ts y rest d
    stmt_into site t kind.Sync ts y rest d = simple_into text site t kind.Sync ts y rest d
    stmt_into site t kind.Print ts y rest d = simple_into text site t kind.Print ts y rest d
    stmt_into site t kind.Return ts y rest d = simple_into text site t kind.Return ts y rest d
    stmt_into site t _ ts y rest d = absurd d

    stmt_out : {site m : ℕ} {k : Kind} {t : Token} {ts rest : List Token} {s : Stmt} → ReadsStmtBy text site k t ts s m rest → By site t k ts (s, m) rest
    stmt_out {site} {rest = rest} (grammar.when {m = m} {u = u} {v = v} {ts = ts} {e = e} {b = b} i r i' (grammar.braces {t = w} {ts = us} is q)) =
        (If e, us, (e, us, (u, ts, tok i, (e, v ∷ w ∷ us, r, (v, w ∷ us, tok i', (w, us, tok is, done)))), done), ((b, m), rest, q, inr done))
    stmt_out {site} {rest = rest} (grammar.choose {m = m} {o = o} {u = u} {v = v} {w = l} {ts = ts} {e = e} {b = b} {c = c} i r i'
        (grammar.braces {t = w} {ts = us} is q) i'' (grammar.braces {t = x} {ts = vs} is' q')) = (
          If e,
          us,
          (e, us, (u, ts, tok i, (e, v ∷ w ∷ us, r, (v, w ∷ us, tok i', (w, us, tok is, done)))), done),
          ((b, m), l ∷ x ∷ vs, q, inl (l, x ∷ vs, tok i'', (x, vs, tok is', ((c, o), rest, q', done)))),
        )
    stmt_out {site} {rest = rest} (grammar.repeat {m = m} {u = u} {v = v} {ts = ts} {e = e} {b = b} i r i' (grammar.braces {t = w} {ts = us} is q)) =
        (While e, us, (e, us, (u, ts, tok i, (e, v ∷ w ∷ us, r, (v, w ∷ us, tok i', (w, us, tok is, done)))), done), ((b, m), rest, q, done))
    stmt_out {site} {rest = rest} (grammar.loop {m = m} {h = h} {b = b} r (grammar.braces {t = w} {ts = us} is q)) = (For h, us, (h, us, head_out text r refl is, done), ((b, m), rest, q, done))
    stmt_out {site} {rest = rest} (grammar.scope {m = m} {b = b} (grammar.braces {t = w} {ts = us} is q)) = (Scope, us, (w, us, tok is, done), ((b, m), rest, q, done))
    stmt_out {site} {rest = rest} (grammar.cut {m = m} {a = a} {at = at} {«as» = z} {l = l} {comma = c} {r = r} {ts = ts} {e = e}
        {b = b} i1 i2 q i3 i4 i5 i6 (grammar.braces {t = w} {ts = us} is q')) = (
          Cut (name_of text a) e (name_of text l) (name_of text r),
          us,
          (
            a,
            at ∷ ts,
            tok i1,
            (
              at,
              ts,
              tok i2,
              (
                e,
                z ∷ l ∷ c ∷ r ∷ w ∷ us,
                q,
                (z, l ∷ c ∷ r ∷ w ∷ us, tok i3, (l, c ∷ r ∷ w ∷ us, tok i4, (c, r ∷ w ∷ us, tok i5, (r, w ∷ us, tok i6, (w, us, tok is, done))))),
              ),
            ),
          ),
          ((b, m), rest, q', done),
        )
    stmt_out {site} {rest = rest} (grammar.region {m = m} {tag = x} {b = b} i (grammar.braces {t = w} {ts = us} is q)) =
        (Region (name_of text x), us, (x, w ∷ us, tok i, (w, us, tok is, done)), ((b, m), rest, q, done))
    stmt_out {site} {t = t} (grammar.declare i r) = simple_out text t (grammar.declare i r) tt
    stmt_out {site} {t = t} (grammar.named i r) = simple_out text t (grammar.named i r) tt
    stmt_out {site} {t = t} (grammar.spawn i r) = simple_out text t (grammar.spawn i r) tt
    stmt_out {site} {t = t} (grammar.sync i) = simple_out text t (grammar.sync i) tt
    stmt_out {site} {t = t} (grammar.print i r i' i'') = simple_out text t (grammar.print i r i' i'') tt
    stmt_out {site} {t = t} (grammar.give r) = simple_out text t (grammar.give r) tt

    -- ---- a statement with its line, and the tokens that it may begin with

    lined_into : (site : ℕ) (t : Token) (us : List Token) (x : Line × ℕ) (rest : List Token) → Seq (By site t t.kind) (λ y. Done (with_line t y)) us x rest → Lined site (t ∷ us) x rest
    lined_into site t us x rest (y, vs, d, done) = lined (grammar.begins refl (stmt_into site t t.kind us y rest d))

    LineBy : (site : ℕ) → Token → Kind → List Token → Line × ℕ → List Token → Type 0
    LineBy site t k = Seq (By site t k) (λ y. Done (with_line t y))

    lined_out : {site : ℕ} {ts : List Token} {x : Line × ℕ} {rest : List Token} → Lined site ts x rest → First (LineBy site) ts x rest
    unfolding LineBy
    lined_out {site} {rest = rest} (lined {m = m} {t = t} {s = s} (grammar.begins {k = k} {ts = ts} is r)) = at_first (LineBy site) t k is ts ((t.line, s), m) rest ((s, m), rest, stmt_out r, done)

    line_branch : (site : ℕ) (t : Token) (k : Kind) → Branch U n (LineBy site t k) (but mark.Else) t (line_by text n inner site t k)
    unfolding LineBy
    line_branch site t k = branch_map (By site t k) (but mark.Else) t (stmt text n inner site t k) (with_line t) (stmt_branch U n inner blocks site t k) (stmt_halts U n inner blocks site t k)

    some_line : (site : ℕ) → SomeText (First (LineBy site))
    unfolding LineBy
    some_line site = record {
      text = token_of kind.Sync ∷ token_of kind.Semicolon ∷ [];
      value = ((0, tree.Sync), site);
      reads = λ after. at_first (LineBy site) (token_of kind.Sync) kind.Sync refl (token_of kind.Semicolon ∷ after) ((0, tree.Sync), site) after
          ((tree.Sync, site), after, (token_of kind.Semicolon, after, tok refl, done), done);
    }

    pub line_up : (site : ℕ) → Exact U (suc n) (Lined site) (but mark.Else) (by_first (line_by text n inner site))
    unfolding LineBy
    line_up site =
        same_exact U (suc n) (First (LineBy site)) (Lined site) (but mark.Else) (by_first (line_by text n inner site))
        (λ ts x rest d. rw d.2 (lined_into site d.0 d.1 x rest d.3)) (λ ts x rest r. lined_out r)
        (first_exact U n (LineBy site) (but mark.Else) (line_by text n inner site) (some_line site) (line_branch site))

    pub line_up_halts : (site : ℕ) → Halts (suc n) (but mark.Else) (by_first (line_by text n inner site))
    line_up_halts site [] x rest few e = absurd cc
    line_up_halts site (t ∷ ts) x rest few e = map_halts n (but mark.Else) (stmt text n inner site t t.kind) (with_line t) (stmt_halts U n inner blocks site t t.kind) ts x rest (omega arith) e

  -- the kinds that a statement begins with
  abbrev starts : Kind → Bool
  starts kind.Int = true
  starts kind.Name = true
  starts kind.Spawn = true
  starts kind.Sync = true
  starts kind.Print = true
  starts kind.Return = true
  starts kind.If = true
  starts kind.While = true
  starts kind.For = true
  starts kind.Scope = true
  starts kind.Cut = true
  starts kind.Region = true
  starts _ = false

  stmt_starts : {site m : ℕ} {k : Kind} {t : Token} {ts rest : List Token} {s : Stmt} → ReadsStmtBy text site k t ts s m rest → starts k ≡ true
  stmt_starts (grammar.declare i r) = refl
  stmt_starts (grammar.named i r) = refl
  stmt_starts (grammar.spawn i r) = refl
  stmt_starts (grammar.sync i) = refl
  stmt_starts (grammar.when i r i' q) = refl
  stmt_starts (grammar.choose i r i' q i'' q') = refl
  stmt_starts (grammar.repeat i r i' q) = refl
  stmt_starts (grammar.loop r q) = refl
  stmt_starts (grammar.scope q) = refl
  stmt_starts (grammar.cut i1 i2 r i3 i4 i5 i6 q) = refl
  stmt_starts (grammar.region i q) = refl
  stmt_starts (grammar.print i r i' i'') = refl
  stmt_starts (grammar.give r) = refl

  lined_starts : {site : ℕ} {t : Token} {ts : List Token} {x : Line × ℕ} {rest : List Token} → Lined site (t ∷ ts) x rest → starts t.kind ≡ true
  lined_starts (lined (grammar.begins is r)) = ap starts is ∙ stmt_starts r

  starts_no_else : (k : Kind) → starts k ≡ true → but mark.Else k ≡ true
  starts_no_else kind.Else e = absurd cc
  starts_no_else _ e = refl

  lined_long : {site : ℕ} {ts : List Token} {x : Line × ℕ} {rest : List Token} → Lined site ts x rest → 0 < len ts
  lined_long (lined r) = omega arith

  lined_apart : {site : ℕ} {t : Token} {ts : List Token} {x : Line × ℕ} {rest : List Token} → t.kind ≡ kind.RightBrace → Lined site (t ∷ ts) x rest → ⊥
  lined_apart is r = differ (lined_starts r) (ap starts is)

  lines_follow : {site m : ℕ} {ts : List Token} {b : Block} {rest : List Token} → ReadsStmts text site ts b m rest → Stops (but mark.Else) ts
  lines_follow (grammar.ReadsStmts.close is) = ap (but mark.Else) is
  lines_follow (grammar.one_more {t = t} r q) = starts_no_else t.kind (lined_starts (lined r))

  -- ---- blocks

  abbrev Row : ℕ → List Token → Block × ℕ → List Token → Type 0
  Row site ts y rest = Seq (Marked mark.RightBrace) (λ (_ : Token). Done (tree.End, site)) ts y rest ⊎ Seq (Lined site) (λ x. Seq (Lines x.1) (λ b. Done (put_before x.0 b))) ts y rest

  lines_into : (site : ℕ) (ts : List Token) (y : Block × ℕ) (rest : List Token) → Row site ts y rest → Lines site ts y rest
  lines_into site ts y rest (inl (t, us, tok is, done)) = grammar.ReadsStmts.close is
  lines_into site ts y rest (inr (x, us, lined r, (b, vs, q, done))) = grammar.one_more r q

  lines_out : {site m : ℕ} {ts : List Token} {b : Block} {rest : List Token} → ReadsStmts text site ts b m rest → Row site ts (b, m) rest
  lines_out (grammar.ReadsStmts.close {t = t} {ts = ts} is) = inl (t, ts, tok is, done)
  lines_out (grammar.one_more {m = m} {o = o} {t = t} {us = us} {rest = rest} {s = s} {b = b} r q) = inr (((t.line, s), m), us, lined r, ((b, o), rest, q, done))

  abbrev OneWay : Type 0
  OneWay = ((site : ℕ) → IsUnique (Lines site) any) × ((site : ℕ) → IsUnique (Lined site) (but mark.Else))

  some_lined : (site : ℕ) → SomeText (Lined site)
  some_lined site = record { text = token_of kind.Sync ∷ token_of kind.Semicolon ∷ []; value = ((0, tree.Sync), site); reads = λ after. lined (grammar.begins refl (grammar.sync refl)) }

  -- a reader of statements is exact, and it halts
  abbrev Level : ℕ → (ℕ → Reader (Line × ℕ)) → Type 0
  Level n f = (site : ℕ) → Exact OneWay n (Lined site) (but mark.Else) (f site) × Halts n (but mark.Else) (f site)

  lines_by : (n : ℕ) (f : ℕ → Reader (Line × ℕ)) → Level n f → (site : ℕ) → Exact OneWay n (Lines site) any (lines_of f n site)
  lines_by n f x site =
      row_by OneWay mark.RightBrace (λ m. (tree.End, m)) put_before f Lined (but mark.Else) Lines lines_into (λ s ts y rest q. lines_out q)
      (λ s ts x rest r. lined_long r) (λ s t us x rest is r. lined_apart is r)
      (λ s ts b rest q. lines_follow q) (λ u. u.0) n (λ s. (x s).0) (λ s. (x s).1) n (omega arith) site

  line_level : (n : ℕ) → Level n (line text n)
  unfolding line
  line_level zero site = (zero_exact OneWay (Lined site) (but mark.Else) (some_lined site) (λ ts x rest r. lined_long r) (λ u. u.1 site), never)
    where
      never : Halts {A = Line × ℕ} 0 (but mark.Else) (λ ts. Err (len ts))
      never ts x rest few e = absurd cc
  line_level (suc n) site =
      let blocks = lines_by n (line text n) (line_level n) in
      (line_up OneWay n (lines text n) blocks site, line_up_halts OneWay n (lines text n) blocks site)

  one : OneWay
  one = (
    λ site. one_way (λ _. OneWay) (Lines site) any (λ n. lines text n site) (λ n. lines_by n (line text n) (line_level n) site),
    λ site. one_way (λ _. OneWay) (Lined site) (but mark.Else) (λ n. line text n site) (λ n. (line_level n site).0),
  )

  pub lines_exact : (U : Type 0) (n : ℕ) (site : ℕ) → Exact U n (Lines site) any (lines text n site)
  lines_exact U n site = given OneWay U n (Lines site) any (lines text n site) (λ _. one) (lines_by n (line text n) (line_level n) site)

  pub line_exact : (U : Type 0) (n : ℕ) (site : ℕ) → Exact U n (Lined site) (but mark.Else) (line text n site)
  line_exact U n site = given OneWay U n (Lined site) (but mark.Else) (line text n site) (λ _. one) (line_level n site).0
