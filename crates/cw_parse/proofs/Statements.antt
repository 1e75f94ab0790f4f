-- Statements without a block, and the openings of blocks.
use Rattle.std.proofs.Common.{◌≡◌, ℕ, suc, ◌+◌, Bool, true, false, cond, List, [], ◌∷◌, ◌++◌, Option, Some, None, refl, sym, ap, ◌∙◌, arith, add-one, ◌⊎◌, inl, inr}
use Rattle.cw_model.specs.declared.token.Token.{Token}
use Rattle.cw_model.specs.declared.token.Kind.{Kind}
use Rattle.cw_model.specs.declared.token.Kind.TheVariants as kind
use Rattle.cw_model.specs.Syntax as tree
use Rattle.cw_model.specs.declared.syntax.CallKind.{CallKind}
use Rattle.cw_model.specs.declared.syntax.CallKind.TheVariants.{Plain, Spawned}
use Rattle.cw_model.specs.declared.syntax.Reduction.{Reduction}
use Rattle.cw_model.specs.declared.syntax.Reduction.TheVariants.{Sum, Max}
use Rattle.cw_model.specs.Syntax.{Name, Expr, Stmt}
use Rattle.cw_model.specs.Grammar as grammar
use Rattle.cw_model.specs.Grammar.{name_of, ReadsWhole, ReadsArguments, ReadsAssigned, ReadsNamed, ReadsDeclared, ReadsStmtBy}
use Rattle.cw_parse.specs.declared.marks.Mark.TheVariants as mark
use Rattle.cw_parse.specs.Reading.{Read, Reader, ◌>>=◌, by_first, if_next}
use Rattle.cw_parse.specs.Parts.{expr, list, called, call, ended, is_call, assigned, element_assigned, named_stmt, declared_as, declared, returned, printed, simple}
use Rattle.cw_parse.proofs.Reader.{SomeText, tok, Done, done}
use Rattle.cw_parse.proofs.Exact.{Exact, Branch, First, any, mark as token_of, fewer_exact, first_exact, at_first}
use Rattle.cw_parse.proofs.Pieces.{Piece, ◌>>>◌, expect, give, choose}
use Rattle.cw_parse.proofs.Operators.{stops}
use Rattle.cw_parse.proofs.Expressions.{expr_exact, expr_before, begins_not}
use Rattle.cw_parse.proofs.Lists.{arguments_exact}
use Rattle.cw_parse.proofs.Calls.{Opens, opens, call_or_exact}

-- the number after the number of a call
pub done_next : {s : Stmt} {n : ℕ} {ts : List Token} → Done {A = Stmt × ℕ} (s, n + 1) ts (s, suc n) ts
done_next = rw add-one done

-- sequencing distributes over a choice by the next token
pub spread : {A B : Type 0} (p : Kind → Bool) (f : Token → Reader A) (g : Reader A) (k : A × List Token → Read B) (ts : List Token)
    → (if_next p f g ts >>= k) ≡ if_next p (λ t us. f t us >>= k) (λ us. g us >>= k) ts
spread p f g k [] = refl
spread {A} {B} p f g k (t ∷ ts) = go (p t.kind)
  where
    go : (b : Bool) → ((cond {A = Read A} b (f t ts) (g (t ∷ ts))) >>= k) ≡ cond {A = Read B} b (f t ts >>= k) (g (t ∷ ts) >>= k)
    go true = refl
    go false = refl

module _ (text : List ℕ) where
  -- ---- statements without a block

  abbrev arguments_piece : {U : Type 0} {n : ℕ} → Piece U n any (List Expr)
  arguments_piece {U} {n} = record { rel = ReadsArguments text; read = list (expr text n) n; exact = arguments_exact text U n }

  abbrev called_piece : {U : Type 0} {n : ℕ} (how : CallKind) (site : ℕ) (target : Option Name) (f : Token) → Piece U n any (Stmt × ℕ)
  called_piece how site target f = arguments_piece >>> λ es. expect mark.Semicolon >>> λ _. give (tree.Call how site target (name_of text f) es, site + 1)

  abbrev call_piece : {U : Type 0} {n : ℕ} (how : CallKind) (site : ℕ) (target : Option Name) → Piece U n any (Stmt × ℕ)
  call_piece how site target = expect mark.Name >>> λ f. expect mark.LeftParen >>> λ _. called_piece how site target f

  abbrev ended_piece : {U : Type 0} {n : ℕ} (site : ℕ) (make : Expr → Stmt) → Piece U n any (Stmt × ℕ)
  ended_piece site make = expr_before text mark.Semicolon refl (λ e. give (make e, site))

  pub called_exact : (U : Type 0) (n : ℕ) (how : CallKind) (site : ℕ) (target : Option Name) (f : Token)
      → Exact U n (called_piece {U = Unit {0}} {n = 0} how site target f).rel any (called text n how site target f)
  unfolding called
  called_exact U n how site target f = (called_piece {U = U} {n = n} how site target f).exact

  pub call_exact : (U : Type 0) (n : ℕ) (how : CallKind) (site : ℕ) (target : Option Name) → Exact U n (call_piece {U = Unit {0}} {n = 0} how site target).rel any (call text n how site target)
  unfolding call called
  call_exact U n how site target = (call_piece {U = U} {n = n} how site target).exact

  abbrev call_as : {U : Type 0} {n : ℕ} (how : CallKind) (site : ℕ) (target : Option Name) → Piece U n any (Stmt × ℕ)
  call_as {U} {n} how site target = record { rel = (call_piece {U = Unit {0}} {n = 0} how site target).rel; read = call text n how site target; exact = call_exact U n how site target }

  abbrev Value : (site : ℕ) (x : Name) → List Token → Stmt × ℕ → List Token → Type 0
  Value site x = (ended_piece {U = Unit {0}} {n = 0} site (λ e. tree.Assign x e)).rel

  name_read : {t : Token} {ts : List Token} → t.kind ≡ kind.Name → ReadsWhole text (t ∷ ts) (tree.Variable (name_of text t)) ts
  name_read is = grammar.operators (grammar.operators (grammar.operators (grammar.operators (grammar.operand is grammar.variable) grammar.end) grammar.end) grammar.end) grammar.end

  pub no_value : (site : ℕ) (x : Name) {ts : List Token} {y : Stmt × ℕ} {rest : List Token} → Opens ts → Value site x ts y rest → ⊥
  no_value site x (opens {t = t} {u = u} {ts = ts} is is') (e, us, r, (v, vs, tok i, d)) =
      let same = (expr_exact text (Unit {0}) 0).unique tt (t ∷ u ∷ ts) (tree.Variable (name_of text t)) e (u ∷ ts) (v ∷ vs) (name_read is) (ap (stops 4) is') r (ap (stops 4) i) in
      let one : u ≡ v = cc in
      let clash : kind.LeftParen ≡ kind.Semicolon = sym is' ∙ ap (λ (w : Token). w.kind) one ∙ i in
      cc

  pub value_text : (site : ℕ) (x : Name) (t : Token) → t.kind ≡ kind.Name → SomeText (λ ts. Value site x (t ∷ ts))
  value_text site x t is = record {
    text = token_of kind.Semicolon ∷ [];
    value = (tree.Assign x (tree.Variable (name_of text t)), site);
    reads = λ after. (tree.Variable (name_of text t), token_of kind.Semicolon ∷ after, name_read is, (token_of kind.Semicolon, after, tok refl, done));
  }

  abbrev value_or_call : {U : Type 0} {n : ℕ} (site : ℕ) (x : Name) → Piece U n any (Stmt × ℕ)
  value_or_call {U} {n} site x = record {
    rel = λ ts y rest. (call_piece {U = Unit {0}} {n = 0} Plain site (Some x)).rel ts y rest ⊎ Value site x ts y rest;
    read = λ us. cond (is_call us) (call text n Plain site (Some x) us) (ended text n site (λ e. tree.Assign x e) us);
    exact = call_or_exact U n (λ f. (called_piece {U = Unit {0}} {n = 0} Plain site (Some x) f).rel) (Value site x) (call text n Plain site (Some x)) (ended text n site (λ e. tree.Assign x e))
        (λ f. (called_exact (Unit {0}) 0 Plain site (Some x) f).some) (value_text site x) (λ ts y rest o q. no_value site x o q)
        (call_exact U n Plain site (Some x)) (ended_piece {U = U} {n = n} site (λ e. tree.Assign x e)).exact;
  }

  pub no_spawn : (site : ℕ) (x : Name) {t : Token} {us : List Token} {y : Stmt × ℕ} {rest : List Token} → t.kind ≡ kind.Spawn → (value_or_call {U = Unit {0}} {n = 0} site x).rel (t ∷ us) y rest → ⊥
  no_spawn site x is (inl (f, vs, tok i, d)) = let clash : kind.Spawn ≡ kind.Name = sym is ∙ i in cc
  no_spawn site x is (inr (e, vs, r, d)) = begins_not text mark.Spawn refl is r

  abbrev assigned_piece : {U : Type 0} {n : ℕ} (site : ℕ) (x : Name) → Piece U n any (Stmt × ℕ)
  assigned_piece site x = choose mark.Spawn (λ _. call_as Spawned site (Some x)) (value_or_call site x) (λ t us b rest is d h. no_spawn site x is d)

  abbrev element_piece : {U : Type 0} {n : ℕ} (site : ℕ) (x : Name) → Piece U n any (Stmt × ℕ)
  element_piece site x = expr_before text mark.RightBracket refl (λ i. expect mark.Assign >>> λ _. ended_piece site (λ e. tree.AssignElement x i e))

  abbrev told_piece : {U : Type 0} {n : ℕ} (site : ℕ) (how : Reduction) (s : Name) → Piece U n any (Stmt × ℕ)
  told_piece site how s = ended_piece site (λ e. tree.Reduce how s e)

  abbrev raise_piece : {U : Type 0} {n : ℕ} (site : ℕ) (s : Name) → Piece U n any (Stmt × ℕ)
  raise_piece site s = expect mark.Assign >>> λ _. told_piece site Max s

  abbrev NamedBy : (site : ℕ) (t u : Token) → Kind → List Token → Stmt × ℕ → List Token → Type 0
  NamedBy site t u kind.Assign = (assigned_piece {U = Unit {0}} {n = 0} site (name_of text t)).rel
  NamedBy site t u kind.LeftBracket = (element_piece {U = Unit {0}} {n = 0} site (name_of text t)).rel
  NamedBy site t u kind.AddAssign = (told_piece {U = Unit {0}} {n = 0} site Sum (name_of text t)).rel
  NamedBy site t u kind.Max = (raise_piece {U = Unit {0}} {n = 0} site (name_of text t)).rel
  NamedBy site t u kind.LeftParen = (called_piece {U = Unit {0}} {n = 0} Plain site None t).rel
  NamedBy site t u _ = λ ts y rest. ⊥

  named_branch : (U : Type 0) (n : ℕ) (site : ℕ) (t u : Token) (k : Kind) → Branch U n (NamedBy site t u k) any u (named_stmt text n site t u k)
  unfolding named_stmt assigned element_assigned
  named_branch U n site t u kind.Assign = inl (assigned_piece {U = U} {n = n} site (name_of text t)).exact
  named_branch U n site t u kind.LeftBracket = inl (element_piece {U = U} {n = n} site (name_of text t)).exact
  named_branch U n site t u kind.AddAssign = inl (told_piece {U = U} {n = n} site Sum (name_of text t)).exact
  named_branch U n site t u kind.Max = inl (raise_piece {U = U} {n = n} site (name_of text t)).exact
  named_branch U n site t u kind.LeftParen = inl (called_exact U n Plain site None t)
  named_branch U n site t u _ = inr (record { stops = λ ts. refl; never = λ ts a rest d. d })

  -- some text is an expression with a semicolon
  some_ended : (site : ℕ) (make : Expr → Stmt) → SomeText (ended_piece {U = Unit {0}} {n = 0} site make).rel
  some_ended site make = (ended_piece {U = Unit {0}} {n = 0} site make).exact.some

  some_named : (site : ℕ) (t : Token) → SomeText (First (NamedBy site t))
  some_named site t =
      let x = some_ended site (λ e. tree.Reduce Sum (name_of text t) e) in
      record {
        text = token_of kind.AddAssign ∷ x.text;
        value = x.value;
        reads = λ after. at_first (NamedBy site t) (token_of kind.AddAssign) kind.AddAssign refl (x.text ++ after) x.value after (x.reads after);
      }

  pub named_exact : (U : Type 0) (n : ℕ) (site : ℕ) (t : Token) → Exact U n (First (NamedBy site t)) any (by_first (named_stmt text n site t))
  named_exact U n site t =
      fewer_exact U n (suc n) (First (NamedBy site t)) any (by_first (named_stmt text n site t)) (omega arith)
      (first_exact U n (NamedBy site t) any (named_stmt text n site t) (some_named site t) (named_branch U n site t))

  abbrev array_piece : {U : Type 0} {n : ℕ} (site : ℕ) (x : Name) → Piece U n any (Stmt × ℕ)
  array_piece site x = expr_before text mark.RightBracket refl (λ e. expect mark.Semicolon >>> λ _. give (tree.DeclareArray x e, site))

  abbrev DeclaredBy : (site : ℕ) (x : Name) → Token → Kind → List Token → Stmt × ℕ → List Token → Type 0
  DeclaredBy site x u kind.Assign = (ended_piece {U = Unit {0}} {n = 0} site (λ e. tree.Declare x e)).rel
  DeclaredBy site x u kind.LeftBracket = (array_piece {U = Unit {0}} {n = 0} site x).rel
  DeclaredBy site x u _ = λ ts y rest. ⊥

  pub declared_branch : (U : Type 0) (n : ℕ) (site : ℕ) (x : Name) (u : Token) (k : Kind) → Branch U n (DeclaredBy site x u k) any u (declared_as text n site x u k)
  unfolding declared_as
  declared_branch U n site x u kind.Assign = inl (ended_piece {U = U} {n = n} site (λ e. tree.Declare x e)).exact
  declared_branch U n site x u kind.LeftBracket = inl (array_piece {U = U} {n = n} site x).exact
  declared_branch U n site x u _ = inr (record { stops = λ ts. refl; never = λ ts a rest d. d })

  pub some_declared : (site : ℕ) (x : Name) → SomeText (First (DeclaredBy site x))
  some_declared site x =
      let y = some_ended site (λ e. tree.Declare x e) in
      record {
        text = token_of kind.Assign ∷ y.text;
        value = y.value;
        reads = λ after. at_first (DeclaredBy site x)
            (token_of kind.Assign) kind.Assign refl (y.text ++ after) y.value after (y.reads after);
      }

  abbrev declared_piece : {U : Type 0} {n : ℕ} (site : ℕ) → Piece U n any (Stmt × ℕ)
  declared_piece {U} {n} site = expect mark.Name >>> λ x. record {
    rel = First (DeclaredBy site (name_of text x));
    read = by_first (declared_as text n site (name_of text x));
    exact = fewer_exact U n (suc n) (First (DeclaredBy site (name_of text x))) any (by_first (declared_as text n site (name_of text x))) (omega arith)
        (first_exact U n (DeclaredBy site (name_of text x)) any (declared_as text n site (name_of text x)) (some_declared site (name_of text x)) (declared_branch U n site (name_of text x)));
  }

  abbrev returned_piece : {U : Type 0} {n : ℕ} (site : ℕ) → Piece U n any (Stmt × ℕ)
  returned_piece site = choose mark.Semicolon (λ _. give (tree.Return None, site)) (ended_piece site (λ e. tree.Return (Some e))) (λ t us b rest is d h. begins_not text mark.Semicolon refl is d.2)

  abbrev printed_piece : {U : Type 0} {n : ℕ} (site : ℕ) → Piece U n any (Stmt × ℕ)
  printed_piece site = expect mark.LeftParen >>> λ _. expr_before text mark.RightParen refl (λ e. expect mark.Semicolon >>> λ _. give (tree.Print e, site))

  abbrev synced_piece : {U : Type 0} {n : ℕ} (site : ℕ) → Piece U n any (Stmt × ℕ)
  synced_piece site = expect mark.Semicolon >>> λ _. give (tree.Sync, site)

  abbrev pub SimpleBy : (site : ℕ) → Token → Kind → List Token → Stmt × ℕ → List Token → Type 0
  SimpleBy site t kind.Int = (declared_piece {U = Unit {0}} {n = 0} site).rel
  SimpleBy site t kind.Name = First (NamedBy site t)
  SimpleBy site t kind.Spawn = (call_piece {U = Unit {0}} {n = 0} Spawned site None).rel
  SimpleBy site t kind.Sync = (synced_piece {U = Unit {0}} {n = 0} site).rel
  SimpleBy site t kind.Print = (printed_piece {U = Unit {0}} {n = 0} site).rel
  SimpleBy site t kind.Return = (returned_piece {U = Unit {0}} {n = 0} site).rel
  SimpleBy site t _ = λ ts y rest. ⊥

  pub simple_branch : (U : Type 0) (n : ℕ) (site : ℕ) (t : Token) (k : Kind) → Branch U n (SimpleBy site t k) any t (simple text n site t k)
  unfolding simple declared returned printed
  simple_branch U n site t kind.Int = inl (declared_piece {U = U} {n = n} site).exact
  simple_branch U n site t kind.Name = inl (named_exact U n site t)
  simple_branch U n site t kind.Spawn = inl (call_exact U n Spawned site None)
  simple_branch U n site t kind.Sync = inl (synced_piece {U = U} {n = n} site).exact
  simple_branch U n site t kind.Print = inl (printed_piece {U = U} {n = n} site).exact
  simple_branch U n site t kind.Return = inl (returned_piece {U = U} {n = n} site).exact
  simple_branch U n site t _ = inr (record { stops = λ ts. refl; never = λ ts a rest d. d })

  -- ---- simple statements in the grammar

  assigned_into : (site : ℕ) (x : Name) (ts : List Token) (y : Stmt × ℕ) (rest : List Token) → (assigned_piece {U = Unit {0}} {n = 0} site x).rel ts y rest → ReadsAssigned text site x ts y.0 y.1 rest
  assigned_into site x ts y rest (inr (inr (e, us, r, (t, vs, tok is, done)))) = grammar.ReadsAssigned.value r is
  assigned_into site x ts y rest (inr (inl (f, us, tok is, (t, vs, tok i, (es, ws, r, (u, zs, tok i', done)))))) = rw add-one (grammar.ReadsAssigned.call is (grammar.called i r i'))
  assigned_into site x ts y rest (inl (s, xs, tok is', (f, us, tok is, (t, vs, tok i, (es, ws, r, (u, zs, tok i', done)))))) = rw add-one (grammar.ReadsAssigned.spawn is' is (grammar.called i r i'))

  assigned_out : {site m : ℕ} {x : Name} {ts rest : List Token} {s : Stmt} → ReadsAssigned text site x ts s m rest → (assigned_piece {U = Unit {0}} {n = 0} site x).rel ts (s, m) rest
  assigned_out (grammar.ReadsAssigned.value {u = u} {rest = rest} {e = e} r is) = inr (inr (e, u ∷ rest, r, (u, rest, tok is, done)))
  assigned_out (grammar.ReadsAssigned.call {f = f} {rest = rest} {es = es} is (grammar.called {t = t} {u = u} {ts = ts} i r i')) =
      inr (inl (f, t ∷ ts, tok is, (t, ts, tok i, (es, u ∷ rest, r, (u, rest, tok i', done_next)))))
  assigned_out (grammar.ReadsAssigned.spawn {t = s} {f = f} {rest = rest} {es = es} is' is (grammar.called {t = t} {u = u} {ts = ts} i r i')) =
      inl (s, f ∷ t ∷ ts, tok is', (f, t ∷ ts, tok is, (t, ts, tok i, (es, u ∷ rest, r, (u, rest, tok i', done_next)))))

  named_into : (site : ℕ) (t u : Token) (k : Kind) → (ts : List Token) (y : Stmt × ℕ) (rest : List Token) → NamedBy site t u k ts y rest → ReadsNamed text site k t ts y.0 y.1 rest
  named_into site t u kind.Assign ts y rest d = grammar.ReadsNamed.assign (assigned_into site (name_of text t) ts y rest d)
  named_into site t u kind.LeftBracket ts y rest (i, us, r, (v, vs, tok is, (w, ws, tok is', (e, xs, r', (z, zs, tok is'', done))))) = grammar.ReadsNamed.assign_element r is is' r' is''
  named_into site t u kind.AddAssign ts y rest (e, us, r, (v, vs, tok is, done)) = grammar.ReadsNamed.add r is
  named_into site t u kind.Max ts y rest (v, vs, tok i, (e, us, r, (w, ws, tok is, done))) = grammar.ReadsNamed.raise i r is
  named_into site t u kind.LeftParen ts y rest (es, ws, r, (v, zs, tok is, done)) = rw add-one (grammar.ReadsNamed.call r is)
  named_into site t u _ ts y rest d = absurd d

  named_out : {site m : ℕ} {k : Kind} {t : Token} {ts rest : List Token} {s : Stmt} (u : Token) → ReadsNamed text site k t ts s m rest → NamedBy site t u k ts (s, m) rest
  named_out u (grammar.ReadsNamed.assign r) = assigned_out r
  named_out u (grammar.ReadsNamed.assign_element {u = v} {v = w} {w = z} {us = us} {rest = rest} {i = i} {e = e} r is is' r' is'') =
      (i, v ∷ w ∷ us, r, (v, w ∷ us, tok is, (w, us, tok is', (e, z ∷ rest, r', (z, rest, tok is'', done)))))
  named_out u (grammar.ReadsNamed.add {u = v} {rest = rest} {e = e} r is) = (e, v ∷ rest, r, (v, rest, tok is, done))
  named_out u (grammar.ReadsNamed.raise {u = w} {v = v} {ts = ts} {rest = rest} {e = e} i r is) = (w, ts, tok i, (e, v ∷ rest, r, (v, rest, tok is, done)))
  named_out u (grammar.ReadsNamed.call {u = v} {rest = rest} {es = es} r is) = (es, v ∷ rest, r, (v, rest, tok is, done_next))

  declared_into : (site : ℕ) (x : Name) (u : Token) (k : Kind) → u.kind ≡ k → (ts : List Token) (y : Stmt × ℕ) (rest : List Token)
      → DeclaredBy site x u k ts y rest → ReadsDeclared text x (u ∷ ts) y.0 rest × (y.1 ≡ site)
  declared_into site x u kind.Assign i ts y rest (e, us, r, (v, vs, tok is, done)) = (grammar.ReadsDeclared.integer i r is, refl)
  declared_into site x u kind.LeftBracket i ts y rest (e, us, r, (v, vs, tok is, (w, ws, tok is', done))) = (grammar.ReadsDeclared.array i r is is', refl)
  declared_into site x u _ i ts y rest d = absurd d

  declared_out : {x : Name} {ts rest : List Token} {s : Stmt} (site : ℕ) → ReadsDeclared text x ts s rest → First (DeclaredBy site x) ts (s, site) rest
  declared_out {x} site (grammar.ReadsDeclared.integer {t = t} {u = u} {ts = ts} {rest = rest} {e = e} i r is) =
      at_first (DeclaredBy site x) t kind.Assign i ts (tree.Declare x e, site) rest (e, u ∷ rest, r, (u, rest, tok is, done))
  declared_out {x} site (grammar.ReadsDeclared.array {t = t} {u = u} {v = v} {ts = ts} {rest = rest} {e = e} i r is is') =
      at_first (DeclaredBy site x) t kind.LeftBracket i ts (tree.DeclareArray x e, site) rest (e, u ∷ v ∷ rest, r, (u, v ∷ rest, tok is, (v, rest, tok is', done)))

  pub simple_into : (site : ℕ) (t : Token) (k : Kind) → (ts : List Token) (y : Stmt × ℕ) (rest : List Token) → SimpleBy site t k ts y rest → ReadsStmtBy text site k t ts y.0 y.1 rest
  simple_into site t kind.Int ts y rest (x, us, tok is, (u, vs, parts, d)) =
      let z = declared_into site (name_of text x) u u.kind refl vs y rest d in
      rw (parts, z.1) (grammar.declare is z.0)
  simple_into site t kind.Name ts y rest (u, vs, parts, d) = rw parts (grammar.named refl (named_into site t u u.kind vs y rest d))
  simple_into site t kind.Spawn ts y rest (f, us, tok is, (u, vs, tok i, (es, ws, r, (v, zs, tok i', done)))) = rw add-one (grammar.spawn is (grammar.called i r i'))
  simple_into site t kind.Sync ts y rest (u, us, tok is, done) = grammar.sync is
  simple_into site t kind.Print ts y rest (u, us, tok is, (e, vs, r, (v, ws, tok i, (w, xs, tok i', done)))) = grammar.print is r i i'
  simple_into site t kind.Return ts y rest (inl (u, us, tok is, done)) = grammar.give (grammar.ReadsReturned.nothing is)
  simple_into site t kind.Return ts y rest (inr (e, us, r, (u, vs, tok is, done))) = grammar.give (grammar.ReadsReturned.value r is)
  simple_into site t _ ts y rest d = absurd d

  -- the kinds that a statement without a block begins with
  abbrev pub IsSimple : Kind → Type 0
  IsSimple kind.Int = Unit {0}
  IsSimple kind.Name = Unit {0}
  IsSimple kind.Spawn = Unit {0}
  IsSimple kind.Sync = Unit {0}
  IsSimple kind.Print = Unit {0}
  IsSimple kind.Return = Unit {0}
  IsSimple _ = ⊥

  pub simple_out : {site m : ℕ} {k : Kind} (t : Token) {ts rest : List Token} {s : Stmt} → ReadsStmtBy text site k t ts s m rest → IsSimple k → SimpleBy site t k ts (s, m) rest
  simple_out {site} t (grammar.declare {x = x} {ts = ts} {rest = rest} is r) h = (x, ts, tok is, declared_out site r)
  simple_out {site} {m} t {rest = rest} {s = s} (grammar.named {k = k} {u = u} {ts = ts} is r) h = at_first (NamedBy site t) u k is ts (s, m) rest (named_out u r)
  simple_out {site} t (grammar.spawn {f = f} {rest = rest} {es = es} is (grammar.called {t = t'} {u = u} {ts = ts} i r i')) h =
      (f, t' ∷ ts, tok is, (t', ts, tok i, (es, u ∷ rest, r, (u, rest, tok i', done_next))))
  simple_out {site} t (grammar.sync {u = u} {ts = ts} is) h = (u, ts, tok is, done)
  simple_out {site} t (grammar.print {u = u} {v = v} {w = w} {ts = ts} {rest = rest} {e = e} is r i i') h = (u, ts, tok is, (e, v ∷ w ∷ rest, r, (v, w ∷ rest, tok i, (w, rest, tok i', done))))
  simple_out {site} t (grammar.give (grammar.ReadsReturned.nothing {t = u} {ts = ts} is)) h = inl (u, ts, tok is, done)
  simple_out {site} t (grammar.give (grammar.ReadsReturned.value {t = u} {rest = rest} {e = e} r is)) h = inr (e, u ∷ rest, r, (u, rest, tok is, done))
  simple_out t (grammar.when i r i' q) h = absurd h
  simple_out t (grammar.choose i r i' q i'' q') h = absurd h
  simple_out t (grammar.repeat i r i' q) h = absurd h
  simple_out t (grammar.loop r q) h = absurd h
  simple_out t (grammar.scope q) h = absurd h
  simple_out t (grammar.cut i1 i2 r i3 i4 i5 i6 q) h = absurd h
  simple_out t (grammar.region i q) h = absurd h
