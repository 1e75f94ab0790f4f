-- The tokens that are left bound the numbers of the call statements that follow.
use Rattle.std.proofs.Common.{◌≡◌, ℕ, suc, ◌+◌, ◌<◌, ◌≤◌, List, length as len, Option, Ok, sym, ◌∙◌, arith, inl, inr}
use Rattle.cw_model.specs.declared.token.Token.{Token}
use Rattle.cw_model.specs.declared.token.Kind.{Kind}
use Rattle.cw_model.specs.Syntax.{Name, Expr, Stmt, Block, Param}
use Rattle.cw_model.specs.Grammar as grammar
use Rattle.cw_model.specs.Grammar.{ReadsWhole, ReadsArguments, ReadsCall, ReadsParams, ReadsMoreNames, ReadsGrain, ReadsOver, ReadsHead, Head}
use Rattle.cw_model.specs.Grammar.{ReadsAssigned, ReadsNamed, ReadsDeclared, ReadsReturned, ReadsStmtBy, ReadsBlock, ReadsStmts}
use Rattle.cw_parse.specs.declared.marks.Mark.{Mark}
use Rattle.cw_parse.specs.Marks.{is_mark}
use Rattle.cw_parse.specs.Reading.{token, by_first}
use Rattle.cw_parse.specs.Parts.{list, param, Opening, opening, Line, line, lines, Item, item}
use Rattle.cw_parse.proofs.Reader.{tok, shorter}
use Rattle.cw_parse.proofs.Exact.{Branch, any}
use Rattle.cw_parse.proofs.Pieces.{Marked, expect}
use Rattle.cw_parse.proofs.Expressions.{expr_exact}
use Rattle.cw_parse.proofs.Lists.{arguments_exact, params_exact}
use Rattle.cw_parse.proofs.Openings.{OpeningBy, opening_branch}
use Rattle.cw_parse.proofs.Items.{One, total, code, one_exact}
use Rattle.cw_parse.proofs.Blocks.{Lined, lined, lines_exact, line_exact}

marked_less : (m : Mark) {ts : List Token} {t : Token} {us : List Token} → Marked m ts t us → len us < len ts
marked_less m (tok is) = omega arith

-- reading a token leaves fewer tokens
pub token_less : (m : Mark) (ts : List Token) (t : Token) (us : List Token) → token (is_mark m) ts ≡ Ok (t, us) → len us < len ts
token_less m ts t us e = marked_less m ((expect {U = Unit {0}} {n = 0} m).exact.sound ts t us e)

module _ (text : List ℕ) where
  expr_less : {ts us : List Token} {e : Expr} → ReadsWhole text ts e us → len us ≤ len ts
  expr_less {ts} {us} {e} r = shorter ts e us ((expr_exact text (Unit {0}) (len ts)).stable ts e us (omega arith) r)

  arguments_less : {ts us : List Token} {es : List Expr} → ReadsArguments text ts es us → len us ≤ len ts
  arguments_less {ts} {us} {es} r = shorter ts es us ((arguments_exact text (Unit {0}) (len ts)).stable ts es us (omega arith) r)

  call_less : {ts us : List Token} {es : List Expr} → ReadsCall text ts es us → len us < len ts
  call_less (grammar.called i r i') = let l = arguments_less r in omega arith

  names_less : {ts us : List Token} {xs : List Name} → ReadsMoreNames text ts xs us → len us ≤ len ts
  names_less (grammar.ReadsMoreNames.close i) = omega arith
  names_less (grammar.ReadsMoreNames.comma i i' q) = let l = names_less q in omega arith

  over_less : {ts us : List Token} {xs : List Name} → ReadsOver text ts xs us → len us ≤ len ts
  over_less grammar.nothing = omega arith
  over_less (grammar.over i i' i'' q) = let l = names_less q in omega arith

  grain_less : {ts us : List Token} {n : ℕ} → ReadsGrain ts n us → len us ≤ len ts
  grain_less grammar.usual = omega arith
  grain_less (grammar.grain i i') = omega arith

  head_less : {ts us : List Token} {h : Head} → ReadsHead text ts h us → len us ≤ len ts
  head_less (grammar.head i1 i2 i3 i4 r1 i5 i6 i7 r2 i8 i9 i10 i11 g o) =
      let a = expr_less r1 in let b = expr_less r2 in let c = grain_less g in let d = over_less o in omega arith

  assigned_room : {n m : ℕ} {x : Name} {ts rest : List Token} {s : Stmt} → ReadsAssigned text n x ts s m rest → m + len rest ≤ n + len ts
  assigned_room (grammar.ReadsAssigned.value r i) = let l = expr_less r in omega arith
  assigned_room (grammar.ReadsAssigned.call i r) = let l = call_less r in omega arith
  assigned_room (grammar.ReadsAssigned.spawn i i' r) = let l = call_less r in omega arith

  named_room : {n m : ℕ} {k : Kind} {t : Token} {ts rest : List Token} {s : Stmt} → ReadsNamed text n k t ts s m rest → m + len rest ≤ n + len ts
  named_room (grammar.ReadsNamed.assign r) = assigned_room r
  named_room (grammar.ReadsNamed.assign_element r i i' r' i'') = let l = expr_less r in let l' = expr_less r' in omega arith
  named_room (grammar.ReadsNamed.add r i) = let l = expr_less r in omega arith
  named_room (grammar.ReadsNamed.raise i r i') = let l = expr_less r in omega arith
  named_room (grammar.ReadsNamed.call r i) = let l = arguments_less r in omega arith

  declared_less : {x : Name} {ts rest : List Token} {s : Stmt} → ReadsDeclared text x ts s rest → len rest ≤ len ts
  declared_less (grammar.ReadsDeclared.integer i r i') = let l = expr_less r in omega arith
  declared_less (grammar.ReadsDeclared.array i r i' i'') = let l = expr_less r in omega arith

  returned_less : {ts rest : List Token} {e : Option Expr} → ReadsReturned text ts e rest → len rest ≤ len ts
  returned_less (grammar.ReadsReturned.nothing i) = omega arith
  returned_less (grammar.ReadsReturned.value r i) = let l = expr_less r in omega arith

  mutual
    stmt_room : {n m : ℕ} {k : Kind} {t : Token} {ts rest : List Token} {s : Stmt} → ReadsStmtBy text n k t ts s m rest → m + len rest ≤ n + suc (len ts)
    stmt_room (grammar.declare i r) = let l = declared_less r in omega arith
    stmt_room (grammar.named i r) = let l = named_room r in omega arith
    stmt_room (grammar.spawn i r) = let l = call_less r in omega arith
    stmt_room (grammar.sync i) = omega arith
    stmt_room (grammar.when i r i' q) = let l = expr_less r in let h = block_room q in omega arith
    stmt_room (grammar.choose i r i' q i'' q') = let l = expr_less r in let h = block_room q in let h' = block_room q' in omega arith
    stmt_room (grammar.repeat i r i' q) = let l = expr_less r in let h = block_room q in omega arith
    stmt_room (grammar.loop r q) = let l = head_less r in let h = block_room q in omega arith
    stmt_room (grammar.scope q) = let h = block_room q in omega arith
    stmt_room (grammar.cut i1 i2 r i3 i4 i5 i6 q) = let l = expr_less r in let h = block_room q in omega arith
    stmt_room (grammar.region i q) = let h = block_room q in omega arith
    stmt_room (grammar.print i r i' i'') = let l = expr_less r in omega arith
    stmt_room (grammar.give r) = let l = returned_less r in omega arith

    block_room : {n m : ℕ} {ts rest : List Token} {b : Block} → ReadsBlock text n ts b m rest → m + len rest ≤ n + len ts
    block_room (grammar.braces i q) = let h = stmts_room q in omega arith

    pub stmts_room : {n m : ℕ} {ts rest : List Token} {b : Block} → ReadsStmts text n ts b m rest → m + len rest ≤ n + len ts
    stmts_room (grammar.ReadsStmts.close i) = omega arith
    stmts_room (grammar.one_more (grammar.begins i r) q) = let l = stmt_room r in let h = stmts_room q in omega arith

  lined_room : {n : ℕ} {ts : List Token} {x : Line × ℕ} {rest : List Token} → Lined text n ts x rest → x.1 + len rest ≤ n + len ts
  lined_room (lined (grammar.begins i r)) = stmt_room r

  -- a statement leaves room for the numbers of the calls that follow
  pub line_room : (n site : ℕ) (ts : List Token) (l : Line) (next : ℕ) (us : List Token) → line text n site ts ≡ Ok ((l, next), us) → next + len us ≤ site + len ts
  line_room n site ts l next us e = lined_room ((line_exact text (Unit {0}) n site).sound ts (l, next) us e)

  -- a block leaves room for the numbers of the calls that follow
  pub lines_room : (n site : ℕ) (ts : List Token) (b : Block) (next : ℕ) (us : List Token) → lines text n site ts ≡ Ok ((b, next), us) → next + len us ≤ site + len ts
  lines_room n site ts b next us e = stmts_room ((lines_exact text (Unit {0}) n site).sound ts (b, next) us e)

  -- parameters leave no more tokens than there were
  pub params_less : (n : ℕ) (ts : List Token) (ps : List Param) (us : List Token) → list (param text) n ts ≡ Ok (ps, us) → len us ≤ len ts
  params_less n ts ps us e =
      let r = (params_exact text (Unit {0}) n).sound ts ps us e in
      shorter ts ps us ((params_exact text (Unit {0}) (len ts)).stable ts ps us (omega arith) r)

  -- the opening of a block leaves no more tokens than there were
  pub opening_less : (n : ℕ) (t : Token) (k : Kind) (ts : List Token) (o : Opening) (us : List Token) → opening text n t k ts ≡ Ok (o, us) → len us ≤ len ts
  opening_less n t k ts o us e = go (opening_branch text (Unit {0}) n t k) (opening_branch text (Unit {0}) (len ts) t k)
    where
      go : Branch (Unit {0}) n (OpeningBy text t k) any t (opening text n t k) → Branch (Unit {0}) (len ts) (OpeningBy text t k) any t (opening text (len ts) t k) → len us ≤ len ts
      go (inl x) (inl y) = shorter ts o us (y.stable ts o us (omega arith) (x.sound ts o us e))
      go (inl x) (inr y) = absurd (y.never ts o us (x.sound ts o us e))
      go (inr x) y = absurd (let clash = sym (x.stops ts) ∙ e in cc)

  parameters_less : {ts us : List Token} {ps : List Param} → ReadsParams text ts ps us → len us ≤ len ts
  parameters_less {ts} {us} {ps} r = shorter ts ps us ((params_exact text (Unit {0}) (len ts)).stable ts ps us (omega arith) r)

  one_room : {site : ℕ} {ts : List Token} {y : Item × ℕ} {us : List Token} → One text site ts y us → y.1 + len us ≤ site + len ts
  one_room (total i1 i2 i3 i4) = omega arith
  one_room (code (grammar.function g i i' r q)) = let l = parameters_less r in let h = block_room q in omega arith

  -- an item leaves room for the numbers of the calls that follow
  pub item_room : (n site : ℕ) (ts : List Token) (x : Item) (next : ℕ) (us : List Token) → by_first (item text n site) ts ≡ Ok ((x, next), us) → next + len us ≤ site + len ts
  item_room n site ts x next us e = one_room ((one_exact text (Unit {0}) n site).sound ts (x, next) us e)
