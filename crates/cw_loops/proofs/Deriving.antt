-- The names and numbers of a program that is derived from a text are possible in a source.
use Rattle.std.proofs.Common.{◌≡◌, ℕ, Bool, true, false, List, [], ◌∷◌, Option, Some, arith, refl, sym, ◌∙◌, ap}
use Rattle.std.specs.Prelude.{◌==◌, not, length}
use Rattle.std.specs.List.{list_all}
use Rattle.std.proofs.lemmas.Bool.{eqb-true, and_parts}
use Rattle.cw_facts.specs.Tests.{both_true}
use Rattle.cw_model.specs.declared.token.Token.{Token}
use Rattle.cw_model.specs.declared.token.Kind.{Kind}
use Rattle.cw_model.specs.Text.{between}
use Rattle.cw_model.specs.Pieces.{is_letter, is_word_byte, is_word, is_number, is_digit, symbol, one_byte, two_bytes}
use Rattle.cw_model.specs.Tokens.{IsSpelled, AreTokens, IsTokenCut}
use Rattle.cw_model.specs.Tokens as tokens
use Rattle.cw_model.specs.Syntax.{Name, Expr, Stmt, Block, Function, Reducer, Program}
use Rattle.cw_model.specs.Syntax as tree
use Rattle.cw_model.specs.Grammar as grammar
use Rattle.cw_model.specs.Grammar.{name_of, Part, level, chain, ReadsExpr, operand, operators, end, infixed, ReadsOperand, negative, negation, number, variable, element, length_of, parentheses}
use Rattle.cw_model.specs.Grammar.{ReadsMoreArguments, ReadsArguments, ReadsCall, ReadsMoreNames, ReadsGrain, ReadsOver, Head, ReadsHead, ReadsAssigned, ReadsNamed, ReadsDeclared, ReadsReturned}
use Rattle.cw_model.specs.Grammar.{ReadsStmt, begins, ReadsStmtBy, ReadsBlock, braces, ReadsStmts, ReadsParam, ReadsMoreParams, ReadsParams, ReadsFunction, ReadsItems, Derives}
use Rattle.cw_loops.specs.Lowered.{is_plain}
use Rattle.cw_loops.specs.SourceLike.{is_source_expr, is_source_return, is_source_stmt, is_source_block, is_source_function, is_source_like}
use Rattle.cw_loops.proofs.Numbers.{tested}

-- the names among tokens

first_plain : (b : ℕ) (bs : List ℕ) → (b ≡ 35 → ⊥) → is_plain (b ∷ bs) ≡ true
first_plain b bs h = go (b == 35) refl
  where
    go : (s : Bool) → (b == 35) ≡ s → not s ≡ true
    go true e = absurd (h (eqb-true b 35 e))
    go false e = refl

word_plain : (text : List ℕ) → is_word text ≡ true → is_plain text ≡ true
word_plain [] h = refl
word_plain (b ∷ bs) h = first_plain b bs (λ e. no_letter (sym (ap is_letter e) ∙ (and_parts (is_letter b) (list_all is_word_byte bs) h).0))
  where
    no_letter : is_letter 35 ≡ true → ⊥
    no_letter g = cc

number_plain : (text : List ℕ) → is_number text ≡ true → is_plain text ≡ true
number_plain [] h = refl
number_plain (b ∷ bs) h = first_plain b bs (λ e. no_digit (sym (ap is_digit e) ∙ (and_parts (is_digit b) _ h).0))
  where
    no_digit : is_digit 35 ≡ true → ⊥
    no_digit g = cc

symbol_plain : (text : List ℕ) (k : Kind) → symbol text ≡ Some k → is_plain text ≡ true
symbol_plain [] k h = refl
symbol_plain (b ∷ []) k h = first_plain b [] (λ e. none (sym (ap one_byte e) ∙ h))
  where
    none : one_byte 35 ≡ Some k → ⊥
    none g = cc
symbol_plain (b ∷ c ∷ []) k h = first_plain b (c ∷ []) (λ e. none (sym (ap (λ z. two_bytes z c) e) ∙ h))
  where
    none : two_bytes 35 c ≡ Some k → ⊥
    none g = cc
symbol_plain (b ∷ c ∷ d ∷ bs) k h = absurd cc

spelled_plain : (k : Kind) (text : List ℕ) → IsSpelled k text → is_plain text ≡ true
spelled_plain k text (tokens.word w short) = word_plain text w
spelled_plain k text (tokens.number n small) = number_plain text n
spelled_plain k text (tokens.mark s) = symbol_plain text k s

-- the text of each token is plain
abbrev Plain : List ℕ → List Token → Type 0
Plain text [] = Unit {0}
Plain text (t ∷ ts) = (is_plain (name_of text t) ≡ true) × Plain text ts

tokens_plain : (text : List ℕ) (from : ℕ) (ts : List Token) (to : ℕ) → AreTokens text from ts to → Plain text ts
tokens_plain text from [] to h = tt
tokens_plain text from (t ∷ ts) to h = (spelled_plain t.kind (between text t.start t.end) h.1.spelled, tokens_plain text t.end ts to h.2)

-- the part that is read is possible in a source, and the remaining tokens are plain
abbrev Sourced : List ℕ → Bool → List Token → Type 0
Sourced text source rest = (source ≡ true) × Plain text rest

-- the condition on the expression that is continued
abbrev Before : Part → Type 0
Before (level k) = Unit {0}
Before (chain k d) = is_source_expr d ≡ true

module _ (text : List ℕ) where
  mutual
    expr_from : {part : Part} {ts rest : List Token} {e : Expr} → Plain text ts → Before part → ReadsExpr text part ts e rest → Sourced text (is_source_expr e) rest
    expr_from plain before (operand is read) = operand_from plain read
    expr_from plain before (operators first more) = let h = expr_from plain tt first in expr_from h.1 h.0 more
    expr_from plain before end = (before, plain)
    expr_from plain before (infixed {d = d} {e = e} is right more) =
        let h = expr_from plain.1 tt right in
        expr_from h.1 (both_true (is_source_expr d) (is_source_expr e) before h.0) more

    operand_from : {k : Kind} {t : Token} {ts rest : List Token} {e : Expr} → Plain text (t ∷ ts) → ReadsOperand text k t ts e rest → Sourced text (is_source_expr e) rest
    operand_from plain (negative read) = expr_from plain.1 tt read
    operand_from plain (negation read) = expr_from plain.1 tt read
    operand_from plain (number {n = n} small) = (tested n (omega arith), plain.1)
    operand_from plain variable = plain
    operand_from plain (element {t = t} {e = e} left read right) = let h = expr_from plain.1.1 tt read in (both_true (is_plain (name_of text t)) (is_source_expr e) plain.0 h.0, h.1.1)
    operand_from plain (length_of left name right) = (plain.1.1.0, plain.1.1.1.1)
    operand_from plain (parentheses read right) = let h = expr_from plain.1 tt read in (h.0, h.1.1)

  more_from : {ts rest : List Token} {es : List Expr} → Plain text ts → ReadsMoreArguments text ts es rest → Sourced text (list_all is_source_expr es) rest
  more_from plain (grammar.ReadsMoreArguments.close is) = (refl, plain.1)
  more_from plain (grammar.ReadsMoreArguments.comma {e = e} {es = es} is read more) =
      let h = expr_from plain.1 tt read in
      let k = more_from h.1 more in
      (both_true (is_source_expr e) (list_all is_source_expr es) h.0 k.0, k.1)

  arguments_from : {ts rest : List Token} {es : List Expr} → Plain text ts → ReadsArguments text ts es rest → Sourced text (list_all is_source_expr es) rest
  arguments_from plain (grammar.ReadsArguments.none is) = (refl, plain.1)
  arguments_from plain (grammar.ReadsArguments.some {e = e} {es = es} read more) =
      let h = expr_from plain tt read in
      let k = more_from h.1 more in
      (both_true (is_source_expr e) (list_all is_source_expr es) h.0 k.0, k.1)

  call_from : {ts rest : List Token} {es : List Expr} → Plain text ts → ReadsCall text ts es rest → Sourced text (list_all is_source_expr es) rest
  call_from plain (grammar.called left read right) = let h = arguments_from plain.1 read in (h.0, h.1.1)

  names_from : {ts rest : List Token} {xs : List Name} → Plain text ts → ReadsMoreNames text ts xs rest → Sourced text (list_all is_plain xs) rest
  names_from plain (grammar.ReadsMoreNames.close is) = (refl, plain.1)
  names_from plain (grammar.ReadsMoreNames.comma {u = u} {xs = xs} is name more) =
      let k = names_from plain.1.1 more in
      (both_true (is_plain (name_of text u)) (list_all is_plain xs) plain.1.0 k.0, k.1)

  grain_from : {ts rest : List Token} {n : ℕ} → Plain text ts → ReadsGrain ts n rest → Plain text rest
  grain_from plain grammar.usual = plain
  grain_from plain (grammar.grain is number') = plain.1.1

  over_from : {ts rest : List Token} {xs : List Name} → Plain text ts → ReadsOver text ts xs rest → Sourced text (list_all is_plain xs) rest
  over_from plain grammar.ReadsOver.nothing = (refl, plain)
  over_from plain (grammar.over {v = v} {xs = xs} is left name more) =
      let k = names_from plain.1.1.1 more in
      (both_true (is_plain (name_of text v)) (list_all is_plain xs) plain.1.1.0 k.0, k.1)

  -- the head of a loop
  record HeadFrom (h : Head) (rest : List Token) : Type 0 where
    variable' : is_plain h.variable ≡ true
    from : is_source_expr h.from ≡ true
    to : is_source_expr h.to ≡ true
    over : list_all is_plain h.over ≡ true
    rest' : Plain text rest

  head_from : {ts rest : List Token} {h : Head} → Plain text ts → ReadsHead text ts h rest → HeadFrom h rest
  head_from plain (grammar.head left int x equals from' semicolon y less to' semicolon' z increment right size over') =
      let f = expr_from plain.1.1.1.1 tt from' in
      let t = expr_from f.1.1.1.1 tt to' in
      let o = over_from (grain_from t.1.1.1.1.1 size) over' in
      record { variable' = plain.1.1.0; from = f.0; to = t.0; over = o.0; rest' = o.1 }

  assigned_from : {n m : ℕ} {x : Name} {ts rest : List Token} {s : Stmt} → is_plain x ≡ true → Plain text ts → ReadsAssigned text n x ts s m rest → Sourced text (is_source_stmt s) rest
  assigned_from {x = x} known plain (grammar.ReadsAssigned.value {e = e} read is) = let h = expr_from plain tt read in (both_true (is_plain x) (is_source_expr e) known h.0, h.1.1)
  assigned_from {x = x} known plain (grammar.ReadsAssigned.call {f = f} {es = es} is read) =
      let h = call_from plain.1 read in
      (both_true (is_plain x) _ known (both_true (is_plain (name_of text f)) (list_all is_source_expr es) plain.0 h.0), h.1)
  assigned_from {x = x} known plain (grammar.ReadsAssigned.spawn {f = f} {es = es} is name read) =
      let h = call_from plain.1.1 read in
      (both_true (is_plain x) _ known (both_true (is_plain (name_of text f)) (list_all is_source_expr es) plain.1.0 h.0), h.1)

  named_from : {n m : ℕ} {k : Kind} {t : Token} {ts rest : List Token} {s : Stmt} → is_plain (name_of text t) ≡ true → Plain text ts
      → ReadsNamed text n k t ts s m rest → Sourced text (is_source_stmt s) rest
  named_from known plain (grammar.ReadsNamed.assign read) = assigned_from known plain read
  named_from {t = t} known plain (grammar.ReadsNamed.assign_element {i = i} {e = e} index u v value w) =
      let h = expr_from plain tt index in
      let k = expr_from h.1.1.1 tt value in
      (both_true (is_plain (name_of text t)) _ known (both_true (is_source_expr i) (is_source_expr e) h.0 k.0), k.1.1)
  named_from {t = t} known plain (grammar.ReadsNamed.add {e = e} read is) = let h = expr_from plain tt read in (both_true (is_plain (name_of text t)) (is_source_expr e) known h.0, h.1.1)
  named_from {t = t} known plain (grammar.ReadsNamed.raise {e = e} equals read is) = let h = expr_from plain.1 tt read in (both_true (is_plain (name_of text t)) (is_source_expr e) known h.0, h.1.1)
  named_from {t = t} known plain (grammar.ReadsNamed.call {es = es} read is) = let h = arguments_from plain read in
      (both_true (is_plain (name_of text t)) (list_all is_source_expr es) known h.0, h.1.1)

  declared_from : {x : Name} {ts rest : List Token} {s : Stmt} → is_plain x ≡ true → Plain text ts → ReadsDeclared text x ts s rest → Sourced text (is_source_stmt s) rest
  declared_from {x = x} known plain (grammar.ReadsDeclared.integer {e = e} is read u) = let h = expr_from plain.1 tt read in (both_true (is_plain x) (is_source_expr e) known h.0, h.1.1)
  declared_from {x = x} known plain (grammar.ReadsDeclared.array {e = e} is read u v) = let h = expr_from plain.1 tt read in (both_true (is_plain x) (is_source_expr e) known h.0, h.1.1.1)

  returned_from : {ts rest : List Token} {e : Option Expr} → Plain text ts → ReadsReturned text ts e rest → Sourced text (is_source_return e) rest
  returned_from plain (grammar.ReadsReturned.nothing is) = (refl, plain.1)
  returned_from plain (grammar.ReadsReturned.value read is) = let h = expr_from plain tt read in (h.0, h.1.1)

  mutual
    stmt_from : {n m : ℕ} {ts rest : List Token} {s : Stmt} → Plain text ts → ReadsStmt text n ts s m rest → Sourced text (is_source_stmt s) rest
    stmt_from plain (begins is read) = kind_from plain read

    kind_from : {n m : ℕ} {k : Kind} {t : Token} {ts rest : List Token} {s : Stmt} → Plain text (t ∷ ts) → ReadsStmtBy text n k t ts s m rest → Sourced text (is_source_stmt s) rest
    kind_from plain (grammar.declare name read) = declared_from plain.1.0 plain.1.1 read
    kind_from plain (grammar.named is read) = named_from plain.0 plain.1.1 read
    kind_from plain (grammar.ReadsStmtBy.spawn {f = f} {es = es} name read) =
        let h = call_from plain.1.1 read in
        (both_true (is_plain (name_of text f)) (list_all is_source_expr es) plain.1.0 h.0, h.1)
    kind_from plain (grammar.sync is) = (refl, plain.1.1)
    kind_from plain (grammar.when {e = e} {b = b} left test right body) =
        let h = expr_from plain.1.1 tt test in
        let k = block_from h.1.1 body in
        (both_true (is_source_expr e) (is_source_block b) h.0 k.0, k.1)
    kind_from plain (grammar.choose {e = e} {b = b} {c = c} left test right body other rest_of) =
        let h = expr_from plain.1.1 tt test in
        let k = block_from h.1.1 body in
        let j = block_from k.1.1 rest_of in
        (both_true (is_source_expr e) _ h.0 (both_true (is_source_block b) (is_source_block c) k.0 j.0), j.1)
    kind_from plain (grammar.repeat {e = e} {b = b} left test right body) =
        let h = expr_from plain.1.1 tt test in
        let k = block_from h.1.1 body in
        (both_true (is_source_expr e) (is_source_block b) h.0 k.0, k.1)
    kind_from plain (grammar.loop {h = heading} {b = b} read body) =
        let h = head_from plain.1 read in
        let k = block_from h.rest' body in (
          both_true (is_plain heading.variable) _ h.variable' (both_true (is_source_expr heading.from) _ h.from
              (both_true (is_source_expr heading.to) _ h.to (both_true (list_all is_plain heading.over) (is_source_block b) h.over k.0))),
          k.1,
        )
    kind_from plain (grammar.scope body) = block_from plain.1 body
    kind_from plain (grammar.cut {a = a} {l = l} {r = r} {e = e} {b = b} array at read is left comma right body) =
        let h = expr_from plain.1.1.1 tt read in
        let k = block_from h.1.1.1.1.1 body in (
          both_true (is_plain (name_of text a)) _ plain.1.0 (both_true (is_source_expr e) _ h.0
              (both_true (is_plain (name_of text l)) _ h.1.1.0 (both_true (is_plain (name_of text r)) (is_source_block b) h.1.1.1.1.0 k.0))),
          k.1,
        )
    kind_from plain (grammar.region tag body) = block_from plain.1.1 body
    kind_from plain (grammar.print left read right end') = let h = expr_from plain.1.1 tt read in (h.0, h.1.1.1)
    kind_from plain (grammar.give read) = returned_from plain.1 read

    block_from : {n m : ℕ} {ts rest : List Token} {b : Block} → Plain text ts → ReadsBlock text n ts b m rest → Sourced text (is_source_block b) rest
    block_from plain (braces is read) = stmts_from plain.1 read

    stmts_from : {n m : ℕ} {ts rest : List Token} {b : Block} → Plain text ts → ReadsStmts text n ts b m rest → Sourced text (is_source_block b) rest
    stmts_from plain (grammar.ReadsStmts.close is) = (refl, plain.1)
    stmts_from plain (grammar.one_more {s = s} {b = b} first others) =
        let h = stmt_from plain first in
        let k = stmts_from h.1 others in
        (both_true (is_source_stmt s) (is_source_block b) h.0 k.0, k.1)

  param_from : {ts rest : List Token} {p : tree.Param} → Plain text ts → ReadsParam text ts p rest → Plain text rest
  param_from plain (grammar.ReadsParam.integer is name) = plain.1.1
  param_from plain (grammar.ReadsParam.array is name left right) = plain.1.1.1.1
  param_from plain (grammar.ReadsParam.array_to_read first is name left right) = plain.1.1.1.1.1

  more_params_from : {ts rest : List Token} {ps : List tree.Param} → Plain text ts → ReadsMoreParams text ts ps rest → Plain text rest
  more_params_from plain (grammar.ReadsMoreParams.close is) = plain.1
  more_params_from plain (grammar.ReadsMoreParams.comma is read more) = more_params_from (param_from plain.1 read) more

  params_from : {ts rest : List Token} {ps : List tree.Param} → Plain text ts → ReadsParams text ts ps rest → Plain text rest
  params_from plain (grammar.ReadsParams.none is) = plain.1
  params_from plain (grammar.ReadsParams.some read more) = more_params_from (param_from plain read) more

  function_from : {n m : ℕ} {ts rest : List Token} {f : Function} → Plain text ts → ReadsFunction text n ts f m rest → Sourced text (is_source_function f) rest
  function_from plain (grammar.function {f = f} {b = b} gives name left params body) =
      let h = block_from (params_from plain.1.1.1 params) body in
      (both_true (is_plain (name_of text f)) (is_source_block b) plain.1.0 h.0, h.1)

  items_from : {n : ℕ} {ts : List Token} {rs : List Reducer} {fs : List Function} → Plain text ts → ReadsItems text n ts rs fs → list_all is_source_function fs ≡ true
  items_from plain grammar.no_item = refl
  items_from plain (grammar.one_reducer t u s v more) = items_from plain.1.1.1.1 more
  items_from plain (grammar.one_function {f = f} {fs = fs} first more) =
      let h = function_from plain first in
      both_true (is_source_function f) (list_all is_source_function fs) h.0 (items_from h.1 more)

pub derived_like : (text : List ℕ) (ts : List Token) (program : Program) → IsTokenCut text ts → Derives text ts program → is_source_like program ≡ true
derived_like text ts program cut derived = items_from text (tokens_plain text 0 ts (length text) cut) derived.items
