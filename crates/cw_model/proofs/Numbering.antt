-- The call statements of a derived program are numbered consecutively, in source order.
use Rattle.std.proofs.Common.{◌≡◌, ℕ, suc, ◌+◌, List, [], ◌∷◌, ◌++◌, length, Bool, true, false, ◌&&◌, refl, ap, ◌∙◌, subst, arith, length-append}
use Rattle.std.specs.Prelude.{nat_eq, flat_map}
use Rattle.std.proofs.lemmas.Bool.Decides.{nat_tests}
use Rattle.cw_model.specs.declared.token.Token.{Token}
use Rattle.cw_model.specs.declared.token.Kind.{Kind}
use Rattle.cw_model.specs.Syntax.{Name, Stmt, Block, Reducer, Function, Program}
use Rattle.cw_model.specs.Sites.{CallSite, sites_in, sites_in_block, are_numbered, call_sites}
use Rattle.cw_model.specs.Grammar.{ReadsAssigned, value, ReadsNamed, assign, assign_element, add, raise, ReadsDeclared, ReadsStmt, begins, ReadsStmtBy}
use Rattle.cw_model.specs.Grammar.{declare, named, sync, when, choose, repeat, loop, scope, cut, region, print, give, ReadsBlock, braces, ReadsStmts}
use Rattle.cw_model.specs.Grammar.{one_more, ReadsFunction, function, ReadsItems, no_item, one_reducer, one_function, Derives}
use Rattle.cw_model.specs.Grammar as grammar

-- the sites are numbered from one number up to another
record Counted (from to : ℕ) (sites : List CallSite) : Type 0 where
  numbered : (k : ℕ) → from ≡ suc k → are_numbered k sites ≡ true
  upto : to ≡ from + length sites

same : (n : ℕ) → nat_eq n n ≡ true
same n = grind (arith, nat_tests)

none : (n : ℕ) → Counted n n []
none n = record { numbered = λ k e. refl; upto = omega arith }

one : (n : ℕ) (s : CallSite) → s.number ≡ n → Counted n (suc n) (s ∷ [])
one n s is = record {
  numbered = λ k e. ap (λ m. nat_eq m (suc k) && true) (is ∙ e) ∙ ap (λ b. b && true) (same (suc k));
  upto = omega arith;
}

numbered_append : (k : ℕ) (xs ys : List CallSite) → are_numbered k xs ≡ true → are_numbered (k + length xs) ys ≡ true → are_numbered k (xs ++ ys) ≡ true
numbered_append k [] ys h h' = subst (λ m. are_numbered m ys ≡ true) (omega arith) h'
numbered_append k (x ∷ xs) ys h h' =
    test (nat_eq x.number (suc k)) (λ t. numbered_append (suc k) xs ys t (subst (λ m. are_numbered m ys ≡ true) (omega arith) h')) h
  where
    test : (b : Bool) → (are_numbered (suc k) xs ≡ true → are_numbered (suc k) (xs ++ ys) ≡ true) → (b && are_numbered (suc k) xs) ≡ true → (b && are_numbered (suc k) (xs ++ ys)) ≡ true
    test true more t = more t
    test false more t = cc

both : (n m o : ℕ) (xs ys : List CallSite) → Counted n m xs → Counted m o ys → Counted n o (xs ++ ys)
both n m o xs ys c d = record {
  numbered = λ k e. numbered_append k xs ys (c.numbered k e) (d.numbered (k + length xs) (omega (arith, e, c.upto)));
  upto = omega (arith, c.upto, d.upto, length-append xs ys);
}

module _ (text : List ℕ) where
  assigned : (n m line : ℕ) (x : Name) (ts rest : List Token) (s : Stmt) → ReadsAssigned text n x ts s m rest → Counted n m (sites_in line s)
  assigned n m line x ts rest s (value read end) = none n
  assigned n m line x ts rest s (grammar.call called read) = one n _ refl
  assigned n m line x ts rest s (grammar.spawn t called read) = one n _ refl

  declared : (n line : ℕ) (x : Name) (ts rest : List Token) (s : Stmt) → ReadsDeclared text x ts s rest → Counted n n (sites_in line s)
  declared n line x ts rest s (grammar.integer t read end) = none n
  declared n line x ts rest s (grammar.array t read u v) = none n

  by_name : (n m line : ℕ) (k : Kind) (t : Token) (ts rest : List Token) (s : Stmt) → ReadsNamed text n k t ts s m rest → Counted n m (sites_in line s)
  by_name n m line k t ts rest s (assign read) = assigned n m line _ ts rest s read
  by_name n m line k t ts rest s (assign_element i u v e w) = none n
  by_name n m line k t ts rest s (add read end) = none n
  by_name n m line k t ts rest s (raise u read end) = none n
  by_name n m line k t ts rest s (grammar.call read end) = one n _ refl

  mutual
    stmt_counted : (n m line : ℕ) (ts rest : List Token) (s : Stmt) → ReadsStmt text n ts s m rest → Counted n m (sites_in line s)
    stmt_counted n m line [] rest s read = elim read [ ]
    stmt_counted n m line (t ∷ ts) rest s (begins {k = k} is read) = kind_counted n m line k t ts rest s read

    kind_counted : (n m line : ℕ) (k : Kind) (t : Token) (ts rest : List Token) (s : Stmt) → ReadsStmtBy text n k t ts s m rest → Counted n m (sites_in line s)
    kind_counted n m line k t ts rest s (declare x read) = declared n line _ _ rest s read
    kind_counted n m line k t ts rest s (named {k = j} u read) = by_name n m line j t _ rest s read
    kind_counted n m line k t ts rest s (grammar.spawn f read) = one n _ refl
    kind_counted n m line k t ts rest s (sync end) = none n
    kind_counted n m line k t ts rest s (when {us = us} {b = b} left test right body) = block_counted n m us rest b body
    kind_counted n m line k t ts rest s (choose {m = m'} {w = w} {us = us} {vs = vs} {b = b} {c = c} left test right body other rest_of) =
        both n m' m (sites_in_block b) (sites_in_block c) (block_counted n m' us (w ∷ vs) b body) (block_counted m' m vs rest c rest_of)
    kind_counted n m line k t ts rest s (repeat {us = us} {b = b} left test right body) = block_counted n m us rest b body
    kind_counted n m line k t ts rest s (loop {us = us} {b = b} heading body) = block_counted n m us rest b body
    kind_counted n m line k t ts rest s (scope {b = b} body) = block_counted n m ts rest b body
    kind_counted n m line k t ts rest s (cut {us = us} {b = b} a at e is l comma r body) = block_counted n m us rest b body
    kind_counted n m line k t ts rest s (region {ts = us} {b = b} tag body) = block_counted n m us rest b body
    kind_counted n m line k t ts rest s (print left read right end) = none n
    kind_counted n m line k t ts rest s (give read) = none n

    block_counted : (n m : ℕ) (ts rest : List Token) (b : Block) → ReadsBlock text n ts b m rest → Counted n m (sites_in_block b)
    block_counted n m [] rest b read = elim read [ ]
    block_counted n m (t ∷ ts) rest b (braces is read) = stmts_counted n m ts rest b read

    stmts_counted : (n m : ℕ) (ts rest : List Token) (b : Block) → ReadsStmts text n ts b m rest → Counted n m (sites_in_block b)
    stmts_counted n m ts rest b (grammar.close is) = none n
    stmts_counted n m ts rest b (one_more {m = k} {t = t} {ts = vs} {us = us} {s = s} {b = c} first others) =
        both n k m (sites_in t.line s) (sites_in_block c) (stmt_counted n k t.line (t ∷ vs) us s first) (stmts_counted k m us rest c others)

  function_counted : (n m : ℕ) (ts rest : List Token) (f : Function) → ReadsFunction text n ts f m rest → Counted n m (sites_in_block f.body)
  function_counted n m ts rest f (function {us = us} {b = b} gives name left params body) = block_counted n m us rest b body

  items_counted : (n : ℕ) (ts : List Token) (rs : List Reducer) (fs : List Function) → ReadsItems text n ts rs fs → (k : ℕ) → n ≡ suc k
      → are_numbered k (flat_map (λ f. sites_in_block f.body) fs) ≡ true
  items_counted n ts rs fs no_item k e = refl
  items_counted n ts rs fs (one_reducer {ts = us} {rs = others} t u s v read) k e = items_counted n us others fs read k e
  items_counted n ts rs fs (one_function {m = m} {us = us} {f = f} {fs = gs} first others) k e =
      let here = function_counted n m ts us f first in
      let sites = sites_in_block f.body in
      numbered_append k sites (flat_map (λ g. sites_in_block g.body) gs) (here.numbered k e)
      (items_counted m us rs gs others (k + length sites) (omega (arith, e, here.upto)))

pub derived_is_numbered : (text : List ℕ) (ts : List Token) (program : Program) → Derives text ts program → are_numbered 0 (call_sites program) ≡ true
derived_is_numbered text ts program derived = items_counted text 1 ts program.reducers program.functions derived.items 0 refl
