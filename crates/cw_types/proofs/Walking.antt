-- The known names during a traversal of statements and parameters.
use Rattle.std.proofs.Common.{Bool, true, false, if◌then◌else◌, not, ◌&&◌, ◌||◌, ◌==◌, ◌≡◌, ◌≤◌, ℕ, suc, ◌-◌, List, [], ◌∷◌, ◌++◌, length, drop, map, get_or, refl, sym, ap, ◌∙◌, arith, append_assoc}
use Rattle.cw_model.specs.declared.syntax.NameKind.TheVariants as name_kind
use Rattle.cw_model.specs.Names.{is_among, same_name}
use Rattle.cw_model.specs.Syntax.{Name, Stmt, Declare, DeclareArray, Assign, AssignElement, Reduce, Call, Start, Begin, Sync, If, IfElse, While, For, Scope, Cut, Region, Print, Return, Param, Program}
use Rattle.cw_model.specs.Typing.{Known, declares, globals, known_of}
use Rattle.cw_types.specs.Names.{known_names, param_names}
use Rattle.cw_types.specs.Scope.{Declared, after_stmt, kinds, oldest, with_local, with_params}
use Rattle.cw_types.specs.ReasonMeaning.{BeginsAt}
use Rattle.cw_types.specs.Typing.{are_new}
use Rattle.cw_tree.specs.declared.syntax.Line.{Line, the_lemmas}
use Rattle.cw_tree.specs.SyntaxView.{block_of}
use Rattle.cw_tree.specs.lemmas.Names.{among_append}

pub oldest_more : (k : Declared) (ks : List Declared) (n : ℕ) → n ≤ length ks → oldest n (k ∷ ks) ≡ oldest n ks
oldest_more k ks n h =
    let more : length (k ∷ ks) - n ≡ suc (length ks - n) = omega arith in
    ap (λ i. drop i (k ∷ ks)) more

-- the names that are known after a statement
pub kinds_after : (line : ℕ) (s : Stmt) (locals : List Declared) → kinds (after_stmt line s locals) ≡ declares s (kinds locals)
kinds_after line (Declare x e) locals = refl
kinds_after line (DeclareArray a e) locals = refl
kinds_after line (Assign x e) locals = refl
kinds_after line (AssignElement a i e) locals = refl
kinds_after line (Reduce how s e) locals = refl
kinds_after line (Call kind site target f es) locals = refl
kinds_after line (Start kind f es) locals = refl
kinds_after line (Begin f from to captured over) locals = refl
kinds_after line Sync locals = refl
kinds_after line (If e b) locals = refl
kinds_after line (IfElse e b c) locals = refl
kinds_after line (While e b) locals = refl
kinds_after line (For x y z from to grain over b) locals = refl
kinds_after line (Scope b) locals = refl
kinds_after line (Cut a e l r b) locals = refl
kinds_after line (Region tag b) locals = refl
kinds_after line (Print e) locals = refl
kinds_after line (Return e) locals = refl

-- a statement keeps the oldest names
pub oldest_after : (line : ℕ) (s : Stmt) (ks : List Declared) (n : ℕ) → n ≤ length ks → oldest n (after_stmt line s ks) ≡ oldest n ks
oldest_after line (Declare x e) ks n h = oldest_more (record { name = x; kind = name_kind.Integer; line = line }) ks n h
oldest_after line (DeclareArray a e) ks n h = oldest_more (record { name = a; kind = name_kind.Array; line = line }) ks n h
oldest_after line (Assign x e) ks n h = refl
oldest_after line (AssignElement a i e) ks n h = refl
oldest_after line (Reduce how s e) ks n h = refl
oldest_after line (Call kind site target f es) ks n h = refl
oldest_after line (Start kind f es) ks n h = refl
oldest_after line (Begin f from to captured over) ks n h = refl
oldest_after line Sync ks n h = refl
oldest_after line (If e b) ks n h = refl
oldest_after line (IfElse e b c) ks n h = refl
oldest_after line (While e b) ks n h = refl
oldest_after line (For x y z from to grain over b) ks n h = refl
oldest_after line (Scope b) ks n h = refl
oldest_after line (Cut a e l r b) ks n h = refl
oldest_after line (Region tag b) ks n h = refl
oldest_after line (Print e) ks n h = refl
oldest_after line (Return e) ks n h = refl

pub longer_after : (line : ℕ) (s : Stmt) (ks : List Declared) (n : ℕ) → n ≤ length ks → n ≤ length (after_stmt line s ks)
longer_after line (Declare x e) ks n h = omega arith
longer_after line (DeclareArray a e) ks n h = omega arith
longer_after line (Assign x e) ks n h = h
longer_after line (AssignElement a i e) ks n h = h
longer_after line (Reduce how s e) ks n h = h
longer_after line (Call kind site target f es) ks n h = h
longer_after line (Start kind f es) ks n h = h
longer_after line (Begin f from to captured over) ks n h = h
longer_after line Sync ks n h = h
longer_after line (If e b) ks n h = h
longer_after line (IfElse e b c) ks n h = h
longer_after line (While e b) ks n h = h
longer_after line (For x y z from to grain over b) ks n h = h
longer_after line (Scope b) ks n h = h
longer_after line (Cut a e l r b) ks n h = h
longer_after line (Region tag b) ks n h = h
longer_after line (Print e) ks n h = h
longer_after line (Return e) ks n h = h

-- the parameters are known in the body
pub kinds_of_params : (line : ℕ) (ps : List Param) (locals : List Declared) → kinds (with_params line ps locals) ≡ known_of ps ++ kinds locals
kinds_of_params line [] locals = refl
kinds_of_params line (p ∷ ps) locals =
    kinds_of_params line ps (with_local p.name p.kind line locals)
    ∙ sym (append_assoc (known_of ps) ((p.name, p.kind) ∷ []) (kinds locals))

-- the last parameter is the newest known name
pub known_more : (ps : List Param) (p : Param) → known_of (ps ++ p ∷ []) ≡ (p.name, p.kind) ∷ known_of ps
known_more [] p = refl
known_more (q ∷ ps) p = ap (λ known. known ++ (q.name, q.kind) ∷ []) (known_more ps p)

-- the known names of parameters are the names of the parameters
pub among_params : (x : Name) (ps : List Param) → is_among x (known_names (known_of ps)) ≡ is_among x (map (λ p. p.name) ps)
among_params x [] = refl
among_params x (p ∷ ps) =
    ap (is_among x) (named_append (known_of ps) ((p.name, p.kind) ∷ []))
    ∙ among_append x (known_names (known_of ps)) (p.name ∷ [])
    ∙ ap (λ b. b || is_among x (p.name ∷ [])) (among_params x ps)
    ∙ turned (is_among x (map (λ p. p.name) ps)) (same_name x p.name)
  where
    named_append : (xs ys : Known) → known_names (xs ++ ys) ≡ known_names xs ++ known_names ys
    named_append [] ys = refl
    named_append (x ∷ xs) ys = ap (λ names. x.0 ∷ names) (named_append xs ys)

    turned : (a b : Bool) → (a || (if b then true else false)) ≡ (if b then true else a)
    turned true true = refl
    turned true false = refl
    turned false true = refl
    turned false false = refl

-- the test of the parameters, split into the first one and the rest
pub new_step : (program : Program) (ps : List Param) (p : Param) (rest : List Param) →
    are_new program (known_of ps) (p ∷ rest)
    ≡ (not (is_among p.name (param_names ps) || is_among p.name (globals program)) && are_new program (known_of (ps ++ p ∷ [])) rest)
new_step program ps p rest =
    ap (λ b. not (b || is_among p.name (globals program)) && are_new program ((p.name, p.kind) ∷ known_of ps) rest) (among_params p.name ps)
    ∙ ap (λ known. not (is_among p.name (param_names ps) || is_among p.name (globals program)) && are_new program known rest) (sym (known_more ps p))

-- the block after a statement begins in the line of its first statement
pub begins : (ls : List Line) (d : Line) → (length ls == 0) ≡ false → BeginsAt (get_or ls 0 d).line (block_of ls)
begins [] d h = cc
begins (l ∷ ls) d h = grind (arith, the_lemmas)
