-- The lines that break a rule of names and types, in the order in which the code finds them.
use Rattle.std.proofs.Common.{Bor, ◌==◌, ◌&&◌, get_or, zero, option_map, option_copied, ◌≡◌, ℕ, suc, ◌-◌, Bool, true, false, if◌then◌else◌, List, [], ◌∷◌, ◌++◌}
use Rattle.std.proofs.Common.{length, map, Option, Some, None, slice_get, MatchOption, IfSome, is_some, Contains, refl, sym, ap, ◌∙◌, arith}
use Rattle.std.proofs.lemmas.List.{append-nil}
use Rattle.std.proofs.lemmas.Bool.Decides.{nat_tests}
use Rattle.std.proofs.lemmas.List.Elements.{Contains-append_left, Contains-append_right}
use Rattle.std.proofs.lemmas.Slice.Eq.{bytes_eq-Decides}
use Rattle.cw_model.specs.Lines.{unless}
use Rattle.cw_model.specs.Names.{same_name, is_among}
use Rattle.cw_model.specs.Meaning.{function_named}
use Rattle.cw_model.specs.Syntax.{Name, Expr, Param, Function, Reducer, Program, Stmt, Declare, DeclareArray, Assign, AssignElement, Reduce}
use Rattle.cw_model.specs.Syntax.{Call, Start, Begin, Sync, If, IfElse, While, For, Scope, Cut, Region, Print, Return}
use Rattle.cw_model.specs.Typing.{Known, Returns, ends_block, faults_in, called, reducer_called, is_argument, are_arguments, block_returns, surely_returns}
use Rattle.cw_text.specs.Rising.{kept}
use Rattle.cw_text.specs.RecordedReasons.{itself}
use Rattle.cw_text.specs.lemmas.Kept.{kept-append}
use Rattle.cw_tree.specs.declared.syntax.Function.{Function as CodeFunction}
use Rattle.cw_tree.specs.declared.syntax.Reducer.{Reducer as CodeReducer}
use Rattle.cw_tree.specs.declared.syntax.Line.{Line, the_lemmas}
use Rattle.cw_tree.specs.SyntaxView.{function_of, reducer_of, block_of, stmt_of}
use Rattle.cw_types.specs.Names.{function_names as names_of}
use Rattle.cw_types.specs.Scope.{name_and_line}
use Rattle.cw_types.specs.Globals.{option_function, params_in, option_reducer}
use Rattle.cw_tree.specs.Resolved.{slot_of, function_names, reducer_names}
use Rattle.cw_types.specs.Typing.{keeps_rules, faults_inside}

pub by_parts : (program : Program) (returns : Returns) (known : Known) (line : ℕ) (s : Stmt) →
    faults_in program returns known line s ≡ unless (keeps_rules program returns known s) line ++ faults_inside program returns known s
by_parts program returns known line (Declare x e) = sym (append-nil (unless (keeps_rules program returns known (Declare x e)) line))
by_parts program returns known line (DeclareArray a e) = sym (append-nil (unless (keeps_rules program returns known (DeclareArray a e)) line))
by_parts program returns known line (Assign x e) = sym (append-nil (unless (keeps_rules program returns known (Assign x e)) line))
by_parts program returns known line (AssignElement a i e) = sym (append-nil (unless (keeps_rules program returns known (AssignElement a i e)) line))
by_parts program returns known line (Reduce how s e) = sym (append-nil (unless (keeps_rules program returns known (Reduce how s e)) line))
by_parts program returns known line (Call kind site target f es) = sym (append-nil (unless (keeps_rules program returns known (Call kind site target f es)) line))
by_parts program returns known line (Start kind f es) = refl
by_parts program returns known line (Begin f from to captured over) = refl
by_parts program returns known line Sync = refl
by_parts program returns known line (If e b) = refl
by_parts program returns known line (IfElse e b c) = refl
by_parts program returns known line (While e b) = refl
by_parts program returns known line (For x y z from to grain over b) = refl
by_parts program returns known line (Scope b) = refl
by_parts program returns known line (Cut a e l r b) = refl
by_parts program returns known line (Region tag b) = refl
by_parts program returns known line (Print e) = sym (append-nil (unless (keeps_rules program returns known (Print e)) line))
by_parts program returns known line (Return e) = sym (append-nil (unless (keeps_rules program returns known (Return e)) line))

-- the recorded lines of a statement and of the statements after it
pub noted : (keeps rest_stands : Bool) (line : ℕ) (inner rest : List ℕ) (p q r s t : List (Option ℕ)) →
    q ≡ kept itself p (unless keeps line) → r ≡ kept itself q inner → s ≡ kept itself r (unless rest_stands line) → t ≡ kept itself s rest →
    t ≡ kept itself p ((unless keeps line ++ inner) ++ (unless rest_stands line ++ rest))
noted keeps stands line inner rest p q r s t first second third fourth =
    fourth
    ∙ ap (λ o. kept itself o rest) third
    ∙ sym (kept-append itself r (unless stands line) rest)
    ∙ ap (λ o. kept itself o (unless stands line ++ rest)) (second ∙ ap (λ o. kept itself o inner) first ∙ sym (kept-append itself p (unless keeps line) inner))
    ∙ sym (kept-append itself p (unless keeps line ++ inner) (unless stands line ++ rest))

-- the first function with a name is at the position of the name
pub called_at : (x : Name) (fs : List Function) → slice_get fs (slot_of x (function_names fs)) ≡ called x fs
called_at x [] = refl
called_at x (f ∷ fs) = first (same_name x f.name) (called_at x fs)
  where
    first : (b : Bool) → slice_get fs (slot_of x (function_names fs)) ≡ called x fs →
        slice_get (f ∷ fs) (if b then 0 else suc (slot_of x (function_names fs))) ≡ (if b then Some f else called x fs)
    first true h = refl
    first false h = h

-- the parameters of the first function of a name
pub named_params : (x : Name) (fs : List Function) → (function_named x fs).params ≡ params_in (called x fs)
named_params x [] = refl
named_params x (f ∷ fs) = first (same_name x f.name) (named_params x fs)
  where
    first : (b : Bool) → (function_named x fs).params ≡ params_in (called x fs) →
        (if b then f else function_named x fs).params ≡ params_in (if b then Some f else called x fs)
    first true h = refl
    first false h = h

pub params_of_found : (x : Name) (fs : List Function) (found : Option Function) → found ≡ called x fs → params_in found ≡ (function_named x fs).params
params_of_found x fs found h = ap params_in h ∙ sym (named_params x fs)

-- the first reducer with a name is at the position of the name
pub reducer_at : (x : Name) (rs : List Reducer) → slice_get rs (slot_of x (reducer_names rs)) ≡ reducer_called x rs
reducer_at x [] = refl
reducer_at x (r ∷ rs) = first (same_name x r.name) (reducer_at x rs)
  where
    first : (b : Bool) → slice_get rs (slot_of x (reducer_names rs)) ≡ reducer_called x rs →
        slice_get (r ∷ rs) (if b then 0 else suc (slot_of x (reducer_names rs))) ≡ (if b then Some r else reducer_called x rs)
    first true h = refl
    first false h = h

-- the number of arguments must be the number of parameters
pub unequal : (known : Known) (ps : List Param) (es : List Expr) → (length ps ≡ length es → ⊥) → are_arguments known ps es ≡ false
unequal known [] [] h = absurd (h refl)
unequal known [] (e ∷ es) h = refl
unequal known (p ∷ ps) [] h = refl
unequal known (p ∷ ps) (e ∷ es) h = first (is_argument known p.kind e) (unequal known ps es (λ k. h (omega (arith, k))))
  where
    first : (b : Bool) → are_arguments known ps es ≡ false → (b && are_arguments known ps es) ≡ false
    first true k = k
    first false k = refl

-- the function that a lookup found
pub found_function : (fs : List CodeFunction) (i : ℕ) (r : Option (Bor CodeFunction)) → option_copied r ≡ slice_get fs i → option_function r ≡ slice_get (map function_of fs) i
found_function fs i r h = as_copied r ∙ ap (option_map function_of) h ∙ mapped fs i
  where
    as_copied : (r : Option (Bor CodeFunction)) → option_function r ≡ option_map function_of (option_copied r)
    as_copied None = refl
    as_copied (Some f) = refl

    mapped : (fs : List CodeFunction) (i : ℕ) → option_map function_of (slice_get fs i) ≡ slice_get (map function_of fs) i
    mapped [] i = refl
    mapped (f ∷ fs) zero = refl
    mapped (f ∷ fs) (suc i) = mapped fs i

-- the reducer that a lookup found
pub found_reducer : (rs : List CodeReducer) (i : ℕ) (r : Option (Bor CodeReducer)) → option_copied r ≡ slice_get rs i → option_reducer r ≡ slice_get (map reducer_of rs) i
found_reducer rs i r h = as_copied r ∙ ap (option_map reducer_of) h ∙ mapped rs i
  where
    as_copied : (r : Option (Bor CodeReducer)) → option_reducer r ≡ option_map reducer_of (option_copied r)
    as_copied None = refl
    as_copied (Some f) = refl

    mapped : (rs : List CodeReducer) (i : ℕ) → option_map reducer_of (slice_get rs i) ≡ slice_get (map reducer_of rs) i
    mapped [] i = refl
    mapped (r ∷ rs) zero = refl
    mapped (r ∷ rs) (suc i) = mapped rs i

-- a function with this name exists exactly if the name is among the names of functions
pub called_among : (x : Name) (fs : List Function) → is_some (called x fs) ≡ is_among x (names_of fs)
called_among x [] = refl
called_among x (f ∷ fs) = first (same_name x f.name) (called_among x fs)
  where
    first : (b : Bool) → is_some (called x fs) ≡ is_among x (names_of fs) →
        is_some (if b then Some f else called x fs) ≡ (if b then true else is_among x (names_of fs))
    first true h = refl
    first false h = h

-- a reducer with this name exists exactly if the name is among the names of reducers
pub reducer_among : (x : Name) (rs : List Reducer) → is_some (reducer_called x rs) ≡ is_among x (map (λ (r : Reducer). r.name) rs)
reducer_among x [] = refl
reducer_among x (r ∷ rs) = first (same_name x r.name) (reducer_among x rs)
  where
    first : (b : Bool) → is_some (reducer_called x rs) ≡ is_among x (map (λ (s : Reducer). s.name) rs) →
        is_some (if b then Some r else reducer_called x rs) ≡ (if b then true else is_among x (map (λ (s : Reducer). s.name) rs))
    first true h = refl
    first false h = h

pub as_some : {X Y : Type 0} (g : X → Y) (o : Option X) → is_some o ≡ is_some (option_map g o)
as_some g None = refl
as_some g (Some x) = refl

-- a function that a lookup found is the first function with its name
pub first_function : (x : Name) (fs : List Function) (found : Option (Bor CodeFunction)) → option_function found ≡ called x fs →
    MatchOption found (called x fs ≡ None) (λ f. called x fs ≡ Some (function_of f.now))
first_function x fs None h = sym h
first_function x fs (Some f) h = sym h

-- a reducer that a lookup found is among the reducers, with its line
pub reducer_there : (x : Name) (rs : List Reducer) (found : Option (Bor CodeReducer)) → option_reducer found ≡ reducer_called x rs →
    IfSome found (λ r. Contains (map name_and_line rs) (x, r.now.line))
reducer_there x rs None h = tt
reducer_there x rs (Some found) h = search rs (sym h)
  where
    as_named : (r : Reducer) → x ≡ r.name → r ≡ reducer_of found.now → ◌≡◌ {A = Name × ℕ} (name_and_line r) (x, found.now.line)
    as_named r same is =
        let with_name : Name → Name × ℕ = λ n. (n, r.line) in
        let with_line : Reducer → Name × ℕ = λ (o : Reducer). (x, o.line) in
        ap with_name (sym same) ∙ ap with_line is

    search : (ss : List Reducer) → reducer_called x ss ≡ Some (reducer_of found.now) → Contains (map name_and_line ss) (x, found.now.line)
    search [] e = cc
    search (r ∷ ss) e = first (same_name x r.name) refl e (search ss)
      where
        first : (b : Bool) → b ≡ same_name x r.name → (if b then Some r else reducer_called x ss) ≡ Some (reducer_of found.now) →
            (reducer_called x ss ≡ Some (reducer_of found.now) → Contains (map name_and_line ss) (x, found.now.line)) → Contains (map name_and_line (r ∷ ss)) (x, found.now.line)
        first true b k further =
            Contains-append_left (name_and_line r ∷ []) (map name_and_line ss) (x, found.now.line) (0, omega arith, as_named r ((bytes_eq-Decides x r.name).0 (sym b)) (cc k))
        first false b k further = Contains-append_right (name_and_line r ∷ []) (map name_and_line ss) (x, found.now.line) (further k)

-- a block returns exactly if its last statement does
pub last_returns : (ls : List Line) (k : ℕ) (d : Line) → suc k ≡ length ls → block_returns (block_of ls) ≡ surely_returns (stmt_of (get_or ls k d).stmt)
last_returns [] k d h = absurd (omega (arith, h))
last_returns (l ∷ []) zero d h = grind (arith, the_lemmas)
last_returns (l ∷ []) (suc k) d h = absurd (omega (arith, h))
last_returns (l ∷ m ∷ ls) zero d h = absurd (omega (arith, h))
last_returns (l ∷ m ∷ ls) (suc k) d h = last_returns (m ∷ ls) k d (omega (arith, h))

pub not_empty : (n : ℕ) → false ≡ (n == 0) → suc (n - 1) ≡ n
not_empty zero h = cc
not_empty (suc n) h = omega arith

pub ends_empty : (ls : List Line) → (length ls == 0) ≡ ends_block (block_of ls)
ends_empty [] = refl
ends_empty (l ∷ ls) = more (length ls)
  where
    more : (n : ℕ) → (suc n == 0) ≡ false
    more n = grind (arith, nat_tests)

pub ruleset ends = (ends_empty)
