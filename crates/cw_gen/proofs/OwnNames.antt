-- Arrays that a function writes, gives away, cuts or loops over are not its read-only parameters.
use Rattle.cw_facts.specs.Tests.{not_true}
use Rattle.cw_model.specs.declared.syntax.NameKind.{NameKind}
use Rattle.cw_model.specs.declared.syntax.NameKind.TheVariants as name_kind
use Rattle.std.proofs.Common.{◌≡◌, ℕ, suc, ◌+◌, ◌≤◌, List, [], ◌∷◌, ◌++◌, length, Bool, true, false, not, cond, filter, refl, sym, ap, ◌∙◌, subst, arith, length-append, true≢false, inl, inr, ◌⊎◌}
use Rattle.std.specs.Prelude.{map, if◌then◌else◌, ◌&&◌, ◌||◌, Option, Some, None}
use Rattle.std.specs.List.{list_all}
use Rattle.std.proofs.lemmas.Slice.Eq.{bytes_eq-Decides}
use Rattle.std.proofs.lemmas.Bool.{and_parts}
use Rattle.cw_model.specs.Lines.{unless}
use Rattle.cw_model.specs.Syntax.{is_written_kind, takes_array, Name, Expr, Number, Variable, Element, Length, Negative, Not, Binary, Stmt, Declare, DeclareArray, Assign, AssignElement}
use Rattle.cw_model.specs.Syntax.{Reduce, Call, Start, Begin, Sync, If, IfElse, While, For, Scope, Cut, Region, Print, Return, Block, End, Then, Param, Function, Program}
use Rattle.cw_model.specs.Names.{same_name, is_among, differ}
use Rattle.cw_model.specs.Meaning.{function_named}
use Rattle.cw_model.specs.Typing.{Known, is_known, is_array, is_writable, is_fine, is_new, is_argument, are_arguments, is_cut, is_head_of_loop, is_target}
use Rattle.cw_model.specs.Typing.{called, is_call, Returns, Nowhere, declares, known_of, faults_in, faults_in_block, surely_returns, ends_block}
use Rattle.cw_model.specs.lemmas.Kept.{kept, left_none, right_none}
use Rattle.cw_tree.specs.Resolved.{Locals, slot_of, with_int, with_array, locals_after, locals_of}
use Rattle.cw_tree.specs.lemmas.NamedSlots.{slot_stays}
use Rattle.cw_loops.specs.Lowered.{lower_expr, lower_exprs, lower_stmt, lower_block, loop_count, loop_count_in}
use Rattle.cw_gen.specs.Marks.{Marks}
use Rattle.cw_gen.proofs.Marked.{IsOwn, is_read, own_behind}
use Rattle.cw_gen.proofs.MarkedParams.{marks_short, taken_own}
use Rattle.cw_gen.proofs.Texts.{taken_params}
use Rattle.cw_gen.proofs.Fine.{marks_for}
use Rattle.cw_gen.proofs.KnownFunctions.{CallFound}
use Rattle.cw_model.specs.Answers.{main_name}
use Rattle.cw_loops.specs.lemmas.Declaring.{same_after}
use Rattle.cw_gen.proofs.Names.{slot_new}
use Rattle.cw_gen.proofs.KnownPlaces.{new_name}

-- the slot of a name is not only read
abbrev pub OwnName : Marks → Locals → Name → Type 0
OwnName marks locals a = IsOwn marks (slot_of a locals.arrays)

abbrev pub OwnAll : Marks → Locals → List Name → Type 0
OwnAll marks locals [] = Unit {0}
OwnAll marks locals (a ∷ rest) = OwnName marks locals a × OwnAll marks locals rest

-- an argument for a parameter of this kind
abbrev pub OwnArg : NameKind → Marks → Locals → Expr → Type 0
OwnArg name_kind.Array marks locals (Variable a) = OwnName marks locals a
OwnArg _ marks locals e = Unit {0}

abbrev pub OwnArgs : Marks → Locals → List Param → List Expr → Type 0
OwnArgs marks locals [] es = Unit {0}
OwnArgs marks locals (p ∷ ps) [] = Unit {0}
OwnArgs marks locals (p ∷ ps) (e ∷ es) = OwnArg p.kind marks locals e × OwnArgs marks locals ps es

abbrev mutual
  -- the arrays that a statement writes, gives away, cuts or loops over are not only read, and new slots follow the
  -- slots of the parameters
  pub OwnStmt : List Function → Marks → Locals → Stmt → Type 0
  OwnStmt fs marks locals (DeclareArray a e) = length marks ≤ length locals.arrays
  OwnStmt fs marks locals (AssignElement a i e) = OwnName marks locals a
  OwnStmt fs marks locals (Call kind site target f es) = OwnArgs marks locals (function_named f fs).params es
  OwnStmt fs marks locals (Start kind f es) = OwnArgs marks locals (function_named f fs).params es
  OwnStmt fs marks locals (Begin f from to captured over) = OwnAll marks locals over
  OwnStmt fs marks locals (If e b) = OwnBlock fs marks locals b
  OwnStmt fs marks locals (IfElse e b c) = OwnBlock fs marks locals b × OwnBlock fs marks locals c
  OwnStmt fs marks locals (While e b) = OwnBlock fs marks locals b
  OwnStmt fs marks locals (Scope b) = OwnBlock fs marks locals b
  OwnStmt fs marks locals (Cut a e l r b) = OwnName marks locals a × (length marks ≤ length locals.arrays) × OwnBlock fs marks (with_array r (with_array l locals)) b
  OwnStmt fs marks locals (Region tag b) = OwnBlock fs marks locals b
  OwnStmt fs marks locals _ = Unit {0}

  -- the arrays that a block writes, gives away, cuts or loops over are not only read
  pub OwnBlock : List Function → Marks → Locals → Block → Type 0
  OwnBlock fs marks locals End = Unit {0}
  OwnBlock fs marks locals (Then line s b) = OwnStmt fs marks locals s × OwnBlock fs marks (locals_after locals s) b

-- the arrays that functions write, give away, cut or loop over are not only read
abbrev pub AllOwnNames : List Function → List Function → Type 0
AllOwnNames all [] = Unit {0}
AllOwnNames all (f ∷ fs) = OwnBlock all (marks_for f.params) (locals_of f.params) f.body × AllOwnNames all fs

-- if no array is only read, the condition holds
none_args : (locals : Locals) (ps : List Param) (es : List Expr) → OwnArgs [] locals ps es
none_args locals [] es = tt
none_args locals (p ∷ ps) [] = tt
none_args locals (p ∷ ps) (e ∷ es) = (one p.kind e, none_args locals ps es)
  where
    one : (k : NameKind) (e : Expr) → OwnArg k [] locals e
    one name_kind.Array (Variable a) = refl
    one name_kind.Array (Number n) = tt
    one name_kind.Array (Element a e) = tt
    one name_kind.Array (Length a) = tt
    one name_kind.Array (Negative e) = tt
    one name_kind.Array (Not e) = tt
    one name_kind.Array (Binary o d e) = tt
    one name_kind.Integer e = tt
    one name_kind.Const e = tt

none_all : (locals : Locals) (over : List Name) → OwnAll [] locals over
none_all locals [] = tt
none_all locals (a ∷ over) = (refl, none_all locals over)

mutual
  none_stmt : (fs : List Function) (locals : Locals) (s : Stmt) → OwnStmt fs [] locals s
  none_stmt fs locals (Declare x e) = tt
  none_stmt fs locals (DeclareArray a e) = omega arith
  none_stmt fs locals (Assign x e) = tt
  none_stmt fs locals (AssignElement a i e) = refl
  none_stmt fs locals (Reduce how s e) = tt
  none_stmt fs locals (Call kind site target f es) = none_args locals (function_named f fs).params es
  none_stmt fs locals (Start kind f es) = none_args locals (function_named f fs).params es
  none_stmt fs locals (Begin f from to captured over) = none_all locals over
  none_stmt fs locals Sync = tt
  none_stmt fs locals (If e b) = none_block fs locals b
  none_stmt fs locals (IfElse e b c) = (none_block fs locals b, none_block fs locals c)
  none_stmt fs locals (While e b) = none_block fs locals b
  none_stmt fs locals (For x y z from to grain over b) = tt
  none_stmt fs locals (Scope b) = none_block fs locals b
  none_stmt fs locals (Cut a e l r b) = (refl, omega arith, none_block fs (with_array r (with_array l locals)) b)
  none_stmt fs locals (Region tag b) = none_block fs locals b
  none_stmt fs locals (Print e) = tt
  none_stmt fs locals (Return e) = tt

  none_block : (fs : List Function) (locals : Locals) (b : Block) → OwnBlock fs [] locals b
  none_block fs locals End = tt
  none_block fs locals (Then line s b) = (none_stmt fs locals s, none_block fs (locals_after locals s) b)

-- a function without read-only parameters
pub unread_own : (fs : List Function) (f : Function) → marks_for f.params ≡ [] → OwnBlock fs (marks_for f.params) (locals_of f.params) f.body
unread_own fs f none = subst (λ ms. OwnBlock fs ms (locals_of f.params) f.body) (sym none) (none_block fs (locals_of f.params) f.body)

-- the facts that the types know of the arrays of a source function
pub record Written (marks : Marks) (known : Known) (locals : Locals) : Type 0 where
  pub same : (x : Name) → is_array known x ≡ is_among x locals.arrays
  pub short : length marks ≤ length locals.arrays
  pub own : (x : Name) → is_writable known x ≡ true → OwnName marks locals x

among_last : (x y : Name) (names : List Name) → is_among x (names ++ y ∷ []) ≡ (if same_name x y then true else is_among x names)
among_last x y [] = refl
among_last x y (z ∷ names) = test (among_last x y names) (same_name x z) (same_name x y)
  where
    test : is_among x (names ++ y ∷ []) ≡ (if same_name x y then true else is_among x names) → (b c : Bool)
        → (if b then true else is_among x (names ++ y ∷ [])) ≡ (if same_name x y then true else if b then true else is_among x names)
    test more true c = both (same_name x y)
      where
        both : (d : Bool) → true ≡ (if d then true else true)
        both true = refl
        both false = refl
    test more false c = more

-- one more integer, or one more array
int_written : (marks : Marks) (known : Known) (locals : Locals) (x : Name) → is_array known x ≡ false → Written marks known locals → Written marks ((x, name_kind.Integer) ∷ known) (with_int x locals)
int_written marks known locals x new w = record {
  same = λ y. same_one y (same_name y x) refl;
  short = w.short;
  own = λ y h. w.own y (only (same_name y x) (is_writable known y) h);
}
  where
    same_one : (y : Name) (b : Bool) → same_name y x ≡ b → (if b then false else is_array known y) ≡ is_among y locals.arrays
    same_one y true e = sym new ∙ ap (is_array known) (sym ((bytes_eq-Decides y x).0 e)) ∙ w.same y
    same_one y false e = w.same y

    only : (b c : Bool) → (if b then false else c) ≡ true → c ≡ true
    only true c h = cc
    only false c h = h

array_written : (marks : Marks) (known : Known) (locals : Locals) (x : Name) → is_array known x ≡ false → Written marks known locals
    → Written marks ((x, name_kind.Array) ∷ known) (with_array x locals)
array_written marks known locals x new w = record {
  same = λ y. ap (λ c. if same_name y x then true else c) (w.same y) ∙ sym (among_last y x locals.arrays);
  short = omega (arith, w.short, length-append locals.arrays (x ∷ []));
  own = λ y h. own_one y (same_name y x) refl h;
}
  where
    none : is_among x locals.arrays ≡ false
    none = sym (w.same x) ∙ new

    stays : (y : Name) → same_name y x ≡ false → (b : Bool) → is_among y locals.arrays ≡ b → is_writable known y ≡ true → OwnName marks (with_array x locals) y
    stays y other true e h = ap (is_read marks) (slot_stays y locals.arrays (x ∷ []) e) ∙ w.own y h
    stays y other false e h = own_behind marks (slot_of y (locals.arrays ++ x ∷ [])) (omega (arith, w.short, past y locals.arrays e))
      where
        past : (y : Name) (names : List Name) → is_among y names ≡ false → length names ≤ slot_of y (names ++ x ∷ [])
        past y [] h' = omega arith
        past y (z ∷ names) h' = test (past y names) (same_name y z) h'
          where
            test : (is_among y names ≡ false → length names ≤ slot_of y (names ++ x ∷ [])) → (b : Bool)
                → (if b then true else is_among y names) ≡ false → suc (length names) ≤ (if b then 0 else suc (slot_of y (names ++ x ∷ [])))
            test more true h'' = cc
            test more false h'' = omega (arith, more h'')

    own_one : (y : Name) (b : Bool) → same_name y x ≡ b → (if b then true else is_writable known y) ≡ true → OwnName marks (with_array x locals) y
    own_one y true e h =
        ap (λ z. is_read marks (slot_of z (locals.arrays ++ x ∷ []))) ((bytes_eq-Decides y x).0 e)
        ∙ ap (is_read marks) (slot_new x locals.arrays none)
        ∙ own_behind marks (length locals.arrays) w.short
    own_one y false e h = stays y e (is_among y locals.arrays) refl h

-- a new name is not an array
new_array : (program : Program) (known : Known) (x : Name) → is_new program known x ≡ true → is_array known x ≡ false
new_array program known x h = (new_name program known x h).1

-- a writable parameter is one that is taken
pushed_known : (such : NameKind → Bool) (x : Name) (ks : Known) (n : Name) (k : NameKind) → is_known x such (ks ++ (n, k) ∷ []) ≡ true
    → (is_known x such ks ≡ true) ⊎ ((same_name x n ≡ true) × (such k ≡ true))
pushed_known such x [] n k h = test (same_name x n) refl h
  where
    test : (b : Bool) → same_name x n ≡ b → (if b then such k else false) ≡ true → (false ≡ true) ⊎ ((same_name x n ≡ true) × (such k ≡ true))
    test true e h' = inr (e, h')
    test false e h' = cc
pushed_known such x (q ∷ ks) n k h = test (pushed_known such x ks n k) (same_name x q.0) h
  where
    test : (is_known x such (ks ++ (n, k) ∷ []) ≡ true → (is_known x such ks ≡ true) ⊎ ((same_name x n ≡ true) × (such k ≡ true))) → (b : Bool)
        → (if b then such q.1 else is_known x such (ks ++ (n, k) ∷ [])) ≡ true →
        ((if b then such q.1 else is_known x such ks) ≡ true) ⊎ ((same_name x n ≡ true) × (such k ≡ true))
    test more true h' = inl h'
    test more false h' = more h'

pub written_taken : (ps : List Param) (x : Name) → is_writable (known_of ps) x ≡ true → is_among x (taken_params ps) ≡ true
written_taken [] x h = cc
written_taken (p ∷ ps) x h = by p.kind refl (pushed_known is_written_kind x (known_of ps) p.name p.kind h) (written_taken ps x)
  where
    further : (b : Bool) → is_among x (taken_params ps) ≡ true → (if b then true else is_among x (taken_params ps)) ≡ true
    further true h' = refl
    further false h' = h'

    by : (k : NameKind) → p.kind ≡ k → (is_writable (known_of ps) x ≡ true) ⊎ ((same_name x p.name ≡ true) × (is_written_kind p.kind ≡ true))
        → (is_writable (known_of ps) x ≡ true → is_among x (taken_params ps) ≡ true) →
        is_among x (map (λ (z : Param). z.name) (cond (is_written_kind p.kind) (p ∷ filter (λ z. takes_array z) ps) (filter (λ z. takes_array z) ps))) ≡ true
    by k e (inl h') more = kinds (is_written_kind p.kind) (more h')
      where
        kinds : (b : Bool) → is_among x (taken_params ps) ≡ true → is_among x (map (λ (z : Param). z.name) (cond b (p ∷ filter (λ z. takes_array z) ps) (filter (λ z. takes_array z) ps))) ≡ true
        kinds true q = further (same_name x p.name) q
        kinds false q = q
    by k e (inr h') more =
        ap (λ b. is_among x (map (λ (z : Param). z.name) (cond b (p ∷ filter (λ z. takes_array z) ps) (filter (λ z. takes_array z) ps)))) h'.1
        ∙ ap (λ b. if b then true else is_among x (taken_params ps)) h'.0

-- the facts on arrays hold at the head of a function
pub head_written : (ps : List Param) → differ (map (λ p. p.name) ps) ≡ true
    → ((x : Name) → is_array (known_of ps) x ≡ is_among x (locals_of ps).arrays) → Written (marks_for ps) (known_of ps) (locals_of ps)
head_written ps apart same = record { same = same; short = marks_short ps; own = λ x h. taken_own ps x apart (written_taken ps x h) }

-- lowered arguments satisfy the condition on arguments
args_own : (marks : Marks) (known : Known) (locals : Locals) → Written marks known locals → (over : List Name) (ps : List Param) (es : List Expr)
    → are_arguments known ps es ≡ true → OwnArgs marks locals ps (lower_exprs over es)
args_own marks known locals w over [] [] h = tt
args_own marks known locals w over [] (e ∷ es) h = tt
args_own marks known locals w over (p ∷ ps) [] h = tt
args_own marks known locals w over (p ∷ ps) (e ∷ es) h =
    let two = and_parts (is_argument known p.kind e) (are_arguments known ps es) h in
    (one p.kind e two.0, args_own marks known locals w over ps es two.1)
  where
    one : (k : NameKind) (e : Expr) → is_argument known k e ≡ true → OwnArg k marks locals (lower_expr over e)
    one name_kind.Array (Variable a) g = w.own a g
    one name_kind.Array (Number n) g = tt
    one name_kind.Array (Element a e) g = tt
    one name_kind.Array (Length a) g = tt
    one name_kind.Array (Negative e) g = tt
    one name_kind.Array (Not e) g = tt
    one name_kind.Array (Binary o d e) g = tt
    one name_kind.Integer e g = tt
    one name_kind.Const e g = tt

over_own : (marks : Marks) (known : Known) (locals : Locals) → Written marks known locals → (over : List Name) → list_all (λ a. is_writable known a) over ≡ true → OwnAll marks locals over
over_own marks known locals w [] h = tt
over_own marks known locals w (a ∷ over) h =
    let two = and_parts (is_writable known a) (list_all (λ b. is_writable known b) over) h in
    (w.own a two.0, over_own marks known locals w over two.1)

-- the facts on arrays hold after a statement
after_written : (program : Program) (returns : Returns) (marks : Marks) (known : Known) (locals : Locals) (line : ℕ) (s : Stmt)
    → faults_in program returns known line s ≡ [] → Written marks known locals → Written marks (declares s known) (locals_after locals s)
after_written program returns marks known locals line (Declare x e) typed w =
    int_written marks known locals x (new_array program known x (and_parts (is_fine known e) (is_new program known x) (kept (is_fine known e && is_new program known x) line typed)).1) w
after_written program returns marks known locals line (DeclareArray x e) typed w =
    array_written marks known locals x (new_array program known x (and_parts (is_fine known e) (is_new program known x) (kept (is_fine known e && is_new program known x) line typed)).1) w
after_written program returns marks known locals line _ typed w = w

-- the facts that the types guarantee for a cut
record CutTyped (program : Program) (known : Known) (a l r : Name) : Type 0 where
  writable : is_writable known a ≡ true
  left : is_array known l ≡ false
  right : is_array known r ≡ false
  two : same_name r l ≡ false

cut_typed : (program : Program) (known : Known) (a : Name) (e : Expr) (l r : Name) → is_cut program known a e l r ≡ true → CutTyped program known a l r
cut_typed program known a e l r h =
    let four = and_parts _ (not (same_name l r)) h in
    let three = and_parts _ (is_new program known r) four.0 in
    let two = and_parts _ (is_new program known l) three.0 in
    let one = and_parts (is_writable known a) (is_fine known e) two.0 in
    record { writable = one.0; left = new_array program known l two.1; right = new_array program known r three.1; two = other (same_name r l) refl (not_true (same_name l r) four.1) }
  where
    other : (b : Bool) → same_name r l ≡ b → same_name l r ≡ false → b ≡ false
    other true q n = absurd (true≢false (sym ((bytes_eq-Decides l r).1 (sym ((bytes_eq-Decides r l).0 q))) ∙ n))
    other false q n = refl

module _ (program : Program) (all : List Function) (calls : (f : Name) (g : Function) → called f program.functions ≡ Some g → CallFound all f g) (marks : Marks) where
  call_own : (over : List Name) (known : Known) (locals : Locals) → Written marks known locals
      → (target : Option Name) (f : Name) (es : List Expr) (o : Option Function) → called f program.functions ≡ o → is_call known target o es ≡ true →
      OwnArgs marks locals (function_named f all).params (lower_exprs over es)
  call_own over known locals w target f es None e typed = absurd cc
  call_own over known locals w target f es (Some g) e typed =
      let one = (and_parts _ (not (same_name g.name main_name)) typed).0 in
      let two = and_parts (is_target known g target) (are_arguments known g.params es) one in
      subst (λ ps. OwnArgs marks locals ps (lower_exprs over es)) (sym (calls f g e).params) (args_own marks known locals w over g.params es two.1)

  mutual
    stmt_own : (returns : Returns) (over : List Name) (known : Known) (locals : Locals) → Written marks known locals → (line k : ℕ) (s : Stmt)
        → faults_in program returns known line s ≡ [] → OwnStmt all marks locals (lower_stmt over k s)
    stmt_own returns over known locals w line k (Declare x e) typed = tt
    stmt_own returns over known locals w line k (DeclareArray a e) typed = w.short
    stmt_own returns over known locals w line k (Assign x e) typed = tt
    stmt_own returns over known locals w line k (AssignElement a i e) typed =
        w.own a (and_parts (is_writable known a) (is_fine known i) (and_parts _ (is_fine known e) (kept _ line typed)).0).0
    stmt_own returns over known locals w line k (Reduce how s e) typed = tt
    stmt_own returns over known locals w line k (Call kind site target f es) typed = call_own over known locals w target f es (called f program.functions) refl (kept _ line typed)
    stmt_own returns over known locals w line k (Start kind f es) typed = absurd cc
    stmt_own returns over known locals w line k (Begin f from to captured over') typed = absurd cc
    stmt_own returns over known locals w line k Sync typed = tt
    stmt_own returns over known locals w line k (If e b) typed = block_own returns over known locals w k b (right_none (unless (is_fine known e) line) (faults_in_block program returns known b) typed)
    stmt_own returns over known locals w line k (IfElse e b c) typed =
        let first = faults_in_block program returns known b in
        let second = faults_in_block program returns known c in
        let branches = right_none (unless (is_fine known e) line) (first ++ second) typed in
        (block_own returns over known locals w k b (left_none first second branches), block_own returns over known locals w (k + loop_count_in b) c (right_none first second branches))
    stmt_own returns over known locals w line k (While e b) typed = block_own returns over known locals w k b
        (right_none (unless (is_fine known e) line) (faults_in_block program returns known b) typed)
    stmt_own returns over known locals w line k (For x y z from to grain over' b) typed =
        over_own marks known locals w over' (and_parts _ (list_all (λ a. is_writable known a) over')
        (kept (is_head_of_loop program known x y z from to grain over') line
        (left_none _ (faults_in_block program Nowhere ((x, name_kind.Integer) ∷ known) b) typed))).1
    stmt_own returns over known locals w line k (Scope b) typed = block_own Nowhere over known locals w k b typed
    stmt_own returns over known locals w line k (Cut a e l r b) typed =
        let known' = (r, name_kind.Array) ∷ (l, name_kind.Array) ∷ known in
        let test = unless (is_cut program known a e l r) line in
        let cut = cut_typed program known a e l r (kept (is_cut program known a e l r) line (left_none test (faults_in_block program Nowhere known' b) typed)) in
        let one = array_written marks known locals l cut.left w in
        let two = array_written marks ((l, name_kind.Array) ∷ known) (with_array l locals) r (ap (λ q. if q then true else is_array known r) cut.two ∙ cut.right) one in
        (w.own a cut.writable, w.short, block_own Nowhere over known' (with_array r (with_array l locals)) two k b (right_none test (faults_in_block program Nowhere known' b) typed))
    stmt_own returns over known locals w line k (Region tag b) typed = block_own Nowhere over known locals w k b typed
    stmt_own returns over known locals w line k (Print e) typed = tt
    stmt_own returns over known locals w line k (Return e) typed = tt

    -- a lowered block of the source satisfies the condition on blocks
    pub block_own : (returns : Returns) (over : List Name) (known : Known) (locals : Locals) → Written marks known locals → (k : ℕ) (b : Block)
        → faults_in_block program returns known b ≡ [] → OwnBlock all marks locals (lower_block over k b)
    block_own returns over known locals w k End typed = tt
    block_own returns over known locals w k (Then line s b) typed =
        let here = faults_in program returns known line s in
        let last = unless (not (surely_returns s) || ends_block b) line in
        let behind = faults_in_block program returns (declares s known) b in
        let typed_here = left_none here (last ++ behind) typed in (
          stmt_own returns over known locals w line k s typed_here,
          subst (λ ls. OwnBlock all marks ls (lower_block over (k + loop_count s) b)) (sym (same_after over k locals s))
              (block_own returns over (declares s known) (locals_after locals s)
              (after_written program returns marks known locals line s typed_here w) (k + loop_count s) b
              (right_none last behind (right_none here (last ++ behind) typed))),
        )
