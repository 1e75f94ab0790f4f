-- The reducers, tags and call sites that a well-typed program refers to exist in its code.
use Rattle.cw_facts.specs.Tests.{first_true}
use Rattle.cw_model.specs.declared.syntax.NameKind.TheVariants as name_kind
use Rattle.std.proofs.Common.{◌≡◌, ℕ, List, [], ◌∷◌, ◌++◌, Bool, true, false, not, ◌&&◌, ◌||◌, if◌then◌else◌, Option, Some, None, refl, sym, ap, ◌∙◌, subst}
use Rattle.std.specs.Prelude.{map, flat_map}
use Rattle.std.proofs.lemmas.Slice.Eq.{bytes_eq-Decides}
use Rattle.cw_model.specs.Syntax.{Name, Expr, Stmt, Reduce, Call, If, IfElse, While, For, Scope, Cut, Region, Block, End, Then, Function, Program}
use Rattle.cw_model.specs.Names.{same_name, is_among, new_names}
use Rattle.cw_model.specs.Lines.{unless}
use Rattle.cw_model.specs.Typing.{Returns, Nowhere, WithInt, Alone, Known, is_fine, called, is_call, is_cut, is_head_of_loop, is_head, is_reducer}
use Rattle.cw_model.specs.Typing.{surely_returns, declares, ends_block, faults_in, faults_in_block, faults_of, known_of, type_faults}
use Rattle.cw_model.specs.Report.{tags_in, tags_in_block}
use Rattle.cw_model.specs.lemmas.Kept.{kept, left_none, right_none}
use Rattle.cw_tree.specs.Resolved.{Lists, Locals, slot_of, with_int, with_array, locals_after, locals_of, lists_of, function_names}
use Rattle.cw_tree.specs.Resolved.{reducer_names, tags_of, resolved_stmt, resolved_block, resolved_function, resolved}
use Rattle.cw_tree.specs.lemmas.Reducers.{is_named}
use Rattle.cw_loops.specs.lemmas.Heads.{heads_kept}
use Rattle.cw_gen.specs.Emit.{Tables, emitted_sites, emitted_sites_in, emitted_sites_of}
use Rattle.cw_gen.proofs.Fine.{IsListed, HasSite}
use Rattle.cw_gen.proofs.Rules.{Each, each_front, each_rear, listed_there}
use Rattle.cw_gen.proofs.SourceSites.{IsAtItsNumber}
use Rattle.cw_gen.proofs.Tags.{tags_are_told}

abbrev mutual
  -- the reducers, the tags and the sites that a source statement and its loops refer to exist
  pub NamedStmt : Lists → Tables → Stmt → Type 0
  NamedStmt lists tables (Reduce how s e) = IsListed lists.reducers s
  NamedStmt lists tables (Call kind site target f es) = HasSite tables.sites kind site (slot_of f lists.functions)
  NamedStmt lists tables (If e b) = NamedBlock lists tables b
  NamedStmt lists tables (IfElse e b c) = NamedBlock lists tables b × NamedBlock lists tables c
  NamedStmt lists tables (While e b) = NamedBlock lists tables b
  NamedStmt lists tables (For x y z from to grain over b) = NamedBlock lists tables b
  NamedStmt lists tables (Scope b) = NamedBlock lists tables b
  NamedStmt lists tables (Cut a e l r b) = NamedBlock lists tables b
  NamedStmt lists tables (Region tag b) = IsListed lists.tags tag × NamedBlock lists tables b
  NamedStmt lists tables _ = Unit {0}

  -- the reducers, the tags and the sites that a block refers to exist
  pub NamedBlock : Lists → Tables → Block → Type 0
  NamedBlock lists tables End = Unit {0}
  NamedBlock lists tables (Then line s b) = NamedStmt lists tables s × NamedBlock lists tables b

-- the reducers, the tags and the sites that functions refer to exist
abbrev pub AllNamed : Lists → Tables → List Function → Type 0
AllNamed lists tables [] = Unit {0}
AllNamed lists tables (f ∷ fs) = NamedBlock lists tables f.body × AllNamed lists tables fs

-- a called function exists
called_there : (f : Name) (fs : List Function) (g : Function) → called f fs ≡ Some g → is_among f (function_names fs) ≡ true
called_there f [] g e = cc
called_there f (k ∷ fs) g e = test (called_there f fs g) (same_name f k.name) e
  where
    test : (called f fs ≡ Some g → is_among f (function_names fs) ≡ true) → (b : Bool) → (if b then Some k else called f fs) ≡ Some g → (if b then true else is_among f (function_names fs)) ≡ true
    test more true e' = refl
    test more false e' = more e'

callee_there : (fs : List Function) (known : Known) (target : Option Name) (f : Name) (es : List Expr) → (o : Option Function) → called f fs ≡ o
    → is_call known target o es ≡ true → is_among f (function_names fs) ≡ true
callee_there fs known target f es None e h = cc
callee_there fs known target f es (Some g) e h = called_there f fs g e

-- the tags of a list are its new names
tags_listed : (P : Name → Type 0) (xs known : List Name) → ((x : Name) → is_among x (new_names xs known) ≡ true → P x) → ((x : Name) → is_among x known ≡ true → P x) → Each P xs
tags_listed P [] known new old = tt
tags_listed P (x ∷ xs) known new old = test (λ new'. tags_listed P xs known new' old) (λ new' old'. tags_listed P xs (x ∷ known) new' old') (is_among x known) refl
  where
    with_it : Bool → List Name
    with_it b = if b then new_names xs known else x ∷ new_names xs (x ∷ known)

    there : (b : Bool) → is_among x known ≡ b → (y : Name) → is_among y (with_it b) ≡ true → P y
    there b e y h = new y (ap (λ c. is_among y (if c then new_names xs known else x ∷ new_names xs (x ∷ known))) e ∙ h)

    behind : (y : Name) (names : List Name) (b : Bool) → is_among y names ≡ true → (if b then true else is_among y names) ≡ true
    behind y names true h = refl
    behind y names false h = h

    known_or : (y : Name) → (b : Bool) → same_name y x ≡ b → (if b then true else is_among y known) ≡ true → P x → P y
    known_or y true e' h p = subst (λ z. P z) (sym ((bytes_eq-Decides y x).0 e')) p
    known_or y false e' h p = old y h

    test : (((y : Name) → is_among y (new_names xs known) ≡ true → P y) → Each P xs)
        → (((y : Name) → is_among y (new_names xs (x ∷ known)) ≡ true → P y) → ((y : Name) → is_among y (x ∷ known) ≡ true → P y) → Each P xs)
        → (b : Bool) → is_among x known ≡ b → P x × Each P xs
    test same more true e = (old x e, same (λ y h. there true e y h))
    test same more false e =
        let itself : P x = there false e x (ap (λ b. if b then true else is_among x (new_names xs (x ∷ known))) ((bytes_eq-Decides x x).1 refl)) in
        (itself, more (λ y h. there false e y (behind y (new_names xs (x ∷ known)) (same_name y x) h)) (λ y h. known_or y (same_name y x) refl h itself))

module _ (program : Program) (lists : Lists) (tables : Tables) (reducers_are : lists.reducers ≡ reducer_names program.reducers)
    (same_slots : (f : Name) → is_among f (function_names program.functions) ≡ true → slot_of f lists.functions ≡ slot_of f (function_names program.functions)) where
  abbrev Tag : Name → Type 0
  Tag tag = IsListed lists.tags tag

  abbrev plain_lists : Lists
  plain_lists = lists_of program

  mutual
    stmt_named : (returns : Returns) (known : Known) (locals : Locals) (line : ℕ) (s : Stmt) → faults_in program returns known line s ≡ []
        → Each (λ t. Tag t) (tags_in s) → Each (IsAtItsNumber tables.sites) (emitted_sites line (resolved_stmt plain_lists locals s)) → NamedStmt lists tables s
    stmt_named returns known locals line (Reduce how s e) typed tags sites =
        subst (λ names. IsListed names s) (sym reducers_are) (listed_there s (reducer_names program.reducers)
        (is_named how s program.reducers (first_true (is_reducer program how s) (is_fine known e)
        (kept (is_reducer program how s && is_fine known e) line typed))))
    stmt_named returns known locals line (Call kind site target f es) typed tags sites =
        let there = callee_there program.functions known target f es (called f program.functions) refl (kept (is_call known target (called f program.functions) es) line typed) in
        record { site = _; positive = sites.0.positive; there = sites.0.there; numbered = refl; of_kind = refl; calls = sym (same_slots f there) }
    stmt_named returns known locals line (If e b) typed tags sites =
        block_named returns known locals b (right_none (unless (is_fine known e) line) _ typed) tags sites
    stmt_named returns known locals line (IfElse e b c) typed tags sites =
        let faults_b = faults_in_block program returns known b in
        let faults_c = faults_in_block program returns known c in
        let both = right_none (unless (is_fine known e) line) (faults_b ++ faults_c) typed in
        let sites_b = emitted_sites_in (resolved_block plain_lists locals b) in
        let sites_c = emitted_sites_in (resolved_block plain_lists locals c) in (
          block_named returns known locals b (left_none faults_b faults_c both) (each_front (λ t. Tag t) (tags_in_block b) (tags_in_block c) tags)
              (each_front (IsAtItsNumber tables.sites) sites_b sites_c sites),
          block_named returns known locals c (right_none faults_b faults_c both) (each_rear (λ t. Tag t) (tags_in_block b) (tags_in_block c) tags)
              (each_rear (IsAtItsNumber tables.sites) sites_b sites_c sites),
        )
    stmt_named returns known locals line (While e b) typed tags sites =
        block_named returns known locals b (right_none (unless (is_fine known e) line) _ typed) tags sites
    stmt_named returns known locals line (For x y z from to grain over b) typed tags sites =
        block_named Nowhere ((x, name_kind.Integer) ∷ known) (with_int x locals) b (right_none (unless (is_head_of_loop program known x y z from to grain over) line) _ typed) tags sites
    stmt_named returns known locals line (Scope b) typed tags sites = block_named Nowhere known locals b typed tags sites
    stmt_named returns known locals line (Cut a e l r b) typed tags sites =
        block_named Nowhere ((r, name_kind.Array) ∷ (l, name_kind.Array) ∷ known) (with_array r (with_array l locals)) b (right_none (unless (is_cut program known a e l r) line) _ typed) tags sites
    stmt_named returns known locals line (Region tag b) typed tags sites = (tags.0, block_named Nowhere known locals b typed tags.1 sites)
    stmt_named returns known locals line _ typed tags sites = tt

    block_named : (returns : Returns) (known : Known) (locals : Locals) (b : Block) → faults_in_block program returns known b ≡ []
        → Each (λ t. Tag t) (tags_in_block b) → Each (IsAtItsNumber tables.sites) (emitted_sites_in (resolved_block plain_lists locals b))
        → NamedBlock lists tables b
    block_named returns known locals End typed tags sites = tt
    block_named returns known locals (Then line s b) typed tags sites =
        let here = faults_in program returns known line s in
        let last = unless (not (surely_returns s) || ends_block b) line in
        let there = faults_in_block program returns (declares s known) b in
        let sites_here = emitted_sites line (resolved_stmt plain_lists locals s) in
        let sites_there = emitted_sites_in (resolved_block plain_lists (locals_after locals s) b) in (
          stmt_named returns known locals line s (left_none here (last ++ there) typed) (each_front (λ t. Tag t) (tags_in s) (tags_in_block b) tags)
              (each_front (IsAtItsNumber tables.sites) sites_here sites_there sites),
          block_named returns (declares s known) (locals_after locals s) b (right_none last there (right_none here (last ++ there) typed))
              (each_rear (λ t. Tag t) (tags_in s) (tags_in_block b) tags) (each_rear (IsAtItsNumber tables.sites) sites_here sites_there sites),
        )

  functions_named : (fs : List Function) → flat_map (faults_of program) fs ≡ [] → Each (λ t. Tag t) (flat_map (λ f. tags_in_block f.body) fs)
      → Each (IsAtItsNumber tables.sites) (emitted_sites_of (map (resolved_function plain_lists) fs)) → AllNamed lists tables fs
  functions_named [] typed tags sites = tt
  functions_named (f ∷ fs) typed tags sites =
      let sites_here = emitted_sites_in (resolved_block plain_lists (locals_of f.params) f.body) in
      let sites_there = emitted_sites_of (map (resolved_function plain_lists) fs) in
      let tags_there = flat_map (λ g. tags_in_block g.body) fs in (
        block_named (if f.gives_int then WithInt else Alone) (known_of f.params) (locals_of f.params) f.body
            (right_none (unless (is_head program f) f.line) _ (left_none (faults_of program f) _ typed))
            (each_front (λ t. Tag t) (tags_in_block f.body) tags_there tags) (each_front (IsAtItsNumber tables.sites) sites_here sites_there sites),
        functions_named fs (right_none (faults_of program f) _ typed) (each_rear (λ t. Tag t) (tags_in_block f.body) tags_there tags)
            (each_rear (IsAtItsNumber tables.sites) sites_here sites_there sites),
      )

-- each tag of a program is one of its listed tags
tags_of_program : (program : Program) → Each (λ tag. IsListed (tags_of program) tag) (flat_map (λ f. tags_in_block f.body) program.functions)
tags_of_program program =
    let all = flat_map (λ (f : Function). tags_in_block f.body) program.functions in
    subst (λ names. Each (λ tag. IsListed names tag) all) (sym (tags_are_told program))
    (tags_listed (λ tag. IsListed (new_names all []) tag) all [] (λ x h. listed_there x (new_names all []) h) (λ x h. cc))

-- if the sites of a well-typed program are at their numbers, all items that it refers to exist
pub source_named : (program : Program) (lists : Lists) (tables : Tables) → lists.reducers ≡ reducer_names program.reducers → lists.tags ≡ tags_of program →
    ((f : Name) → is_among f (function_names program.functions) ≡ true → slot_of f lists.functions ≡ slot_of f (function_names program.functions)) →
    type_faults program ≡ [] → Each (IsAtItsNumber tables.sites) (emitted_sites_of (resolved program).functions) → AllNamed lists tables program.functions
source_named program lists tables reducers tags slots typed sites =
    let listed = subst (λ names. Each (λ tag. IsListed names tag) (flat_map (λ (f : Function). tags_in_block f.body) program.functions)) (sym tags) (tags_of_program program) in
    functions_named program lists tables reducers slots program.functions (heads_kept program typed) listed sites
