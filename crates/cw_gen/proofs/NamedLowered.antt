-- The reducers, the tags and the sites that a lowered program refers to exist in its code.
use Rattle.std.proofs.Common.{◌≡◌, ℕ, ◌+◌, List, [], ◌∷◌, ◌++◌, true, refl, ap, ◌∙◌}
use Rattle.std.proofs.lemmas.List.{map-append}
use Rattle.cw_model.specs.Syntax.{Name, Stmt, Declare, DeclareArray, Assign, AssignElement, Reduce, Call, Start, Begin, Sync, If, IfElse}
use Rattle.cw_model.specs.Syntax.{While, For, Scope, Cut, Region, Print, Return, Block, End, Then, Function, Program}
use Rattle.cw_model.specs.Names.{is_among}
use Rattle.cw_model.specs.Captured.{captured}
use Rattle.cw_model.specs.Sites.{call_sites, are_numbered}
use Rattle.cw_tree.specs.Resolved.{Lists, slot_of, function_names}
use Rattle.cw_tree.specs.lemmas.NamedSlots.{slot_stays}
use Rattle.cw_loops.specs.Lowered.{loop_name, loop_count, loop_count_in, lower_stmt, lower_block, made_by, made_in, in_cuts, both_halves}
use Rattle.cw_loops.specs.Lowered.{left_arguments, right_arguments, loop_function, lower_functions, made_of, lowered}
use Rattle.cw_loops.specs.LoweringLaws.{IsOwnedSource}
use Rattle.cw_loops.specs.Slotted.{lowered_lists}
use Rattle.cw_loops.specs.lemmas.Numbering.{names_stay}
use Rattle.cw_gen.specs.Emit.{Tables}
use Rattle.cw_gen.proofs.TextAgreement.{ListedStmt, ListedBlock, AllListed}
use Rattle.cw_gen.proofs.NamedSource.{NamedStmt, NamedBlock, AllNamed, source_named}
use Rattle.cw_gen.proofs.SourceSites.{sites_stand}
use Rattle.cw_gen.proofs.Texts.{code_of, tables_in}

module _ (lists : Lists) (tables : Tables) where
  listed_both : (fs gs : List Function) → AllListed lists tables fs → AllListed lists tables gs → AllListed lists tables (fs ++ gs)
  listed_both [] gs h k = k
  listed_both (f ∷ fs) gs h k = (h.0, listed_both fs gs h.1 k)

  mutual
    -- the lowered text of a statement refers to the items of its source
    stmt_listed : (over : List Name) (k : ℕ) (s : Stmt) → NamedStmt lists tables s → ListedStmt lists tables (lower_stmt over k s)
    stmt_listed over k (Declare x e) h = tt
    stmt_listed over k (DeclareArray a e) h = tt
    stmt_listed over k (Assign x e) h = tt
    stmt_listed over k (AssignElement a i e) h = tt
    stmt_listed over k (Reduce how s e) h = h
    stmt_listed over k (Call kind site target f es) h = h
    stmt_listed over k (Start kind f es) h = tt
    stmt_listed over k (Begin f from to ints arrays) h = tt
    stmt_listed over k Sync h = tt
    stmt_listed over k (If e b) h = block_listed over k b h
    stmt_listed over k (IfElse e b c) h = (block_listed over k b h.0, block_listed over (k + loop_count_in b) c h.1)
    stmt_listed over k (While e b) h = block_listed over k b h
    stmt_listed over k (For x y z from to grain arrays b) h = tt
    stmt_listed over k (Scope b) h = block_listed over k b h
    stmt_listed over k (Cut a e l r b) h = block_listed over k b h
    stmt_listed over k (Region tag b) h = (h.0, block_listed over k b h.1)
    stmt_listed over k (Print e) h = tt
    stmt_listed over k (Return e) h = tt

    block_listed : (over : List Name) (k : ℕ) (b : Block) → NamedBlock lists tables b → ListedBlock lists tables (lower_block over k b)
    block_listed over k End h = tt
    block_listed over k (Then line s b) h = (stmt_listed over k s h.0, block_listed over (k + loop_count s) b h.1)

  -- the calls on halves refer to nothing
  cuts_listed : (line : ℕ) (arrays : List Name) (inside : Block) → ListedBlock lists tables inside → ListedBlock lists tables (in_cuts line arrays inside)
  cuts_listed line [] inside h = h
  cuts_listed line (a ∷ arrays) inside h = (cuts_listed line arrays inside h, tt)

  -- the function of a loop refers to the items of its body
  loop_listed : (name : Name) (line : ℕ) (x : Name) (grain : ℕ) (ints over : List Name) (b : Block) → ListedBlock lists tables b
      → ListedBlock lists tables (loop_function name line x grain ints over b).body
  loop_listed name line x grain ints over b h =
      let halves = cuts_listed line over (both_halves line name (left_arguments ints over) (right_arguments ints over)) (tt, (tt, tt)) in
      (((tt, ((h, (tt, tt)), tt)), (tt, halves)), tt)

  mutual
    -- the functions of the loops in a statement refer to existing items
    made_listed : (line k : ℕ) (s : Stmt) → NamedStmt lists tables s → AllListed lists tables (made_by line k s)
    made_listed line k (If e b) h = made_listed_in k b h
    made_listed line k (IfElse e b c) h = listed_both (made_in k b) (made_in (k + loop_count_in b) c) (made_listed_in k b h.0) (made_listed_in (k + loop_count_in b) c h.1)
    made_listed line k (While e b) h = made_listed_in k b h
    made_listed line k (For x y z from to grain over b) h =
        listed_both (made_in k b) (loop_function (loop_name (k + loop_count_in b)) line x grain (captured x b) over (lower_block over k b) ∷ [])
        (made_listed_in k b h) (loop_listed (loop_name (k + loop_count_in b)) line x grain (captured x b) over (lower_block over k b) (block_listed over k b h), tt)
    made_listed line k (Scope b) h = made_listed_in k b h
    made_listed line k (Cut a e l r b) h = made_listed_in k b h
    made_listed line k (Region tag b) h = made_listed_in k b h.1
    made_listed line k _ h = tt

    made_listed_in : (k : ℕ) (b : Block) → NamedBlock lists tables b → AllListed lists tables (made_in k b)
    made_listed_in k End h = tt
    made_listed_in k (Then line s b) h = listed_both (made_by line k s) (made_in (k + loop_count s) b) (made_listed line k s h.0) (made_listed_in (k + loop_count s) b h.1)

  -- the functions of the source refer to existing items
  lowered_listed : (k : ℕ) (fs : List Function) → AllNamed lists tables fs → AllListed lists tables (lower_functions k fs)
  lowered_listed k [] h = tt
  lowered_listed k (f ∷ fs) h = (block_listed [] k f.body h.0, lowered_listed (k + loop_count_in f.body) fs h.1)

  -- the functions of the loops of the source refer to existing items
  loops_listed : (k : ℕ) (fs : List Function) → AllNamed lists tables fs → AllListed lists tables (made_of k fs)
  loops_listed k [] h = tt
  loops_listed k (f ∷ fs) h = listed_both (made_in k f.body) (made_of (k + loop_count_in f.body) fs) (made_listed_in k f.body h.0) (loops_listed (k + loop_count_in f.body) fs h.1)

-- the functions of the source come first
pub first_names : (program : Program) → (lowered_lists program).functions ≡ function_names program.functions ++ function_names (made_of 0 program.functions)
first_names program =
    map-append (λ f. f.name) (lower_functions 0 program.functions) (made_of 0 program.functions)
    ∙ ap (λ names. names ++ function_names (made_of 0 program.functions)) (names_stay 0 program.functions)

-- a source function keeps its index
pub same_index : (program : Program) (f : Name) → is_among f (function_names program.functions) ≡ true → slot_of f (lowered_lists program).functions ≡ slot_of f (function_names program.functions)
same_index program f h =
    ap (slot_of f) (first_names program) ∙ slot_stays f (function_names program.functions) (function_names (made_of 0 program.functions)) h

-- everything that the lowered program refers to exists in its code
pub all_listed : (program : Program) → IsOwnedSource program → are_numbered 0 (call_sites program) ≡ true → AllListed (lowered_lists program) (tables_in (code_of program)) (lowered program).functions
all_listed program owned numbered =
    let lists = lowered_lists program in
    let tables = tables_in (code_of program) in
    let named = source_named program lists tables refl refl (same_index program) owned.typed (sites_stand program numbered) in
    listed_both lists tables (lower_functions 0 program.functions) (made_of 0 program.functions)
    (lowered_listed lists tables 0 program.functions named) (loops_listed lists tables 0 program.functions named)
