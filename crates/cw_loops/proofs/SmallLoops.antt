-- The result of lowering has few functions and loops, and the numbers of each loop are small.
use Rattle.std.proofs.Common.{◌≡◌, ℕ, ◌+◌, ◌≤◌, Bool, true, List, [], ◌∷◌, ◌++◌, length, map, flat_map, arith, refl, sym, subst, ◌∙◌, ap, length-append}
use Rattle.std.specs.Prelude.{if◌then◌else◌, nat_le, ◌&&◌}
use Rattle.std.specs.List.{list_all}
use Rattle.std.proofs.lemmas.List.{length-map, length_push}
use Rattle.std.proofs.lemmas.Bool.{and_parts}
use Rattle.cw_facts.specs.Tests.{le_of, TrueOrFalse, yes_is, no_is, told, never}
use Rattle.cw_model.specs.declared.syntax.NameKind.{NameKind}
use Rattle.cw_model.specs.declared.limits.TheConstants.{MOST_FUNCTIONS, MOST_GRAIN, MOST_LOOPS}
use Rattle.cw_model.specs.Lines.{unless}
use Rattle.cw_model.specs.declared.syntax.NameKind.TheVariants as name_kind
use Rattle.cw_model.specs.Syntax.{Name, Expr, Stmt, Declare, DeclareArray, Assign, AssignElement, Reduce, Call, Start, Begin, Sync, If, IfElse, While}
use Rattle.cw_model.specs.Syntax.{For, Scope, Cut, Region, Print, Return, Block, End, Then, Param, Function, Program, is_array_kind}
use Rattle.cw_model.specs.Names.{is_among, differ}
use Rattle.cw_model.specs.Sizes.{limit_faults, loop_faults, function_limits}
use Rattle.cw_model.specs.Typing.{Known, is_array, is_fine, is_head_of_loop, is_cut, is_head, declares, faults_in, faults_in_block}
use Rattle.cw_model.specs.Typing.{faults_of, known_of, Returns, Nowhere, WithInt, Alone, IsWellTyped, is_writable}
use Rattle.cw_model.specs.Ownership.{Around, NoLoop, InLoop, Taken, CutOf, Declared, Closing, Joins, Leaves, for_head, may_read, may_write}
use Rattle.cw_model.specs.Ownership.{taken_after, declared_by, known_after, owner_faults, owner_faults_in, owner_faults_of, KeepsOwnership}
use Rattle.cw_model.specs.lemmas.Kept.{left_none, right_none, kept}
use Rattle.cw_tree.specs.Declares.{declares_in, declares_in_block}
use Rattle.cw_tree.specs.Resolved.{Lists, Locals, Resolved, use_of, with_int, with_array, locals_after, locals_of, head_with}
use Rattle.cw_tree.specs.Resolved.{resolved_stmt, resolved_block, resolved_function, resolved, lists_of, plain}
use Rattle.cw_tree.specs.Resolved as source
use Rattle.cw_tree.specs.Slots.{is_resolved}
use Rattle.cw_tree.specs.lemmas.Few.{heads_small, small_head, functions_few}
use Rattle.cw_tree.specs.lemmas.Slotted.{params_count}
use Rattle.cw_tree.specs.lemmas.Looked.{slots_are_right}
use Rattle.cw_loops.specs.Lowered.{loop_count, loop_count_in}
use Rattle.cw_loops.specs.Moved.{Loop, Moves, slot, moves_of, nothing_moved, arrays_after, loop_with, made_stmt, made_block, made_body}
use Rattle.cw_loops.specs.Slotted as slotted
use Rattle.cw_loops.specs.Lowers.{Bodies, arrays_from, made_bodies, made_of_tree}
use Rattle.cw_loops.specs.Small.{IsSmallLoop, AreSmallLoops}
use Rattle.cw_loops.specs.lemmas.Naming.{Placed, at_front, after_it, placed}
use Rattle.cw_loops.specs.lemmas.Knowing.{not_there}
use Rattle.cw_loops.specs.lemmas.Declaring.{head_kept}
use Rattle.cw_loops.specs.lemmas.Heads.{heads_kept}
use Rattle.cw_loops.specs.lemmas.Numbering.{count_of}
use Rattle.cw_loops.proofs.WholeSlots.{few_loops}
use Rattle.cw_loops.proofs.Shifting.{small_slot}
use Rattle.cw_loops.proofs.Tracking.{no_more}
use Rattle.cw_loops.proofs.FewUses.{few_captured}

-- bounds on the number of known names after a statement

abbrev FewAfter : Locals → Known → Stmt → Type 0
FewAfter l known s = (length (locals_after l s).ints ≤ length l.ints + declares_in s) × (length (declares s known) ≤ length known + declares_in s)

few_after : (l : Locals) (known : Known) (s : Stmt) → FewAfter l known s
few_after l known (Declare x e) = let p = length_push l.ints x in (omega (arith, p), omega arith)
few_after l known (DeclareArray a e) = (omega arith, omega arith)
few_after l known (Assign x e) = (omega arith, omega arith)
few_after l known (AssignElement a i e) = (omega arith, omega arith)
few_after l known (Reduce how s e) = (omega arith, omega arith)
few_after l known (Call kind site target f es) = (omega arith, omega arith)
few_after l known (Start kind f es) = (omega arith, omega arith)
few_after l known (Begin f from to captured over) = (omega arith, omega arith)
few_after l known Sync = (omega arith, omega arith)
few_after l known (If e b) = (omega arith, omega arith)
few_after l known (IfElse e b c) = (omega arith, omega arith)
few_after l known (While e b) = (omega arith, omega arith)
few_after l known (For x y z from to grain over b) = (omega arith, omega arith)
few_after l known (Scope b) = (omega arith, omega arith)
few_after l known (Cut a e left right b) = (omega arith, omega arith)
few_after l known (Region tag b) = (omega arith, omega arith)
few_after l known (Print e) = (omega arith, omega arith)
few_after l known (Return e) = (omega arith, omega arith)

-- the numbers of a loop

abbrev names_known : Known → List Name
names_known known = map (λ k. k.0) known

array_known : (known : Known) (a : Name) → is_array known a ≡ true → is_among a (names_known known) ≡ true
array_known known a h = go (told (is_among a (names_known known)))
  where
    go : TrueOrFalse (is_among a (names_known known)) → is_among a (names_known known) ≡ true
    go (yes_is e) = e
    go (no_is e) = never (is_array known a) h (not_there is_array_kind known a e)

arrays_known : (known : Known) (over : List Name) → list_all (λ a. is_array known a) over ≡ true → (v : Name) → is_among v over ≡ true → is_among v (names_known known) ≡ true
arrays_known known [] h v o = absurd cc
arrays_known known (a ∷ over) h v o =
    let two = and_parts (is_array known a) (list_all (λ w. is_array known w) over) h in
    go two.0 (placed v a over o) (λ p. arrays_known known over two.1 v p)
  where
    go : is_array known a ≡ true → Placed v a over → (is_among v over ≡ true → is_among v (names_known known) ≡ true) → is_among v (names_known known) ≡ true
    go here (at_front same) more = ap (λ w. is_among w (names_known known)) same ∙ array_known known a here
    go here (after_it other p) more = more p

few_over : (known : Known) (over : List Name) → differ over ≡ true → list_all (λ a. is_array known a) over ≡ true → length over ≤ length known
few_over known over apart arrays =
    let few = no_more over (names_known known) apart (arrays_known known over arrays) in
    let same = length-map known (λ (k : Name × NameKind). k.0) in
    omega (arith, few, same)

small_count : (n : ℕ) → n ≤ 256 → slot n ≤ 256
small_count n h = let e = small_slot n (omega (arith, h)) in rw (e) h

small_last : (loops : List Loop) (l : Loop) → AreSmallLoops loops → IsSmallLoop l → AreSmallLoops (loops ++ l ∷ [])
small_last [] l h one = (one, h)
small_last (k ∷ loops) l h one = (h.0, small_last loops l h.1 one)

grain_kept : (program : Program) (known : Known) (x y z : Name) (from to : Expr) (grain : ℕ) (over : List Name) → is_head_of_loop program known x y z from to grain over ≡ true → grain ≤ MOST_GRAIN
grain_kept program known x y z from to grain over h =
    let a = and_parts _ (list_all (λ a. is_writable known a) over) h in
    let b = and_parts _ (nat_le grain MOST_GRAIN) a.0 in
    le_of grain MOST_GRAIN b.1

loop_small : (program : Program) (l : Locals) (known : Known) (line : ℕ) (x y z : Name) (from to : Expr) (grain : ℕ) (over : List Name)
    (body : source.Block) {b : slotted.Block} → length l.ints ≤ 256 → length known ≤ 256 →
    is_head_of_loop program known x y z from to grain over ≡ true → differ over ≡ true → IsSmallLoop (loop_with line (head_with l x from to grain over body) b)
loop_small program l known line x y z from to grain over body few_ints few_known head apart =
    let taken = few_captured (length l.ints) body in
    let arrays = few_over known over apart (head_kept program known x y z from to grain over head).arrays in
    let same = length-map over (use_of l.arrays) in
    record {
      grain = grain_kept program known x y z from to grain over head;
      captured = small_count (length (head_with l x from to grain over body).captured) (omega (arith, taken, few_ints));
      over = small_count (length (head_with l x from to grain over body).over) (omega (arith, arrays, same, few_known));
    }

-- the loops of a body, appended to others

module _ (program : Program) (lists : Lists) (n : ℕ) where
  abbrev fs : List Function
  fs = program.functions

  abbrev SmallStmt : Stmt → Type 0
  SmallStmt s =
      (m : Moves) (arrays line : ℕ) (l : Locals) (known : Known) (returns : Returns) (around : Around) (owners : List Name) (depth : ℕ) (taken : Taken) (loops : List Loop) →
      length l.ints + declares_in s ≤ 256 → length known + declares_in s ≤ 256 → faults_in program returns known line s ≡ [] → owner_faults fs around owners depth taken line s ≡ [] →
      AreSmallLoops loops → AreSmallLoops (made_stmt n m arrays loops line (resolved_stmt lists l s)).loops

  abbrev SmallBlock : Block → Type 0
  SmallBlock b =
      (m : Moves) (arrays : ℕ) (l : Locals) (known : Known) (returns : Returns) (around : Around) (owners : List Name) (depth : ℕ)
      (closing : Closing) (taken : Taken) (declared : Declared) (loops : List Loop) →
      length l.ints + declares_in_block b ≤ 256 → length known + declares_in_block b ≤ 256 → faults_in_block program returns known b ≡ []
      → owner_faults_in fs around owners depth closing taken declared b ≡ [] →
      AreSmallLoops loops → AreSmallLoops (made_block n m arrays loops (resolved_block lists l b)).loops

  for_small : (x y z : Name) (from to : Expr) (grain : ℕ) (over : List Name) (b : Block) → SmallBlock b → SmallStmt (For x y z from to grain over b)
  for_small x y z from to grain over b inner m arrays line l known returns around owners depth taken loops few_ints few_known types owns h =
      small_last (made_block n (moves_of head arrays) arrays loops body).loops _
      (inner (moves_of head arrays) arrays (with_int x l) ((x, name_kind.Integer) ∷ known) Nowhere (InLoop (x ∷ owners) x over) (x ∷ owners) (depth + 1) Joins taken [] loops
      (let p = length_push l.ints x in omega (arith, p, few_ints)) (omega (arith, few_known))
      (right_none (unless (is_head_of_loop program known x y z from to grain over) line) _ types) (right_none (unless owner_rule line) _ owns) h)
      (loop_small program l known line x y z from to grain over body (omega (arith, few_ints)) (omega (arith, few_known))
      (kept _ line (left_none (unless (is_head_of_loop program known x y z from to grain over) line) _ types)) apart)
    where
      body : source.Block
      body = resolved_block lists (with_int x l) b

      head : source.Head
      head = head_with l x from to grain over body

      owner_rule : Bool
      owner_rule = may_read (for_head around) taken from && may_read (for_head around) taken to && may_write around taken over && differ over

      apart : differ over ≡ true
      apart =
          (and_parts _ (differ over)
          (kept owner_rule line (left_none (unless owner_rule line) (owner_faults_in fs (InLoop (x ∷ owners) x over) (x ∷ owners) (depth + 1) Joins taken [] b) owns))).1

  mutual
    stmt_small : (s : Stmt) → SmallStmt s
    stmt_small (Declare x e) m arrays line l known returns around owners depth taken loops few_ints few_known types owns h = h
    stmt_small (DeclareArray a e) m arrays line l known returns around owners depth taken loops few_ints few_known types owns h = h
    stmt_small (Assign x e) m arrays line l known returns around owners depth taken loops few_ints few_known types owns h = h
    stmt_small (AssignElement a i e) m arrays line l known returns around owners depth taken loops few_ints few_known types owns h = h
    stmt_small (Reduce how s e) m arrays line l known returns around owners depth taken loops few_ints few_known types owns h = h
    stmt_small (Call kind site target f es) m arrays line l known returns around owners depth taken loops few_ints few_known types owns h = h
    stmt_small (Start kind f es) m arrays line l known returns around owners depth taken loops few_ints few_known types owns h = h
    stmt_small (Begin f from to captured over) m arrays line l known returns around owners depth taken loops few_ints few_known types owns h = h
    stmt_small Sync m arrays line l known returns around owners depth taken loops few_ints few_known types owns h = h
    stmt_small (If e b) m arrays line l known returns around owners depth taken loops few_ints few_known types owns h =
        block_small b m arrays l known returns around owners depth Leaves taken [] loops few_ints few_known (right_none (unless _ line) _ types) (right_none (unless _ line) _ owns) h
    stmt_small (IfElse e b c) m arrays line l known returns around owners depth taken loops few_ints few_known types owns h =
        let t = right_none (unless (is_fine known e) line) (faults_in_block program returns known b ++ faults_in_block program returns known c) types in
        let o = right_none (unless (may_read around taken e) line) (owner_faults_in fs around owners depth Leaves taken [] b ++ owner_faults_in fs around owners depth Leaves taken [] c) owns in
        block_small c m arrays l known returns around owners depth Leaves taken [] (made_block n m arrays loops (resolved_block lists l b)).loops
        (omega (arith, few_ints)) (omega (arith, few_known)) (right_none _ _ t) (right_none _ _ o)
        (block_small b m arrays l known returns around owners depth Leaves taken [] loops (omega (arith, few_ints)) (omega (arith, few_known)) (left_none _ _ t) (left_none _ _ o) h)
    stmt_small (While e b) m arrays line l known returns around owners depth taken loops few_ints few_known types owns h =
        block_small b m arrays l known returns around owners depth Leaves (taken_after fs depth (While e b) taken) [] loops few_ints few_known
        (right_none (unless _ line) _ types) (right_none (unless _ line) _ owns) h
    stmt_small (For x y z from to grain over b) m arrays line l known returns around owners depth taken loops few_ints few_known types owns h =
        for_small x y z from to grain over b (block_small b) m arrays line l known returns around owners depth taken loops few_ints few_known types owns h
    stmt_small (Scope b) m arrays line l known returns around owners depth taken loops few_ints few_known types owns h =
        block_small b m arrays l known Nowhere around owners (depth + 1) Joins taken [] loops few_ints few_known types owns h
    stmt_small (Cut a e left right b) m arrays line l known returns around owners depth taken loops few_ints few_known types owns h =
        block_small b m _ (with_array right (with_array left l)) ((right, name_kind.Array) ∷ (left, name_kind.Array) ∷ known) Nowhere around
        (right ∷ left ∷ owners) (depth + 1) Joins ((a, CutOf) ∷ taken) [] loops (omega (arith, few_ints)) (omega (arith, few_known))
        (right_none (unless (is_cut program known a e left right) line) _ types) (right_none (unless _ line) _ owns) h
    stmt_small (Region tag b) m arrays line l known returns around owners depth taken loops few_ints few_known types owns h =
        block_small b m arrays l known Nowhere around owners (depth + 1) Joins taken [] loops few_ints few_known types owns h
    stmt_small (Print e) m arrays line l known returns around owners depth taken loops few_ints few_known types owns h = h
    stmt_small (Return e) m arrays line l known returns around owners depth taken loops few_ints few_known types owns h = h

    block_small : (b : Block) → SmallBlock b
    block_small End m arrays l known returns around owners depth closing taken declared loops few_ints few_known types owns h = h
    block_small (Then line s b) m arrays l known returns around owners depth closing taken declared loops few_ints few_known types owns h =
        let after = few_after l known s in
        block_small b m (arrays_after arrays (resolved_stmt lists l s)) (locals_after l s) (declares s known) returns around
        (known_after owners s) depth closing (taken_after fs depth s taken) (declared_by line s declared)
        (made_stmt n m arrays loops line (resolved_stmt lists l s)).loops
        (let p = after.0 in omega (arith, p, few_ints)) (let p = after.1 in omega (arith, p, few_known))
        (right_none (unless _ line) _ (right_none (faults_in program returns known line s) _ types)) (right_none (owner_faults fs around owners depth taken line s) _ owns)
        (stmt_small s m arrays line l known returns around owners depth taken loops (omega (arith, few_ints)) (omega (arith, few_known))
        (left_none (faults_in program returns known line s) _ types) (left_none (owner_faults fs around owners depth taken line s) _ owns) h)

  mutual
    stmt_many : (s : Stmt) (m : Moves) (arrays line : ℕ) (l : Locals) (loops : List Loop) → length (made_stmt n m arrays loops line (resolved_stmt lists l s)).loops ≡ length loops + loop_count s
    stmt_many (Declare x e) m arrays line l loops = omega arith
    stmt_many (DeclareArray a e) m arrays line l loops = omega arith
    stmt_many (Assign x e) m arrays line l loops = omega arith
    stmt_many (AssignElement a i e) m arrays line l loops = omega arith
    stmt_many (Reduce how s e) m arrays line l loops = omega arith
    stmt_many (Call kind site target f es) m arrays line l loops = omega arith
    stmt_many (Start kind f es) m arrays line l loops = omega arith
    stmt_many (Begin f from to captured over) m arrays line l loops = omega arith
    stmt_many Sync m arrays line l loops = omega arith
    stmt_many (If e b) m arrays line l loops = block_many b m arrays l loops
    stmt_many (IfElse e b c) m arrays line l loops =
        let p = block_many b m arrays l loops in
        let q = block_many c m arrays l (made_block n m arrays loops (resolved_block lists l b)).loops in
        omega (arith, p, q)
    stmt_many (While e b) m arrays line l loops = block_many b m arrays l loops
    stmt_many (For x y z from to grain over b) m arrays line l loops =
        let body = resolved_block lists (with_int x l) b in
        let head = head_with l x from to grain over body in
        let inner = made_block n (moves_of head arrays) arrays loops body in
        let p = block_many b (moves_of head arrays) arrays (with_int x l) loops in
        let q = length-append inner.loops (loop_with line head inner.block ∷ []) in
        omega (arith, p, q)
    stmt_many (Scope b) m arrays line l loops = block_many b m arrays l loops
    stmt_many (Cut a e left right b) m arrays line l loops = block_many b m _ (with_array right (with_array left l)) loops
    stmt_many (Region tag b) m arrays line l loops = block_many b m arrays l loops
    stmt_many (Print e) m arrays line l loops = omega arith
    stmt_many (Return e) m arrays line l loops = omega arith

    block_many : (b : Block) (m : Moves) (arrays : ℕ) (l : Locals) (loops : List Loop) → length (made_block n m arrays loops (resolved_block lists l b)).loops ≡ length loops + loop_count_in b
    block_many End m arrays l loops = omega arith
    block_many (Then line s b) m arrays l loops =
        let p = stmt_many s m arrays line l loops in
        let q = block_many b m (arrays_after arrays (resolved_stmt lists l s)) (locals_after l s) (made_stmt n m arrays loops line (resolved_stmt lists l s)).loops in
        omega (arith, p, q)

  -- all functions

  abbrev made_with : List Loop → List Function → Bodies
  made_with loops gs = made_bodies n loops (map (resolved_function lists) gs)

  abbrev after_one : List Loop → Function → List Loop
  after_one loops g = (made_body n (arrays_from 0 g.params) loops (resolved_block lists (locals_of g.params) g.body)).loops

  bodies_many : (gs : List Function) (loops : List Loop) → (length (made_with loops gs).blocks ≡ length gs) × (length (made_with loops gs).loops ≡ length loops + count_of gs)
  bodies_many [] loops = (refl, omega arith)
  bodies_many (g ∷ gs) loops =
      let p = block_many g.body nothing_moved (arrays_from 0 g.params) (locals_of g.params) loops in
      let q = bodies_many gs (after_one loops g) in
      let c = q.0 in
      let d = q.1 in
      (omega (arith, c), omega (arith, p, d))

  known_count : (ps : List Param) → length (known_of ps) ≡ length ps
  known_count [] = refl
  known_count (p ∷ ps) =
      let all = length-append (known_of ps) ((p.name, p.kind) ∷ []) in
      let more = known_count ps in
      omega (arith, all, more)

  function_small : (g : Function) → function_limits g ≡ [] → faults_of program g ≡ [] → owner_faults_of fs g ≡ [] → (loops : List Loop) → AreSmallLoops loops → AreSmallLoops (after_one loops g)
  function_small g limits types owns loops h =
      let few = small_head g limits in
      let ints = params_count g.params in
      let known = known_count g.params in
      block_small g.body nothing_moved (arrays_from 0 g.params) (locals_of g.params) (known_of g.params)
      (if g.gives_int then WithInt else Alone) NoLoop (map (λ p. p.name) g.params) 1 Joins [] [] loops
      (omega (arith, few, ints)) (omega (arith, few, known)) (right_none (unless (is_head program g) g.line) _ types) owns h

  bodies_small : (gs : List Function) → flat_map function_limits gs ≡ [] → flat_map (faults_of program) gs ≡ []
      → flat_map (owner_faults_of fs) gs ≡ [] → (loops : List Loop) → AreSmallLoops loops → AreSmallLoops (made_with loops gs).loops
  bodies_small [] limits types owns loops h = h
  bodies_small (g ∷ gs) limits types owns loops h =
      bodies_small gs (right_none (function_limits g) _ limits) (right_none (faults_of program g) _ types) (right_none (owner_faults_of fs g) _ owns) (after_one loops g)
      (function_small g (left_none (function_limits g) _ limits) (left_none (faults_of program g) _ types) (left_none (owner_faults_of fs g) _ owns) loops h)

-- there is a body for each function, and the numbers of functions and of loops and the numbers of each loop keep the
-- limits
pub record AreSmallBodies (tree : Resolved) (made : Bodies) : Type 0 where
  pub bodies : length made.blocks ≡ length tree.functions
  pub functions : length tree.functions ≤ MOST_FUNCTIONS
  pub loops : length made.loops ≤ MOST_LOOPS
  pub each : AreSmallLoops made.loops

program_small : (program : Program) → IsWellTyped program → KeepsOwnership program → limit_faults program ≡ [] → loop_faults program ≡ []
    → AreSmallBodies (resolved program) (made_of_tree (resolved program))
program_small program types owns within few =
    let lists = lists_of program in
    let n = slot (length (resolved program).functions) in
    let many = bodies_many program lists n program.functions [] in
    let blocks = many.0 in
    let loops = many.1 in
    let functions = functions_few program within in
    let as_many = length-map program.functions (resolved_function lists) in
    let all = few_loops program few in
    record {
      bodies = omega (arith, blocks, as_many);
      functions = omega (arith, functions, as_many);
      loops = omega (arith, loops, all);
      each = bodies_small program lists n program.functions (heads_small program within) (heads_kept program types) owns [] tt;
    }

-- the bounds hold for the result of lowering a tree whose slots are correct
pub tree_small : (tree : Resolved) (made : Bodies) → is_resolved tree ≡ true → IsWellTyped (plain tree) → KeepsOwnership (plain tree)
    → limit_faults (plain tree) ≡ [] → loop_faults (plain tree) ≡ [] → made ≡ made_of_tree tree → AreSmallBodies tree made
tree_small tree made right types owns within few is =
    subst (AreSmallBodies tree) (sym is)
    (subst (λ r. AreSmallBodies r (made_of_tree r)) (sym (slots_are_right tree right)) (program_small (plain tree) types owns within few))
