-- Lowering a whole program by slot returns the lowered program with each name looked up.
use Rattle.std.proofs.Common.{◌≡◌, ℕ, suc, ◌+◌, ◌≤◌, ◌<◌, Bool, true, false, List, [], ◌∷◌, ◌++◌, length, map, flat_map, arith, refl, sym, ◌∙◌, ap, append_assoc, append-nil, length-append}
use Rattle.std.specs.Prelude.{if◌then◌else◌, not, nat_le, ◌&&◌, filter}
use Rattle.std.specs.List.{list_all}
use Rattle.std.proofs.lemmas.Bool.Decides.{nat_tests}
use Rattle.std.proofs.lemmas.List.{map-append, length-map}
use Rattle.std.proofs.lemmas.Bool.{and_parts}
use Rattle.cw_facts.specs.Tests.{TrueOrFalse, yes_is, no_is, told}
use Rattle.cw_model.specs.Meaning.{function_named}
use Rattle.cw_model.specs.declared.limits.TheConstants.{MOST_DECLARED}
use Rattle.cw_model.specs.Lines.{unless}
use Rattle.cw_model.specs.Syntax.{Name, Stmt, Declare, DeclareArray, Assign, AssignElement, Reduce, Call, Start, Begin, Sync, If, IfElse, While, For}
use Rattle.cw_model.specs.Syntax.{Scope, Cut, Region, Print, Return, Block, End, Then, Param, Function, Program, is_array_param}
use Rattle.cw_model.specs.Names.{is_among, differ}
use Rattle.cw_model.specs.Sizes.{loops_in, loops_in_block, limit_faults, loop_faults, function_limits}
use Rattle.cw_model.specs.Typing.{is_head, faults_of, type_faults, WithInt, Alone, known_of, IsWellTyped}
use Rattle.cw_model.specs.Ownership.{KeepsOwnership}
use Rattle.cw_model.specs.lemmas.Kept.{left_none, right_none}
use Rattle.cw_tree.specs.Declares.{declares_in_block}
use Rattle.cw_tree.specs.Resolved.{slot_of, resolved_function, resolved_block, resolved, locals_of, lists_of, function_names, reducer_names, tags_of}
use Rattle.cw_tree.specs.Resolved as source
use Rattle.cw_tree.specs.declared.resolved.Tree.{Tree}
use Rattle.cw_tree.specs.ResolvedView.{program_of, resolved_of}
use Rattle.cw_tree.specs.Slots.{is_resolved}
use Rattle.cw_tree.specs.Bounds.{counts_of, fits_function, fits_block, is_fitting}
use Rattle.cw_tree.specs.Laws.{ResolvedFits}
use Rattle.cw_tree.specs.lemmas.Few.{none_left, heads_small, small_head, functions_few}
use Rattle.cw_tree.specs.lemmas.NamedSlots.{slot_out, slot_stays}
use Rattle.cw_tree.specs.lemmas.Looked.{slots_are_right}
use Rattle.cw_loops.specs.Lowered.{is_plain, loop_name, loop_count, loop_count_in, lower_block, made_in, lower_functions, made_of, lowered}
use Rattle.cw_loops.specs.Lowerable.{nothing_around, integers_of, arrays_of, can_lower_all, can_lower_function, is_lowerable}
use Rattle.cw_loops.specs.SourceLike.{is_source_like}
use Rattle.cw_loops.specs.Slotted.{slotted_block, slotted_function, slotted_functions, lowered_lists}
use Rattle.cw_loops.specs.Slotted as slotted
use Rattle.cw_loops.specs.Moved.{slot, nothing_moved, Loop, MadeAll, made_body}
use Rattle.cw_loops.specs.Lowers.{Bodies, arrays_from, made_bodies, made_of_tree}
use Rattle.cw_loops.specs.Expanded.{loop_texts, with_bodies, expanded, lowered_by_slot}
use Rattle.cw_loops.specs.lemmas.Apart.{apart_plain}
use Rattle.cw_loops.specs.lemmas.Heads.{int_kind, head_of, heads_kept}
use Rattle.cw_loops.specs.lemmas.Numbering.{Made, count_of, made_functions, names_stay, numbered_slot}
use Rattle.cw_loops.specs.lemmas.Finding as finding
use Rattle.cw_loops.proofs.Accepting.{owned_can}
use Rattle.cw_loops.proofs.Shifting.{small_slot, slot_past}
use Rattle.cw_loops.proofs.Entering.{at, two_lists}
use Rattle.cw_loops.proofs.Tracking.{tracks_outside}
use Rattle.cw_loops.proofs.Readers.{reads_none, loop_reads_none}
use Rattle.cw_loops.proofs.BySlot.{Here, Done, as_blocks, block_made}

-- the number of loops

mutual
  count_here : (line : ℕ) (s : Stmt) → length (loops_in line s) ≡ loop_count s
  count_here line (If e b) = count_in b
  count_here line (IfElse e b c) =
      let p = count_in b in
      let q = count_in c in
      let all = length-append (loops_in_block b) (loops_in_block c) in omega (arith, p, q, all)
  count_here line (While e b) = count_in b
  count_here line (For x y z from to grain over b) = let p = count_in b in omega (arith, p)
  count_here line (Scope b) = count_in b
  count_here line (Cut a e l r b) = count_in b
  count_here line (Region tag b) = count_in b
  count_here line (Declare x e) = refl
  count_here line (DeclareArray a e) = refl
  count_here line (Assign x e) = refl
  count_here line (AssignElement a i e) = refl
  count_here line (Reduce how s e) = refl
  count_here line (Call kind site target f es) = refl
  count_here line (Start kind f es) = refl
  count_here line (Begin f from to captured over) = refl
  count_here line Sync = refl
  count_here line (Print e) = refl
  count_here line (Return e) = refl

  count_in : (b : Block) → length (loops_in_block b) ≡ loop_count_in b
  count_in End = refl
  count_in (Then line s b) =
      let p = count_here line s in
      let q = count_in b in
      let all = length-append (loops_in line s) (loops_in_block b) in omega (arith, p, q, all)

count_all : (fs : List Function) → length (flat_map (λ (f : Function). loops_in_block f.body) fs) ≡ count_of fs
count_all [] = refl
count_all (f ∷ fs) =
    let p = count_in f.body in
    let q = count_all fs in
    let all = length-append (loops_in_block f.body) (flat_map (λ (g : Function). loops_in_block g.body) fs) in omega (arith, p, q, all)

pub few_loops : (program : Program) → loop_faults program ≡ [] → count_of program.functions ≤ 4096
few_loops program h =
    let lines = flat_map (λ (f : Function). loops_in_block f.body) program.functions in
    let some : length lines ≤ 4096 = none_left 4096 lines h in
    let same : length lines ≡ count_of program.functions = count_all program.functions in
    omega (arith, some, same)

-- the parameters of a function

ints_same : (ps : List Param) → map (λ (p : Param). p.name) (filter (λ p. not (is_array_param p)) ps) ≡ integers_of ps
ints_same [] = refl
ints_same (p ∷ ps) = go (is_array_param p) (ints_same ps)
  where
    go : (b : Bool) → map (λ (q : Param). q.name) (filter (λ q. not (is_array_param q)) ps) ≡ integers_of ps →
        map (λ (q : Param). q.name) (if not b then p ∷ filter (λ q. not (is_array_param q)) ps else filter (λ q. not (is_array_param q)) ps) ≡ (if b then integers_of ps else p.name ∷ integers_of ps)
    go true e = e
    go false e = ap (λ r. p.name ∷ r) e

arrays_same : (ps : List Param) → map (λ (p : Param). p.name) (filter (λ p. is_array_param p) ps) ≡ arrays_of ps
arrays_same [] = refl
arrays_same (p ∷ ps) = go (is_array_param p) (arrays_same ps)
  where
    go : (b : Bool) → map (λ (q : Param). q.name) (filter (λ q. is_array_param q) ps) ≡ arrays_of ps →
        map (λ (q : Param). q.name) (if b then p ∷ filter (λ q. is_array_param q) ps else filter (λ q. is_array_param q) ps) ≡ (if b then p.name ∷ arrays_of ps else arrays_of ps)
    go true e = ap (λ r. p.name ∷ r) e
    go false e = e

params_same : (fs : List Function) (ps : List Param) → locals_of ps ≡ at (nothing_around fs) (integers_of ps) (arrays_of ps)
params_same fs ps =
    two_lists (map (λ (p : Param). p.name) (filter (λ p. not (is_array_param p)) ps)) (integers_of ps)
    (map (λ (p : Param). p.name) (filter (λ p. is_array_param p) ps)) (arrays_of ps) (ints_same ps) (arrays_same ps)

few_kinds : (ps : List Param) → length (integers_of ps) + length (arrays_of ps) ≡ length ps
few_kinds [] = omega arith
few_kinds (p ∷ ps) = go (is_array_param p) (few_kinds ps)
  where
    go : (b : Bool) → length (integers_of ps) + length (arrays_of ps) ≡ length ps
        → length (if b then integers_of ps else p.name ∷ integers_of ps) + length (if b then p.name ∷ arrays_of ps else arrays_of ps) ≡ suc (length ps)
    go true e = omega (arith, e)
    go false e = omega (arith, e)

arrays_counted : (n : ℕ) (ps : List Param) → n + length (arrays_of ps) ≤ 256 → arrays_from n ps ≡ n + length (arrays_of ps)
arrays_counted n [] few = omega arith
arrays_counted n (p ∷ ps) few = go (is_array_param p) few (λ m. arrays_counted m ps)
  where
    go : (b : Bool) → n + length (if b then p.name ∷ arrays_of ps else arrays_of ps) ≤ 256 → ((m : ℕ) → m + length (arrays_of ps) ≤ 256 → arrays_from m ps ≡ m + length (arrays_of ps)) →
        arrays_from (if b then slot (n + 1) else n) ps ≡ n + length (if b then p.name ∷ arrays_of ps else arrays_of ps)
    go true h more = ap (λ m. arrays_from m ps) (small_slot (n + 1) (omega (arith, h))) ∙ more (n + 1) (omega (arith, h)) ∙ omega arith
    go false h more = more n h

-- the indices of functions

no_loop_named : (all fs : List Function) (k : ℕ) → list_all (can_lower_function all) fs ≡ true → is_among (loop_name k) (function_names fs) ≡ false
no_loop_named all [] k h = refl
no_loop_named all (f ∷ fs) k h =
    let two = and_parts (can_lower_function all f) (list_all (can_lower_function all) fs) h in
    ap (λ b. if b then true else is_among (loop_name k) (function_names fs)) (apart_plain f.name (k ∷ []) (and_parts (is_plain f.name) _ two.0).0) ∙ no_loop_named all fs k two.1

-- an accepted function, with its resolved text
record Accepted (program : Program) (g : Function) : Type 0 where
  can : can_lower_function program.functions g ≡ true
  fit : fits_function (resolved program) (resolved_function (lists_of program) g) ≡ true
  types : faults_of program g ≡ []
  limits : function_limits g ≡ []

module _ (program : Program) (can : is_lowerable program ≡ true) (within : limit_faults program ≡ []) (loops_within : loop_faults program ≡ []) where
  abbrev names : List Name
  names = function_names program.functions

  abbrev names' : List Name
  names' = function_names (lowered program).functions

  abbrev many : ℕ
  many = length program.functions

  abbrev total : ℕ
  total = count_of program.functions

  numbered : Made 0 total (made_of 0 program.functions)
  numbered = made_functions program.functions 0

  names_are : names' ≡ names ++ function_names (made_of 0 program.functions)
  names_are =
      map-append (λ (f : Function). f.name) (lower_functions 0 program.functions) (made_of 0 program.functions)
      ∙ ap (λ r. r ++ function_names (made_of 0 program.functions)) (names_stay 0 program.functions)

  names_count : length names ≡ many
  names_count = length-map program.functions (λ (f : Function). f.name)

  callee : (f : Name) → slot_of f names < many → slot_of f names' ≡ slot_of f names
  callee f less = ap (slot_of f) names_are ∙ go (told (is_among f names))
    where
      go : TrueOrFalse (is_among f names) → slot_of f (names ++ function_names (made_of 0 program.functions)) ≡ slot_of f names
      go (yes_is e) = slot_stays f names (function_names (made_of 0 program.functions)) e
      go (no_is e) = let p = slot_out f names e in let q = names_count in absurd (omega (arith, p, q, less))

  loops_at : (k : ℕ) → k < total → slot_of (loop_name k) names' ≡ many + k
  loops_at k less =
      ap (slot_of (loop_name k)) names_are ∙ slot_past (loop_name k) names (function_names (made_of 0 program.functions)) (no_loop_named program.functions program.functions k can)
      ∙ ap (λ w. w + slot_of (loop_name k) (function_names (made_of 0 program.functions))) names_count
      ∙ ap (λ w. many + slot_of (loop_name w) (function_names (made_of 0 program.functions))) (none k)
      ∙ ap (λ w. many + w) (numbered_slot (made_of 0 program.functions) 0 k numbered.numbered (let q = numbered.many in omega (arith, q, less)))
    where
      none : (i : ℕ) → i ≡ 0 + i
      none i = omega arith

  params_stay : (f : Name) → is_plain f ≡ true → (function_named f (lowered program).functions).params ≡ (function_named f program.functions).params
  params_stay f plain = finding.params_same program.functions can f plain

  loops_read : (k : ℕ) → reads_none (function_named (loop_name k) (lowered program).functions).params ≡ true
  loops_read k = loop_reads_none program.functions can k

  head_here : (g : Function) → Accepted program g → Here many nothing_moved (nothing_around program.functions) (integers_of g.params)
      (arrays_of g.params) (known_of g.params) (counts_of (resolved program) (resolved_function (lists_of program) g))
  head_here g h =
      let few = small_head g h.limits in
      let kinds = few_kinds g.params in
      let fit = and_parts (nat_le (resolved_function (lists_of program) g).ints MOST_DECLARED && nat_le (resolved_function (lists_of program) g).arrays MOST_DECLARED) _ h.fit in
      let two = and_parts (nat_le (resolved_function (lists_of program) g).ints MOST_DECLARED) (nat_le (resolved_function (lists_of program) g).arrays MOST_DECLARED) fit.0 in
      record {
        tracks = tracks_outside program.functions;
        few_ints = omega (arith, few, kinds);
        few_arrays = omega (arith, few, kinds);
        known_ints = λ x o. int_kind g.params (head_of program g h.types).params x ∙ o;
        most_ints = at_most (resolved_function (lists_of program) g).ints two.0;
        most_arrays = at_most (resolved_function (lists_of program) g).arrays two.1;
        functions_are = length-map program.functions (resolved_function (lists_of program));
      }
    where
      at_most : (k : ℕ) → nat_le k MOST_DECLARED ≡ true → k ≤ 256
      at_most k e = grind (arith, nat_tests, e)

  abbrev body_of : List Loop → Function → MadeAll
  body_of loops g = made_body many (arrays_from 0 g.params) loops (resolved_block (lists_of program) (locals_of g.params) g.body)

  function_made : (g : Function) → Accepted program g → (loops : List Loop) (k : ℕ) → length loops ≡ k → k + loop_count_in g.body ≤ total →
      Done many (lowered_lists program) (body_of loops g).block (slotted_block (lowered_lists program) (locals_of g.params)
      (lower_block [] k g.body)) loops (body_of loops g).loops k (loop_count_in g.body) (made_in k g.body)
  function_made g h loops k len room =
      as_blocks program names names' (reducer_names program.reducers) (tags_of program) program.functions (lowered program).functions many total
      (few_loops program loops_within) (functions_few program within) callee loops_at params_stay loops_read nothing_moved [] loops k g.body
      (sym (arrays_counted 0 g.params (omega (arith, few, kinds)) ∙ omega arith)) (sym (params_same program.functions g.params)) (sym (params_same program.functions g.params))
      (block_made program names names' (reducer_names program.reducers) (tags_of program) program.functions (lowered program).functions many total
      (few_loops program loops_within) (functions_few program within) callee loops_at params_stay loops_read g.body nothing_moved
      (nothing_around program.functions)
      (integers_of g.params) (arrays_of g.params) (known_of g.params) (counts_of (resolved program) (resolved_function (lists_of program) g))
      (if g.gives_int then WithInt else Alone) loops k (head_here g h) body_can
      (ap (λ l. fits_block (counts_of (resolved program) (resolved_function (lists_of program) g)) (resolved_block (lists_of program) l g.body))
      (sym (params_same program.functions g.params)) ∙ body_fits)
      (right_none (unless (is_head program g) g.line) _ h.types) len room)
    where
      few : length g.params + declares_in_block g.body ≤ 256
      few = small_head g h.limits

      kinds : length (integers_of g.params) + length (arrays_of g.params) ≡ length g.params
      kinds = few_kinds g.params

      body_can : can_lower_all (nothing_around program.functions) (integers_of g.params) (arrays_of g.params) g.body ≡ true
      body_can =
          (and_parts (differ (arrays_of g.params)) (can_lower_all (nothing_around program.functions) (integers_of g.params) (arrays_of g.params) g.body) (and_parts (is_plain g.name) _ h.can).1).1

      body_fits : fits_block (counts_of (resolved program) (resolved_function (lists_of program) g)) (resolved_function (lists_of program) g).body ≡ true
      body_fits = (and_parts (nat_le (resolved_function (lists_of program) g).ints MOST_DECLARED && nat_le (resolved_function (lists_of program) g).arrays MOST_DECLARED) _ h.fit).1

  whole : Function → slotted.Block → slotted.Function
  whole g b = record { gives_int = g.gives_int; params = map (λ (p : Param). p.kind) g.params; body = b }

  abbrev all_of_them : (loops : List Loop) → List Function → Bodies
  all_of_them loops gs = made_bodies many loops (map (resolved_function (lists_of program)) gs)

  bodies_are : (gs : List Function) → list_all (can_lower_function program.functions) gs ≡ true
      → list_all (fits_function (resolved program)) (map (resolved_function (lists_of program)) gs) ≡ true → flat_map (faults_of program) gs ≡ []
      → flat_map function_limits gs ≡ [] →
      (loops : List Loop) (k : ℕ) → length loops ≡ k → k + count_of gs ≤ total →
      (with_bodies (map (resolved_function (lists_of program)) gs) (all_of_them loops gs).blocks ≡ map (slotted_function (lowered_lists program)) (lower_functions k gs))
      × (loop_texts many (all_of_them loops gs).loops ≡ loop_texts many loops ++ map (slotted_function (lowered_lists program)) (made_of k gs))
  unfolding whole
  bodies_are [] can' fit types limits loops k len room = (refl, sym (append-nil (loop_texts many loops)))
  bodies_are (g ∷ gs) can' fit types limits loops k len room =
      let c = and_parts (can_lower_function program.functions g) (list_all (can_lower_function program.functions) gs) can' in
      let f = and_parts (fits_function (resolved program) (resolved_function (lists_of program) g)) (list_all (fits_function (resolved program)) (map (resolved_function (lists_of program)) gs)) fit in
      let here : Accepted program g = record { can = c.0; fit = f.0; types = left_none (faults_of program g) _ types; limits = left_none (function_limits g) _ limits } in
      let d = function_made g here loops k len (omega (arith, room)) in
      let rest = bodies_are gs c.1 f.1 (right_none (faults_of program g) _ types) (right_none (function_limits g) _ limits) (body_of loops g).loops
      (k + loop_count_in g.body) d.many (omega (arith, room)) in (
        ap (λ b. whole g b ∷ with_bodies (map (resolved_function (lists_of program)) gs) (all_of_them (body_of loops g).loops gs).blocks) d.same
            ∙ ap (λ r. whole g (slotted_block (lowered_lists program) (locals_of g.params) (lower_block [] k g.body)) ∷ r) rest.0,
        rest.1 ∙ ap (λ r. r ++ map (slotted_function (lowered_lists program)) (made_of (k + loop_count_in g.body) gs)) d.texts
            ∙ append_assoc (loop_texts many loops) (map (slotted_function (lowered_lists program)) (made_in k g.body))
            (map (slotted_function (lowered_lists program)) (made_of (k + loop_count_in g.body) gs))
            ∙ ap (λ r. loop_texts many loops ++ r) (sym (map-append (slotted_function (lowered_lists program)) (made_in k g.body) (made_of (k + loop_count_in g.body) gs))),
      )

  abbrev functions' : List source.Function
  functions' = map (resolved_function (lists_of program)) program.functions

  by_slot : is_fitting (resolved program) ≡ true → type_faults program ≡ [] → lowered_by_slot (resolved program) ≡ slotted_functions program
  by_slot fitting types =
      ap (λ i. with_bodies functions' (made_bodies (slot i) [] functions').blocks ++ loop_texts i (made_bodies (slot i) [] functions').loops)
      (length-map program.functions (resolved_function (lists_of program)))
      ∙ ap (λ i. with_bodies functions' (made_bodies i [] functions').blocks ++ loop_texts many (made_bodies i [] functions').loops)
      (small_slot many (let p = functions_few program within in omega (arith, p)))
      ∙ ap (λ r. r ++ loop_texts many (made_bodies many [] functions').loops) both.0
      ∙ ap (λ r. map (slotted_function (lowered_lists program)) (lower_functions 0 program.functions) ++ r) both.1
      ∙ sym (map-append (slotted_function (lowered_lists program)) (lower_functions 0 program.functions) (made_of 0 program.functions))
    where
      both : (with_bodies functions' (all_of_them [] program.functions).blocks ≡ map (slotted_function (lowered_lists program)) (lower_functions 0 program.functions))
          × (loop_texts many (all_of_them [] program.functions).loops ≡ loop_texts many [] ++ map (slotted_function (lowered_lists program)) (made_of 0 program.functions))
      both =
          bodies_are program.functions can (and_parts (list_all (fits_function (resolved program)) (resolved program).functions) _ fitting).0 (heads_kept program types) (heads_small program within)
          [] 0 refl (omega arith)

pub lowers_by_slot : ResolvedFits → (program : Program) → IsWellTyped program → KeepsOwnership program → is_source_like program ≡ true
    → limit_faults program ≡ [] → loop_faults program ≡ [] → lowered_by_slot (resolved program) ≡ slotted_functions program
lowers_by_slot fits program typed owned source_like within loops =
    by_slot program (owned_can program typed owned source_like) within loops (fits program within typed) typed

-- the contract of lowering holds for a tree whose slots are correct
pub tree_is_lowered : ResolvedFits → (tree : Tree) (made : Bodies) → is_resolved (resolved_of tree) ≡ true → type_faults (program_of tree) ≡ []
    → KeepsOwnership (program_of tree) → limit_faults (program_of tree) ≡ [] → loop_faults (program_of tree) ≡ [] →
    made ≡ made_of_tree (resolved_of tree) → is_source_like (program_of tree) ≡ true → expanded (resolved_of tree) made ≡ slotted_functions (program_of tree)
tree_is_lowered fits tree made right typed owned within loops is source_like =
    ap (expanded (resolved_of tree)) is ∙ ap lowered_by_slot (slots_are_right (resolved_of tree) right) ∙ lowers_by_slot fits (program_of tree) typed owned source_like within loops
