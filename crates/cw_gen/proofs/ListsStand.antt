-- Each call of a lowered program has its list of array slots at its number.
use Rattle.std.proofs.Common.{◌≡◌, ℕ, zero, suc, ◌+◌, ◌*◌, ◌≤◌, ◌<◌, Bool, true, false, List, [], ◌∷◌, ◌++◌, length, map, refl, sym, ◌∙◌, ap, subst, arith, length-append}
use Rattle.std.specs.Prelude.{if◌then◌else◌, nat_eq, replicate}
use Rattle.std.specs.List.{list_all}
use Rattle.std.proofs.Math.Nat.{min-eq_left}
use Rattle.std.proofs.lemmas.Bool.Decides.{nat_tests}
use Rattle.std.proofs.lemmas.List.{length-map, length-replicate}
use Rattle.cw_facts.specs.Tests.{first_true, second_true}
use Rattle.cw_model.specs.declared.syntax.CallKind.{CallKind}
use Rattle.cw_model.specs.declared.syntax.CallKind.TheVariants.{Plain, Spawned}
use Rattle.cw_model.specs.declared.limits.TheConstants.{MOST_CALL_STATEMENTS}
use Rattle.cw_model.specs.Syntax.{Name, Stmt, Declare, DeclareArray, Assign, AssignElement, Reduce, Call, Start, Begin, Sync, If, IfElse}
use Rattle.cw_model.specs.Syntax.{While, For, Scope, Cut, Region, Print, Return, Block, End, Then, Function, Program}
use Rattle.cw_model.specs.Sites.{CallSite, call_sites, are_numbered}
use Rattle.cw_tree.specs.Resolved.{Lists, Locals, slot_of, with_array, locals_after, locals_of, function_names, resolved}
use Rattle.cw_loops.specs.Lowered.{is_plain, loop_name, loop_count_in, lower_functions, made_of, lowered}
use Rattle.cw_loops.specs.LoweringLaws.{IsOwnedSource}
use Rattle.cw_loops.specs.SourceLike.{is_source_block, is_source_function}
use Rattle.cw_loops.specs.Slotted.{slotted_stmt, slotted_block, slotted_function, slotted_functions, lowered_lists}
use Rattle.cw_loops.specs.lemmas.Apart.{apart_plain}
use Rattle.cw_loops.specs.lemmas.Numbering.{Made, count_of, made_functions, count_stays, numbered_slot}
use Rattle.cw_gen.specs.Emit.{Tables, first_list, most_jump, whole_list, half_list, emitted_sites_of, no_lists}
use Rattle.cw_gen.proofs.Texts.{tables_in, code_of}
use Rattle.cw_gen.proofs.TextAgreement.{PassesStmt, PassesBlock, AllPass}
use Rattle.cw_code.specs.declared.code.Loan.{Loan}
use Rattle.cw_gen.specs.Marks.{Marks}
use Rattle.cw_gen.proofs.Fine.{marks_for}
use Rattle.cw_gen.proofs.ListsPut.{Entry, entries, entries_in, entries_of, loans, loans_in, loans_of, puts_of, lends_of, is_at, one_where, times, AllFound, found_front, found_back, all_found}
use Rattle.cw_gen.proofs.ListsWeighed.{Weights, weight, weight_in, weight_of, sites_weigh, loop_weighs, loops_weigh, lowered_weigh}

-- calls find their lists if all lists that the text stores are found

module _ (lists : Lists) (tables : Tables) where
  abbrev first : ℕ
  first = first_list tables.sites

  mutual
    passes : (marks : Marks) (locals : Locals) (s : Stmt) → AllFound tables.passed (entries first marks (slotted_stmt lists locals s))
        → AllFound tables.lent (loans marks (slotted_stmt lists locals s)) → PassesStmt lists tables marks locals s
    passes marks locals (Call kind site target f es) h k = (h.0, k.0)
    passes marks locals (Start kind f es) h k = h.0
    passes marks locals (Begin f from to captured over) h k = h.0
    passes marks locals (If e b) h k = passes_in marks locals b h k
    passes marks locals (IfElse e b c) h k =
        let one = slotted_block lists locals b in
        let other = slotted_block lists locals c in (
          passes_in marks locals b (found_front tables.passed (entries_in first marks one) (entries_in first marks other) h) (found_front tables.lent (loans_in marks one) (loans_in marks other) k),
          passes_in marks locals c (found_back tables.passed (entries_in first marks one) (entries_in first marks other) h) (found_back tables.lent (loans_in marks one) (loans_in marks other) k),
        )
    passes marks locals (While e b) h k = passes_in marks locals b h k
    passes marks locals (Scope b) h k = passes_in marks locals b h k
    passes marks locals (Cut a e l r b) h k = passes_in marks (with_array r (with_array l locals)) b h k
    passes marks locals (Region tag b) h k = passes_in marks locals b h k
    passes marks locals _ h k = tt

    passes_in : (marks : Marks) (locals : Locals) (b : Block) → AllFound tables.passed (entries_in first marks (slotted_block lists locals b))
        → AllFound tables.lent (loans_in marks (slotted_block lists locals b)) → PassesBlock lists tables marks locals b
    passes_in marks locals End h k = tt
    passes_in marks locals (Then line s b) h k =
        let one = slotted_stmt lists locals s in
        let other = slotted_block lists (locals_after locals s) b in (
          passes marks locals s (found_front tables.passed (entries first marks one) (entries_in first marks other) h) (found_front tables.lent (loans marks one) (loans_in marks other) k),
          passes_in marks (locals_after locals s) b (found_back tables.passed (entries first marks one) (entries_in first marks other) h)
              (found_back tables.lent (loans marks one) (loans_in marks other) k),
        )

  passes_of : (fs : List Function) → AllFound tables.passed (entries_of first (map (slotted_function lists) fs))
      → AllFound tables.lent (loans_of (map (slotted_function lists) fs)) → AllPass lists tables fs
  passes_of [] h k = tt
  passes_of (f ∷ fs) h k =
      let body = slotted_block lists (locals_of f.params) f.body in
      let rest = map (slotted_function lists) fs in (
        passes_in (marks_for f.params) (locals_of f.params) f.body
            (found_front tables.passed (entries_in first (marks_for f.params) body) (entries_of first rest) h)
            (found_front tables.lent (loans_in (marks_for f.params) body) (loans_of rest) k),
        passes_of fs (found_back tables.passed (entries_in first (marks_for f.params) body) (entries_of first rest) h) (found_back tables.lent (loans_in (marks_for f.params) body) (loans_of rest) k),
      )

-- a call has weight 1 if its list is stored at this number
abbrev weights_at : (first : ℕ) → (names : List Name) → (key : ℕ) → Weights
weights_at first names key = record {
  site = λ n. is_at key n;
  whole = λ f. is_at key (whole_list first (slot_of f names));
  half = λ kind f. is_at key (half_list first kind (slot_of f names));
}

-- a call has weight 1 if its loans are stored at this number
abbrev lending_at : (key : ℕ) → Weights
lending_at key = record {
  site = λ n. is_at key n;
  whole = λ f. 0;
  half = λ kind f. 0;
}

both_times : {X : Type 0} (key : ℕ) (xs ys : List (Entry X)) → times key (xs ++ ys) ≡ times key xs + times key ys
both_times key [] ys = omega arith
both_times key (x ∷ xs) ys = omega (arith, both_times key xs ys)

module _ (first : ℕ) (lists : Lists) (key : ℕ) where
  abbrev weights : Weights
  weights = weights_at first lists.functions key

  mutual
    used : (marks : Marks) (locals : Locals) (s : Stmt) → times key (entries first marks (slotted_stmt lists locals s)) ≡ weight weights s
    used marks locals (Call kind site target f es) = omega arith
    used marks locals (Start kind f es) = omega arith
    used marks locals (Begin f from to captured over) = omega arith
    used marks locals (If e b) = used_in marks locals b
    used marks locals (IfElse e b c) =
        let here = entries_in first marks (slotted_block lists locals b) in
        let there = entries_in first marks (slotted_block lists locals c) in
        omega (arith, used_in marks locals b, used_in marks locals c, both_times key here there)
    used marks locals (While e b) = used_in marks locals b
    used marks locals (Scope b) = used_in marks locals b
    used marks locals (Cut a e l r b) = used_in marks (with_array r (with_array l locals)) b
    used marks locals (Region tag b) = used_in marks locals b
    used marks locals (For x y z from to grain over b) = refl
    used marks locals (Declare x e) = refl
    used marks locals (DeclareArray x e) = refl
    used marks locals (Assign x e) = refl
    used marks locals (AssignElement x i e) = refl
    used marks locals (Reduce how x e) = refl
    used marks locals Sync = refl
    used marks locals (Print e) = refl
    used marks locals (Return e) = refl

    used_in : (marks : Marks) (locals : Locals) (b : Block) → times key (entries_in first marks (slotted_block lists locals b)) ≡ weight_in weights b
    used_in marks locals End = refl
    used_in marks locals (Then line s b) =
        let here = entries first marks (slotted_stmt lists locals s) in
        let there = entries_in first marks (slotted_block lists (locals_after locals s) b) in
        omega (arith, used marks locals s, used_in marks (locals_after locals s) b, both_times key here there)

  used_of : (fs : List Function) → times key (entries_of first (map (slotted_function lists) fs)) ≡ weight_of weights fs
  used_of [] = refl
  used_of (f ∷ fs) =
      let here = entries_in first (marks_for f.params) (slotted_block lists (locals_of f.params) f.body) in
      let there = entries_of first (map (slotted_function lists) fs) in
      omega (arith, used_in (marks_for f.params) (locals_of f.params) f.body, used_of fs, both_times key here there)

  abbrev lending : Weights
  lending = lending_at key

  mutual
    lent_by : (marks : Marks) (locals : Locals) (s : Stmt) → times key (loans marks (slotted_stmt lists locals s)) ≡ weight lending s
    lent_by marks locals (Call kind site target f es) = omega arith
    lent_by marks locals (Start kind f es) = refl
    lent_by marks locals (Begin f from to captured over) = refl
    lent_by marks locals (If e b) = lent_by_block marks locals b
    lent_by marks locals (IfElse e b c) =
        let here = loans_in marks (slotted_block lists locals b) in
        let there = loans_in marks (slotted_block lists locals c) in
        omega (arith, lent_by_block marks locals b, lent_by_block marks locals c, both_times key here there)
    lent_by marks locals (While e b) = lent_by_block marks locals b
    lent_by marks locals (Scope b) = lent_by_block marks locals b
    lent_by marks locals (Cut a e l r b) = lent_by_block marks (with_array r (with_array l locals)) b
    lent_by marks locals (Region tag b) = lent_by_block marks locals b
    lent_by marks locals (For x y z from to grain over b) = refl
    lent_by marks locals (Declare x e) = refl
    lent_by marks locals (DeclareArray x e) = refl
    lent_by marks locals (Assign x e) = refl
    lent_by marks locals (AssignElement x i e) = refl
    lent_by marks locals (Reduce how x e) = refl
    lent_by marks locals Sync = refl
    lent_by marks locals (Print e) = refl
    lent_by marks locals (Return e) = refl

    lent_by_block : (marks : Marks) (locals : Locals) (b : Block) → times key (loans_in marks (slotted_block lists locals b)) ≡ weight_in lending b
    lent_by_block marks locals End = refl
    lent_by_block marks locals (Then line s b) =
        let here = loans marks (slotted_stmt lists locals s) in
        let there = loans_in marks (slotted_block lists (locals_after locals s) b) in
        omega (arith, lent_by marks locals s, lent_by_block marks (locals_after locals s) b, both_times key here there)

  lent_by_all : (fs : List Function) → times key (loans_of (map (slotted_function lists) fs)) ≡ weight_of lending fs
  lent_by_all [] = refl
  lent_by_all (f ∷ fs) =
      let here = loans_in (marks_for f.params) (slotted_block lists (locals_of f.params) f.body) in
      let there = loans_of (map (slotted_function lists) fs) in
      omega (arith, lent_by_block (marks_for f.params) (locals_of f.params) f.body, lent_by_all fs, both_times key here there)

-- a number is used at most once, and only if it is in this range
record Within (count key low high : ℕ) : Type 0 where
  once : count ≤ 1
  from : 0 < count → low ≤ key
  below : 0 < count → key < high

both_within : (c d key low middle high : ℕ) → low ≤ middle → middle ≤ high → Within c key low middle → Within d key middle high → Within (c + d) key low high
both_within zero d key low middle high up more h g = record {
  once = omega (arith, g.once);
  from = λ u. let q = g.from (omega (arith, u)) in omega (arith, q, up);
  below = λ u. g.below (omega (arith, u));
}
both_within (suc c) zero key low middle high up more h g = record {
  once = omega (arith, h.once);
  from = λ u. h.from (omega arith);
  below = λ u. let q = h.below (omega arith) in omega (arith, q, more);
}
both_within (suc c) (suc d) key low middle high up more h g =
    let p : key < middle = h.below (omega arith) in let q : middle ≤ key = g.from (omega arith) in absurd (omega (arith, p, q))

one_within : (key n : ℕ) → Within (is_at key n) key n (n + 1)
one_within key n = go (nat_eq key n) refl
  where
    go : (b : Bool) → nat_eq key n ≡ b → Within (one_where b) key n (n + 1)
    go false e = record { once = omega arith; from = λ u. absurd (omega (arith, u)); below = λ u. absurd (omega (arith, u)) }
    go true e = let same : key ≡ n = grind (arith, nat_tests) in record { once = omega arith; from = λ u. omega (arith, same); below = λ u. omega (arith, same) }

-- the sites of the source
sites_within : (first : ℕ) (names : List Name) (key n : ℕ) (sites : List CallSite) → are_numbered n sites ≡ true
    → Within (sites_weigh (weights_at first names key) sites) key (suc n) (suc n + length sites)
sites_within first names key n [] h = record { once = omega arith; from = λ u. absurd (omega (arith, u)); below = λ u. absurd (omega (arith, u)) }
sites_within first names key n (s ∷ sites) h =
    let is : s.number ≡ suc n = number (first_true (nat_eq s.number (suc n)) (are_numbered (suc n) sites) h) in
    let here : Within (is_at key s.number) key (suc n) (suc (suc n)) =
    subst (λ i. Within (is_at key i) key (suc n) (suc (suc n))) (sym is) (subst (Within (is_at key (suc n)) key (suc n)) next (one_within key (suc n))) in
    subst (Within (is_at key s.number + sites_weigh (weights_at first names key) sites) key (suc n)) (later (length sites))
    (both_within (is_at key s.number) (sites_weigh (weights_at first names key) sites) key (suc n) (suc (suc n)) (suc (suc n) + length sites) (omega arith) (omega arith) here
    (sites_within first names key (suc n) sites (second_true (nat_eq s.number (suc n)) (are_numbered (suc n) sites) h)))
  where
    number : nat_eq s.number (suc n) ≡ true → s.number ≡ suc n
    number e = grind (arith, nat_tests)

    next : suc n + 1 ≡ suc (suc n)
    next = omega arith

    later : (i : ℕ) → suc (suc n) + i ≡ suc n + suc i
    later i = omega arith

-- call sites have the same weight for loans and for lists
sites_same : (from : ℕ) (names : List Name) (key : ℕ) (sites : List CallSite) → sites_weigh (lending_at key) sites ≡ sites_weigh (weights_at from names key) sites
sites_same from names key [] = refl
sites_same from names key (s ∷ sites) = ap (λ n. is_at key s.number + n) (sites_same from names key sites)

-- the calls of loops' functions have no loans
loops_lend_none : (key k count : ℕ) → loops_weigh (lending_at key) k count ≡ 0
loops_lend_none key k zero = refl
loops_lend_none key k (suc count) = omega (arith, loops_lend_none key k count)

-- the slots of generated functions follow the slots of the source

past_source : (fs made : List Function) (k j : ℕ) → list_all is_source_function fs ≡ true
    → slot_of (loop_name j) (function_names (lower_functions k fs ++ made)) ≡ length fs + slot_of (loop_name j) (function_names made)
past_source [] made k j h = omega arith
past_source (f ∷ fs) made k j h =
    let here = first_true (is_source_function f) (list_all is_source_function fs) h in
    let more = past_source fs made (k + loop_count_in f.body) j (second_true (is_source_function f) (list_all is_source_function fs) h) in
    ap (λ b. if b then 0 else suc (slot_of (loop_name j) (function_names (lower_functions (k + loop_count_in f.body) fs ++ made))))
    (apart_plain f.name (j ∷ []) (first_true (is_plain f.name) (is_source_block f.body) here))
    ∙ omega (arith, more)

-- the lists of the calls of a loop's function have three numbers that no other list has
module _ (first : ℕ) (names : List Name) (key sources : ℕ) where
  -- the first of the three numbers of a loop's function
  abbrev start : (j : ℕ) → ℕ
  start j = first + 3 * (sources + j)

  abbrev whole : (j : ℕ) → ℕ
  whole j = whole_list first (slot_of (loop_name j) names)

  abbrev half : CallKind → (j : ℕ) → ℕ
  half kind j = half_list first kind (slot_of (loop_name j) names)

  whole_is : (j : ℕ) → slot_of (loop_name j) names ≡ sources + j → start (suc j) ≤ most_jump → whole j ≡ start j
  whole_is j at small = ap (whole_list first) at ∙ min-eq_left (omega (arith, small))

  left_is : (j : ℕ) → slot_of (loop_name j) names ≡ sources + j → start (suc j) ≤ most_jump → half Spawned j ≡ start j + 1
  left_is j at small = ap (half_list first Spawned) at ∙ min-eq_left (omega (arith, small))

  right_is : (j : ℕ) → slot_of (loop_name j) names ≡ sources + j → start (suc j) ≤ most_jump → half Plain j ≡ start j + 1 + 1
  right_is j at small = ap (half_list first Plain) at ∙ min-eq_left (omega (arith, small)) ∙ omega arith

  here_within : (n m : ℕ) → n ≡ m → Within (is_at key n) key m (m + 1)
  here_within n m e = subst (λ i. Within (is_at key i) key m (m + 1)) (sym e) (one_within key m)

  loop_within : (j : ℕ) → slot_of (loop_name j) names ≡ sources + j → start (suc j) ≤ most_jump → Within (loop_weighs (weights_at first names key) j) key (start j) (start (suc j))
  loop_within j at small =
      subst (Within (loop_weighs (weights_at first names key) j) key (start j)) behind
      (both_within (is_at key (whole j)) (is_at key (half Spawned j) + is_at key (half Plain j)) key (start j) (start j + 1) (start j + 1 + 1 + 1)
      (omega arith) (omega arith) (here_within (whole j) (start j) (whole_is j at small))
      (both_within (is_at key (half Spawned j)) (is_at key (half Plain j)) key (start j + 1) (start j + 1 + 1) (start j + 1 + 1 + 1) (omega arith) (omega arith)
      (here_within (half Spawned j) (start j + 1) (left_is j at small)) (here_within (half Plain j) (start j + 1 + 1) (right_is j at small))))
    where
      behind : start j + 1 + 1 + 1 ≡ start (suc j)
      behind = omega arith

  loops_within : (count : ℕ) → ((j : ℕ) → j < count → slot_of (loop_name j) names ≡ sources + j) → start count ≤ most_jump
      → Within (loops_weigh (weights_at first names key) 0 count) key (start 0) (start count)
  loops_within zero at small = record { once = omega arith; from = λ u. absurd (omega (arith, u)); below = λ u. absurd (omega (arith, u)) }
  loops_within (suc count) at small =
      let here : Within (loop_weighs (weights_at first names key) (0 + count)) key (start count) (start (suc count)) =
      subst (λ i. Within (loop_weighs (weights_at first names key) i) key (start count) (start (suc count))) same (loop_within count (at count (omega arith)) small) in
      both_within (loops_weigh (weights_at first names key) 0 count) (loop_weighs (weights_at first names key) (0 + count)) key (start 0) (start count) (start (suc count)) (omega arith) (omega arith)
      (loops_within count (λ j less. at j (omega (arith, less))) (omega (arith, small))) here
    where
      same : count ≡ 0 + count
      same = omega arith

-- all calls of a lowered program
module _ (program : Program) (source_like : list_all is_source_function program.functions ≡ true) where
  abbrev loops : ℕ
  loops = count_of program.functions

  abbrev made : List Function
  made = made_of 0 program.functions

  numbered_loops : Made 0 loops made
  numbered_loops = made_functions program.functions 0

  loop_at : (j : ℕ) → j < loops → slot_of (loop_name j) (lowered_lists program).functions ≡ length program.functions + j
  loop_at j less =
      past_source program.functions made 0 j source_like ∙ ap (λ i. length program.functions + slot_of (loop_name i) (function_names made)) none
      ∙ ap (λ i. length program.functions + i) (numbered_slot made 0 j numbered_loops.numbered (let many = numbered_loops.many in omega (arith, many, less)))
    where
      none : j ≡ 0 + j
      none = omega arith

  as_many : length (slotted_functions program) ≡ length program.functions + loops
  as_many =
      length-map (lowered program).functions (slotted_function (lowered_lists program)) ∙ length-append (lower_functions 0 program.functions) made
      ∙ (let many = numbered_loops.many in let kept = count_stays 0 program.functions in omega (arith, many, kept))

  -- each number is used at most once, and it is in range
  all_within : (first key : ℕ) → are_numbered 0 (call_sites program) ≡ true → suc (length (call_sites program)) ≡ first → first + 3 * (length program.functions + loops) ≤ most_jump →
      Within (times key (entries_of first (slotted_functions program))) key 1 (first + 3 * (length program.functions + loops))
  all_within first key numbered is small =
      subst (λ n. Within n key 1 (first + 3 * (length program.functions + loops))) (sym total)
      (both_within sites_part loops_part key 1 (first + 3 * (length program.functions + 0)) (first + 3 * (length program.functions + loops)) (omega (arith, is)) (omega arith)
      (record { once = sites.once; from = λ u. sites.from u; below = λ u. let q = sites.below u in omega (arith, q, is) })
      (loops_within first (lowered_lists program).functions key (length program.functions) loops loop_at small))
    where
      here : Weights
      here = weights_at first (lowered_lists program).functions key

      sites_part : ℕ
      sites_part = sites_weigh here (call_sites program)

      loops_part : ℕ
      loops_part = loops_weigh here 0 loops

      sites : Within sites_part key 1 (1 + length (call_sites program))
      sites = sites_within first (lowered_lists program).functions key 0 (call_sites program) numbered

      total : times key (entries_of first (slotted_functions program)) ≡ sites_part + loops_part
      total = used_of first (lowered_lists program) key (lowered program).functions ∙ lowered_weigh here program.functions source_like

  -- each number has loans at most once, and it is in range
  all_lent : (first key : ℕ) → are_numbered 0 (call_sites program) ≡ true → suc (length (call_sites program)) ≡ first → Within (times key (loans_of (slotted_functions program))) key 1 first
  all_lent first key numbered is =
      let names = (lowered_lists program).functions in
      let sites = sites_within first names key 0 (call_sites program) numbered in
      let end : suc 0 + length (call_sites program) ≡ first = omega (arith, is) in
      let total =
      lent_by_all first (lowered_lists program) key (lowered program).functions
      ∙ lowered_weigh (lending_at key) program.functions source_like
      ∙ only (sites_weigh (lending_at key) (call_sites program)) (loops_weigh (lending_at key) 0 loops) (loops_lend_none key 0 loops)
      ∙ sites_same first names key (call_sites program) in
      subst (λ n. Within n key 1 first) (sym total) (subst (Within (sites_weigh (weights_at first names key) (call_sites program)) key 1) end sites)
    where
      only : (a b : ℕ) → b ≡ 0 → a + b ≡ a
      only a b h' = omega (arith, h')

-- each call of a lowered program has its lists at its number
pub all_pass : (program : Program) → IsOwnedSource program → are_numbered 0 (call_sites program) ≡ true
    → length (call_sites program) ≤ MOST_CALL_STATEMENTS → length (lowered program).functions ≤ 8192 →
    length (emitted_sites_of (resolved program).functions) ≡ length (call_sites program) → AllPass (lowered_lists program) (tables_in (code_of program)) (lowered program).functions
all_pass program owned numbered few_sites few_functions as_many_sites =
    passes_of (lowered_lists program) (tables_in (code_of program)) (lowered program).functions
    (subst (λ passed. AllFound passed all) (sym (puts_of first (slotted_functions program) empty))
    (all_found all empty (λ key. (within key).once) (λ key u. let q = (within key).below u in omega (arith, q, many, room))))
    (subst (λ lent. AllFound lent loaned) (sym (lends_of (slotted_functions program) unlent))
    (all_found loaned unlent (λ key. (within_sites key).once) (λ key u. let q = (within_sites key).below u in let n : length unlent ≡ first = length-replicate first [] in omega (arith, q, n))))
  where
    first : ℕ
    first = first_list (emitted_sites_of (resolved program).functions)

    empty : List (List ℕ)
    empty = no_lists first (length (slotted_functions program))

    unlent : List (List Loan)
    unlent = replicate first []

    all : List (Entry ℕ)
    all = entries_of first (slotted_functions program)

    loaned : List (Entry Loan)
    loaned = loans_of (slotted_functions program)

    many : length (slotted_functions program) ≡ length program.functions + count_of program.functions
    many = as_many program owned.source_like

    room : length empty ≡ first + 3 * length (slotted_functions program)
    room = length-replicate (first + 3 * length (slotted_functions program)) []

    few : length (slotted_functions program) ≤ 8192
    few = let same = length-map (lowered program).functions (slotted_function (lowered_lists program)) in omega (arith, same, few_functions)

    within : (key : ℕ) → Within (times key all) key 1 (first + 3 * (length program.functions + count_of program.functions))
    within key = all_within program owned.source_like first key numbered (ap suc (sym as_many_sites)) (omega (arith, many, few, few_sites, as_many_sites))

    within_sites : (key : ℕ) → Within (times key loaned) key 1 first
    within_sites key = all_lent program owned.source_like first key numbered (ap suc (sym as_many_sites))
