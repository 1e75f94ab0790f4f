-- The outer integers that a resolved body reads, in the body of a lowerable loop.
use Rattle.std.proofs.Common.{◌≡◌, ℕ, nat_lt, Bool, true, false, List, [], ◌∷◌, ◌++◌, length, map, arith, refl, sym, ◌∙◌, ap, subst, append_assoc, append-nil, drop}
use Rattle.std.specs.Prelude.{if◌then◌else◌, nat_le, ◌==◌, not, ◌&&◌, ◌||◌, Some, None}
use Rattle.std.proofs.lemmas.Bool.{and_parts}
use Rattle.cw_facts.specs.Tests.{not_below, not_true, TrueOrFalse, yes_is, no_is, told, never}
use Rattle.cw_model.specs.Syntax.{Name, Expr, Number, Variable, Element, Length, Negative, Not, Binary, Stmt, Declare, DeclareArray, Assign, AssignElement, Reduce}
use Rattle.cw_model.specs.Syntax.{Call, Start, Begin, Sync, If, IfElse, While, For, Scope, Cut, Region, Print, Return, Block, End, Then, Param}
use Rattle.cw_model.specs.Names.{same_name, is_among, new_names}
use Rattle.cw_model.specs.Meaning.{function_named}
use Rattle.cw_loops.specs.Lowered.{is_plain}
use Rattle.cw_model.specs.Captured.{captured, read_by, read_by_all, read_in, read_in_block, declared_in, declared_in_block}
use Rattle.cw_model.specs.lemmas.Names.{same_are}
use Rattle.cw_tree.specs.Resolved.{Lists, Locals, Use, slot_of, use_of, resolved_expr, resolved_argument, resolved_stmt, resolved_block, with_int}
use Rattle.cw_tree.specs.Resolved.{with_array, reads, argument_reads, arguments_read, reads_in, reads_in_block, captured_in, resolved_arguments}
use Rattle.cw_tree.specs.Resolved as spec
use Rattle.cw_tree.specs.lemmas.NamedSlots.{slot_stays}
use Rattle.cw_tree.specs.lemmas.Names.{front_among, later_among}
use Rattle.cw_loops.specs.Lowerable.{Surroundings, can_write, can_read, is_local, is_variable, can_evaluate, can_pass, can_pass_all}
use Rattle.cw_loops.specs.Lowerable.{can_target, new_integers, new_arrays, can_loop, inside, can_lower, can_lower_all}
use Rattle.cw_loops.specs.lemmas.Naming.{Side, in_first, in_second, side, among_left, among_right, neither_among, new_are_there, new_are_all}
use Rattle.cw_loops.proofs.Shifting.{slot_past}
use Rattle.cw_loops.proofs.Taken.{Matches, both_match, kept_match, own_match, dropped_match, fewer_match, each_match, matched}
use Rattle.cw_loops.proofs.Entering.{at, Entered, entered, variable_can, two_lists, after_stmt, after_array}

-- each name of one list is in another
abbrev pub AllAmong : (xs ys : List Name) → Type 0
AllAmong xs ys = (v : Name) → is_among v xs ≡ true → is_among v ys ≡ true

first_among : (xs ys zs : List Name) → AllAmong (xs ++ ys) zs → AllAmong xs zs
first_among xs ys zs h v o = h v (among_left v xs ys o)

second_among : (xs ys zs : List Name) → AllAmong (xs ++ ys) zs → AllAmong ys zs
second_among xs ys zs h v o = h v (among_right v xs ys o)

both_among : (xs ys zs : List Name) → AllAmong xs zs → AllAmong ys zs → AllAmong (xs ++ ys) zs
both_among xs ys zs h g v o = go (side v xs ys o)
  where
    go : Side v xs ys → is_among v zs ≡ true
    go (in_first p) = h v p
    go (in_second p) = g v p

module _ (c : Surroundings) (ints0 arrays0 : List Name) (x : Name) (total declared over : List Name) (can : can_loop c ints0 arrays0 x (new_names total (x ∷ declared)) over ≡ true) where
  -- the context of an iteration, and the names known before the loop
  abbrev turn : Surroundings
  turn = inside c ints0 arrays0 x (new_names total (x ∷ declared)) over

  abbrev before : List Name
  before = c.outer ++ ints0

  abbrev In : List Use → List Name → Type 0
  In us vs = Matches before (x ∷ declared) us vs

  head : Entered c ints0 arrays0 x (new_names total (x ∷ declared)) over
  head = entered c ints0 arrays0 x (new_names total (x ∷ declared)) over can

  -- a name that is read is captured or belongs to the body
  unknown_before : (v : Name) → can_read turn v ≡ true → is_among v (new_names total (x ∷ declared)) ≡ false → is_among v before ≡ false
  unknown_before v r not_taken = go (told (is_among v (new_names total (x ∷ declared) ++ x ∷ [])))
    where
      by : Side v (new_names total (x ∷ declared)) (x ∷ []) → is_among v before ≡ false
      by (in_first p) = never (is_among v (new_names total (x ∷ declared))) p not_taken
      by (in_second p) = alone (told (same_name v x))
        where
          alone : TrueOrFalse (same_name v x) → is_among v before ≡ false
          alone (yes_is e) = ap (λ w. is_among w before) (same_are v x e) ∙ head.new
          alone (no_is e) = never (is_among v (x ∷ [])) p (ap (λ b. if b then true else false) e)

      go : TrueOrFalse (is_among v (new_names total (x ∷ declared) ++ x ∷ [])) → is_among v before ≡ false
      go (yes_is e) = by (side v (new_names total (x ∷ declared)) (x ∷ []) e)
      go (no_is e) =
          (neither_among v before (x ∷ []) (not_true (is_among v (before ++ x ∷ [])) (and_parts (not (is_among v (before ++ x ∷ []))) _ (ap (λ b. b || can_write turn v) (sym e) ∙ r)).0)).0

  name_in : (v : Name) (ints : List Name) → can_read turn v ≡ true → is_among v total ≡ true → In (use_of (turn.outer ++ ints) v ∷ []) (v ∷ [])
  name_in v ints r there = go (told (is_among v (new_names total (x ∷ declared))))
    where
      stays : is_among v before ≡ true → slot_of v ((before ++ x ∷ []) ++ ints) ≡ slot_of v before
      stays known = slot_stays v (before ++ x ∷ []) ints (among_left v before (x ∷ []) known) ∙ slot_stays v before (x ∷ []) known

      past : is_among v before ≡ false → nat_lt (slot_of v ((before ++ x ∷ []) ++ ints)) (length before) ≡ false
      past unknown =
          let e = ap (slot_of v) (append_assoc before (x ∷ []) ints) ∙ slot_past v before (x ∷ [] ++ ints) unknown in
          not_below (slot_of v ((before ++ x ∷ []) ++ ints)) (length before) (omega (arith, e))

      go : TrueOrFalse (is_among v (new_names total (x ∷ declared))) → In (use_of (turn.outer ++ ints) v ∷ []) (v ∷ [])
      go (yes_is e) =
          let known = head.taken_known v e in
          subst (λ n. In (record { name = v; slot = n } ∷ []) (v ∷ [])) (sym (stays known)) (kept_match before (x ∷ declared) v known (new_are_there v total (x ∷ declared) e).1)
      go (no_is e) =
          own_match before (x ∷ declared) (use_of (turn.outer ++ ints) v) v (past (unknown_before v r e))
          (by (told (is_among v (x ∷ declared))))
        where
          by : TrueOrFalse (is_among v (x ∷ declared)) → is_among v (x ∷ declared) ≡ true
          by (yes_is o) = o
          by (no_is o) = never (is_among v (new_names total (x ∷ declared))) (new_are_all v total (x ∷ declared) there o) e

  variable_read : can_read turn x ≡ true
  variable_read = ap (λ b. b || can_write turn x) (among_right x (new_names total (x ∷ declared)) (x ∷ []) (front_among x []))

  element_can : (a : Name) (e : Expr) → can_evaluate turn (Element a e) ≡ true → can_evaluate turn e ≡ true
  element_can a e h = go (is_among a over) h
    where
      go : (b : Bool) → (if b then is_variable turn e else (is_local turn a && can_evaluate turn e)) ≡ true → can_evaluate turn e ≡ true
      go true g = variable_can turn e variable_read g
      go false g = (and_parts (is_local turn a) (can_evaluate turn e) g).1

  expr_in : (e : Expr) (ints arrays : List Name) → can_evaluate turn e ≡ true → AllAmong (read_by e) total → In (reads (resolved_expr (at turn ints arrays) e)) (read_by e)
  expr_in (Number n) ints arrays h all = λ found. refl
  expr_in (Variable y) ints arrays h all = name_in y ints h (all y (front_among y []))
  expr_in (Element a e) ints arrays h all = expr_in e ints arrays (element_can a e h) all
  expr_in (Length a) ints arrays h all = λ found. refl
  expr_in (Negative e) ints arrays h all = expr_in e ints arrays h all
  expr_in (Not e) ints arrays h all = expr_in e ints arrays h all
  expr_in (Binary operator d e) ints arrays h all =
      let g = and_parts (can_evaluate turn d) (can_evaluate turn e) h in
      both_match before (x ∷ declared) (reads (resolved_expr (at turn ints arrays) d)) (reads (resolved_expr (at turn ints arrays) e)) (read_by d) (read_by e)
      (expr_in d ints arrays g.0 (first_among (read_by d) (read_by e) total all)) (expr_in e ints arrays g.1 (second_among (read_by d) (read_by e) total all))

  -- a name as an argument is an integer that is read, or an array of the iteration
  alone_in : (y : Name) (ps : List Param) (ints arrays : List Name) → can_pass turn (Variable y) ≡ true → is_among y total ≡ true
      → AllAmong arrays (x ∷ declared) → In (argument_reads (resolved_argument (at turn ints arrays) ps (Variable y))) (y ∷ [])
  alone_in y ps ints arrays h there own = go (is_among y (turn.arrays ++ arrays)) refl
    where
      g : (can_read turn y ≡ true) × (is_local turn y ≡ true)
      g = and_parts (can_read turn y) (is_local turn y) h

      passed : (r : Bool) → In [] (y ∷ []) → In (argument_reads (if r then spec.Shared (use_of (turn.arrays ++ arrays) y) else spec.Array (use_of (turn.arrays ++ arrays) y))) (y ∷ [])
      passed true d = d
      passed false d = d

      go : (b : Bool) → is_among y (turn.arrays ++ arrays) ≡ b → In (argument_reads
          (if b then spec.passed_to ps (use_of (turn.arrays ++ arrays) y) else spec.Int (spec.Variable (use_of (turn.outer ++ ints) y)))) (y ∷ [])
      go true e = passed (spec.is_reader ps) (dropped_match before (x ∷ declared) y (own y (by (side y turn.arrays arrays e))))
        where
          by : Side y turn.arrays arrays → is_among y arrays ≡ true
          by (in_first p) = never (is_among y turn.arrays) p (not_true (is_among y turn.arrays) (and_parts (not (is_among y turn.arrays)) _ g.1).0)
          by (in_second p) = p
      go false e = name_in y ints g.0 there

  argument_in : (e : Expr) (ps : List Param) (ints arrays : List Name) → can_pass turn e ≡ true → AllAmong (read_by e) total
      → AllAmong arrays (x ∷ declared) → In (argument_reads (resolved_argument (at turn ints arrays) ps e)) (read_by e)
  argument_in (Number n) ps ints arrays h all own = λ found. refl
  argument_in (Variable y) ps ints arrays h all own = alone_in y ps ints arrays h (all y (front_among y [])) own
  argument_in (Element a e) ps ints arrays h all own = expr_in (Element a e) ints arrays h all
  argument_in (Length a) ps ints arrays h all own = λ found. refl
  argument_in (Negative e) ps ints arrays h all own = expr_in (Negative e) ints arrays h all
  argument_in (Not e) ps ints arrays h all own = expr_in (Not e) ints arrays h all
  argument_in (Binary operator d e) ps ints arrays h all own = expr_in (Binary operator d e) ints arrays h all

  arguments_in : (es : List Expr) (ps : List Param) (ints arrays : List Name) → can_pass_all turn es ≡ true → AllAmong (read_by_all es) total → AllAmong arrays (x ∷ declared) →
      In (arguments_read (resolved_arguments (at turn ints arrays) ps es)) (read_by_all es)
  arguments_in [] ps ints arrays h all own = λ found. refl
  arguments_in (e ∷ es) ps ints arrays h all own =
      let g = and_parts (can_pass turn e) (can_pass_all turn es) h in
      both_match before (x ∷ declared) (argument_reads (resolved_argument (at turn ints arrays) ps e))
      (arguments_read (resolved_arguments (at turn ints arrays) (drop 1 ps) es)) (read_by e) (read_by_all es)
      (argument_in e ps ints arrays g.0 (first_among (read_by e) (read_by_all es) total all) own)
      (arguments_in es (drop 1 ps) ints arrays g.1 (second_among (read_by e) (read_by_all es) total all) own)

-- the reads of a statement or a block in the body of a loop
abbrev ReadsIn : (Surroundings → List Name → List Name → Bool) → (names own : List Name) → (Lists → Locals → List Use) → Type 0
ReadsIn can_be names own uses =
    (c : Surroundings) (ints0 arrays0 : List Name) (x : Name) (total declared over : List Name) → can_loop c ints0 arrays0 x (new_names total (x ∷ declared)) over ≡ true →
    (lists : Lists) (ints arrays : List Name) → can_be (inside c ints0 arrays0 x (new_names total (x ∷ declared)) over) ints arrays ≡ true
    → AllAmong names total → AllAmong own (x ∷ declared) → AllAmong arrays (x ∷ declared) →
    Matches (c.outer ++ ints0) (x ∷ declared) (uses lists (at (inside c ints0 arrays0 x (new_names total (x ∷ declared)) over) ints arrays)) names

abbrev StmtReads : Stmt → Type 0
StmtReads s = ReadsIn (λ c ints arrays. can_lower c ints arrays s) (read_in s) (declared_in s) (λ lists l. reads_in (resolved_stmt lists l s))

abbrev BlockReads : Block → Type 0
BlockReads b = ReadsIn (λ c ints arrays. can_lower_all c ints arrays b) (read_in_block b) (declared_in_block b) (λ lists l. reads_in_block (resolved_block lists l b))

-- the integers that the body of a loop captures agree by slot and by name
captured_of : (b : Block) → BlockReads b → (c : Surroundings) (ints arrays : List Name) (x : Name) (over : List Name) (lists : Lists) → can_loop c ints arrays x (captured x b) over ≡ true →
    can_lower_all (inside c ints arrays x (captured x b) over) [] [] b ≡ true
    → captured_in (length (c.outer ++ ints)) (resolved_block lists (with_int x (at c ints arrays)) b) ≡ map (use_of (c.outer ++ ints)) (captured x b)
captured_of b more c ints arrays x over lists can inner =
    ap (λ l. captured_in (length (c.outer ++ ints)) (resolved_block lists l b))
    (two_lists ((c.outer ++ ints) ++ x ∷ []) (((c.outer ++ ints) ++ x ∷ []) ++ []) (c.arrays ++ arrays) ((c.arrays ++ arrays) ++ [])
    (sym (append-nil ((c.outer ++ ints) ++ x ∷ []))) (sym (append-nil (c.arrays ++ arrays))))
    ∙ matched (c.outer ++ ints) (x ∷ declared_in_block b) (reads_in_block (resolved_block lists (at (inside c ints arrays x (captured x b) over) [] []) b)) (read_in_block b)
    (more c ints arrays x (read_in_block b) (declared_in_block b) over can lists [] [] inner (λ v o. o) (λ v o. later_among v x (declared_in_block b) o) (λ v o. absurd cc))

for_reads : (y z w : Name) (from to : Expr) (grain : ℕ) (over' : List Name) (b : Block) → BlockReads b → StmtReads (For y z w from to grain over' b)
for_reads y z w from to grain over' b more c ints0 arrays0 x total declared over can lists ints arrays here all own arrays_own =
    both_match (c.outer ++ ints0) (x ∷ declared) (reads (resolved_expr (at turn' ints arrays) from)) _ (read_by from) (read_by to ++ read_in_block b)
    (expr_in c ints0 arrays0 x total declared over can from ints arrays one.0 (first_among (read_by from) (read_by to ++ read_in_block b) total all))
    (both_match (c.outer ++ ints0) (x ∷ declared) (reads (resolved_expr (at turn' ints arrays) to)) _ (read_by to) (read_in_block b)
    (expr_in c ints0 arrays0 x total declared over can to ints arrays two.0 (first_among (read_by to) (read_in_block b) total rest))
    (subst (λ us. Matches (c.outer ++ ints0) (x ∷ declared) us (read_in_block b)) (sym (captured_of b more turn' ints arrays y over' lists four.0 four.1))
    (fewer_match (c.outer ++ ints0) (x ∷ declared) (map (use_of (turn'.outer ++ ints)) (captured y b)) (read_in_block b) (y ∷ declared_in_block b) own
    (each_match (c.outer ++ ints0) (x ∷ declared) (turn'.outer ++ ints) (captured y b)
    (λ v o. name_in c ints0 arrays0 x total declared over can v ints (inner.taken_read v o) (rest' v (new_are_there v (read_in_block b) (y ∷ declared_in_block b) o).0))))))
  where
    turn' : Surroundings
    turn' = inside c ints0 arrays0 x (new_names total (x ∷ declared)) over

    one : (can_evaluate turn' from ≡ true) × ((can_evaluate turn' to && (nat_le 1 grain
        && (can_loop turn' ints arrays y (captured y b) over' && can_lower_all (inside turn' ints arrays y (captured y b) over') [] [] b))) ≡ true)
    one = and_parts (can_evaluate turn' from) _ here

    two : (can_evaluate turn' to ≡ true) × ((nat_le 1 grain && (can_loop turn' ints arrays y (captured y b) over' && can_lower_all (inside turn' ints arrays y (captured y b) over') [] [] b)) ≡ true)
    two = and_parts (can_evaluate turn' to) _ one.1

    four : (can_loop turn' ints arrays y (captured y b) over' ≡ true) × (can_lower_all (inside turn' ints arrays y (captured y b) over') [] [] b ≡ true)
    four = and_parts (can_loop turn' ints arrays y (captured y b) over') _ (and_parts (nat_le 1 grain) _ two.1).1

    inner : Entered turn' ints arrays y (captured y b) over'
    inner = entered turn' ints arrays y (captured y b) over' four.0

    rest : AllAmong (read_by to ++ read_in_block b) total
    rest = second_among (read_by from) (read_by to ++ read_in_block b) total all

    rest' : AllAmong (read_in_block b) total
    rest' = second_among (read_by to) (read_in_block b) total rest

-- the reads of the part before a block
tested_reads : (e : Expr) (b : Block) (c : Surroundings) (ints0 arrays0 : List Name) (x : Name) (total declared over : List Name)
    (can : can_loop c ints0 arrays0 x (new_names total (x ∷ declared)) over ≡ true) (ints arrays : List Name) (us : List Use) →
    can_evaluate (inside c ints0 arrays0 x (new_names total (x ∷ declared)) over) e ≡ true → AllAmong (read_by e ++ read_in_block b) total
    → (AllAmong (read_in_block b) total → Matches (c.outer ++ ints0) (x ∷ declared) us (read_in_block b)) →
    Matches (c.outer ++ ints0) (x ∷ declared) (reads (resolved_expr (at (inside c ints0 arrays0 x (new_names total (x ∷ declared)) over) ints arrays) e) ++ us) (read_by e ++ read_in_block b)
tested_reads e b c ints0 arrays0 x total declared over can ints arrays us h all more =
    both_match (c.outer ++ ints0) (x ∷ declared) (reads (resolved_expr (at (inside c ints0 arrays0 x (new_names total (x ∷ declared)) over) ints arrays) e)) us (read_by e) (read_in_block b)
    (expr_in c ints0 arrays0 x total declared over can e ints arrays h (first_among (read_by e) (read_in_block b) total all))
    (more (second_among (read_by e) (read_in_block b) total all))

cut_reads : (a : Name) (e : Expr) (l r : Name) (b : Block) → BlockReads b → StmtReads (Cut a e l r b)
cut_reads a e l r b more c ints0 arrays0 x total declared over can lists ints arrays here all own arrays_own =
    tested_reads e b c ints0 arrays0 x total declared over can ints arrays (reads_in_block (resolved_block lists (with_array r (with_array l (at turn' ints arrays))) b)) one.0 all
    (λ rest. subst (λ k. Matches (c.outer ++ ints0) (x ∷ declared) (reads_in_block (resolved_block lists k b)) (read_in_block b))
    (sym (ap (with_array r) (after_array turn'.outer turn'.arrays ints arrays l) ∙ after_array turn'.outer turn'.arrays ints (arrays ++ l ∷ []) r))
    (more c ints0 arrays0 x total declared over can lists ints ((arrays ++ l ∷ []) ++ r ∷ []) inner rest
    (λ v o. own v (later_among v l (r ∷ declared_in_block b) (later_among v r (declared_in_block b) o)))
    (both_among (arrays ++ l ∷ []) (r ∷ []) (x ∷ declared) (both_among arrays (l ∷ []) (x ∷ declared) arrays_own (λ v o. own v (among_left v (l ∷ []) (r ∷ declared_in_block b) o)))
    (λ v o. own v (later_among v l (r ∷ declared_in_block b) (among_left v (r ∷ []) (declared_in_block b) o))))))
  where
    turn' : Surroundings
    turn' = inside c ints0 arrays0 x (new_names total (x ∷ declared)) over

    one : (can_evaluate turn' e ≡ true) × ((is_local turn' a && (is_local turn' l
        && (is_local turn' r && (not (is_among l arrays) && (not (is_among r arrays)
        && (not (same_name r l) && can_lower_all turn' ints ((arrays ++ l ∷ []) ++ r ∷ []) b)))))) ≡ true)
    one = and_parts (can_evaluate turn' e) _ here

    inner : can_lower_all turn' ints ((arrays ++ l ∷ []) ++ r ∷ []) b ≡ true
    inner =
        (and_parts (not (same_name r l)) _ (and_parts (not (is_among r arrays)) _
        (and_parts (not (is_among l arrays)) _ (and_parts (is_local turn' r) _
        (and_parts (is_local turn' l) _ (and_parts (is_local turn' a) _ one.1).1).1).1).1).1).1

declared_new : (s : Stmt) → AllAmong (new_arrays s) (declared_in s)
declared_new (DeclareArray a e) v o = o
declared_new (Declare x e) v o = absurd cc
declared_new (Assign x e) v o = absurd cc
declared_new (AssignElement a i e) v o = absurd cc
declared_new (Reduce how s e) v o = absurd cc
declared_new (Call kind site target f es) v o = absurd cc
declared_new (Start kind f es) v o = absurd cc
declared_new (Begin f from to captured' over) v o = absurd cc
declared_new Sync v o = absurd cc
declared_new (If e b) v o = absurd cc
declared_new (IfElse e b d) v o = absurd cc
declared_new (While e b) v o = absurd cc
declared_new (For x y z from to grain over b) v o = absurd cc
declared_new (Scope b) v o = absurd cc
declared_new (Cut a e l r b) v o = absurd cc
declared_new (Region tag b) v o = absurd cc
declared_new (Print e) v o = absurd cc
declared_new (Return e) v o = absurd cc

then_reads : (line : ℕ) (s : Stmt) (b : Block) → StmtReads s → BlockReads b → BlockReads (Then line s b)
then_reads line s b first more c ints0 arrays0 x total declared over can lists ints arrays here all own arrays_own =
    both_match (c.outer ++ ints0) (x ∷ declared) (reads_in (resolved_stmt lists (at turn' ints arrays) s)) _ (read_in s) (read_in_block b)
    (first c ints0 arrays0 x total declared over can lists ints arrays one.0 (first_among (read_in s) (read_in_block b) total all)
    (first_among (declared_in s) (declared_in_block b) (x ∷ declared) own) arrays_own)
    (subst (λ l. Matches (c.outer ++ ints0) (x ∷ declared) (reads_in_block (resolved_block lists l b)) (read_in_block b)) (sym (after_stmt turn'.outer turn'.arrays ints arrays s))
    (more c ints0 arrays0 x total declared over can lists (ints ++ new_integers s) (arrays ++ new_arrays s) one.1
    (second_among (read_in s) (read_in_block b) total all) (second_among (declared_in s) (declared_in_block b) (x ∷ declared) own)
    (both_among arrays (new_arrays s) (x ∷ declared) arrays_own (λ v o. own v (among_left v (declared_in s) (declared_in_block b) (declared_new s v o))))))
  where
    turn' : Surroundings
    turn' = inside c ints0 arrays0 x (new_names total (x ∷ declared)) over

    one : (can_lower turn' ints arrays s ≡ true) × (can_lower_all turn' (ints ++ new_integers s) (arrays ++ new_arrays s) b ≡ true)
    one = and_parts (can_lower turn' ints arrays s) _ here

abbrev Inner : Surroundings → (ints arrays : List Name) → Name → (total declared over : List Name) → Surroundings
Inner c ints arrays x total declared over = inside c ints arrays x (new_names total (x ∷ declared)) over

mutual
  stmt_reads : (s : Stmt) → StmtReads s
  stmt_reads (Declare y e) c ints0 arrays0 x total declared over can lists ints arrays here all own arrays_own = expr_in c ints0 arrays0 x total declared over can e ints arrays here all
  stmt_reads (DeclareArray y e) c ints0 arrays0 x total declared over can lists ints arrays here all own arrays_own = expr_in c ints0 arrays0 x total declared over can e ints arrays here all
  stmt_reads (Assign y e) c ints0 arrays0 x total declared over can lists ints arrays here all own arrays_own =
      expr_in c ints0 arrays0 x total declared over can e ints arrays (and_parts (can_write (Inner c ints0 arrays0 x total declared over) y) _ here).1 all
  stmt_reads (AssignElement a i e) c ints0 arrays0 x total declared over can lists ints arrays here all own arrays_own =
      let t = Inner c ints0 arrays0 x total declared over in
      let g = and_parts (if is_among a over then is_variable t i else (is_local t a && can_evaluate t i)) (can_evaluate t e) here in
      both_match (c.outer ++ ints0) (x ∷ declared) (reads (resolved_expr (at t ints arrays) i)) (reads (resolved_expr (at t ints arrays) e)) (read_by i) (read_by e)
      (expr_in c ints0 arrays0 x total declared over can i ints arrays (element_can c ints0 arrays0 x total declared over can a i g.0) (first_among (read_by i) (read_by e) total all))
      (expr_in c ints0 arrays0 x total declared over can e ints arrays g.1 (second_among (read_by i) (read_by e) total all))
  stmt_reads (Reduce how s e) c ints0 arrays0 x total declared over can lists ints arrays here all own arrays_own = expr_in c ints0 arrays0 x total declared over can e ints arrays here all
  stmt_reads (Call kind site target f es) c ints0 arrays0 x total declared over can lists ints arrays here all own arrays_own =
      let t = Inner c ints0 arrays0 x total declared over in
      let g = and_parts (is_plain f) _ here in
      let g2 = and_parts (length es == length (function_named f t.functions).params) _ g.1 in
      arguments_in c ints0 arrays0 x total declared over can es (spec.params_of lists f) ints arrays (and_parts (can_target t target) (can_pass_all t es) g2.1).1 all arrays_own
  stmt_reads (Start kind f es) c ints0 arrays0 x total declared over can lists ints arrays here all own arrays_own = absurd cc
  stmt_reads (Begin f from to captured' over') c ints0 arrays0 x total declared over can lists ints arrays here all own arrays_own = absurd cc
  stmt_reads Sync c ints0 arrays0 x total declared over can lists ints arrays here all own arrays_own = λ found. refl
  stmt_reads (If e b) c ints0 arrays0 x total declared over can lists ints arrays here all own arrays_own =
      let t = Inner c ints0 arrays0 x total declared over in
      let g = and_parts (can_evaluate t e) (can_lower_all t ints arrays b) here in
      tested_reads e b c ints0 arrays0 x total declared over can ints arrays (reads_in_block (resolved_block lists (at t ints arrays) b)) g.0 all
      (λ rest. block_reads b c ints0 arrays0 x total declared over can lists ints arrays g.1 rest own arrays_own)
  stmt_reads (IfElse e b d) c ints0 arrays0 x total declared over can lists ints arrays here all own arrays_own =
      let t = Inner c ints0 arrays0 x total declared over in
      let g = and_parts (can_evaluate t e) _ here in
      let g2 = and_parts (can_lower_all t ints arrays b) (can_lower_all t ints arrays d) g.1 in
      let rest = second_among (read_by e) (read_in_block b ++ read_in_block d) total all in
      both_match (c.outer ++ ints0) (x ∷ declared) (reads (resolved_expr (at t ints arrays) e))
      (reads_in_block (resolved_block lists (at t ints arrays) b) ++ reads_in_block (resolved_block lists (at t ints arrays) d)) (read_by e)
      (read_in_block b ++ read_in_block d)
      (expr_in c ints0 arrays0 x total declared over can e ints arrays g.0 (first_among (read_by e) (read_in_block b ++ read_in_block d) total all))
      (both_match (c.outer ++ ints0) (x ∷ declared) (reads_in_block (resolved_block lists (at t ints arrays) b))
      (reads_in_block (resolved_block lists (at t ints arrays) d)) (read_in_block b) (read_in_block d)
      (block_reads b c ints0 arrays0 x total declared over can lists ints arrays g2.0 (first_among (read_in_block b) (read_in_block d) total rest)
      (first_among (declared_in_block b) (declared_in_block d) (x ∷ declared) own) arrays_own)
      (block_reads d c ints0 arrays0 x total declared over can lists ints arrays g2.1 (second_among (read_in_block b) (read_in_block d) total rest)
      (second_among (declared_in_block b) (declared_in_block d) (x ∷ declared) own) arrays_own))
  stmt_reads (While e b) c ints0 arrays0 x total declared over can lists ints arrays here all own arrays_own =
      let t = Inner c ints0 arrays0 x total declared over in
      let g = and_parts (can_evaluate t e) (can_lower_all t ints arrays b) here in
      tested_reads e b c ints0 arrays0 x total declared over can ints arrays (reads_in_block (resolved_block lists (at t ints arrays) b)) g.0 all
      (λ rest. block_reads b c ints0 arrays0 x total declared over can lists ints arrays g.1 rest own arrays_own)
  stmt_reads (For y z w from to grain over' b) c ints0 arrays0 x total declared over can lists ints arrays here all own arrays_own =
      for_reads y z w from to grain over' b (block_reads b) c ints0 arrays0 x total declared over can lists ints arrays here all own arrays_own
  stmt_reads (Scope b) c ints0 arrays0 x total declared over can lists ints arrays here all own arrays_own =
      block_reads b c ints0 arrays0 x total declared over can lists ints arrays here all own arrays_own
  stmt_reads (Cut a e l r b) c ints0 arrays0 x total declared over can lists ints arrays here all own arrays_own =
      cut_reads a e l r b (block_reads b) c ints0 arrays0 x total declared over can lists ints arrays here all own arrays_own
  stmt_reads (Region tag b) c ints0 arrays0 x total declared over can lists ints arrays here all own arrays_own =
      block_reads b c ints0 arrays0 x total declared over can lists ints arrays here all own arrays_own
  stmt_reads (Print e) c ints0 arrays0 x total declared over can lists ints arrays here all own arrays_own = expr_in c ints0 arrays0 x total declared over can e ints arrays here all
  stmt_reads (Return None) c ints0 arrays0 x total declared over can lists ints arrays here all own arrays_own = λ found. refl
  stmt_reads (Return (Some e)) c ints0 arrays0 x total declared over can lists ints arrays here all own arrays_own = absurd cc

  block_reads : (b : Block) → BlockReads b
  block_reads End c ints0 arrays0 x total declared over can lists ints arrays here all own arrays_own = λ found. refl
  block_reads (Then line s b) c ints0 arrays0 x total declared over can lists ints arrays here all own arrays_own =
      then_reads line s b (stmt_reads s) (block_reads b) c ints0 arrays0 x total declared over can lists ints arrays here all own arrays_own

-- the integers that the body of a loop captures agree by slot and by name
pub captured_in_order : (b : Block) (c : Surroundings) (ints arrays : List Name) (x : Name) (over : List Name) (lists : Lists) → can_loop c ints arrays x (captured x b) over ≡ true →
    can_lower_all (inside c ints arrays x (captured x b) over) [] [] b ≡ true
    → captured_in (length (c.outer ++ ints)) (resolved_block lists (with_int x (at c ints arrays)) b) ≡ map (use_of (c.outer ++ ints)) (captured x b)
captured_in_order b = captured_of b (block_reads b)
