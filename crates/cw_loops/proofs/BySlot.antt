-- Lowering by slot turns each statement into the result of lowering by name with each name looked up.
use Rattle.std.proofs.Common.{◌≡◌, ℕ, suc, ◌+◌, ◌≤◌, ◌<◌, nat_lt, Bool, true, false, List, [], ◌∷◌, ◌++◌, length, map, arith, refl, sym, ◌∙◌, ap, subst, append_assoc, append-nil, length-append, drop}
use Rattle.std.specs.Prelude.{if◌then◌else◌, not, nat_le, ◌==◌, ◌&&◌, ◌||◌, Option, Some, None, option_map}
use Rattle.std.specs.List.{list_all}
use Rattle.std.proofs.lemmas.Bool.Decides.{nat_tests}
use Rattle.std.proofs.lemmas.List.{map-append, length-map}
use Rattle.std.proofs.lemmas.Bool.{and_parts}
use Rattle.cw_facts.specs.Tests.{TrueOrFalse, yes_is, no_is, told, never, refuted, either_right}
use Rattle.cw_model.specs.declared.syntax.CallKind.{CallKind}
use Rattle.cw_model.specs.declared.syntax.Operator.TheVariants.{Minus}
use Rattle.cw_model.specs.declared.syntax.NameKind.TheVariants as name_kind
use Rattle.cw_model.specs.Syntax.{Name, Expr, Number, Variable, Element, Length, Negative, Not, Binary, Stmt, Declare, DeclareArray, Assign, AssignElement, Reduce, Call}
use Rattle.cw_model.specs.Syntax.{Start, Begin, Sync, If, IfElse, While, For, Scope, Cut, Region, Print, Return, Block, End, Then, Program, Param}
use Rattle.cw_model.specs.Syntax as model
use Rattle.cw_model.specs.Lines.{unless}
use Rattle.cw_model.specs.Names.{same_name, is_among}
use Rattle.cw_model.specs.Meaning.{function_named}
use Rattle.cw_model.specs.Captured.{captured}
use Rattle.cw_model.specs.Typing.{Known, is_int, is_array, is_fine, is_new, is_head_of_loop, faults_in, faults_in_block, declares, ends_block, surely_returns, Returns, Nowhere}
use Rattle.cw_model.specs.lemmas.Kept.{left_none, right_none, kept}
use Rattle.cw_model.specs.lemmas.Names.{same_are, turned}
use Rattle.cw_tree.specs.Resolved.{Lists, Locals, slot_of, use_of, resolved_expr, resolved_argument, resolved_stmt, resolved_block, with_int, with_array, locals_after, head_with, resolved_arguments}
use Rattle.cw_tree.specs.Resolved as source
use Rattle.cw_tree.specs.Bounds.{Counts, fits_expr, fits_head, fits_parts, fits_stmt, fits_block}
use Rattle.cw_tree.specs.lemmas.Names.{among_append, front_among, later_among}
use Rattle.cw_loops.specs.Lowered.{is_plain, low, high, loop_name, lower_index, lower_expr, lower_exprs, lower_option, loop_count}
use Rattle.cw_loops.specs.Lowered.{loop_count_in, lower_stmt, lower_block, made_by, made_in, loop_function}
use Rattle.cw_loops.specs.Lowerable.{Surroundings, can_write, can_read, is_local, is_variable, can_evaluate, can_pass, can_pass_all}
use Rattle.cw_loops.specs.Lowerable.{can_target, new_integers, new_arrays, can_loop, inside, can_lower, can_lower_all}
use Rattle.cw_loops.specs.Slotted.{slotted_expr, slotted_argument, slotted_stmt, slotted_block, slotted_function, slotted_arguments}
use Rattle.cw_loops.specs.Slotted as slotted
use Rattle.cw_loops.specs.Moved.{slot, Moves, slots_of, moves_of, moved_int, moved_array, is_over, from_low, moved_expr, moved_argument, moved_target, moved_return}
use Rattle.cw_loops.specs.Moved.{moved_ints, moved_arrays, arrays_after, Loop, moved_head, loop_with, loop_index, Made, MadeAll, made_stmt, made_block}
use Rattle.cw_loops.specs.Expanded.{loop_text, loop_texts}
use Rattle.cw_loops.specs.lemmas.Naming.{each_of, Side, in_first, in_second, side, among_right}
use Rattle.cw_loops.specs.lemmas.Knowing.{new_unknown, not_both}
use Rattle.cw_loops.specs.lemmas.Declaring.{HeadKept, head_kept, CutKept, cut_kept, same_after}
use Rattle.cw_loops.proofs.Shifting.{small_slot}
use Rattle.cw_loops.proofs.Entering.{joined, at, lowered_at, two_lists, Entered, entered, variable_can, after_stmt, after_array}
use Rattle.cw_loops.proofs.OuterReads.{captured_in_order}
use Rattle.cw_loops.proofs.Tracking.{no_more, slots_are, Tracks, outside_not_arrays, outside_not_over, tracks_inside}
use Rattle.cw_loops.proofs.Readers.{reads_none}
use Rattle.cw_loops.proofs.LoopTexts.{loop_text_is}

module _ (m : Moves) (c : Surroundings) (t : Tracks m c) (ints arrays : List Name) (few_ints : length (c.outer ++ ints) ≤ 256) (few_arrays : length (c.arrays ++ arrays) ≤ 256) where
  abbrev at_source : Locals
  at_source = at c ints arrays

  abbrev at_target : Locals
  at_target = lowered_at c ints arrays

  -- an index, which counts from the lower end for an array of the loop
  spot_can : (a : Name) (i : Expr) → (if is_among a c.over then is_variable c i else (is_local c a && can_evaluate c i)) ≡ true → can_evaluate c i ≡ true
  spot_can a i h = go (is_among a c.over) refl h
    where
      go : (b : Bool) → is_among a c.over ≡ b → (if b then is_variable c i else (is_local c a && can_evaluate c i)) ≡ true → can_evaluate c i ≡ true
      go true e g = variable_can c i (t.variable_read a e) g
      go false e g = (and_parts (is_local c a) (can_evaluate c i) g).1

  spot_array : (a : Name) (i : Expr) → (if is_among a c.over then is_variable c i else (is_local c a && can_evaluate c i)) ≡ true
      → moved_array m (slot_of a (c.arrays ++ arrays)) ≡ slot_of a (c.over ++ arrays)
  spot_array a i h = go (is_among a c.over) refl h
    where
      go : (b : Bool) → is_among a c.over ≡ b → (if b then is_variable c i else (is_local c a && can_evaluate c i)) ≡ true
          → moved_array m (slot_of a (c.arrays ++ arrays)) ≡ slot_of a (c.over ++ arrays)
      go true e g = t.array_over a arrays e
      go false e g = t.array_local a arrays (and_parts (is_local c a) (can_evaluate c i) g).0 few_arrays

  spot_index : (a : Name) (i : Expr) → (if is_among a c.over then is_variable c i else (is_local c a && can_evaluate c i)) ≡ true →
      from_low (is_over m (slot_of a (c.arrays ++ arrays))) (slotted_expr at_target (lower_expr c.over i)) ≡ slotted_expr at_target (lower_index (is_among a c.over) (lower_expr c.over i))
  spot_index a i h = go (is_among a c.over) refl h
    where
      go : (b : Bool) → is_among a c.over ≡ b → (if b then is_variable c i else (is_local c a && can_evaluate c i)) ≡ true →
          from_low (is_over m (slot_of a (c.arrays ++ arrays))) (slotted_expr at_target (lower_expr c.over i)) ≡ slotted_expr at_target (lower_index b (lower_expr c.over i))
      go true e g =
          ap (λ b. from_low b (slotted_expr at_target (lower_expr c.over i))) (t.over_is_over a arrays e)
          ∙ sym (ap (λ s. slotted.Binary Minus (slotted_expr at_target (lower_expr c.over i)) (slotted.Variable s)) (t.low_first a e ints))
      go false e g = ap (λ b. from_low b (slotted_expr at_target (lower_expr c.over i))) (t.local_not_over a arrays (and_parts (is_local c a) (can_evaluate c i) g).0)

  expr_moved : (e : Expr) → can_evaluate c e ≡ true → moved_expr m (resolved_expr at_source e) ≡ slotted_expr at_target (lower_expr c.over e)
  expr_moved (Number n) h = refl
  expr_moved (Variable x) h = ap (λ s. slotted.Variable s) (t.int_read x ints h few_ints)
  expr_moved (Element a e) h =
      ap (λ s. slotted.Element s (from_low (is_over m (slot_of a (c.arrays ++ arrays))) (moved_expr m (resolved_expr at_source e)))) (spot_array a e h)
      ∙ ap (λ i. slotted.Element (slot_of a (c.over ++ arrays)) (from_low (is_over m (slot_of a (c.arrays ++ arrays))) i)) (expr_moved e (spot_can a e h))
      ∙ ap (λ i. slotted.Element (slot_of a (c.over ++ arrays)) i) (spot_index a e h)
  expr_moved (Length a) h = ap (λ s. slotted.Length s) (t.array_local a arrays h few_arrays)
  expr_moved (Negative e) h = ap (λ i. slotted.Negative i) (expr_moved e h)
  expr_moved (Not e) h = ap (λ i. slotted.Not i) (expr_moved e h)
  expr_moved (Binary operator d e) h =
      let g = and_parts (can_evaluate c d) (can_evaluate c e) h in
      ap (λ i. slotted.Binary operator i (moved_expr m (resolved_expr at_source e))) (expr_moved d g.0)
      ∙ ap (λ i. slotted.Binary operator (slotted_expr at_target (lower_expr c.over d)) i) (expr_moved e g.1)

  same_kind_there : (y : Name) → is_local c y ≡ true → is_among y (c.arrays ++ arrays) ≡ is_among y (c.over ++ arrays)
  same_kind_there y h =
      among_append y c.arrays arrays ∙ ap (λ b. b || is_among y arrays) (outside_not_arrays c y h ∙ sym (outside_not_over c y h)) ∙ sym (among_append y c.over arrays)

  name_moved : (y : Name) (ps : List Param) → can_pass c (Variable y) ≡ true → moved_argument m (resolved_argument at_source ps (Variable y)) ≡ slotted_argument at_target ps (Variable y)
  name_moved y ps h =
      ap (λ b. moved_argument m (if b then source.passed_to ps (use_of (c.arrays ++ arrays) y) else source.Int (source.Variable (use_of (c.outer ++ ints) y)))) (same_kind_there y g.1)
      ∙ go (is_among y (c.over ++ arrays))
    where
      g : (can_read c y ≡ true) × (is_local c y ≡ true)
      g = and_parts (can_read c y) (is_local c y) h

      passed : (r : Bool) → moved_array m (slot_of y (c.arrays ++ arrays)) ≡ slot_of y (c.over ++ arrays) →
          moved_argument m (if r then source.Shared (use_of (c.arrays ++ arrays) y) else source.Array (use_of (c.arrays ++ arrays) y))
          ≡ (if r then slotted.Shared (slot_of y (c.over ++ arrays)) else slotted.Array (slot_of y (c.over ++ arrays)))
      passed true e = ap (λ s. slotted.Shared s) e
      passed false e = ap (λ s. slotted.Array s) e

      go : (b : Bool) → moved_argument m (if b then source.passed_to ps (use_of (c.arrays ++ arrays) y)
          else source.Int (source.Variable (use_of (c.outer ++ ints) y)))
          ≡ (if b then slotted.slot_to ps (slot_of y (c.over ++ arrays)) else slotted.Int (slotted.Variable (slot_of y (c.given ++ ints))))
      go true = passed (source.is_reader ps) (t.array_local y arrays g.1 few_arrays)
      go false = ap (λ s. slotted.Int (slotted.Variable s)) (t.int_read y ints g.0 few_ints)

  argument_moved : (e : Expr) (ps : List Param) → can_pass c e ≡ true → moved_argument m (resolved_argument at_source ps e) ≡ slotted_argument at_target ps (lower_expr c.over e)
  argument_moved (Number n) ps h = refl
  argument_moved (Variable y) ps h = name_moved y ps h
  argument_moved (Element a e) ps h = ap (λ i. slotted.Int i) (expr_moved (Element a e) h)
  argument_moved (Length a) ps h = ap (λ i. slotted.Int i) (expr_moved (Length a) h)
  argument_moved (Negative e) ps h = ap (λ i. slotted.Int i) (expr_moved (Negative e) h)
  argument_moved (Not e) ps h = ap (λ i. slotted.Int i) (expr_moved (Not e) h)
  argument_moved (Binary operator d e) ps h = ap (λ i. slotted.Int i) (expr_moved (Binary operator d e) h)

  arguments_moved : (es : List Expr) (ps : List Param) → can_pass_all c es ≡ true → map (moved_argument m) (resolved_arguments at_source ps es) ≡ slotted_arguments at_target ps (lower_exprs c.over es)
  arguments_moved [] ps h = refl
  arguments_moved (e ∷ es) ps h =
      let g = and_parts (can_pass c e) (can_pass_all c es) h in
      ap (λ y. y ∷ map (moved_argument m) (resolved_arguments at_source (drop 1 ps) es)) (argument_moved e ps g.0)
      ∙ ap (λ r. slotted_argument at_target ps (lower_expr c.over e) ∷ r) (arguments_moved es (drop 1 ps) g.1)

  write_moved : (x : Name) → can_write c x ≡ true → moved_int m (slot_of x (c.outer ++ ints)) ≡ slot_of x (c.given ++ ints)
  write_moved x h = t.int_read x ints (either_right (is_among x c.shared) (can_write c x) h) few_ints

  target_moved : (target : Option Name) → can_target c target ≡ true → moved_target m (option_map (use_of (c.outer ++ ints)) target) ≡ option_map (λ x. slot_of x (c.given ++ ints)) target
  target_moved None h = refl
  target_moved (Some x) h = ap (λ s. Some s) (write_moved x h)

  return_moved : (e : Option Expr) → can_lower c ints arrays (Return e) ≡ true → moved_return m (option_map (resolved_expr at_source) e) ≡ option_map (slotted_expr at_target) (lower_option c.over e)
  return_moved None h = refl
  return_moved (Some e) h = ap (λ i. Some i) (expr_moved e (and_parts c.returns (can_evaluate c e) h).1)

  ints_moved : (vs : List Name) → ((v : Name) → is_among v vs ≡ true → can_read c v ≡ true) → moved_ints m (map (use_of (c.outer ++ ints)) vs) ≡ map (λ x. slot_of x (c.given ++ ints)) vs
  ints_moved [] h = refl
  ints_moved (v ∷ vs) h =
      ap (λ s. s ∷ moved_ints m (map (use_of (c.outer ++ ints)) vs)) (t.int_read v ints (h v (front_among v vs)) few_ints)
      ∙ ap (λ r. slot_of v (c.given ++ ints) ∷ r) (ints_moved vs (λ w o. h w (later_among w v vs o)))

  arrays_moved : (vs : List Name) → ((v : Name) → is_among v vs ≡ true → is_local c v ≡ true) → moved_arrays m (map (use_of (c.arrays ++ arrays)) vs) ≡ map (λ a. slot_of a (c.over ++ arrays)) vs
  arrays_moved [] h = refl
  arrays_moved (v ∷ vs) h =
      ap (λ s. s ∷ moved_arrays m (map (use_of (c.arrays ++ arrays)) vs)) (t.array_local v arrays (h v (front_among v vs)) few_arrays)
      ∙ ap (λ r. slot_of v (c.over ++ arrays) ∷ r) (arrays_moved vs (λ w o. h w (later_among w v vs o)))

-- the context of a statement: the mapping follows its locals, which are few and known
pub record Here (n : ℕ) (m : Moves) (c : Surroundings) (ints arrays : List Name) (known : Known) (counts : Counts) : Type 0 where
  pub tracks : Tracks m c
  pub few_ints : length (c.outer ++ ints) ≤ 256
  pub few_arrays : length (c.arrays ++ arrays) ≤ 256
  pub known_ints : (x : Name) → is_among x (c.outer ++ ints) ≡ true → is_int known x ≡ true
  pub most_ints : counts.ints ≤ 256
  pub most_arrays : counts.arrays ≤ 256
  pub functions_are : counts.functions ≡ n

was_below : (k n most : ℕ) → nat_lt k n ≡ true → n ≤ most → k < most
was_below k n most h few = grind (arith, nat_tests, h, few)

known_more : (x : Name) (ints : List Name) (known : Known) → ((y : Name) → is_among y ints ≡ true → is_int known y ≡ true) → (y : Name)
    → is_among y (ints ++ x ∷ []) ≡ true → is_int ((x, name_kind.Integer) ∷ known) y ≡ true
known_more x ints known h y o = go (told (same_name y x)) (side y ints (x ∷ []) o)
  where
    go : TrueOrFalse (same_name y x) → Side y ints (x ∷ []) → (if same_name y x then true else is_int known y) ≡ true
    go (yes_is e) p = ap (λ b. if b then true else is_int known y) e
    go (no_is e) (in_first p) = ap (λ b. if b then true else is_int known y) e ∙ h y p
    go (no_is e) (in_second p) = never (is_among y (x ∷ [])) p (ap (λ b. if b then true else false) e)

known_past : (a : Name) (ints : List Name) (known : Known) → is_int known a ≡ false → ((y : Name) → is_among y ints ≡ true → is_int known y ≡ true)
    → (y : Name) → is_among y ints ≡ true → is_int ((a, name_kind.Array) ∷ known) y ≡ true
known_past a ints known new h y o = go (told (same_name y a))
  where
    go : TrueOrFalse (same_name y a) → (if same_name y a then false else is_int known y) ≡ true
    go (yes_is e) = never (is_int known a) (ap (is_int known) (sym (same_are y a e)) ∙ h y o) new
    go (no_is e) = ap (λ b. if b then false else is_int known y) e ∙ h y o

here_as : {n : ℕ} {m : Moves} {c : Surroundings} {ints ints' arrays arrays' : List Name} {known : Known} {counts : Counts} → ints ≡ ints'
    → arrays ≡ arrays' → Here n m c ints arrays known counts → Here n m c ints' arrays' known counts
here_as {n} {m} {c} {ints} {ints'} {arrays} {arrays'} {known} {counts} e f h = subst (λ w. Here n m c ints' w known counts) f (subst (λ w. Here n m c w arrays known counts) e h)

here_int : {n : ℕ} {m : Moves} {c : Surroundings} {ints arrays : List Name} {known : Known} {counts : Counts} (x : Name)
    → nat_lt (length (c.outer ++ ints)) counts.ints ≡ true → Here n m c ints arrays known counts
    → Here n m c (ints ++ x ∷ []) arrays ((x, name_kind.Integer) ∷ known) counts
here_int {n} {m} {c} {ints} {arrays} {known} {counts} x h here = record {
  tracks = here.tracks;
  few_ints = let p = was_below (length (c.outer ++ ints)) counts.ints 256 h here.most_ints in let q =
      ap length (append_assoc c.outer ints (x ∷ [])) in let r = length-append (c.outer ++ ints) (x ∷ []) in omega (arith, p, q, r);
  few_arrays = here.few_arrays;
  known_ints = λ y o. known_more x (c.outer ++ ints) known here.known_ints y (ap (is_among y) (append_assoc c.outer ints (x ∷ [])) ∙ o);
  most_ints = here.most_ints;
  most_arrays = here.most_arrays;
  functions_are = here.functions_are;
}

here_array : {n : ℕ} {m : Moves} {c : Surroundings} {ints arrays : List Name} {known : Known} {counts : Counts} (a : Name)
    → nat_lt (length (c.arrays ++ arrays)) counts.arrays ≡ true → is_int known a ≡ false → Here n m c ints arrays known counts
    → Here n m c ints (arrays ++ a ∷ []) ((a, name_kind.Array) ∷ known) counts
here_array {n} {m} {c} {ints} {arrays} {known} {counts} a h new here = record {
  tracks = here.tracks;
  few_ints = here.few_ints;
  few_arrays = let p = was_below (length (c.arrays ++ arrays)) counts.arrays 256 h here.most_arrays in let q =
      ap length (append_assoc c.arrays arrays (a ∷ [])) in let r = length-append (c.arrays ++ arrays) (a ∷ []) in omega (arith, p, q, r);
  known_ints = λ y o. known_past a (c.outer ++ ints) known new here.known_ints y o;
  most_ints = here.most_ints;
  most_arrays = here.most_arrays;
  functions_are = here.functions_are;
}

-- the result for a part of a program, with its loops
pub record Done {S : Type 0} (n : ℕ) (target : Lists) (got want : S) (loops after : List Loop) (k count : ℕ) (made : List model.Function) : Type 0 where
  pub same : got ≡ want
  pub many : length after ≡ k + count
  pub texts : loop_texts n after ≡ loop_texts n loops ++ map (slotted_function target) made

done_alone : {S : Type 0} (n : ℕ) (target : Lists) (got want : S) (loops : List Loop) (k : ℕ) → length loops ≡ k → got ≡ want → Done n target got want loops loops k 0 []
done_alone n target got want loops k len e = record { same = e; many = omega (arith, len); texts = sym (append-nil (loop_texts n loops)) }

done_around : {S T : Type 0} {n : ℕ} {target : Lists} {got want : S} {loops after : List Loop} {k count : ℕ} {made : List model.Function}
    (f g : S → T) → f want ≡ g want → Done n target got want loops after k count made → Done n target (f got) (g want) loops after k count made
done_around f g e d = record { same = ap f d.same ∙ e; many = d.many; texts = d.texts }

done_both : {S T U : Type 0} {n : ℕ} {target : Lists} {got want : S} {got' want' : T} {loops between after : List Loop} {k count count' : ℕ} {made made' : List model.Function} (f : S → T → U) →
    Done n target got want loops between k count made → Done n target got' want' between after (k + count) count' made'
    → Done n target (f got got') (f want want') loops after k (count + count') (made ++ made')
done_both {S} {T} {U} {n} {target} {got} {want} {got'} {want'} {loops} {between} {after} {k} {count} {count'} {made} {made'} f d e = record {
  same = ap (λ x. f x got') d.same ∙ ap (f want) e.same;
  many = let p = e.many in omega (arith, p);
  texts =
      e.texts ∙ ap (λ r. r ++ map (slotted_function target) made') d.texts ∙ append_assoc (loop_texts n loops) (map (slotted_function target) made) (map (slotted_function target) made')
      ∙ ap (λ r. loop_texts n loops ++ r) (sym (map-append (slotted_function target) made made'));
}

-- the number of known arrays after a declaration
array_more : (l : Locals) (a : Name) → length l.arrays ≤ 256 → slot (length l.arrays + 1) ≡ length (l.arrays ++ a ∷ [])
array_more l a few = small_slot (length l.arrays + 1) (omega (arith, few)) ∙ omega arith ∙ sym (length-append l.arrays (a ∷ []))

arrays_follow : (lists : Lists) (c : Surroundings) (ints arrays : List Name) (s : Stmt) → length (c.arrays ++ arrays) ≤ 256
    → arrays_after (length (c.arrays ++ arrays)) (resolved_stmt lists (at c ints arrays) s) ≡ length (c.arrays ++ (arrays ++ new_arrays s))
arrays_follow lists c ints arrays (DeclareArray a e) few = array_more (at c ints arrays) a few ∙ ap length (append_assoc c.arrays arrays (a ∷ []))
arrays_follow lists c ints arrays (Declare x e) few = ap (λ w. length (c.arrays ++ w)) (sym (append-nil arrays))
arrays_follow lists c ints arrays (Assign x e) few = ap (λ w. length (c.arrays ++ w)) (sym (append-nil arrays))
arrays_follow lists c ints arrays (AssignElement a i e) few = ap (λ w. length (c.arrays ++ w)) (sym (append-nil arrays))
arrays_follow lists c ints arrays (Reduce how s e) few = ap (λ w. length (c.arrays ++ w)) (sym (append-nil arrays))
arrays_follow lists c ints arrays (Call kind site target f es) few = ap (λ w. length (c.arrays ++ w)) (sym (append-nil arrays))
arrays_follow lists c ints arrays (Start kind f es) few = ap (λ w. length (c.arrays ++ w)) (sym (append-nil arrays))
arrays_follow lists c ints arrays (Begin f from to captured' over') few = ap (λ w. length (c.arrays ++ w)) (sym (append-nil arrays))
arrays_follow lists c ints arrays Sync few = ap (λ w. length (c.arrays ++ w)) (sym (append-nil arrays))
arrays_follow lists c ints arrays (If e b) few = ap (λ w. length (c.arrays ++ w)) (sym (append-nil arrays))
arrays_follow lists c ints arrays (IfElse e b d) few = ap (λ w. length (c.arrays ++ w)) (sym (append-nil arrays))
arrays_follow lists c ints arrays (While e b) few = ap (λ w. length (c.arrays ++ w)) (sym (append-nil arrays))
arrays_follow lists c ints arrays (For x y z from to grain over' b) few = ap (λ w. length (c.arrays ++ w)) (sym (append-nil arrays))
arrays_follow lists c ints arrays (Scope b) few = ap (λ w. length (c.arrays ++ w)) (sym (append-nil arrays))
arrays_follow lists c ints arrays (Cut a e l r b) few = ap (λ w. length (c.arrays ++ w)) (sym (append-nil arrays))
arrays_follow lists c ints arrays (Region tag b) few = ap (λ w. length (c.arrays ++ w)) (sym (append-nil arrays))
arrays_follow lists c ints arrays (Print e) few = ap (λ w. length (c.arrays ++ w)) (sym (append-nil arrays))
arrays_follow lists c ints arrays (Return e) few = ap (λ w. length (c.arrays ++ w)) (sym (append-nil arrays))

loop_texts-last : (n : ℕ) (xs : List Loop) (l : Loop) → loop_texts n (xs ++ l ∷ []) ≡ loop_texts n xs ++ loop_text (n + length xs) l ∷ []
loop_texts-last n [] l = ap (λ i. loop_text i l ∷ []) (none n)
  where
    none : (i : ℕ) → i ≡ i + 0
    none i = omega arith
loop_texts-last n (x ∷ xs) l = ap (λ r. loop_text n x ∷ r) (loop_texts-last (suc n) xs l ∙ ap (λ i. loop_texts (suc n) xs ++ loop_text i l ∷ []) (next n (length xs)))
  where
    next : (i j : ℕ) → suc i + j ≡ i + suc j
    next i j = omega arith

small_two : (n : ℕ) → n ≤ 256 → slot (slot n + 2) ≡ 2 + n
small_two n few = ap (λ i. slot (i + 2)) (small_slot n (omega (arith, few))) ∙ small_slot (n + 2) (omega (arith, few)) ∙ omega arith

small_index : (n k : ℕ) → n ≤ 1024 → k ≤ 4096 → loop_index n k ≡ n + k
small_index n k few some = ap (λ i. slot (i + n)) (small_slot k (omega (arith, some))) ∙ small_slot (k + n) (omega (arith, few, some)) ∙ omega arith

module _ (program : Program) (fs fs' rs ts : List Name) (gs gs' : List model.Function) (n total : ℕ) (few_loops : total ≤ 4096) (few_functions : n ≤ 1024)
    (callee : (f : Name) → slot_of f fs < n → slot_of f fs' ≡ slot_of f fs) (loops_at : (k : ℕ) → k < total → slot_of (loop_name k) fs' ≡ n + k)
    (params_stay : (f : Name) → is_plain f ≡ true → (function_named f gs').params ≡ (function_named f gs).params)
    (loops_read : (k : ℕ) → reads_none (function_named (loop_name k) gs').params ≡ true) where
  abbrev Source : Lists
  Source = record { callees = gs; functions = fs; reducers = rs; tags = ts }

  abbrev Target : Lists
  Target = record { callees = gs'; functions = fs'; reducers = rs; tags = ts }

  abbrev StmtMade : Stmt → Type 0
  StmtMade s =
      (m : Moves) (c : Surroundings) (ints arrays : List Name) (known : Known) (counts : Counts) (returns : Returns) (loops : List Loop) (k line : ℕ) → Here n m c ints arrays known counts →
      can_lower c ints arrays s ≡ true → fits_stmt counts (resolved_stmt Source (at c ints arrays) s) ≡ true
      → faults_in program returns known line s ≡ [] → length loops ≡ k → k + loop_count s ≤ total →
      Done n Target (made_stmt n m (length (c.arrays ++ arrays)) loops line (resolved_stmt Source (at c ints arrays) s)).stmt (slotted_stmt Target (lowered_at c ints arrays) (lower_stmt c.over k s))
      loops (made_stmt n m (length (c.arrays ++ arrays)) loops line (resolved_stmt Source (at c ints arrays) s)).loops k (loop_count s) (made_by line k s)

  abbrev BlockMade : Block → Type 0
  BlockMade b =
      (m : Moves) (c : Surroundings) (ints arrays : List Name) (known : Known) (counts : Counts) (returns : Returns) (loops : List Loop) (k : ℕ) → Here n m c ints arrays known counts →
      can_lower_all c ints arrays b ≡ true → fits_block counts (resolved_block Source (at c ints arrays) b) ≡ true
      → faults_in_block program returns known b ≡ [] → length loops ≡ k → k + loop_count_in b ≤ total →
      Done n Target (made_block n m (length (c.arrays ++ arrays)) loops (resolved_block Source (at c ints arrays) b)).block (slotted_block Target (lowered_at c ints arrays) (lower_block c.over k b))
      loops (made_block n m (length (c.arrays ++ arrays)) loops (resolved_block Source (at c ints arrays) b)).loops k (loop_count_in b) (made_in k b)

  -- the invariant after a statement
  here_after : {m : Moves} {c : Surroundings} {ints arrays : List Name} {known : Known} {counts : Counts} (s : Stmt) (returns : Returns) (line : ℕ) → Here n m c ints arrays known counts →
      fits_stmt counts (resolved_stmt Source (at c ints arrays) s) ≡ true → faults_in program returns known line s ≡ []
      → Here n m c (ints ++ new_integers s) (arrays ++ new_arrays s) (declares s known) counts
  here_after {m} {c} {ints} {arrays} {known} {counts} (Declare x e) returns line here fits types =
      here_as refl (sym (append-nil arrays)) (here_int x (and_parts (nat_lt (length (c.outer ++ ints)) counts.ints) _ fits).0 here)
  here_after {m} {c} {ints} {arrays} {known} {counts} (DeclareArray a e) returns line here fits types =
      here_as (sym (append-nil ints)) refl
      (here_array a (and_parts (nat_lt (length (c.arrays ++ arrays)) counts.arrays) _ fits).0
      (new_unknown program known a (and_parts (is_fine known e) (is_new program known a) (kept _ line types)).1).no_int here)
  here_after {m} {c} {ints} {arrays} {known} {counts} (Assign x e) returns line here fits types = here_as (sym (append-nil ints)) (sym (append-nil arrays)) here
  here_after {m} {c} {ints} {arrays} {known} {counts} (AssignElement a i e) returns line here fits types = here_as (sym (append-nil ints)) (sym (append-nil arrays)) here
  here_after {m} {c} {ints} {arrays} {known} {counts} (Reduce how s e) returns line here fits types = here_as (sym (append-nil ints)) (sym (append-nil arrays)) here
  here_after {m} {c} {ints} {arrays} {known} {counts} (Call kind site target f es) returns line here fits types = here_as (sym (append-nil ints)) (sym (append-nil arrays)) here
  here_after {m} {c} {ints} {arrays} {known} {counts} (Start kind f es) returns line here fits types = here_as (sym (append-nil ints)) (sym (append-nil arrays)) here
  here_after {m} {c} {ints} {arrays} {known} {counts} (Begin f from to captured' over') returns line here fits types = here_as (sym (append-nil ints)) (sym (append-nil arrays)) here
  here_after {m} {c} {ints} {arrays} {known} {counts} Sync returns line here fits types = here_as (sym (append-nil ints)) (sym (append-nil arrays)) here
  here_after {m} {c} {ints} {arrays} {known} {counts} (If e b) returns line here fits types = here_as (sym (append-nil ints)) (sym (append-nil arrays)) here
  here_after {m} {c} {ints} {arrays} {known} {counts} (IfElse e b d) returns line here fits types = here_as (sym (append-nil ints)) (sym (append-nil arrays)) here
  here_after {m} {c} {ints} {arrays} {known} {counts} (While e b) returns line here fits types = here_as (sym (append-nil ints)) (sym (append-nil arrays)) here
  here_after {m} {c} {ints} {arrays} {known} {counts} (For x y z from to grain over' b) returns line here fits types = here_as (sym (append-nil ints)) (sym (append-nil arrays)) here
  here_after {m} {c} {ints} {arrays} {known} {counts} (Scope b) returns line here fits types = here_as (sym (append-nil ints)) (sym (append-nil arrays)) here
  here_after {m} {c} {ints} {arrays} {known} {counts} (Cut a e l r b) returns line here fits types = here_as (sym (append-nil ints)) (sym (append-nil arrays)) here
  here_after {m} {c} {ints} {arrays} {known} {counts} (Region tag b) returns line here fits types = here_as (sym (append-nil ints)) (sym (append-nil arrays)) here
  here_after {m} {c} {ints} {arrays} {known} {counts} (Print e) returns line here fits types = here_as (sym (append-nil ints)) (sym (append-nil arrays)) here
  here_after {m} {c} {ints} {arrays} {known} {counts} (Return e) returns line here fits types = here_as (sym (append-nil ints)) (sym (append-nil arrays)) here

  -- the result for a block, with the locals of the source and of its function
  abbrev pub Blocks : Moves → ℕ → (l l' : Locals) → List Name → List Loop → ℕ → Block → Type 0
  Blocks m a l l' over loops j b =
      Done n Target (made_block n m a loops (resolved_block Source l b)).block (slotted_block Target l' (lower_block over j b))
      loops (made_block n m a loops (resolved_block Source l b)).loops j (loop_count_in b) (made_in j b)

  pub as_blocks : (m : Moves) (over : List Name) (loops : List Loop) (j : ℕ) (b : Block) {a a' : ℕ} {l l' k k' : Locals} → a ≡ a' → l ≡ l' → k ≡ k'
      → Blocks m a l k over loops j b → Blocks m a' l' k' over loops j b
  as_blocks m over loops j b {a} {a'} {l} {l'} {k} {k'} e f g d =
      subst (λ w. Blocks m a' l' w over loops j b) g (subst (λ w. Blocks m a' w k over loops j b) f (subst (λ w. Blocks m w l k over loops j b) e d))

  abbrev made_here : Moves → Surroundings → (ints arrays : List Name) → List Loop → ℕ → Stmt → Made
  made_here m c ints arrays loops line s = made_stmt n m (length (c.arrays ++ arrays)) loops line (resolved_stmt Source (at c ints arrays) s)

  then_made : (line : ℕ) (s : Stmt) (b : Block) → StmtMade s → BlockMade b → BlockMade (Then line s b)
  then_made line s b first more m c ints arrays known counts returns loops k here can fits types len room =
      done_both (λ st bl. slotted.Then line st bl) begun
      (as_blocks m c.over (made_here m c ints arrays loops line s).loops (k + loop_count s) b
      (sym (arrays_follow Source c ints arrays s here.few_arrays)) (sym (after_stmt c.outer c.arrays ints arrays s))
      (sym (same_after c.over k (lowered_at c ints arrays) s ∙ after_stmt c.given c.over ints arrays s))
      (more m c (ints ++ new_integers s) (arrays ++ new_arrays s) (declares s known) counts returns (made_here m c ints arrays loops line s).loops
      (k + loop_count s) (here_after s returns line here two.0 types_here) one.1
      (ap (λ l. fits_block counts (resolved_block Source l b)) (sym (after_stmt c.outer c.arrays ints arrays s)) ∙ two.1)
      (right_none (unless (not (surely_returns s) || ends_block b) line) _ (right_none (faults_in program returns known line s) _ types))
      begun.many (omega (arith, room))))
    where
      one : (can_lower c ints arrays s ≡ true) × (can_lower_all c (ints ++ new_integers s) (arrays ++ new_arrays s) b ≡ true)
      one = and_parts (can_lower c ints arrays s) _ can

      two : (fits_stmt counts (resolved_stmt Source (at c ints arrays) s) ≡ true) × (fits_block counts (resolved_block Source (locals_after (at c ints arrays) s) b) ≡ true)
      two = and_parts (fits_stmt counts (resolved_stmt Source (at c ints arrays) s)) _ fits

      types_here : faults_in program returns known line s ≡ []
      types_here = left_none (faults_in program returns known line s) _ types

      begun : Done n Target (made_here m c ints arrays loops line s).stmt (slotted_stmt Target (lowered_at c ints arrays) (lower_stmt c.over k s))
          loops (made_here m c ints arrays loops line s).loops k (loop_count s) (made_by line k s)
      begun = first m c ints arrays known counts returns loops k line here one.0 two.0 types_here len (omega (arith, room))

  cut_made : (a : Name) (e : Expr) (l r : Name) (b : Block) → BlockMade b → StmtMade (Cut a e l r b)
  cut_made a e l r b more m c ints arrays known counts returns loops k line here can fits types len room =
      done_around (λ bl. slotted.Cut (moved_array m (slot_of a (c.arrays ++ arrays))) (moved_expr m (resolved_expr (at c ints arrays) e))
      (moved_array m (length (c.arrays ++ arrays))) (moved_array m (length ((c.arrays ++ arrays) ++ l ∷ []))) bl)
      (λ bl. slotted.Cut (slot_of a (c.over ++ arrays)) (slotted_expr (lowered_at c ints arrays) (lower_expr c.over e)) (length (c.over ++ arrays)) (suc (length (c.over ++ arrays))) bl)
      (parts_moved (slotted_block Target (with_array r (with_array l (lowered_at c ints arrays))) (lower_block c.over k b)))
      (as_blocks m c.over loops k b inner_count (sym (twice_after c.outer c.arrays)) (sym (twice_after c.given c.over))
      (more m c ints ((arrays ++ l ∷ []) ++ r ∷ []) ((r, name_kind.Array) ∷ (l, name_kind.Array) ∷ known) counts Nowhere loops k there can_inner
      (ap (λ w. fits_block counts (resolved_block Source w b)) (sym (twice_after c.outer c.arrays)) ∙ two.1) (right_none (unless _ line) _ types) len room))
    where
      t : Tracks m c
      t = here.tracks

      one : (can_evaluate c e ≡ true) × ((is_local c a && (is_local c l
          && (is_local c r && (not (is_among l arrays) && (not (is_among r arrays)
          && (not (same_name r l) && can_lower_all c ints ((arrays ++ l ∷ []) ++ r ∷ []) b)))))) ≡ true)
      one = and_parts (can_evaluate c e) _ can

      array_local : is_local c a ≡ true
      array_local = (and_parts (is_local c a) _ one.1).0

      can_inner : can_lower_all c ints ((arrays ++ l ∷ []) ++ r ∷ []) b ≡ true
      can_inner =
          (and_parts (not (same_name r l)) _ (and_parts (not (is_among r arrays)) _
          (and_parts (not (is_among l arrays)) _ (and_parts (is_local c r) _ (and_parts (is_local c l) _ (and_parts (is_local c a) _ one.1).1).1).1).1).1).1

      twice_after : (o q : List Name) → with_array r (with_array l (joined o q ints arrays)) ≡ joined o q ints ((arrays ++ l ∷ []) ++ r ∷ [])
      twice_after o q = ap (with_array r) (after_array o q ints arrays l) ∙ after_array o q ints (arrays ++ l ∷ []) r

      two : (fits_parts counts (source.parts_of (at c ints arrays) a e l r) ≡ true) × (fits_block counts (resolved_block Source (with_array r (with_array l (at c ints arrays))) b) ≡ true)
      two = and_parts (fits_parts counts (source.parts_of (at c ints arrays) a e l r)) _ fits

      left_below : nat_lt (length (c.arrays ++ arrays)) counts.arrays ≡ true
      left_below = (and_parts _ (nat_lt (length (c.arrays ++ arrays)) counts.arrays) (and_parts _ (nat_lt (length ((c.arrays ++ arrays) ++ l ∷ [])) counts.arrays) two.0).0).1

      right_below : nat_lt (length ((c.arrays ++ arrays) ++ l ∷ [])) counts.arrays ≡ true
      right_below = (and_parts _ (nat_lt (length ((c.arrays ++ arrays) ++ l ∷ [])) counts.arrays) two.0).1

      keeps : CutKept program known a e l r
      keeps = cut_kept program known a e l r (kept _ line (left_none _ _ types))

      between : Here n m c ints (arrays ++ l ∷ []) ((l, name_kind.Array) ∷ known) counts
      between = here_array l left_below (new_unknown program known l keeps.left).no_int here

      right_new : is_int ((l, name_kind.Array) ∷ known) r ≡ false
      right_new = ap (λ w. if w then false else is_int known r) (turned r l ∙ keeps.two) ∙ (new_unknown program known r keeps.right).no_int

      there : Here n m c ints ((arrays ++ l ∷ []) ++ r ∷ []) ((r, name_kind.Array) ∷ (l, name_kind.Array) ∷ known) counts
      there = here_array r (ap (λ w. nat_lt (length w) counts.arrays) (sym (append_assoc c.arrays arrays (l ∷ []))) ∙ right_below) right_new between

      inner_count : length (c.arrays ++ ((arrays ++ l ∷ []) ++ r ∷ [])) ≡ slot (length ((c.arrays ++ arrays) ++ l ∷ []) + 1)
      inner_count =
          let p = was_below (length ((c.arrays ++ arrays) ++ l ∷ [])) counts.arrays 256 right_below here.most_arrays in
          ap length (sym (append_assoc c.arrays (arrays ++ l ∷ []) (r ∷ []))) ∙ ap (λ w. length (w ++ r ∷ [])) (sym (append_assoc c.arrays arrays (l ∷ [])))
          ∙ length-append ((c.arrays ++ arrays) ++ l ∷ []) (r ∷ []) ∙ sym (small_slot (length ((c.arrays ++ arrays) ++ l ∷ []) + 1) (omega (arith, p)))

      right_moved : moved_array m (length ((c.arrays ++ arrays) ++ l ∷ [])) ≡ suc (length (c.over ++ arrays))
      right_moved =
          ap (λ w. moved_array m (length w)) (append_assoc c.arrays arrays (l ∷ [])) ∙ t.array_next (arrays ++ l ∷ []) between.few_arrays
          ∙ ap length (sym (append_assoc c.over arrays (l ∷ []))) ∙ length-append (c.over ++ arrays) (l ∷ []) ∙ omega arith

      parts_moved : (bl : slotted.Block) → slotted.Cut (moved_array m (slot_of a (c.arrays ++ arrays)))
          (moved_expr m (resolved_expr (at c ints arrays) e)) (moved_array m (length (c.arrays ++ arrays)))
          (moved_array m (length ((c.arrays ++ arrays) ++ l ∷ []))) bl
          ≡ slotted.Cut (slot_of a (c.over ++ arrays)) (slotted_expr (lowered_at c ints arrays) (lower_expr c.over e)) (length (c.over ++ arrays)) (suc (length (c.over ++ arrays))) bl
      parts_moved bl =
          ap (λ w. slotted.Cut w (moved_expr m (resolved_expr (at c ints arrays) e)) (moved_array m (length (c.arrays ++ arrays)))
          (moved_array m (length ((c.arrays ++ arrays) ++ l ∷ []))) bl) (t.array_local a arrays array_local here.few_arrays)
          ∙ ap (λ w. slotted.Cut (slot_of a (c.over ++ arrays)) w (moved_array m (length (c.arrays ++ arrays)))
          (moved_array m (length ((c.arrays ++ arrays) ++ l ∷ []))) bl) (expr_moved m c t ints arrays here.few_ints here.few_arrays e one.0)
          ∙ ap (λ w. slotted.Cut (slot_of a (c.over ++ arrays)) (slotted_expr (lowered_at c ints arrays) (lower_expr c.over e)) w
          (moved_array m (length ((c.arrays ++ arrays) ++ l ∷ []))) bl) (t.array_next arrays here.few_arrays)
          ∙ ap (λ w. slotted.Cut (slot_of a (c.over ++ arrays)) (slotted_expr (lowered_at c ints arrays) (lower_expr c.over e)) (length (c.over ++ arrays)) w bl) right_moved

  -- the head of a loop, and the result for its body
  abbrev headed : Surroundings → (ints arrays : List Name) → Name → (from to : Expr) → ℕ → List Name → Block → source.Head
  headed c ints arrays x from to grain over b = head_with (at c ints arrays) x from to grain over (resolved_block Source (with_int x (at c ints arrays)) b)

  abbrev moves_in : Surroundings → (ints arrays : List Name) → Name → (from to : Expr) → ℕ → List Name → Block → Moves
  moves_in c ints arrays x from to grain over b = moves_of (headed c ints arrays x from to grain over b) (length (c.arrays ++ arrays))

  abbrev inner_of : Surroundings → (ints arrays : List Name) → Name → (from to : Expr) → ℕ → List Name → Block → List Loop → MadeAll
  inner_of c ints arrays x from to grain over b loops =
      made_block n (moves_in c ints arrays x from to grain over b) (length (c.arrays ++ arrays)) loops (resolved_block Source (with_int x (at c ints arrays)) b)

  taken_few : (c : Surroundings) (ints arrays : List Name) (x : Name) (taken over : List Name) → can_loop c ints arrays x taken over ≡ true → length (c.outer ++ ints) ≤ 256 → length taken ≤ 256
  taken_few c ints arrays x taken over can few =
      let e = entered c ints arrays x taken over can in
      let p = no_more taken (c.outer ++ ints) e.taken_differ e.taken_known in
      omega (arith, p, few)

  over_few : (c : Surroundings) (ints arrays : List Name) (x : Name) (taken over : List Name) → can_loop c ints arrays x taken over ≡ true → length (c.arrays ++ arrays) ≤ 256 → length over ≤ 256
  over_few c ints arrays x taken over can few =
      let e = entered c ints arrays x taken over can in
      let p = no_more over (c.arrays ++ arrays) e.over_differ (λ a o. among_right a c.arrays arrays (e.over_known a o)) in
      omega (arith, p, few)

  for_tracks : (c : Surroundings) (ints arrays : List Name) (x : Name) (from to : Expr) (grain : ℕ) (over : List Name) (b : Block)
      → can_loop c ints arrays x (captured x b) over ≡ true → can_lower_all (inside c ints arrays x (captured x b) over) [] [] b ≡ true →
      length (c.outer ++ ints) ≤ 256 → length (c.arrays ++ arrays) ≤ 256 → Tracks (moves_in c ints arrays x from to grain over b) (inside c ints arrays x (captured x b) over)
  for_tracks c ints arrays x from to grain over b can inner few few' =
      let cap = captured_in_order b c ints arrays x over Source can inner in
      let count = ap length cap ∙ length-map (captured x b) (use_of (c.outer ++ ints)) in
      tracks_inside c ints arrays x (captured x b) over (entered c ints arrays x (captured x b) over can) few few' (moves_in c ints arrays x from to grain over b)
      refl (ap slots_of cap ∙ slots_are (c.outer ++ ints) (captured x b))
      (ap (λ i. slot (slot i + 2)) count ∙ small_two (length (captured x b)) (taken_few c ints arrays x (captured x b) over can few))
      refl (slots_are (c.arrays ++ arrays) over) (ap slot (length-map over (use_of (c.arrays ++ arrays)))
      ∙ small_slot (length over) (let p = over_few c ints arrays x (captured x b) over can few' in omega (arith, p)))

  -- the invariant in the body of a loop
  for_here : {m : Moves} {c : Surroundings} {ints arrays : List Name} {known : Known} {counts : Counts} (x : Name) (from to : Expr) (grain : ℕ)
      (over : List Name) (b : Block) → Here n m c ints arrays known counts →
      can_loop c ints arrays x (captured x b) over ≡ true → can_lower_all (inside c ints arrays x (captured x b) over) [] [] b ≡ true → nat_lt (length (c.outer ++ ints)) counts.ints ≡ true →
      Here n (moves_in c ints arrays x from to grain over b) (inside c ints arrays x (captured x b) over) [] [] ((x, name_kind.Integer) ∷ known) counts
  for_here {m} {c} {ints} {arrays} {known} {counts} x from to grain over b here can inner below = record {
    tracks = for_tracks c ints arrays x from to grain over b can inner here.few_ints here.few_arrays;
    few_ints =
        let p = was_below (length (c.outer ++ ints)) counts.ints 256 below here.most_ints in
        let q = ap length (append-nil ((c.outer ++ ints) ++ x ∷ [])) in
        let r = length-append (c.outer ++ ints) (x ∷ []) in
        omega (arith, p, q, r);
    few_arrays = let q = ap length (append-nil (c.arrays ++ arrays)) in let p = here.few_arrays in omega (arith, p, q);
    known_ints = λ y o. known_more x (c.outer ++ ints) known here.known_ints y (ap (is_among y) (sym (append-nil ((c.outer ++ ints) ++ x ∷ []))) ∙ o);
    most_ints = here.most_ints;
    most_arrays = here.most_arrays;
    functions_are = here.functions_are;
  }

  for_inner : {m : Moves} {c : Surroundings} {ints arrays : List Name} {known : Known} {counts : Counts} (x : Name) (from to : Expr) (grain : ℕ)
      (over : List Name) (b : Block) (loops : List Loop) (k : ℕ) → BlockMade b → Here n m c ints arrays known counts →
      can_loop c ints arrays x (captured x b) over ≡ true → can_lower_all (inside c ints arrays x (captured x b) over) [] [] b ≡ true → nat_lt (length (c.outer ++ ints)) counts.ints ≡ true →
      fits_block counts (resolved_block Source (with_int x (at c ints arrays)) b) ≡ true
      → faults_in_block program Nowhere ((x, name_kind.Integer) ∷ known) b ≡ [] → length loops ≡ k → k + loop_count_in b ≤ total →
      Blocks (moves_in c ints arrays x from to grain over b) (length (c.arrays ++ arrays)) (with_int x (at c ints arrays)) (joined [] [] ((low ∷ high ∷ captured x b) ++ x ∷ []) over) over loops k b
  for_inner {m} {c} {ints} {arrays} {known} {counts} x from to grain over b loops k more here can inner below fits types len room =
      as_blocks (moves_in c ints arrays x from to grain over b) over loops k b (ap length (append-nil (c.arrays ++ arrays))) same_locals
      (two_lists (((low ∷ high ∷ captured x b) ++ x ∷ []) ++ []) ((low ∷ high ∷ captured x b) ++ x ∷ []) (over ++ []) over (append-nil ((low ∷ high ∷ captured x b) ++ x ∷ [])) (append-nil over))
      (more (moves_in c ints arrays x from to grain over b) (inside c ints arrays x (captured x b) over) [] []
      ((x, name_kind.Integer) ∷ known) counts Nowhere loops k (for_here x from to grain over b here can inner below) inner
      (ap (λ w. fits_block counts (resolved_block Source w b)) same_locals ∙ fits) types len room)
    where
      same_locals : joined ((c.outer ++ ints) ++ x ∷ []) (c.arrays ++ arrays) [] [] ≡ with_int x (at c ints arrays)
      same_locals =
          two_lists (((c.outer ++ ints) ++ x ∷ []) ++ []) ((c.outer ++ ints) ++ x ∷ []) ((c.arrays ++ arrays) ++ []) (c.arrays ++ arrays)
          (append-nil ((c.outer ++ ints) ++ x ∷ [])) (append-nil (c.arrays ++ arrays))

  -- the call that begins a loop
  begin_moved : {m : Moves} {c : Surroundings} {ints arrays : List Name} {known : Known} {counts : Counts} (x : Name) (from to : Expr) (grain : ℕ)
      (over : List Name) (b : Block) (j i : ℕ) → Here n m c ints arrays known counts →
      can_evaluate c from ≡ true → can_evaluate c to ≡ true → can_loop c ints arrays x (captured x b) over ≡ true
      → can_lower_all (inside c ints arrays x (captured x b) over) [] [] b ≡ true → i ≡ j → j < total →
      moved_head m (loop_index n i) (headed c ints arrays x from to grain over b)
      ≡ slotted_stmt Target (lowered_at c ints arrays) (Begin (loop_name j) (lower_expr c.over from) (lower_expr c.over to) (captured x b) over)
  begin_moved {m} {c} {ints} {arrays} {known} {counts} x from to grain over b j i here from_can to_can can inner same less =
      ap (λ f. slotted.Begin f (moved_expr m (resolved_expr (at c ints arrays) from)) (moved_expr m (resolved_expr (at c ints arrays) to))
      (moved_ints m head.captured) (moved_arrays m head.over)) index_is
      ∙ ap (λ e. slotted.Begin (slot_of (loop_name j) fs') e (moved_expr m (resolved_expr (at c ints arrays) to)) (moved_ints m head.captured)
      (moved_arrays m head.over)) (expr_moved m c here.tracks ints arrays here.few_ints here.few_arrays from from_can)
      ∙ ap (λ e. slotted.Begin (slot_of (loop_name j) fs') (slotted_expr (lowered_at c ints arrays) (lower_expr c.over from)) e
      (moved_ints m head.captured) (moved_arrays m head.over)) (expr_moved m c here.tracks ints arrays here.few_ints here.few_arrays to to_can)
      ∙ ap (λ vs. slotted.Begin (slot_of (loop_name j) fs') (slotted_expr (lowered_at c ints arrays) (lower_expr c.over from))
      (slotted_expr (lowered_at c ints arrays) (lower_expr c.over to)) vs (moved_arrays m head.over))
      (ap (moved_ints m) (captured_in_order b c ints arrays x over Source can inner) ∙ ints_moved m c here.tracks ints arrays here.few_ints here.few_arrays (captured x b) entry.taken_read)
      ∙ ap (λ vs. slotted.Begin (slot_of (loop_name j) fs') (slotted_expr (lowered_at c ints arrays) (lower_expr c.over from))
      (slotted_expr (lowered_at c ints arrays) (lower_expr c.over to)) (map (λ v. slot_of v (c.given ++ ints)) (captured x b)) vs)
      (arrays_moved m c here.tracks ints arrays here.few_ints here.few_arrays over entry.over_local)
    where
      head : source.Head
      head = headed c ints arrays x from to grain over b

      entry : Entered c ints arrays x (captured x b) over
      entry = entered c ints arrays x (captured x b) over can

      index_is : loop_index n i ≡ slot_of (loop_name j) fs'
      index_is = small_index n i few_functions (omega (arith, same, less, few_loops)) ∙ ap (λ w. n + w) same ∙ sym (loops_at j less)

  -- the function of a loop
  text_made : {m : Moves} {c : Surroundings} {ints arrays : List Name} {known : Known} {counts : Counts} (x : Name) (from to : Expr) (grain : ℕ)
      (over : List Name) (b : Block) (k j line : ℕ) (text : slotted.Block) → Here n m c ints arrays known counts →
      can_loop c ints arrays x (captured x b) over ≡ true → can_lower_all (inside c ints arrays x (captured x b) over) [] [] b ≡ true → list_all (λ a. is_array known a) over ≡ true → j < total →
      text ≡ slotted_block Target (joined [] [] ((low ∷ high ∷ captured x b) ++ x ∷ []) over) (lower_block over k b) →
      loop_text (n + j) (loop_with line (headed c ints arrays x from to grain over b) text)
      ≡ slotted_function Target (loop_function (loop_name j) line x grain (captured x b) over (lower_block over k b))
  text_made {m} {c} {ints} {arrays} {known} {counts} x from to grain over b k j line text here can inner known_arrays less text_is =
      ap (λ i. loop_text (n + j) (record { line = line; grain = grain; captured = i; over = slot (length (map (use_of (c.arrays ++ arrays)) over)); body = text })) count
      ∙ ap (λ i. loop_text (n + j) (record { line = line; grain = grain; captured = length (captured x b); over = i; body = text })) over_count
      ∙ loop_text_is Target line (loop_name j) x grain (captured x b) over (n + j) text
      (lower_block over k b) entry.plain entry.not_taken entry.taken_plain entry.taken_differ entry.over_plain entry.over_differ kept_apart
      (loops_at j less) (loops_read j) text_is
    where
      entry : Entered c ints arrays x (captured x b) over
      entry = entered c ints arrays x (captured x b) over can

      count : slot (length (headed c ints arrays x from to grain over b).captured) ≡ length (captured x b)
      count =
          ap (λ us. slot (length us)) (captured_in_order b c ints arrays x over Source can inner) ∙ ap slot (length-map (captured x b) (use_of (c.outer ++ ints)))
          ∙ small_slot (length (captured x b)) (let p = taken_few c ints arrays x (captured x b) over can here.few_ints in omega (arith, p))

      over_count : slot (length (map (use_of (c.arrays ++ arrays)) over)) ≡ length over
      over_count = ap slot (length-map over (use_of (c.arrays ++ arrays))) ∙ small_slot (length over) (let p = over_few c ints arrays x (captured x b) over can here.few_arrays in omega (arith, p))

      kept_apart : (v : Name) → is_among v (captured x b) ≡ true → is_among v over ≡ false
      kept_apart v o =
          refuted (is_among v over) (λ p. never (is_array known v) (each_of (λ a. is_array known a) over known_arrays v p) (not_both known v (here.known_ints v (entry.taken_known v o))))

  for_made : (x y z : Name) (from to : Expr) (grain : ℕ) (over : List Name) (b : Block) → BlockMade b → StmtMade (For x y z from to grain over b)
  for_made x y z from to grain over b more m c ints arrays known counts returns loops k line here can fits types len room = record {
    same = begin_moved x from to grain over b (k + loop_count_in b) (length (inner_of c ints arrays x from to grain over b loops).loops) here from_can two.0 four.0 four.1 inner.many less;
    many =
        let p = length-append (inner_of c ints arrays x from to grain over b loops).loops (last ∷ []) in
        let q = inner.many in
        omega (arith, p, q);
    texts =
        loop_texts-last n (inner_of c ints arrays x from to grain over b loops).loops last
        ∙ ap (λ r. r ++ loop_text (n + length (inner_of c ints arrays x from to grain over b loops).loops) last ∷ []) inner.texts
        ∙ append_assoc (loop_texts n loops) (map (slotted_function Target) (made_in k b)) (loop_text (n + length (inner_of c ints arrays x from to grain over b loops).loops) last ∷ [])
        ∙ ap (λ i. loop_texts n loops ++ (map (slotted_function Target) (made_in k b) ++ loop_text (n + i) last ∷ [])) inner.many
        ∙ ap (λ f. loop_texts n loops ++ (map (slotted_function Target) (made_in k b) ++ f ∷ []))
        (text_made x from to grain over b k (k + loop_count_in b) line (inner_of c ints arrays x from to grain over b loops).block here four.0
        four.1 keeps.arrays less inner.same)
        ∙ ap (λ r. loop_texts n loops ++ r) (sym (map-append (slotted_function Target) (made_in k b)
        (loop_function (loop_name (k + loop_count_in b)) line x grain (captured x b) over (lower_block over k b) ∷ [])));
  }
    where
      last : Loop
      last = loop_with line (headed c ints arrays x from to grain over b) (inner_of c ints arrays x from to grain over b loops).block

      less : k + loop_count_in b < total
      less = omega (arith, room)

      one : (can_evaluate c from ≡ true) × ((can_evaluate c to && (nat_le 1 grain
          && (can_loop c ints arrays x (captured x b) over && can_lower_all (inside c ints arrays x (captured x b) over) [] [] b))) ≡ true)
      one = and_parts (can_evaluate c from) _ can

      from_can : can_evaluate c from ≡ true
      from_can = one.0

      two : (can_evaluate c to ≡ true) × ((nat_le 1 grain && (can_loop c ints arrays x (captured x b) over && can_lower_all (inside c ints arrays x (captured x b) over) [] [] b)) ≡ true)
      two = and_parts (can_evaluate c to) _ one.1

      four : (can_loop c ints arrays x (captured x b) over ≡ true) × (can_lower_all (inside c ints arrays x (captured x b) over) [] [] b ≡ true)
      four = and_parts (can_loop c ints arrays x (captured x b) over) _ (and_parts (nat_le 1 grain) _ two.1).1

      keeps : HeadKept program known x from to grain over
      keeps = head_kept program known x y z from to grain over (kept _ line (left_none _ _ types))

      head_fits : (fits_head counts (headed c ints arrays x from to grain over b) ≡ true) × (fits_block counts (resolved_block Source (with_int x (at c ints arrays)) b) ≡ true)
      head_fits = and_parts (fits_head counts (headed c ints arrays x from to grain over b)) _ fits

      below : nat_lt (length (c.outer ++ ints)) counts.ints ≡ true
      below = (and_parts (nat_lt (length (c.outer ++ ints)) counts.ints) _ (and_parts _ _ (and_parts _ _ (and_parts _ _ head_fits.0).0).0).0).0

      inner : Blocks (moves_in c ints arrays x from to grain over b) (length (c.arrays ++ arrays)) (with_int x (at c ints arrays))
          (joined [] [] ((low ∷ high ∷ captured x b) ++ x ∷ []) over) over loops k b
      inner = for_inner x from to grain over b loops k more here four.0 four.1 below head_fits.1
          (right_none (unless (is_head_of_loop program known x y z from to grain over) line) _ types) len (omega (arith, room))

  element_made : (a : Name) (i e : Expr) → StmtMade (AssignElement a i e)
  element_made a i e m c ints arrays known counts returns loops k line here can fits types len room =
      let g = and_parts (if is_among a c.over then is_variable c i else (is_local c a && can_evaluate c i)) (can_evaluate c e) can in
      done_alone n Target _ _ loops k len
      (ap (λ s. slotted.AssignElement s (from_low (is_over m (slot_of a (c.arrays ++ arrays))) (moved_expr m (resolved_expr (at c ints arrays) i))) (moved_expr m (resolved_expr (at c ints arrays) e)))
      (spot_array m c here.tracks ints arrays here.few_ints here.few_arrays a i g.0)
      ∙ ap (λ d. slotted.AssignElement (slot_of a (c.over ++ arrays)) (from_low (is_over m (slot_of a (c.arrays ++ arrays))) d) (moved_expr m (resolved_expr (at c ints arrays) e)))
      (expr_moved m c here.tracks ints arrays here.few_ints here.few_arrays i (spot_can m c here.tracks ints arrays here.few_ints here.few_arrays a i g.0))
      ∙ ap (λ d. slotted.AssignElement (slot_of a (c.over ++ arrays)) d (moved_expr m (resolved_expr (at c ints arrays) e)))
      (spot_index m c here.tracks ints arrays here.few_ints here.few_arrays a i g.0)
      ∙ ap (λ d. slotted.AssignElement (slot_of a (c.over ++ arrays)) (slotted_expr (lowered_at c ints arrays)
      (lower_index (is_among a c.over) (lower_expr c.over i))) d) (expr_moved m c here.tracks ints arrays here.few_ints here.few_arrays e g.1))

  call_made : (kind : CallKind) (site : ℕ) (target : Option Name) (f : Name) (es : List Expr) → StmtMade (Call kind site target f es)
  call_made kind site target f es m c ints arrays known counts returns loops k line here can fits types len room =
      done_alone n Target _ _ loops k len
      (ap (λ g. slotted.Call kind site (moved_target m (option_map (use_of (c.outer ++ ints)) target)) g
      (map (moved_argument m) (resolved_arguments (at c ints arrays) (function_named f gs).params es))) (sym (callee f below))
      ∙ ap (λ g. slotted.Call kind site g (slot_of f fs') (map (moved_argument m)
      (resolved_arguments (at c ints arrays) (function_named f gs).params es)))
      (target_moved m c here.tracks ints arrays here.few_ints here.few_arrays target three.0)
      ∙ ap (λ g. slotted.Call kind site (option_map (λ x. slot_of x (c.given ++ ints)) target) (slot_of f fs') g)
      (arguments_moved m c here.tracks ints arrays here.few_ints here.few_arrays es (function_named f gs).params three.1)
      ∙ ap (λ ps. slotted.Call kind site (option_map (λ x. slot_of x (c.given ++ ints)) target) (slot_of f fs')
      (slotted_arguments (lowered_at c ints arrays) ps (lower_exprs c.over es))) (sym (params_stay f (and_parts (is_plain f) _ can).0)))
    where
      three : (can_target c target ≡ true) × (can_pass_all c es ≡ true)
      three = and_parts (can_target c target) _ (and_parts (length es == length (function_named f c.functions).params) _ (and_parts (is_plain f) _ can).1).1

      known_callee : nat_lt (slot_of f fs) counts.functions ≡ true
      known_callee = (and_parts _ (nat_lt (slot_of f fs) counts.functions) (and_parts _ _ fits).0).1

      below : slot_of f fs < n
      below = was_below (slot_of f fs) counts.functions n known_callee (let e = here.functions_are in omega (arith, e))

  choice_made : (e : Expr) (b d : Block) → BlockMade b → BlockMade d → StmtMade (IfElse e b d)
  choice_made e b d one other m c ints arrays known counts returns loops k line here can fits types len room =
      done_around {S = slotted.Block × slotted.Block} (λ both. slotted.IfElse (moved_expr m (resolved_expr (at c ints arrays) e)) both.0 both.1)
      (λ both. slotted.IfElse (slotted_expr (lowered_at c ints arrays) (lower_expr c.over e)) both.0 both.1)
      (ap (λ i. slotted.IfElse i (slotted_block Target (lowered_at c ints arrays) (lower_block c.over k b))
      (slotted_block Target (lowered_at c ints arrays) (lower_block c.over (k + loop_count_in b) d)))
      (expr_moved m c here.tracks ints arrays here.few_ints here.few_arrays e g.0))
      (done_both (λ bl dl. (bl, dl)) first
      (other m c ints arrays known counts returns (made_block n m (length (c.arrays ++ arrays)) loops
      (resolved_block Source (at c ints arrays) b)).loops (k + loop_count_in b) here h.1 f.1 (right_none _ _ rest) first.many (omega (arith, room))))
    where
      g : (can_evaluate c e ≡ true) × ((can_lower_all c ints arrays b && can_lower_all c ints arrays d) ≡ true)
      g = and_parts (can_evaluate c e) _ can

      h : (can_lower_all c ints arrays b ≡ true) × (can_lower_all c ints arrays d ≡ true)
      h = and_parts (can_lower_all c ints arrays b) _ g.1

      fit : ((fits_expr counts (resolved_expr (at c ints arrays) e) && fits_block counts (resolved_block Source (at c ints arrays) b)) ≡ true)
          × (fits_block counts (resolved_block Source (at c ints arrays) d) ≡ true)
      fit = and_parts _ (fits_block counts (resolved_block Source (at c ints arrays) d)) fits

      f : (fits_block counts (resolved_block Source (at c ints arrays) b) ≡ true) × (fits_block counts (resolved_block Source (at c ints arrays) d) ≡ true)
      f = ((and_parts (fits_expr counts (resolved_expr (at c ints arrays) e)) _ fit.0).1, fit.1)

      rest : faults_in_block program returns known b ++ faults_in_block program returns known d ≡ []
      rest = right_none (unless (is_fine known e) line) _ types

      first : Blocks m (length (c.arrays ++ arrays)) (at c ints arrays) (lowered_at c ints arrays) c.over loops k b
      first = one m c ints arrays known counts returns loops k here h.0 f.0 (left_none _ _ rest) len (omega (arith, room))

  mutual
    stmt_made : (s : Stmt) → StmtMade s
    stmt_made (Declare x e) m c ints arrays known counts returns loops k line here can fits types len room =
        done_alone n Target _ _ loops k len
        (ap (λ s. slotted.Declare s (moved_expr m (resolved_expr (at c ints arrays) e))) (here.tracks.int_next ints here.few_ints)
        ∙ ap (λ i. slotted.Declare (length (c.given ++ ints)) i) (expr_moved m c here.tracks ints arrays here.few_ints here.few_arrays e can))
    stmt_made (DeclareArray a e) m c ints arrays known counts returns loops k line here can fits types len room =
        done_alone n Target _ _ loops k len
        (ap (λ s. slotted.DeclareArray s (moved_expr m (resolved_expr (at c ints arrays) e))) (here.tracks.array_next arrays here.few_arrays)
        ∙ ap (λ i. slotted.DeclareArray (length (c.over ++ arrays)) i) (expr_moved m c here.tracks ints arrays here.few_ints here.few_arrays e can))
    stmt_made (Assign x e) m c ints arrays known counts returns loops k line here can fits types len room =
        let g = and_parts (can_write c x) (can_evaluate c e) can in
        done_alone n Target _ _ loops k len
        (ap (λ s. slotted.Assign s (moved_expr m (resolved_expr (at c ints arrays) e))) (write_moved m c here.tracks ints arrays here.few_ints here.few_arrays x g.0)
        ∙ ap (λ i. slotted.Assign (slot_of x (c.given ++ ints)) i) (expr_moved m c here.tracks ints arrays here.few_ints here.few_arrays e g.1))
    stmt_made (AssignElement a i e) m c ints arrays known counts returns loops k line here can fits types len room =
        element_made a i e m c ints arrays known counts returns loops k line here can fits types len room
    stmt_made (Reduce how s e) m c ints arrays known counts returns loops k line here can fits types len room =
        done_alone n Target _ _ loops k len (ap (λ i. slotted.Reduce how (slot_of s rs) i) (expr_moved m c here.tracks ints arrays here.few_ints here.few_arrays e can))
    stmt_made (Call kind site target f es) m c ints arrays known counts returns loops k line here can fits types len room =
        call_made kind site target f es m c ints arrays known counts returns loops k line here can fits types len room
    stmt_made (Start kind f es) m c ints arrays known counts returns loops k line here can fits types len room = absurd cc
    stmt_made (Begin f from to captured' over') m c ints arrays known counts returns loops k line here can fits types len room = absurd cc
    stmt_made Sync m c ints arrays known counts returns loops k line here can fits types len room = done_alone n Target _ _ loops k len refl
    stmt_made (If e b) m c ints arrays known counts returns loops k line here can fits types len room =
        let g = and_parts (can_evaluate c e) (can_lower_all c ints arrays b) can in
        done_around (λ bl. slotted.If (moved_expr m (resolved_expr (at c ints arrays) e)) bl) (λ bl. slotted.If (slotted_expr (lowered_at c ints arrays) (lower_expr c.over e)) bl)
        (ap (λ i. slotted.If i (slotted_block Target (lowered_at c ints arrays) (lower_block c.over k b))) (expr_moved m c here.tracks ints arrays here.few_ints here.few_arrays e g.0))
        (block_made b m c ints arrays known counts returns loops k here g.1 (and_parts (fits_expr counts (resolved_expr (at c ints arrays) e)) _ fits).1 (right_none (unless _ line) _ types) len room)
    stmt_made (IfElse e b d) m c ints arrays known counts returns loops k line here can fits types len room =
        choice_made e b d (block_made b) (block_made d) m c ints arrays known counts returns loops k line here can fits types len room
    stmt_made (While e b) m c ints arrays known counts returns loops k line here can fits types len room =
        let g = and_parts (can_evaluate c e) (can_lower_all c ints arrays b) can in
        done_around (λ bl. slotted.While (moved_expr m (resolved_expr (at c ints arrays) e)) bl) (λ bl. slotted.While (slotted_expr (lowered_at c ints arrays) (lower_expr c.over e)) bl)
        (ap (λ i. slotted.While i (slotted_block Target (lowered_at c ints arrays) (lower_block c.over k b))) (expr_moved m c here.tracks ints arrays here.few_ints here.few_arrays e g.0))
        (block_made b m c ints arrays known counts returns loops k here g.1 (and_parts (fits_expr counts (resolved_expr (at c ints arrays) e)) _ fits).1 (right_none (unless _ line) _ types) len room)
    stmt_made (For x y z from to grain over b) m c ints arrays known counts returns loops k line here can fits types len room =
        for_made x y z from to grain over b (block_made b) m c ints arrays known counts returns loops k line here can fits types len room
    stmt_made (Scope b) m c ints arrays known counts returns loops k line here can fits types len room =
        done_around (λ bl. slotted.Scope bl) (λ bl. slotted.Scope bl) refl (block_made b m c ints arrays known counts Nowhere loops k here can fits types len room)
    stmt_made (Cut a e l r b) m c ints arrays known counts returns loops k line here can fits types len room =
        cut_made a e l r b (block_made b) m c ints arrays known counts returns loops k line here can fits types len room
    stmt_made (Region tag b) m c ints arrays known counts returns loops k line here can fits types len room =
        done_around (λ bl. slotted.Region (slot_of tag ts) bl) (λ bl. slotted.Region (slot_of tag ts) bl) refl
        (block_made b m c ints arrays known counts Nowhere loops k here can (and_parts (nat_lt (slot_of tag ts) counts.tags) _ fits).1 types len room)
    stmt_made (Print e) m c ints arrays known counts returns loops k line here can fits types len room =
        done_alone n Target _ _ loops k len (ap (λ i. slotted.Print i) (expr_moved m c here.tracks ints arrays here.few_ints here.few_arrays e can))
    stmt_made (Return e) m c ints arrays known counts returns loops k line here can fits types len room =
        done_alone n Target _ _ loops k len (ap (λ i. slotted.Return i) (return_moved m c here.tracks ints arrays here.few_ints here.few_arrays e can))

    pub block_made : (b : Block) → BlockMade b
    block_made End m c ints arrays known counts returns loops k here can fits types len room = done_alone n Target _ _ loops k len refl
    block_made (Then line s b) m c ints arrays known counts returns loops k here can fits types len room =
        then_made line s b (stmt_made s) (block_made b) m c ints arrays known counts returns loops k here can fits types len room
