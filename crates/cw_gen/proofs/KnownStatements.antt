-- The names that a lowered statement uses are known at the statement.
use Rattle.cw_facts.specs.Tests.{not_true}
use Rattle.cw_model.specs.declared.syntax.NameKind.TheVariants as name_kind
use Rattle.std.proofs.Common.{◌≡◌, ℕ, suc, ◌+◌, ◌==◌, Bool, true, false, List, [], ◌∷◌, ◌++◌, length, Option, Some, None, refl, sym, ◌∙◌, ap, subst, append_assoc}
use Rattle.std.specs.Prelude.{if◌then◌else◌, nat_le, not, ◌&&◌, ◌||◌}
use Rattle.std.specs.List.{list_all}
use Rattle.std.proofs.lemmas.Bool.{and_parts}
use Rattle.cw_model.specs.declared.limits.TheConstants.{MOST_GRAIN}
use Rattle.cw_model.specs.Lines.{unless}
use Rattle.cw_model.specs.Syntax.{Name, Expr, Stmt, Declare, DeclareArray, Assign, AssignElement, Reduce, Call, Start, Begin, Sync, If}
use Rattle.cw_model.specs.Syntax.{IfElse, While, For, Scope, Cut, Region, Print, Return, Block, End, Then, Function, Program}
use Rattle.cw_model.specs.Names.{same_name, is_among, differ}
use Rattle.cw_model.specs.Answers.{main_name}
use Rattle.cw_model.specs.Meaning.{function_named}
use Rattle.cw_model.specs.Captured.{captured}
use Rattle.cw_model.specs.Typing.{Returns, Nowhere, Known, is_int, is_array, is_writable, is_new, is_fine, are_arguments, is_target, is_call, is_reducer, is_cut}
use Rattle.cw_model.specs.Typing.{is_head_of_loop, called, surely_returns, block_returns, ends_block, declares, faults_in, faults_in_block}
use Rattle.cw_model.specs.lemmas.Kept.{kept, left_none, right_none}
use Rattle.cw_model.specs.lemmas.Fits.{arguments_fit, writable_array}
use Rattle.cw_tree.specs.Resolved.{Locals, with_array, locals_after}
use Rattle.cw_loops.specs.Lowered.{is_plain, loop_name, loop_function, loop_count, loop_count_in, lower_exprs, lower_stmt, lower_block, made_by, made_in}
use Rattle.cw_loops.specs.Lowerable.{Surroundings, can_write, is_local, can_evaluate, can_pass_all, can_target, new_integers}
use Rattle.cw_loops.specs.Lowerable.{new_arrays, can_capture, can_slice, can_loop, inside, can_lower, can_lower_all}
use Rattle.cw_loops.specs.lemmas.Naming.{none_among}
use Rattle.cw_loops.specs.lemmas.Declaring.{same_after}
use Rattle.cw_gen.proofs.Ordered.{range_order}
use Rattle.cw_gen.proofs.HeldNames.{has_no_half, has_no_half_in}
use Rattle.cw_gen.proofs.Fine.{Begins, TakesRange, is_function}
use Rattle.cw_gen.proofs.Kept.{ArgsKnown, TargetKnown, StmtKnown, BlockKnown}
use Rattle.cw_gen.proofs.KnownNames.{past}
use Rattle.cw_gen.proofs.KnownParams.{loop_ints, loop_arrays, loop_unread}
use Rattle.cw_gen.proofs.KnownFunctions.{Found, AllFound, found_first, found_second, CallFound}
use Rattle.cw_gen.proofs.KnownPlaces.{Agree, new_name, write_there, spot_known, expr_known, args_known, target_known, return_known}
use Rattle.cw_gen.proofs.KnownPlaces.{captured_known, sliced_known, local_there, not_there_alone, agree_array, agree_after}

mutual
  -- a source contains no call on a half
  pub no_half : (c : Surroundings) (ints arrays over : List Name) (k : ℕ) (s : Stmt) → can_lower c ints arrays s ≡ true → has_no_half (lower_stmt over k s) ≡ true
  no_half c ints arrays over k (Declare x e) can = refl
  no_half c ints arrays over k (DeclareArray a e) can = refl
  no_half c ints arrays over k (Assign x e) can = refl
  no_half c ints arrays over k (AssignElement a i e) can = refl
  no_half c ints arrays over k (Reduce how s e) can = refl
  no_half c ints arrays over k (Call kind site target f es) can = refl
  no_half c ints arrays over k (Start kind f es) can = absurd cc
  no_half c ints arrays over k (Begin f from to captured' over') can = absurd cc
  no_half c ints arrays over k Sync can = refl
  no_half c ints arrays over k (If e b) can = no_half_in c ints arrays over k b (and_parts (can_evaluate c e) (can_lower_all c ints arrays b) can).1
  no_half c ints arrays over k (IfElse e b d) can =
      let two = and_parts (can_lower_all c ints arrays b) (can_lower_all c ints arrays d) (and_parts (can_evaluate c e) _ can).1 in
      ap (λ q. q && has_no_half_in (lower_block over (k + loop_count_in b) d)) (no_half_in c ints arrays over k b two.0) ∙ no_half_in c ints arrays over (k + loop_count_in b) d two.1
  no_half c ints arrays over k (While e b) can = no_half_in c ints arrays over k b (and_parts (can_evaluate c e) (can_lower_all c ints arrays b) can).1
  no_half c ints arrays over k (For x y z from to grain over' b) can = refl
  no_half c ints arrays over k (Scope b) can = no_half_in c ints arrays over k b can
  no_half c ints arrays over k (Cut a e l r b) can =
      let inner = (arrays ++ l ∷ []) ++ r ∷ [] in
      let one = (and_parts (can_evaluate c e) _ can).1 in
      let two = (and_parts (is_local c a) _ one).1 in
      let three = (and_parts (is_local c l) _ two).1 in
      let four = (and_parts (is_local c r) _ three).1 in
      let five = (and_parts (not (is_among l arrays)) _ four).1 in
      let six = (and_parts (not (is_among r arrays)) _ five).1 in
      no_half_in c ints inner over k b (and_parts (not (same_name r l)) (can_lower_all c ints inner b) six).1
  no_half c ints arrays over k (Region tag b) can = no_half_in c ints arrays over k b can
  no_half c ints arrays over k (Print e) can = refl
  no_half c ints arrays over k (Return e) can = refl

  pub no_half_in : (c : Surroundings) (ints arrays over : List Name) (k : ℕ) (b : Block) → can_lower_all c ints arrays b ≡ true → has_no_half_in (lower_block over k b) ≡ true
  no_half_in c ints arrays over k End can = refl
  no_half_in c ints arrays over k (Then line s b) can =
      let two = and_parts (can_lower c ints arrays s) (can_lower_all c (ints ++ new_integers s) (arrays ++ new_arrays s) b) can in
      ap (λ q. q && has_no_half_in (lower_block over (k + loop_count s) b)) (no_half c ints arrays over k s two.0)
      ∙ no_half_in c (ints ++ new_integers s) (arrays ++ new_arrays s) over (k + loop_count s) b two.1

mutual
  -- a statement that surely returns does so after lowering
  surely_same : (over : List Name) (k : ℕ) (s : Stmt) → surely_returns (lower_stmt over k s) ≡ surely_returns s
  surely_same over k (IfElse e b c) = ap (λ q. q && block_returns (lower_block over (k + loop_count_in b) c)) (returns_same over k b)
      ∙ ap (λ q. block_returns b && q) (returns_same over (k + loop_count_in b) c)
  surely_same over k (Declare x e) = refl
  surely_same over k (DeclareArray a e) = refl
  surely_same over k (Assign x e) = refl
  surely_same over k (AssignElement a i e) = refl
  surely_same over k (Reduce how s e) = refl
  surely_same over k (Call kind site target f es) = refl
  surely_same over k (Start kind f es) = refl
  surely_same over k (Begin f from to captured' over') = refl
  surely_same over k Sync = refl
  surely_same over k (If e b) = refl
  surely_same over k (While e b) = refl
  surely_same over k (For x y z from to grain over' b) = refl
  surely_same over k (Scope b) = refl
  surely_same over k (Cut a e l r b) = refl
  surely_same over k (Region tag b) = refl
  surely_same over k (Print e) = refl
  surely_same over k (Return e) = refl

  pub returns_same : (over : List Name) (k : ℕ) (b : Block) → block_returns (lower_block over k b) ≡ block_returns b
  returns_same over k End = refl
  returns_same over k (Then line s End) = surely_same over k s
  returns_same over k (Then line s (Then m t b)) = returns_same over (k + loop_count s) (Then m t b)

-- the arrays of the parameters stay the first arrays
pub begins_next : (given : List Name) (locals : Locals) (s : Stmt) → Begins given locals.arrays → Begins given (locals_after locals s).arrays
begins_next given locals (DeclareArray x e) b = record { more = b.more ++ x ∷ []; is = ap (λ l. l ++ x ∷ []) b.is ∙ append_assoc given b.more (x ∷ []) }
begins_next given locals _ b = b

-- the arrays of the parameters stay the first arrays after a declaration of an array
pub begins_array : (given : List Name) (locals : Locals) (x : Name) → Begins given locals.arrays → Begins given (with_array x locals).arrays
begins_array given locals x b = record { more = b.more ++ x ∷ []; is = ap (λ l. l ++ x ∷ []) b.is ∙ append_assoc given b.more (x ∷ []) }

-- the facts that the types guarantee for the head of a loop
pub record HeadKept (known : Known) (x : Name) (from to : Expr) : Type 0 where
  pub no_array : is_array known x ≡ false
  pub no_int : is_int known x ≡ false
  pub from_fine : is_fine known from ≡ true
  pub to_fine : is_fine known to ≡ true

pub head_kept : (program : Program) (known : Known) (x y z : Name) (from to : Expr) (grain : ℕ) (over : List Name)
    → is_head_of_loop program known x y z from to grain over ≡ true → HeadKept known x from to
head_kept program known x y z from to grain over h =
    let seven = (and_parts _ (list_all (λ a. is_writable known a) over) h).0 in
    let six = (and_parts _ (nat_le grain MOST_GRAIN) seven).0 in
    let five = (and_parts _ (nat_le 1 grain) six).0 in
    let four = and_parts _ (is_fine known to) five in
    let three = and_parts _ (is_fine known from) four.0 in
    let two = (and_parts _ (same_name z x) three.0).0 in
    let one = (and_parts (is_new program known x) (same_name y x) two).0 in
    let new = new_name program known x one in
    record { no_array = new.1; no_int = new.0; from_fine = three.1; to_fine = four.1 }

-- the facts that the types guarantee for a cut
pub record CutKept (known : Known) (a : Name) (e : Expr) (l r : Name) : Type 0 where
  pub array : is_array known a ≡ true
  pub at_fine : is_fine known e ≡ true
  pub left : is_int known l ≡ false
  pub right : is_int known r ≡ false

pub cut_kept : (program : Program) (known : Known) (a : Name) (e : Expr) (l r : Name) → is_cut program known a e l r ≡ true → CutKept known a e l r
cut_kept program known a e l r h =
    let four = (and_parts _ (not (same_name l r)) h).0 in
    let three = and_parts _ (is_new program known r) four in
    let two = and_parts _ (is_new program known l) three.0 in
    let one = and_parts (is_writable known a) (is_fine known e) two.0 in
    record { array = writable_array known a one.0; at_fine = one.1; left = (new_name program known l two.1).0; right = (new_name program known r three.1).0 }

-- all three agree in a cut, including its two parts
pub cut_agrees : {c : Surroundings} {ints arrays : List Name} {known : Known} {locals : Locals} → Agree c ints arrays known locals → (a : Name) (e : Expr) (l r : Name) → CutKept known a e l r →
    Agree c ints ((arrays ++ l ∷ []) ++ r ∷ []) ((r, name_kind.Array) ∷ (l, name_kind.Array) ∷ known) (with_array r (with_array l locals))
cut_agrees {known = known} agree a e l r cut = agree_array (agree_array agree l cut.left) r (still (same_name r l) cut.right)
  where
    still : (q : Bool) → is_int known r ≡ false → (if q then false else is_int known r) ≡ false
    still true h = refl
    still false h = h

-- the facts that the test of lowerable programs guarantees for a loop
pub record LoopKept (c : Surroundings) (ints arrays : List Name) (x : Name) (from to : Expr) (taken over : List Name) (b : Block) : Type 0 where
  pub from_can : can_evaluate c from ≡ true
  pub to_can : can_evaluate c to ≡ true
  pub x_plain : is_plain x ≡ true
  pub x_free : is_among x taken ≡ false
  pub taken_differ : differ taken ≡ true
  pub over_differ : differ over ≡ true
  pub captures : can_capture c ints taken ≡ true
  pub slices : can_slice c arrays over ≡ true
  pub body : can_lower_all (inside c ints arrays x taken over) [] [] b ≡ true

pub loop_kept : (c : Surroundings) (ints arrays : List Name) (x y z : Name) (from to : Expr) (grain : ℕ) (over : List Name) (b : Block)
    → can_lower c ints arrays (For x y z from to grain over b) ≡ true →
    LoopKept c ints arrays x from to (captured x b) over b
loop_kept c ints arrays x y z from to grain over b can =
    let taken = captured x b in
    let one = and_parts (can_evaluate c from) _ can in
    let two = and_parts (can_evaluate c to) _ one.1 in
    let three = and_parts (nat_le 1 grain) _ two.1 in
    let four = and_parts (can_loop c ints arrays x taken over) _ three.1 in
    let five = and_parts (is_plain x) _ four.0 in
    let six = and_parts (not (is_among x (c.outer ++ ints))) _ five.1 in
    let seven = and_parts (not (is_among x taken)) _ six.1 in
    let eight = and_parts (differ taken) _ seven.1 in
    let nine = and_parts (differ over) _ eight.1 in
    let ten = and_parts (can_capture c ints taken) (can_slice c arrays over) nine.1 in
    record {
      from_can = one.0;
      to_can = two.0;
      x_plain = five.0;
      x_free = not_true _ seven.0;
      taken_differ = eight.0;
      over_differ = nine.0;
      captures = ten.0;
      slices = ten.1;
      body = four.1;
    }

-- the function of a loop takes its range
takes_range : (name : Name) (line : ℕ) (x : Name) (grain : ℕ) (ints over : List Name) (b : Block) → TakesRange (loop_function name line x grain ints over b) ints over
takes_range name line x grain ints over b = record {
  ints = ap (λ l. suc (suc (length l))) (loop_ints ints over);
  arrays = loop_arrays ints over;
  order = range_order ints over;
  unread = loop_unread ints over;
  gives = refl;
}

module _ (program : Program) (all : List Function) (calls : (f : Name) (g : Function) → called f program.functions ≡ Some g → CallFound all f g) where
  call_known : (c : Surroundings) (ints arrays : List Name) (known : Known) (locals : Locals) → Agree c ints arrays known locals
      → (target : Option Name) (f : Name) (es : List Expr) (o : Option Function) → called f program.functions ≡ o → is_call known target o es ≡ true →
      can_target c target ≡ true → can_pass_all c es ≡ true →
      (is_function f all ≡ true) × TargetKnown locals (function_named f all) target × ArgsKnown locals (function_named f all).params (lower_exprs c.over es)
  call_known c ints arrays known locals agree target f es None e typed can_t can_p = absurd cc
  call_known c ints arrays known locals agree target f es (Some g) e typed can_t can_p =
      let is = calls f g e in
      let one = (and_parts _ (not (same_name g.name main_name)) typed).0 in
      let two = and_parts (is_target known g target) (are_arguments known g.params es) one in (
        is.there,
        gives target is.gives (target_known agree g target two.0 can_t),
        subst (λ ps. ArgsKnown locals ps (lower_exprs c.over es)) (sym is.params) (args_known agree g.params es (arguments_fit known g.params es two.1) can_p),
      )
    where
      gives : (target : Option Name) → (function_named f all).gives_int ≡ g.gives_int → TargetKnown locals g target → TargetKnown locals (function_named f all) target
      gives None same h = tt
      gives (Some x) same h = (h.0, same ∙ h.1)

  mutual
    pub stmt_known : (given : List Name) (returns : Returns) (c : Surroundings) (ints arrays : List Name) (known : Known) (locals : Locals)
        → Agree c ints arrays known locals → Begins given locals.arrays → (line k : ℕ) (s : Stmt) →
        faults_in program returns known line s ≡ [] → can_lower c ints arrays s ≡ true → AllFound all (made_by line k s) → StmtKnown all given returns locals (lower_stmt c.over k s)
    stmt_known given returns c ints arrays known locals agree begins line k (Declare x e) typed can found =
        expr_known agree e (and_parts (is_fine known e) (is_new program known x) (kept _ line typed)).0 can
    stmt_known given returns c ints arrays known locals agree begins line k (DeclareArray x e) typed can found =
        (expr_known agree e (and_parts (is_fine known e) (is_new program known x) (kept _ line typed)).0 can, begins)
    stmt_known given returns c ints arrays known locals agree begins line k (Assign x e) typed can found =
        let t = and_parts (is_int known x) (is_fine known e) (kept _ line typed) in
        let g = and_parts (can_write c x) (can_evaluate c e) can in
        (write_there agree x t.0 g.0, expr_known agree e t.1 g.1)
    stmt_known given returns c ints arrays known locals agree begins line k (AssignElement a i e) typed can found =
        let t = and_parts _ (is_fine known e) (kept _ line typed) in
        let u = and_parts (is_writable known a) (is_fine known i) t.0 in
        let g = and_parts _ (can_evaluate c e) can in
        let spot = spot_known agree a i (writable_array known a u.0) g.0 (λ h. expr_known agree i u.1 h) in
        (spot.0, spot.1, expr_known agree e t.1 g.1)
    stmt_known given returns c ints arrays known locals agree begins line k (Reduce how s e) typed can found =
        expr_known agree e (and_parts (is_reducer program how s) (is_fine known e) (kept _ line typed)).1 can
    stmt_known given returns c ints arrays known locals agree begins line k (Call kind site target f es) typed can found =
        let one = and_parts (is_plain f) _ can in
        let two = and_parts (length es == length (function_named f c.functions).params) _ one.1 in
        let three = and_parts (can_target c target) (can_pass_all c es) two.1 in
        call_known c ints arrays known locals agree target f es (called f program.functions) refl (kept _ line typed) three.0 three.1
    stmt_known given returns c ints arrays known locals agree begins line k (Start kind f es) typed can found = absurd cc
    stmt_known given returns c ints arrays known locals agree begins line k (Begin f from to captured' over') typed can found = absurd cc
    stmt_known given returns c ints arrays known locals agree begins line k Sync typed can found = tt
    stmt_known given returns c ints arrays known locals agree begins line k (If e b) typed can found =
        let g = and_parts (can_evaluate c e) (can_lower_all c ints arrays b) can in
        let test = unless (is_fine known e) line in
        let inner = faults_in_block program returns known b in (
          expr_known agree e (kept (is_fine known e) line (left_none test inner typed)) g.0,
          block_known given returns c ints arrays known locals agree begins k b (right_none test inner typed) g.1 found,
        )
    stmt_known given returns c ints arrays known locals agree begins line k (IfElse e b d) typed can found =
        let g = and_parts (can_evaluate c e) _ can in
        let h = and_parts (can_lower_all c ints arrays b) (can_lower_all c ints arrays d) g.1 in
        let test = unless (is_fine known e) line in
        let first = faults_in_block program returns known b in
        let second = faults_in_block program returns known d in
        let branches = right_none test (first ++ second) typed in
        let made = made_in k b in
        let made' = made_in (k + loop_count_in b) d in (
          expr_known agree e (kept (is_fine known e) line (left_none test (first ++ second) typed)) g.0,
          block_known given returns c ints arrays known locals agree begins k b (left_none first second branches) h.0 (found_first all made made' found),
          block_known given returns c ints arrays known locals agree begins (k + loop_count_in b) d (right_none first second branches) h.1 (found_second all made made' found),
        )
    stmt_known given returns c ints arrays known locals agree begins line k (While e b) typed can found =
        let g = and_parts (can_evaluate c e) (can_lower_all c ints arrays b) can in
        let test = unless (is_fine known e) line in
        let inner = faults_in_block program returns known b in (
          expr_known agree e (kept (is_fine known e) line (left_none test inner typed)) g.0,
          block_known given returns c ints arrays known locals agree begins k b (right_none test inner typed) g.1 found,
          no_half_in c ints arrays c.over k b g.1,
        )
    stmt_known given returns c ints arrays known locals agree begins line k (For x y z from to grain over b) typed can found =
        let name = loop_name (k + loop_count_in b) in
        let taken = captured x b in
        let g = loop_function name line x grain taken over (lower_block over k b) in
        let here : Found all g = (found_second all (made_in k b) (g ∷ []) found).0 in
        let keeps = loop_kept c ints arrays x y z from to grain over b can in
        let head = head_kept program known x y z from to grain over (kept _ line (left_none (unless _ line) (faults_in_block program Nowhere ((x, name_kind.Integer) ∷ known) b) typed)) in (
          here.there,
          subst (λ q. TakesRange q taken over) (sym here.is) (takes_range name line x grain taken over (lower_block over k b)),
          expr_known agree from head.from_fine keeps.from_can,
          expr_known agree to head.to_fine keeps.to_can,
          captured_known agree taken keeps.captures,
          sliced_known agree over keeps.slices,
          keeps.over_differ,
        )
    stmt_known given returns c ints arrays known locals agree begins line k (Scope b) typed can found =
        block_known given Nowhere c ints arrays known locals agree begins k b typed can found
    stmt_known given returns c ints arrays known locals agree begins line k (Cut a e l r b) typed can found =
        let inner = (arrays ++ l ∷ []) ++ r ∷ [] in
        let known' = (r, name_kind.Array) ∷ (l, name_kind.Array) ∷ known in
        let test = unless (is_cut program known a e l r) line in
        let cut = cut_kept program known a e l r (kept (is_cut program known a e l r) line (left_none test (faults_in_block program Nowhere known' b) typed)) in
        let one = and_parts (can_evaluate c e) _ can in
        let two = and_parts (is_local c a) _ one.1 in
        let three = and_parts (is_local c l) _ two.1 in
        let four = and_parts (is_local c r) _ three.1 in
        let five = and_parts (not (is_among l arrays)) _ four.1 in
        let six = and_parts (not (is_among r arrays)) _ five.1 in
        let seven = and_parts (not (same_name r l)) (can_lower_all c ints inner b) six.1 in
        let left_new = not_there_alone agree l (not_true _ five.0) three.0 in
        let right_new = not_there_alone agree r (not_true _ six.0) four.0 in
        let locals' = with_array l locals in (
          local_there agree a cut.array two.0,
          expr_known agree e cut.at_fine one.0,
          left_new,
          none_among r locals.arrays (l ∷ []) right_new (past r l [] (not_true _ seven.0) refl),
          begins,
          block_known given Nowhere c ints inner known' (with_array r locals') (cut_agrees agree a e l r cut) (begins_array given locals' r (begins_array given locals l begins)) k b
              (right_none test (faults_in_block program Nowhere known' b) typed) seven.1 found,
        )
    stmt_known given returns c ints arrays known locals agree begins line k (Region tag b) typed can found =
        block_known given Nowhere c ints arrays known locals agree begins k b typed can found
    stmt_known given returns c ints arrays known locals agree begins line k (Print e) typed can found = expr_known agree e (kept (is_fine known e) line typed) can
    stmt_known given returns c ints arrays known locals agree begins line k (Return None) typed can found = (return_known agree returns None (kept _ line typed) (λ d q. absurd cc), begins)
    stmt_known given returns c ints arrays known locals agree begins line k (Return (Some e)) typed can found =
        (return_known agree returns (Some e) (kept _ line typed) (λ d q. same d q (and_parts c.returns (can_evaluate c e) can).1), begins)
      where
        same : (d : Expr) → Some e ≡ Some d → can_evaluate c e ≡ true → can_evaluate c d ≡ true
        same d q h = let is : e ≡ d = cc in ap (can_evaluate c) (sym is) ∙ h

    pub block_known : (given : List Name) (returns : Returns) (c : Surroundings) (ints arrays : List Name) (known : Known) (locals : Locals)
        → Agree c ints arrays known locals → Begins given locals.arrays → (k : ℕ) (b : Block) →
        faults_in_block program returns known b ≡ [] → can_lower_all c ints arrays b ≡ true → AllFound all (made_in k b) → BlockKnown all given returns locals (lower_block c.over k b)
    block_known given returns c ints arrays known locals agree begins k End typed can found = tt
    block_known given returns c ints arrays known locals agree begins k (Then line s b) typed can found =
        let here = faults_in program returns known line s in
        let last = unless (not (surely_returns s) || ends_block b) line in
        let behind = faults_in_block program returns (declares s known) b in
        let typed_here = left_none here (last ++ behind) typed in
        let two = and_parts (can_lower c ints arrays s) (can_lower_all c (ints ++ new_integers s) (arrays ++ new_arrays s) b) can in (
          stmt_known given returns c ints arrays known locals agree begins line k s typed_here two.0 (found_first all (made_by line k s) (made_in (k + loop_count s) b) found),
          subst (λ l. BlockKnown all given returns l (lower_block c.over (k + loop_count s) b)) (sym (same_after c.over k locals s))
              (block_known given returns c (ints ++ new_integers s) (arrays ++ new_arrays s) (declares s known) (locals_after locals s)
              (agree_after program returns line c ints arrays known locals s typed_here agree)
              (begins_next given locals s begins) (k + loop_count s) b (right_none last behind (right_none here (last ++ behind) typed)) two.1
              (found_second all (made_by line k s) (made_in (k + loop_count s) b) found)),
        )
