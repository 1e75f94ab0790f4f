-- The invariant at the start of the body of a loop, and the known names after a statement.
use Rattle.std.proofs.Common.{◌≡◌, true, false, List, [], ◌∷◌, ◌++◌, refl, sym, ◌∙◌, ap, append_assoc, append-nil}
use Rattle.std.specs.Prelude.{not}
use Rattle.std.proofs.lemmas.Bool.{and_parts}
use Rattle.cw_facts.specs.Tests.{not_true}
use Rattle.cw_model.specs.Syntax.{Name, Expr, Number, Variable, Element, Length, Negative, Not, Binary, Stmt, Declare, DeclareArray, Assign}
use Rattle.cw_model.specs.Syntax.{AssignElement, Reduce, Call, Start, Begin, Sync, If, IfElse, While, For, Scope, Cut, Region, Print, Return}
use Rattle.cw_model.specs.Names.{is_among, differ}
use Rattle.cw_model.specs.lemmas.Names.{same_are}
use Rattle.cw_tree.specs.Resolved.{Locals, with_int, with_array, locals_after}
use Rattle.cw_loops.specs.Lowered.{is_plain}
use Rattle.cw_loops.specs.Lowerable.{Surroundings, can_read, is_local, is_variable, can_evaluate, new_integers, new_arrays, can_capture, can_slice, can_loop}
use Rattle.cw_loops.specs.lemmas.Capturing.{each_captured, each_sliced}

-- locals appended to other locals
abbrev pub joined : (o q ints arrays : List Name) → Locals
joined o q ints arrays = record { ints = o ++ ints; arrays = q ++ arrays }

-- the locals of the source, if these locals of the iteration are known
abbrev pub at : Surroundings → (ints arrays : List Name) → Locals
at c ints arrays = joined c.outer c.arrays ints arrays

-- the locals of the generated function, if these locals of the iteration are known
abbrev pub lowered_at : Surroundings → (ints arrays : List Name) → Locals
lowered_at c ints arrays = joined c.given c.over ints arrays

-- the conditions on a loop, name by name
pub record Entered (c : Surroundings) (ints arrays : List Name) (x : Name) (taken over : List Name) : Type 0 where
  pub plain : is_plain x ≡ true
  pub new : is_among x (c.outer ++ ints) ≡ false
  pub not_taken : is_among x taken ≡ false
  pub taken_differ : differ taken ≡ true
  pub over_differ : differ over ≡ true
  pub taken_plain : (v : Name) → is_among v taken ≡ true → is_plain v ≡ true
  pub taken_read : (v : Name) → is_among v taken ≡ true → can_read c v ≡ true
  pub taken_known : (v : Name) → is_among v taken ≡ true → is_among v (c.outer ++ ints) ≡ true
  pub over_plain : (a : Name) → is_among a over ≡ true → is_plain a ≡ true
  pub over_local : (a : Name) → is_among a over ≡ true → is_local c a ≡ true
  pub over_known : (a : Name) → is_among a over ≡ true → is_among a arrays ≡ true

pub entered : (c : Surroundings) (ints arrays : List Name) (x : Name) (taken over : List Name) → can_loop c ints arrays x taken over ≡ true → Entered c ints arrays x taken over
entered c ints arrays x taken over h =
    let one = and_parts (is_plain x) _ h in
    let two = and_parts (not (is_among x (c.outer ++ ints))) _ one.1 in
    let three = and_parts (not (is_among x taken)) _ two.1 in
    let four = and_parts (differ taken) _ three.1 in
    let five = and_parts (differ over) _ four.1 in
    let six = and_parts (can_capture c ints taken) (can_slice c arrays over) five.1 in
    record {
      plain = one.0;
      new = not_true (is_among x (c.outer ++ ints)) two.0;
      not_taken = not_true (is_among x taken) three.0;
      taken_differ = four.0;
      over_differ = five.0;
      taken_plain = λ v o. (each_captured c ints taken six.0 v o).0;
      taken_read = λ v o. (each_captured c ints taken six.0 v o).1;
      taken_known = λ v o. (each_captured c ints taken six.0 v o).2;
      over_plain = λ a o. (each_sliced c arrays over six.1 a o).0;
      over_local = λ a o. (each_sliced c arrays over six.1 a o).1;
      over_known = λ a o. (each_sliced c arrays over six.1 a o).2;
    }

-- the loop's variable may be read on its own
pub variable_can : (c : Surroundings) (e : Expr) → can_read c c.variable ≡ true → is_variable c e ≡ true → can_evaluate c e ≡ true
variable_can c (Number n) r h = absurd cc
variable_can c (Variable y) r h = ap (can_read c) (same_are y c.variable h) ∙ r
variable_can c (Element a e) r h = absurd cc
variable_can c (Length a) r h = absurd cc
variable_can c (Negative e) r h = absurd cc
variable_can c (Not e) r h = absurd cc
variable_can c (Binary operator d e) r h = absurd cc

-- the known names after a statement

pub two_lists : (ints ints' arrays arrays' : List Name) → ints ≡ ints' → arrays ≡ arrays' → joined [] [] ints arrays ≡ joined [] [] ints' arrays'
two_lists ints ints' arrays arrays' e f = ap (λ w. joined [] [] w arrays) e ∙ ap (λ w. joined [] [] ints' w) f

pub after_int : (o q ints arrays : List Name) (x : Name) → with_int x (joined o q ints arrays) ≡ joined o q (ints ++ x ∷ []) arrays
after_int o q ints arrays x = two_lists ((o ++ ints) ++ x ∷ []) (o ++ (ints ++ x ∷ [])) (q ++ arrays) (q ++ arrays) (append_assoc o ints (x ∷ [])) refl

pub after_array : (o q ints arrays : List Name) (a : Name) → with_array a (joined o q ints arrays) ≡ joined o q ints (arrays ++ a ∷ [])
after_array o q ints arrays a = two_lists (o ++ ints) (o ++ ints) ((q ++ arrays) ++ a ∷ []) (q ++ (arrays ++ a ∷ [])) refl (append_assoc q arrays (a ∷ []))

pub after_none : (o q ints arrays : List Name) → joined o q ints arrays ≡ joined o q (ints ++ []) (arrays ++ [])
after_none o q ints arrays =
    two_lists (o ++ ints) (o ++ (ints ++ [])) (q ++ arrays) (q ++ (arrays ++ [])) (ap (λ w. o ++ w) (sym (append-nil ints))) (ap (λ w. q ++ w) (sym (append-nil arrays)))

pub after_stmt : (o q ints arrays : List Name) (s : Stmt) → locals_after (joined o q ints arrays) s ≡ joined o q (ints ++ new_integers s) (arrays ++ new_arrays s)
after_stmt o q ints arrays (Declare x e) = after_int o q ints arrays x ∙ ap (joined o q (ints ++ x ∷ [])) (sym (append-nil arrays))
after_stmt o q ints arrays (DeclareArray a e) = after_array o q ints arrays a ∙ ap (λ w. joined o q w (arrays ++ a ∷ [])) (sym (append-nil ints))
after_stmt o q ints arrays (Assign x e) = after_none o q ints arrays
after_stmt o q ints arrays (AssignElement a i e) = after_none o q ints arrays
after_stmt o q ints arrays (Reduce how s e) = after_none o q ints arrays
after_stmt o q ints arrays (Call kind site target f es) = after_none o q ints arrays
after_stmt o q ints arrays (Start kind f es) = after_none o q ints arrays
after_stmt o q ints arrays (Begin f from to captured over) = after_none o q ints arrays
after_stmt o q ints arrays Sync = after_none o q ints arrays
after_stmt o q ints arrays (If e b) = after_none o q ints arrays
after_stmt o q ints arrays (IfElse e b d) = after_none o q ints arrays
after_stmt o q ints arrays (While e b) = after_none o q ints arrays
after_stmt o q ints arrays (For x y z from to grain over b) = after_none o q ints arrays
after_stmt o q ints arrays (Scope b) = after_none o q ints arrays
after_stmt o q ints arrays (Cut a e l r b) = after_none o q ints arrays
after_stmt o q ints arrays (Region tag b) = after_none o q ints arrays
after_stmt o q ints arrays (Print e) = after_none o q ints arrays
after_stmt o q ints arrays (Return e) = after_none o q ints arrays
