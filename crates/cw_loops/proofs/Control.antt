-- Branches, iterations, scopes and regions, given the behaviour of their blocks.
use Rattle.std.proofs.Common.{◌≡◌, ℕ, zero, suc, ◌-◌, ◌≤◌, true, ℤ, List, arith, refl}
use Rattle.cw_model.specs.Ints.{fits, is_zero}
use Rattle.cw_model.specs.Trees.{Series, Marked, Execution}
use Rattle.cw_model.specs.TreeLaws.{in_mark}
use Rattle.cw_model.specs.Syntax.{Name, Expr, If, IfElse, While, Scope, Region, Block, Function}
use Rattle.cw_model.specs.Frames.{Frame}
use Rattle.cw_model.specs.Expressions.{evaluate}
use Rattle.cw_model.specs.Outcome.{Outcome, then_do, Piece, ◌>>=◌, pay, pay_for}
use Rattle.cw_model.specs.Meaning.{Completion, Normal, onward, going, scoped, Calls, turns, run, run_all}
use Rattle.cw_loops.specs.Lowered.{lower_expr}
use Rattle.cw_loops.specs.Lowerable.{Surroundings, can_evaluate}
use Rattle.cw_loops.proofs.Alike.{Alike, both_over, Keeps, series_keeps, alike_one, alike_pay, alike_then, alike_weaken, as_whole, same_series, no_event}
use Rattle.cw_loops.proofs.Fitting.{kept_same, evaluate_fits}
use Rattle.cw_loops.proofs.Worlds.{World, Rel, related, evaluate_same, can_fit}
use Rattle.cw_loops.proofs.Statements.{Out, goes, returns, OutAll, alike_done, value_then}
use Rattle.cw_loops.proofs.Blocks.{scoped_alike, out_before, onward_then, alike_if}

pub region_keeps : (tag : Name) → Keeps (λ t. Series (Marked (Execution tag) t))
region_keeps tag = record { keeps = λ t u r. same_series (in_mark (Execution tag) r) no_event }

module _ (c : Surroundings) (fo go : List (Name × ℤ)) (Slot : (fa ga : List (Name × List ℤ)) → Type 0) (w : World c fo go Slot) (ints arrays : List Name) where
  abbrev Out' : Frame → Completion → Completion → Type 0
  Out' = Out c fo go Slot ints arrays

  -- a block behaves in the same way from any related frames
  abbrev pub BlockAlike : (limit : ℕ) → (piece piece' : Frame → Piece Completion) → Type 0
  BlockAlike limit piece piece' = (f g : Frame) → Rel c fo go Slot ints arrays f g → (left : ℕ) → left ≤ limit → Alike (OutAll c fo go Slot ints arrays f) left (piece f left) (piece' g left)

  pub in_scope : (limit : ℕ) (piece piece' : Frame → Piece Completion) → BlockAlike limit piece piece' → (f g : Frame) → Rel c fo go Slot ints arrays f g → (left : ℕ) → left ≤ limit →
      Alike (Out' f) left (scoped f (piece f) left) (scoped g (piece' g) left)
  in_scope limit piece piece' h f g (related loc fa ga la slot ki ka good) left le =
      scoped_alike c fo go Slot w ints arrays loc fa ga la slot ki ka good (piece f) (piece' g) left (h f g (related loc fa ga la slot ki ka good) left le)

  pub test_then : {S : Completion → Completion → Type 0} (e : Expr) → can_evaluate c e ≡ true → (f g : Frame) → Rel c fo go Slot ints arrays f g
      → (line left : ℕ) (go1 go2 : ℤ → ℕ → Outcome Completion) →
      ((v : ℤ) (l : ℕ) → fits v ≡ true → l ≤ left → Alike S l (go1 v l) (go2 v l))
      → Alike S left (then_do (pay_for (evaluate e f) line left) go1) (then_do (pay_for (evaluate (lower_expr c.over e) g) line left) go2)
  test_then e can f g (related loc fa ga la slot ki ka good) line left go1 go2 h =
      value_then (evaluate e f) (evaluate (lower_expr c.over e) g) line left (evaluate_same c fo go Slot w e can loc fa ga la slot) (evaluate_fits e f good (can_fit c e can)) go1 go2 h

  pub stays : (f g : Frame) → Rel c fo go Slot ints arrays f g → Out' f (Normal f) (Normal g)
  stays f g rel = goes rel (kept_same f.arrays f.arrays refl)

  pub if_alike : (e : Expr) (b b' : Block) (limit line : ℕ) (fs fs' : List Function) (calls calls' : Calls) → can_evaluate c e ≡ true →
      BlockAlike limit (run_all b fs calls) (run_all b' fs' calls') → (f g : Frame) → Rel c fo go Slot ints arrays f g → (left : ℕ) → left ≤ limit →
      Alike (Out' f) left (run (If e b) line fs calls f left) (run (If (lower_expr c.over e) b') line fs' calls' g left)
  if_alike e b b' limit line fs fs' calls calls' can h f g rel left le =
      test_then e can f g rel line left _ _ (λ v l fit le'. alike_pay 1 l _ _ (λ enough.
      alike_if (is_zero v) (going f) (scoped f (run_all b fs calls f)) (going g) (scoped g (run_all b' fs' calls' g)) (l - 1)
      (alike_done (l - 1) (stays f g rel)) (in_scope limit (run_all b fs calls) (run_all b' fs' calls') h f g rel (l - 1) (omega arith))))

  -- one more instruction after a normal completion
  pub and_pay : (f : Frame) {way way' : Completion} (l : ℕ) → Out' f way way' →
      Alike (Out' f) l (onward way (λ frame'. ◌>>=◌ (pay 1) (λ _. going frame')) l) (onward way' (λ frame'. ◌>>=◌ (pay 1) (λ _. going frame')) l)
  and_pay f l out = onward_then (Out' f) l out (λ frame'. ◌>>=◌ (pay 1) (λ _. going frame')) (λ frame'. ◌>>=◌ (pay 1) (λ _. going frame')) (λ v f' r fit good kept. returns r fit good kept)
      (λ f' g' rel kept. alike_pay 1 l _ _ (λ enough. alike_done (l - 1) (goes rel kept)))

  pub if_else_alike : (e : Expr) (b b' d d' : Block) (limit line : ℕ) (fs fs' : List Function) (calls calls' : Calls) → can_evaluate c e ≡ true →
      BlockAlike limit (run_all b fs calls) (run_all b' fs' calls') → BlockAlike limit (run_all d fs calls) (run_all d' fs' calls') → (f g : Frame)
      → Rel c fo go Slot ints arrays f g → (left : ℕ) → left ≤ limit →
      Alike (Out' f) left (run (IfElse e b d) line fs calls f left) (run (IfElse (lower_expr c.over e) b' d') line fs' calls' g left)
  if_else_alike e b b' d d' limit line fs fs' calls calls' can h k f g rel left le =
      test_then e can f g rel line left _ _ (λ v l fit le'. alike_pay 1 l _ _ (λ enough.
      alike_if (is_zero v) (scoped f (run_all d fs calls f)) (◌>>=◌ (scoped f (run_all b fs calls f)) (λ way. onward way (λ frame'. ◌>>=◌ (pay 1) (λ _. going frame'))))
      (scoped g (run_all d' fs' calls' g)) (◌>>=◌ (scoped g (run_all b' fs' calls' g)) (λ way. onward way (λ frame'. ◌>>=◌ (pay 1) (λ _. going frame')))) (l - 1)
      (in_scope limit (run_all d fs calls) (run_all d' fs' calls') k f g rel (l - 1) (omega arith))
      (alike_then (in_scope limit (run_all b fs calls) (run_all b' fs' calls') h f g rel (l - 1) (omega arith)) (λ way way' l' out le''. and_pay f l' out))))

  pub turns_alike : (bound : ℕ) (e : Expr) (limit line : ℕ) (piece piece' : Frame → Piece Completion) → can_evaluate c e ≡ true → BlockAlike limit piece piece' →
      (f g : Frame) → Rel c fo go Slot ints arrays f g → (left : ℕ) → left ≤ limit →
      Alike (Out' f) left (turns bound (evaluate e) line (λ x. scoped x (piece x)) f left) (turns bound (evaluate (lower_expr c.over e)) line (λ x. scoped x (piece' x)) g left)
  turns_alike zero e limit line piece piece' can h f g rel left le = both_over
  turns_alike (suc bound) e limit line piece piece' can h f g rel left le =
      test_then e can f g rel line left _ _ (λ v l fit le'. alike_pay 1 l _ _ (λ enough.
      alike_if (is_zero v) (going f) (◌>>=◌ (scoped f (piece f)) (λ way. onward way (λ frame'. ◌>>=◌ (pay 1) (λ _. turns bound (evaluate e) line (λ x. scoped x (piece x)) frame'))))
      (going g) (◌>>=◌ (scoped g (piece' g)) (λ way. onward way (λ frame'. ◌>>=◌ (pay 1) (λ _. turns bound (evaluate (lower_expr c.over e)) line (λ x. scoped x (piece' x)) frame')))) (l - 1)
      (alike_done (l - 1) (stays f g rel))
      (alike_then (in_scope limit piece piece' h f g rel (l - 1) (omega arith)) (λ way way' l' out le''.
      onward_then (Out' f) l' out (λ frame'. ◌>>=◌ (pay 1) (λ _. turns bound (evaluate e) line (λ x. scoped x (piece x)) frame'))
      (λ frame'. ◌>>=◌ (pay 1) (λ _. turns bound (evaluate (lower_expr c.over e)) line (λ x. scoped x (piece' x)) frame'))
      (λ v' f' r fit' good kept. returns r fit' good kept)
      (λ f' g' rel' kept. alike_pay 1 l' _ _ (λ enough'. alike_weaken (λ a b out'. out_before f f' kept out') (omega arith)
      (turns_alike bound e limit line piece piece' can h f' g' rel' (l' - 1) (omega arith))))))))

  pub while_alike : (e : Expr) (b b' : Block) (limit line : ℕ) (fs fs' : List Function) (calls calls' : Calls) → can_evaluate c e ≡ true →
      BlockAlike limit (run_all b fs calls) (run_all b' fs' calls') → (f g : Frame) → Rel c fo go Slot ints arrays f g → (left : ℕ) → left ≤ limit →
      Alike (Out' f) left (run (While e b) line fs calls f left) (run (While (lower_expr c.over e) b') line fs' calls' g left)
  while_alike e b b' limit line fs fs' calls calls' can h f g rel left le = turns_alike (suc left) e limit line (run_all b fs calls) (run_all b' fs' calls') can h f g rel left le

  pub scope_alike : (b b' : Block) (limit line : ℕ) (fs fs' : List Function) (calls calls' : Calls) →
      BlockAlike limit (run_all b fs calls) (run_all b' fs' calls') → (f g : Frame) → Rel c fo go Slot ints arrays f g → (left : ℕ) → left ≤ limit →
      Alike (Out' f) left (run (Scope b) line fs calls f left) (run (Scope b') line fs' calls' g left)
  scope_alike b b' limit line fs fs' calls calls' h f g rel left le =
      alike_pay 1 left _ _ (λ enough. alike_then (alike_one Series series_keeps
      (as_whole (in_scope limit (run_all b fs calls) (run_all b' fs' calls') h f g rel (left - 1) (omega arith)))) (λ way way' l' out le''. and_pay f l' out))

  pub region_alike : (tag : Name) (b b' : Block) (limit line : ℕ) (fs fs' : List Function) (calls calls' : Calls) →
      BlockAlike limit (run_all b fs calls) (run_all b' fs' calls') → (f g : Frame) → Rel c fo go Slot ints arrays f g → (left : ℕ) → left ≤ limit →
      Alike (Out' f) left (run (Region tag b) line fs calls f left) (run (Region tag b') line fs' calls' g left)
  region_alike tag b b' limit line fs fs' calls calls' h f g rel left le =
      alike_pay 1 left _ _ (λ enough. alike_then (alike_one (λ t. Series (Marked (Execution tag) t)) (region_keeps tag)
      (as_whole (in_scope limit (run_all b fs calls) (run_all b' fs' calls') h f g rel (left - 1) (omega arith)))) (λ way way' l' out le''. and_pay f l' out))
