-- After a statement that surely returns nothing is held, and such a statement is in no inner sync block of a function.
use Rattle.std.proofs.Common.{◌≡◌, ℕ, true, false, not, ◌||◌, [], Some, None, refl, ap, ◌∙◌}
use Rattle.std.proofs.Math.Bool.{and-false}
use Rattle.cw_facts.specs.Tests.{first_false, first_true, second_true}
use Rattle.cw_model.specs.Syntax.{Program, Stmt, Declare, DeclareArray, Assign, AssignElement, Reduce, Call, Start, Begin, Sync}
use Rattle.cw_model.specs.Syntax.{If, IfElse, While, For, Scope, Cut, Region, Print, Return, Block, End, Then}
use Rattle.cw_model.specs.Lines.{unless}
use Rattle.cw_model.specs.Typing.{Known, Nowhere, is_fine, declares, surely_returns, block_returns, ends_block, faults_in, faults_in_block}
use Rattle.cw_model.specs.lemmas.Kept.{left_none, right_none}
use Rattle.cw_tree.specs.Resolved.{Locals, Lists}
use Rattle.cw_tree.specs.Resolved as spec
use Rattle.cw_own.specs.Sets.{Row}
use Rattle.cw_own.specs.Taken.{Restrictions, no_restrictions, either_restrictions, restrictions_within, after, after_all, known_after}
use Rattle.cw_own.proofs.Keeping.{same_held}

pub none_known : (known : Row) → restrictions_within known no_restrictions ≡ no_restrictions
none_known known = same_held (restrictions_within known no_restrictions) no_restrictions (λ k. and-false (known.ints k)) (λ k. and-false (known.arrays k)) (λ k. and-false (known.arrays k))

mutual
  pub none_after : (lists : Lists) (locals : Locals) (known : Row) (here : Restrictions) (s : Stmt) → surely_returns s ≡ true → after known (spec.resolved_stmt lists locals s) here ≡ no_restrictions
  none_after lists locals known here (Return e) h = refl
  none_after lists locals known here (IfElse e b c) h =
      ap (λ r. either_restrictions (restrictions_within known r) (restrictions_within known (after_all known (spec.resolved_block lists locals c) here)))
      (none_after_all lists locals known here b (first_true (block_returns b) (block_returns c) h))
      ∙ ap (λ r. either_restrictions (restrictions_within known no_restrictions) (restrictions_within known r)) (none_after_all lists locals known here c (second_true (block_returns b) (block_returns c) h))
      ∙ ap (λ r. either_restrictions r r) (none_known known)
  none_after lists locals known here (Declare x e) h = cc
  none_after lists locals known here (DeclareArray x e) h = cc
  none_after lists locals known here (Assign x e) h = cc
  none_after lists locals known here (AssignElement x i e) h = cc
  none_after lists locals known here (Reduce how x e) h = cc
  none_after lists locals known here (Call kind site target f es) h = cc
  none_after lists locals known here (Start kind f es) h = cc
  none_after lists locals known here (Begin f from to captured over) h = cc
  none_after lists locals known here Sync h = cc
  none_after lists locals known here (If e c) h = cc
  none_after lists locals known here (While e c) h = cc
  none_after lists locals known here (For x y z from to grain over c) h = cc
  none_after lists locals known here (Scope c) h = cc
  none_after lists locals known here (Cut a e l r c) h = cc
  none_after lists locals known here (Region tag c) h = cc
  none_after lists locals known here (Print e) h = cc

  pub none_after_all : (lists : Lists) (locals : Locals) (known : Row) (here : Restrictions) (b : Block) → block_returns b ≡ true → after_all known (spec.resolved_block lists locals b) here ≡ no_restrictions
  none_after_all lists locals known here End h = cc
  none_after_all lists locals known here (Then line s End) h = none_after lists locals known here s h
  none_after_all lists locals known here (Then line s (Then line' s' b)) h =
      none_after_all lists (spec.locals_after locals s) (known_after known (spec.resolved_stmt lists locals s)) (after known (spec.resolved_stmt lists locals s) here) (Then line' s' b) h

mutual
  pub not_returning : (program : Program) (known : Known) (line : ℕ) (s : Stmt) → faults_in program Nowhere known line s ≡ [] → surely_returns s ≡ false
  not_returning program known line (Return None) h = cc
  not_returning program known line (Return (Some e)) h = cc
  not_returning program known line (IfElse e b c) h =
      first_false (block_returns b) (block_returns c)
      (no_return program known b (left_none (faults_in_block program Nowhere known b) (faults_in_block program Nowhere known c) (right_none (unless (is_fine known e) line) _ h)))
  not_returning program known line (Declare x e) h = refl
  not_returning program known line (DeclareArray x e) h = refl
  not_returning program known line (Assign x e) h = refl
  not_returning program known line (AssignElement x i e) h = refl
  not_returning program known line (Reduce how x e) h = refl
  not_returning program known line (Call kind site target f es) h = refl
  not_returning program known line (Start kind f es) h = refl
  not_returning program known line (Begin f from to captured over) h = refl
  not_returning program known line Sync h = refl
  not_returning program known line (If e c) h = refl
  not_returning program known line (While e c) h = refl
  not_returning program known line (For x y z from to grain over c) h = refl
  not_returning program known line (Scope c) h = refl
  not_returning program known line (Cut a e l r c) h = refl
  not_returning program known line (Region tag c) h = refl
  not_returning program known line (Print e) h = refl

  pub no_return : (program : Program) (known : Known) (b : Block) → faults_in_block program Nowhere known b ≡ [] → block_returns b ≡ false
  no_return program known End h = refl
  no_return program known (Then line s End) h = not_returning program known line s (left_none (faults_in program Nowhere known line s) _ h)
  no_return program known (Then line s (Then line' s' b)) h =
      no_return program (declares s known) (Then line' s' b)
      (right_none (unless (not (surely_returns s) || ends_block (Then line' s' b)) line) _ (right_none (faults_in program Nowhere known line s) _ h))
