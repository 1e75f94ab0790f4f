-- In a lowered statement without a call on a half, the same names are held as in a source; so the iterations close.
use Rattle.std.proofs.Common.{◌≡◌, ℕ, ◌+◌, true, List, ◌∷◌, ◌++◌, refl, sym, ap, ◌∙◌, subst, Contains}
use Rattle.std.proofs.lemmas.Bool.{and_parts}
use Rattle.cw_model.specs.declared.syntax.CallKind.TheVariants.{Plain, Spawned}
use Rattle.cw_model.specs.Syntax.{Stmt, Call, Start, If, IfElse, While, For, Scope, Cut, Region, Block, End, Then, Function, Program}
use Rattle.cw_model.specs.Typing.{block_returns}
use Rattle.cw_model.specs.Ownership.{Taken, CutOf, freed, cut_ended, without, own_names, where_it_goes_on, taken_after, taken_after_all, IsLeastClosed}
use Rattle.cw_model.specs.WhileLaw.{one_turn, WhilesAreLeast}
use Rattle.cw_loops.specs.Lowered.{lowered}
use Rattle.cw_gen.proofs.HeldNames.{held_after, held_after_all, held_turn, has_no_half, has_no_half_in}
use Rattle.cw_gen.proofs.Texts.{TurnsClose}

mutual
  -- the names held after a statement are the names taken after it in a source
  pub held_same : (fs : List Function) (s : Stmt) (depth : ℕ) (taken : Taken) → has_no_half s ≡ true → held_after fs depth s taken ≡ taken_after fs depth s taken
  held_same fs (Call Plain site target f es) depth taken h = refl
  held_same fs (Call Spawned site target f es) depth taken h = refl
  held_same fs (Start kind f es) depth taken h = absurd cc
  held_same fs (For x y z from to grain over b) depth taken h = absurd cc
  held_same fs (If e b) depth taken h = ap (λ t. where_it_goes_on (block_returns b) (without (own_names b) t) ++ taken) (all_same fs b depth taken h)
  held_same fs (IfElse e b c) depth taken h =
      let p = and_parts (has_no_half_in b) (has_no_half_in c) h in
      ap (λ t. where_it_goes_on (block_returns b) (without (own_names b) t) ++ where_it_goes_on (block_returns c)
      (without (own_names c) (held_after_all fs depth c taken))) (all_same fs b depth taken p.0)
      ∙ ap (λ t. where_it_goes_on (block_returns b) (without (own_names b) (taken_after_all fs depth b taken)) ++ where_it_goes_on (block_returns c)
      (without (own_names c) t)) (all_same fs c depth taken p.1)
  held_same fs (While e b) depth taken h = ap (λ t. taken ++ where_it_goes_on (block_returns b) (without (own_names b) t)) (all_same fs b depth taken h)
  held_same fs (Scope b) depth taken h = ap (λ t. freed (depth + 1) (without (own_names b) t)) (all_same fs b (depth + 1) taken h)
  held_same fs (Region tag b) depth taken h = ap (λ t. freed (depth + 1) (without (own_names b) t)) (all_same fs b (depth + 1) taken h)
  held_same fs (Cut a e l r b) depth taken h = ap (λ t. cut_ended a (freed (depth + 1) (without (l ∷ r ∷ own_names b) t))) (all_same fs b (depth + 1) ((a, CutOf) ∷ taken) h)
  held_same fs _ depth taken h = refl

  -- the names held after a block are the names taken after it in a source
  pub all_same : (fs : List Function) (b : Block) (depth : ℕ) (taken : Taken) → has_no_half_in b ≡ true → held_after_all fs depth b taken ≡ taken_after_all fs depth b taken
  all_same fs End depth taken h = refl
  all_same fs (Then line s b) depth taken h =
      let p = and_parts (has_no_half s) (has_no_half_in b) h in
      all_same fs b depth (held_after fs depth s taken) p.1 ∙ ap (taken_after_all fs depth b) (held_same fs s depth taken p.0)

-- the least set of an iteration is the least set of an equal function
least_moved : (turn other : Taken → Taken) (before after after' : Taken) → ((set : Taken) → other set ≡ turn set) → after' ≡ after → IsLeastClosed turn before after → IsLeastClosed other before after'
least_moved turn other before after after' same e l = record {
  holds_before = λ t c. subst (λ s. Contains s t) (sym e) (l.holds_before t c);
  closed = λ t c. subst (λ s. Contains s t) (sym e) (l.closed t (subst (λ s. Contains s t) (same after' ∙ ap turn e) c));
  least = λ set h g t c. l.least set h (λ t' c'. g t' (subst (λ s. Contains s t') (sym (same set)) c')) t (subst (λ s. Contains s t) e c);
}

-- the iterations of a lowered program close
pub turns_close : (program : Program) → WhilesAreLeast → TurnsClose (lowered program).functions
turns_close program least level e b before h =
    let fs : List Function = (lowered program).functions in
    least_moved (one_turn fs level b) (held_turn fs level b) before (taken_after fs level (While e b) before) (held_after fs level (While e b) before)
    (λ set. ap (λ t. where_it_goes_on (block_returns b) (without (own_names b) t)) (all_same fs b level set h)) (held_same fs (While e b) level before h) (least fs level e b before)
