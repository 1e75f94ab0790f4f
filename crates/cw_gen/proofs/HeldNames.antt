-- The names held after a statement of a lowered program: as in a source, and a spawned call on one half takes its
-- arrays.
use Rattle.std.specs.Prelude.{ℕ, ◌+◌, Bool, true, false, ◌&&◌, List, ◌∷◌, ◌++◌}
use Rattle.cw_model.specs.declared.syntax.CallKind.TheVariants.{Spawned}
use Rattle.cw_model.specs.Syntax.{Stmt, Call, Start, Sync, If, IfElse, While, For, Scope, Cut, Region, Return, Block, End, Then, Function}
use Rattle.cw_model.specs.Typing.{block_returns}
use Rattle.cw_model.specs.Ownership.{CutOf, Taken, freed, cut_ended, without, own_names, where_it_goes_on, target_names, given, lent, taken_by, frozen_by}

abbrev mutual
  -- the locals held after a statement at this depth of sync blocks
  pub held_after : List Function → ℕ → Stmt → Taken → Taken
  held_after fs depth (Call Spawned site target f es) taken = frozen_by depth (lent fs f es) (taken_by depth (target_names target ++ given fs f es) taken)
  held_after fs depth (Start Spawned f es) taken = taken_by depth (given fs f es) taken
  held_after fs depth Sync taken = freed depth taken
  held_after fs depth (Return e) taken = freed depth taken
  held_after fs depth (If e b) taken = where_it_goes_on (block_returns b) (without (own_names b) (held_after_all fs depth b taken)) ++ taken
  held_after fs depth (IfElse e b c) taken =
      where_it_goes_on (block_returns b) (without (own_names b) (held_after_all fs depth b taken))
      ++ where_it_goes_on (block_returns c) (without (own_names c) (held_after_all fs depth c taken))
  held_after fs depth (While e b) taken = taken ++ where_it_goes_on (block_returns b) (without (own_names b) (held_after_all fs depth b taken))
  held_after fs depth (Scope b) taken = freed (depth + 1) (without (own_names b) (held_after_all fs (depth + 1) b taken))
  held_after fs depth (Region tag b) taken = freed (depth + 1) (without (own_names b) (held_after_all fs (depth + 1) b taken))
  held_after fs depth (Cut a e l r b) taken =
      cut_ended a (freed (depth + 1) (without (l ∷ r ∷ own_names b) (held_after_all fs (depth + 1) b ((a, CutOf) ∷ taken))))
  -- no lowered program contains a `For`
  held_after fs depth _ taken = taken

  -- the locals held after the statements of a block
  pub held_after_all : List Function → ℕ → Block → Taken → Taken
  held_after_all fs depth End taken = taken
  held_after_all fs depth (Then line s b) taken = held_after_all fs depth b (held_after fs depth s taken)

abbrev mutual
  -- the statement contains no call on a half and no `For`
  pub has_no_half : Stmt → Bool
  has_no_half (Start kind f es) = false
  has_no_half (For x y z from to grain over b) = false
  has_no_half (If e b) = has_no_half_in b
  has_no_half (IfElse e b c) = has_no_half_in b && has_no_half_in c
  has_no_half (While e b) = has_no_half_in b
  has_no_half (Scope b) = has_no_half_in b
  has_no_half (Cut a e l r b) = has_no_half_in b
  has_no_half (Region tag b) = has_no_half_in b
  has_no_half _ = true

  pub has_no_half_in : Block → Bool
  has_no_half_in End = true
  has_no_half_in (Then line s b) = has_no_half s && has_no_half_in b

-- the part of a set that one iteration of a `while` leaves, without the names of its body
abbrev pub held_turn : List Function → ℕ → Block → Taken → Taken
held_turn fs depth b set = where_it_goes_on (block_returns b) (without (own_names b) (held_after_all fs depth b set))
