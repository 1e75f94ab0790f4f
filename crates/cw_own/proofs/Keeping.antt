-- The locals held after a statement are those held after it if nothing was held before, and a part of those held
-- before.
use Rattle.std.proofs.Common.{◌≡◌, ℕ, Bool, true, false, not, ◌&&◌, ◌||◌, List, [], ◌∷◌, ◌==◌, Option, Some, None, refl, sym, ap, ◌∙◌}
use Rattle.std.proofs.Math.Bool.{and-true}
use Rattle.cw_model.specs.declared.syntax.CallKind.TheVariants.{Plain, Spawned}
use Rattle.cw_tree.specs.Resolved.{Use, Argument, Int, Array, Shared, Stmt, Declare, DeclareArray, Assign, AssignElement, Reduce, Call}
use Rattle.cw_tree.specs.Resolved.{Sync, If, IfElse, While, For, Scope, Cut, Region, Print, Return, Block, End, Then}
use Rattle.cw_own.specs.Sets.{Slots, with_slot, both, Row}
use Rattle.cw_own.specs.Taken.{Restrictions, no_restrictions, taking_int, taking_array, freezing, either_restrictions, restrictions_within, with_target, with_arrays, known_after, after, after_all, gain, cuts_after, cuts_after_all}
use Rattle.cw_own.proofs.Words.{two_steps, two_ways, turn_adds, masked, or_none_of}

pub same_rows : (r s : Row) → ((k : ℕ) → r.ints k ≡ s.ints k) → ((k : ℕ) → r.arrays k ≡ s.arrays k) → r ≡ s
same_rows r s f g = λ i. record { ints = λ k. f k i; arrays = λ k. g k i }

pub same_held : (h g : Restrictions) → ((k : ℕ) → h.ints k ≡ g.ints k) → ((k : ℕ) → h.arrays k ≡ g.arrays k) → ((k : ℕ) → h.frozen k ≡ g.frozen k) → h ≡ g
same_held h g p q r = λ i. record { ints = λ k. p k i; arrays = λ k. q k i; frozen = λ k. r k i }

abbrev every : Restrictions
every = record { ints = λ k. true; arrays = λ k. true; frozen = λ k. true }

-- the intersection of what two hold
abbrev both_restrictions : Restrictions → Restrictions → Restrictions
both_restrictions h g = record { ints = both h.ints g.ints; arrays = both h.arrays g.arrays; frozen = both h.frozen g.frozen }

-- a step holds what it holds without anything held before, and keeps a part of what was held before
pub record Acts (f : Restrictions → Restrictions) : Type 0 where
  pub kept : Restrictions
  pub law : (here : Restrictions) → f here ≡ either_restrictions (f no_restrictions) (both_restrictions here kept)

all_stays : Acts (λ here. here)
all_stays = record {
  kept = every;
  law = λ here. same_held here (either_restrictions no_restrictions (both_restrictions here every)) (λ k. sym (and-true (here.ints k))) (λ k. sym (and-true (here.arrays k))) (λ k. sym (and-true (here.frozen k)));
}

none_stays : (r : Restrictions) → Acts (λ here. r)
none_stays r = record {
  kept = no_restrictions;
  law = λ here. same_held r (either_restrictions r (both_restrictions here no_restrictions)) (λ k. or_none_of (r.ints k) (here.ints k))
      (λ k. or_none_of (r.arrays k) (here.arrays k)) (λ k. or_none_of (r.frozen k) (here.frozen k));
}

pub one_after_another : (f g : Restrictions → Restrictions) → Acts f → Acts g → Acts (λ here. g (f here))
one_after_another f g a b = record {
  kept = both_restrictions a.kept b.kept;
  law = λ here.
      b.law (f here)
      ∙ ap (λ r. either_restrictions (g no_restrictions) (both_restrictions r b.kept)) (a.law here)
      ∙ same_held
      (either_restrictions (g no_restrictions) (both_restrictions (either_restrictions (f no_restrictions) (both_restrictions here a.kept)) b.kept))
      (either_restrictions (either_restrictions (g no_restrictions) (both_restrictions (f no_restrictions) b.kept)) (both_restrictions here (both_restrictions a.kept b.kept)))
      (λ k. two_steps ((g no_restrictions).ints k) ((f no_restrictions).ints k) (here.ints k) (a.kept.ints k) (b.kept.ints k))
      (λ k. two_steps ((g no_restrictions).arrays k) ((f no_restrictions).arrays k) (here.arrays k) (a.kept.arrays k) (b.kept.arrays k))
      (λ k. two_steps ((g no_restrictions).frozen k) ((f no_restrictions).frozen k) (here.frozen k) (a.kept.frozen k) (b.kept.frozen k))
      ∙ ap (λ r. either_restrictions r (both_restrictions here (both_restrictions a.kept b.kept))) (sym (b.law (f no_restrictions)));
}

pub either_way : (f g : Restrictions → Restrictions) → Acts f → Acts g → Acts (λ here. either_restrictions (f here) (g here))
either_way f g a b = record {
  kept = either_restrictions a.kept b.kept;
  law = λ here.
      ap (λ r. either_restrictions r (g here)) (a.law here)
      ∙ ap (λ r. either_restrictions (either_restrictions (f no_restrictions) (both_restrictions here a.kept)) r) (b.law here)
      ∙ same_held
      (either_restrictions (either_restrictions (f no_restrictions) (both_restrictions here a.kept)) (either_restrictions (g no_restrictions) (both_restrictions here b.kept)))
      (either_restrictions (either_restrictions (f no_restrictions) (g no_restrictions)) (both_restrictions here (either_restrictions a.kept b.kept)))
      (λ k. two_ways ((f no_restrictions).ints k) ((g no_restrictions).ints k) (here.ints k) (a.kept.ints k) (b.kept.ints k))
      (λ k. two_ways ((f no_restrictions).arrays k) ((g no_restrictions).arrays k) (here.arrays k) (a.kept.arrays k) (b.kept.arrays k))
      (λ k. two_ways ((f no_restrictions).frozen k) ((g no_restrictions).frozen k) (here.frozen k) (a.kept.frozen k) (b.kept.frozen k));
}

pub within : (known : Row) (f : Restrictions → Restrictions) → Acts f → Acts (λ here. restrictions_within known (f here))
within known f a = record {
  kept = restrictions_within known a.kept;
  law = λ here.
      ap (restrictions_within known) (a.law here)
      ∙ same_held
      (restrictions_within known (either_restrictions (f no_restrictions) (both_restrictions here a.kept)))
      (either_restrictions (restrictions_within known (f no_restrictions)) (both_restrictions here (restrictions_within known a.kept)))
      (λ k. masked (known.ints k) ((f no_restrictions).ints k) (here.ints k) (a.kept.ints k))
      (λ k. masked (known.arrays k) ((f no_restrictions).arrays k) (here.arrays k) (a.kept.arrays k))
      (λ k. masked (known.arrays k) ((f no_restrictions).frozen k) (here.frozen k) (a.kept.frozen k));
}

one_slot_more : (a h : Bool) → (a || h) ≡ ((a || false) || (h && true))
one_slot_more true h = refl
one_slot_more false true = refl
one_slot_more false false = refl

int_more : (slot : ℕ) → Acts (taking_int slot)
int_more slot = record {
  kept = every;
  law = λ here. same_held (taking_int slot here) (either_restrictions (taking_int slot no_restrictions) (both_restrictions here every))
      (λ k. one_slot_more (k == slot) (here.ints k)) (λ k. sym (and-true (here.arrays k))) (λ k. sym (and-true (here.frozen k)));
}

array_more : (slot : ℕ) → Acts (taking_array slot)
array_more slot = record {
  kept = every;
  law = λ here. same_held (taking_array slot here) (either_restrictions (taking_array slot no_restrictions) (both_restrictions here every))
      (λ k. sym (and-true (here.ints k))) (λ k. one_slot_more (k == slot) (here.arrays k)) (λ k. sym (and-true (here.frozen k)));
}

frozen_more : (slot : ℕ) → Acts (freezing slot)
frozen_more slot = record {
  kept = every;
  law = λ here. same_held (freezing slot here) (either_restrictions (freezing slot no_restrictions) (both_restrictions here every))
      (λ k. sym (and-true (here.ints k))) (λ k. sym (and-true (here.arrays k))) (λ k. one_slot_more (k == slot) (here.frozen k));
}

target_acts : (target : Option Use) → Acts (with_target target)
target_acts None = all_stays
target_acts (Some u) = int_more u.slot

arrays_act : (es : List Argument) → Acts (with_arrays es)
arrays_act [] = all_stays
arrays_act (Int e ∷ es) = arrays_act es
arrays_act (Array u ∷ es) = one_after_another (taking_array u.slot) (with_arrays es) (array_more u.slot) (arrays_act es)
arrays_act (Shared u ∷ es) = one_after_another (freezing u.slot) (with_arrays es) (frozen_more u.slot) (arrays_act es)

mutual
  pub stmt_acts : (known : Row) (s : Stmt) → Acts (after known s)
  stmt_acts known (Declare u e) = all_stays
  stmt_acts known (DeclareArray u e) = all_stays
  stmt_acts known (Assign u e) = all_stays
  stmt_acts known (AssignElement u i e) = all_stays
  stmt_acts known (Reduce how s e) = all_stays
  stmt_acts known (Call Plain site target f es) = all_stays
  stmt_acts known (Call Spawned site target f es) = one_after_another (with_target target) (with_arrays es) (target_acts target) (arrays_act es)
  stmt_acts known Sync = none_stays no_restrictions
  stmt_acts known (If e b) = either_way (λ here. restrictions_within known (after_all known b here)) (λ here. here) (within known (after_all known b) (block_acts known b)) all_stays
  stmt_acts known (IfElse e b c) =
      either_way (λ here. restrictions_within known (after_all known b here)) (λ here. restrictions_within known (after_all known c here))
      (within known (after_all known b) (block_acts known b)) (within known (after_all known c) (block_acts known c))
  stmt_acts known (While e b) = either_way (λ here. here) (λ here. gain known b) all_stays (none_stays (gain known b))
  stmt_acts known (For head b) = all_stays
  stmt_acts known (Scope b) = all_stays
  stmt_acts known (Cut parts b) = all_stays
  stmt_acts known (Region tag b) = all_stays
  stmt_acts known (Print e) = all_stays
  stmt_acts known (Return e) = none_stays no_restrictions

  pub block_acts : (known : Row) (b : Block) → Acts (after_all known b)
  block_acts known End = all_stays
  block_acts known (Then line s b) = one_after_another (after known s) (after_all (known_after known s) b) (stmt_acts known s) (block_acts (known_after known s) b)

-- any number of iterations hold what was held before and what one iteration holds that begins with nothing held
pub turn_law : (known : Row) (b : Block) (here : Restrictions) →
    either_restrictions here (restrictions_within known (after_all known b here)) ≡ either_restrictions here (gain known b)
turn_law known b here =
    let a = within known (after_all known b) (block_acts known b) in
    ap (either_restrictions here) (a.law here)
    ∙ same_held (either_restrictions here (either_restrictions (gain known b) (both_restrictions here a.kept))) (either_restrictions here (gain known b))
    (λ k. turn_adds ((gain known b).ints k) (here.ints k) (a.kept.ints k))
    (λ k. turn_adds ((gain known b).arrays k) (here.arrays k) (a.kept.arrays k))
    (λ k. turn_adds ((gain known b).frozen k) (here.frozen k) (a.kept.frozen k))

-- the end of a cut only frees arrays
implied : (a b : Bool) → (a ≡ true → b ≡ true) → (a || b) ≡ b
implied true b h = sym (h refl)
implied false b h = refl

one_of : (a b c : Bool) → (a ≡ true → c ≡ true) → (b ≡ true → c ≡ true) → (a || b) ≡ true → c ≡ true
one_of true b c f g h = f refl
one_of false b c f g h = g h

but_one : (a b c : Bool) → (b ≡ true → (a || c) ≡ true) → (not a && b) ≡ true → c ≡ true
but_one true b c f h = cc
but_one false b c f h = f h

mutual
  pub no_more : (s : Stmt) (cuts : Slots) (k : ℕ) → cuts_after s cuts k ≡ true → cuts k ≡ true
  no_more (Declare u e) cuts k h = h
  no_more (DeclareArray u e) cuts k h = h
  no_more (Assign u e) cuts k h = h
  no_more (AssignElement u i e) cuts k h = h
  no_more (Reduce how s e) cuts k h = h
  no_more (Call kind site target f es) cuts k h = h
  no_more Sync cuts k h = h
  no_more (If e b) cuts k h = h
  no_more (IfElse e b c) cuts k h = one_of (cuts_after_all b cuts k) (cuts_after_all c cuts k) (cuts k) (no_more_all b cuts k) (no_more_all c cuts k) h
  no_more (While e b) cuts k h = h
  no_more (For head b) cuts k h = no_more_all b cuts k h
  no_more (Scope b) cuts k h = no_more_all b cuts k h
  no_more (Cut parts b) cuts k h =
      but_one (k == parts.array.slot) (cuts_after_all b (with_slot parts.array.slot cuts) k) (cuts k) (no_more_all b (with_slot parts.array.slot cuts) k) h
  no_more (Region tag b) cuts k h = no_more_all b cuts k h
  no_more (Print e) cuts k h = h
  no_more (Return e) cuts k h = h

  pub no_more_all : (b : Block) (cuts : Slots) (k : ℕ) → cuts_after_all b cuts k ≡ true → cuts k ≡ true
  no_more_all End cuts k h = h
  no_more_all (Then line s b) cuts k h = no_more s cuts k (no_more_all b (cuts_after s cuts) k h)

-- after a block no array is cut that was not cut before it
pub cuts_stay : (b : Block) (cuts : Slots) (k : ℕ) → (cuts_after_all b cuts k || cuts k) ≡ cuts k
cuts_stay b cuts k = implied (cuts_after_all b cuts k) (cuts k) (no_more_all b cuts k)
