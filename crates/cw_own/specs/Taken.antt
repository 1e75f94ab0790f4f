-- The locals that are taken or frozen, by slots. A spawn holds locals for its innermost sync block, and the end of this
-- block frees them. So what spawns outside of a sync block hold does not change inside of it.
use Rattle.std.specs.Prelude.{◌≡◌, ℕ, length, drop, Bool, ◌||◌, List, [], ◌∷◌, ◌++◌, ◌+◌, if◌then◌else◌, Option, Some}
use Rattle.std.specs.Prelude.{None}
use Rattle.cw_model.specs.declared.syntax.CallKind.{CallKind}
use Rattle.cw_model.specs.declared.syntax.CallKind.TheVariants.{Plain, Spawned}
use Rattle.cw_tree.specs.Resolved.{Use, Parts, Argument, Int, Array, Shared, Stmt, Declare, DeclareArray, Call, Sync}
use Rattle.cw_tree.specs.Resolved.{If}
use Rattle.cw_tree.specs.Resolved.{IfElse, While, For, Scope, Cut, Region, Return, Block, End, Then}
use Rattle.cw_model.specs.Syntax.{Param, is_array_param}
use Rattle.cw_own.specs.declared.restrictions.Restrictions as code_held
use Rattle.cw_own.specs.declared.taken.Taken as code
use Rattle.cw_own.specs.Sets.{Slots, no_slot, with_slot, without_slot, either, both, slots_of, Row, with_int}
use Rattle.cw_own.specs.Sets.{with_array}

-- the locals that the spawns of a sync block took, and the arrays that they only read
pub record Restrictions : Type 0 where
  pub ints : Slots
  pub arrays : Slots
  pub frozen : Slots

-- nothing is held
abbrev pub no_restrictions : Restrictions
no_restrictions = record { ints = no_slot; arrays = no_slot; frozen = no_slot }

-- takes an integer
abbrev pub taking_int : ℕ → Restrictions → Restrictions
taking_int slot held = record { ints = with_slot slot held.ints; arrays = held.arrays; frozen = held.frozen }

-- takes an array
abbrev pub taking_array : ℕ → Restrictions → Restrictions
taking_array slot held = record { ints = held.ints; arrays = with_slot slot held.arrays; frozen = held.frozen }

-- freezes an array
abbrev pub freezing : ℕ → Restrictions → Restrictions
freezing slot held = record { ints = held.ints; arrays = held.arrays; frozen = with_slot slot held.frozen }

-- the union of two values
abbrev pub either_restrictions : Restrictions → Restrictions → Restrictions
either_restrictions h k = record {
  ints = either h.ints k.ints;
  arrays = either h.arrays k.arrays;
  frozen = either h.frozen k.frozen;
}

-- the part of these locals that is held
abbrev pub restrictions_within : (known : Row) → Restrictions → Restrictions
restrictions_within known h = record {
  ints = both known.ints h.ints;
  arrays = both known.arrays h.arrays;
  frozen = both known.arrays h.frozen;
}

-- the locals held by spawns outside the innermost sync block and inside it, and the arrays that are cut
pub record Taken : Type 0 where
  pub outer : Restrictions
  pub here : Restrictions
  pub cuts : Slots

-- nothing is held
abbrev pub nothing : Taken
nothing = record { outer = no_restrictions; here = no_restrictions; cuts = no_slot }

-- an integer is taken
abbrev pub int_taken : Taken → ℕ → Bool
int_taken taken slot = taken.outer.ints slot || taken.here.ints slot

-- an array is taken
abbrev pub array_taken : Taken → ℕ → Bool
array_taken taken slot = taken.outer.arrays slot || (taken.here.arrays slot || taken.cuts slot)

-- an array is taken or frozen
abbrev pub array_held : Taken → ℕ → Bool
array_held taken slot = array_taken taken slot || (taken.outer.frozen slot || taken.here.frozen slot)

-- the locals held at the start of a sync block
abbrev pub inside : Taken → Taken
inside taken = record { outer = either_restrictions taken.outer taken.here; here = no_restrictions; cuts = taken.cuts }

-- the locals held at the start of the block of a cut of this array
abbrev pub inside_cut : ℕ → Taken → Taken
inside_cut a taken =
    record { outer = either_restrictions taken.outer taken.here; here = no_restrictions; cuts = with_slot a taken.cuts }

-- the locals held after a join
abbrev pub joined : Taken → Taken
joined taken = record { outer = taken.outer; here = no_restrictions; cuts = taken.cuts }

-- the locals held after two branches: the known locals that either branch leaves held
abbrev pub after_branches : (known : Row) → (branch other : Taken) → Taken
after_branches known branch other = record {
  outer = branch.outer;
  here = either_restrictions (restrictions_within known branch.here) (restrictions_within known other.here);
  cuts = either branch.cuts other.cuts;
}

-- takes the integer that receives a result, if there is one
abbrev pub with_target : Option Use → Restrictions → Restrictions
with_target None held = held
with_target (Some u) held = taking_int u.slot held

-- takes the arrays that are given away, and freezes those that are only read
abbrev pub with_arrays : List Argument → Restrictions → Restrictions
with_arrays [] held = held
with_arrays (Int e ∷ es) held = with_arrays es held
with_arrays (Array u ∷ es) held = with_arrays es (taking_array u.slot held)
with_arrays (Shared u ∷ es) held = with_arrays es (freezing u.slot held)

-- a spawn takes its target and given arrays and freezes the arrays that it only reads; a plain call keeps none
abbrev pub taken_by_call : CallKind → Option Use → List Argument → Restrictions → Restrictions
taken_by_call Plain target es here = here
taken_by_call Spawned target es here = with_arrays es (with_target target here)

-- adds the two parts of a cut
abbrev pub with_parts : Parts → Row → Row
with_parts parts known = with_array parts.right.slot (with_array parts.left.slot known)

-- the known locals after a statement
abbrev pub known_after : Row → Stmt → Row
known_after known (Declare u e) = with_int u.slot known
known_after known (DeclareArray u e) = with_array u.slot known
known_after known _ = known

abbrev mutual
  -- the locals that the spawns of the innermost sync block hold after a statement, if these locals are known before it
  pub after : (known : Row) → Stmt → Restrictions → Restrictions
  after known (Call kind site target f es) here = taken_by_call kind target es here
  after known Sync here = no_restrictions
  after known (Return e) here = no_restrictions
  after known (If e b) here = either_restrictions (restrictions_within known (after_all known b here)) here
  after known (IfElse e b c) here =
      either_restrictions (restrictions_within known (after_all known b here)) (restrictions_within known (after_all known c here))
  -- the locals held before, and those that one iteration holds if it begins with nothing held
  after known (While e b) here = either_restrictions here (restrictions_within known (after_all known b no_restrictions))
  after known _ here = here

  -- the locals that the spawns of the innermost sync block hold after a block
  pub after_all : (known : Row) → Block → Restrictions → Restrictions
  after_all known End here = here
  after_all known (Then line s b) here = after_all (known_after known s) b (after known s here)

-- the locals that one iteration of a `while` holds if it begins with nothing held
abbrev pub gain : (known : Row) → Block → Restrictions
gain known b = restrictions_within known (after_all known b no_restrictions)

abbrev mutual
  -- the locals that one iteration of each `while` of a statement holds, in order, outer loops first
  pub turns : (known : Row) → Stmt → List Restrictions
  turns known (If e b) = turns_in known b
  turns known (IfElse e b c) = turns_in known b ++ turns_in known c
  turns known (While e b) = gain known b ∷ turns_in known b
  turns known (For head b) = turns_in (with_int head.variable.slot known) b
  turns known (Scope b) = turns_in known b
  turns known (Cut parts b) = turns_in (with_parts parts known) b
  turns known (Region tag b) = turns_in known b
  turns known _ = []

  -- the locals that one iteration of each `while` of a block holds, in order
  pub turns_in : (known : Row) → Block → List Restrictions
  turns_in known End = []
  turns_in known (Then line s b) = turns known s ++ turns_in (known_after known s) b

abbrev mutual
  -- the arrays that are cut after a statement; the end of a cut frees its array
  pub cuts_after : Stmt → Slots → Slots
  cuts_after (IfElse e b c) cuts = either (cuts_after_all b cuts) (cuts_after_all c cuts)
  cuts_after (For head b) cuts = cuts_after_all b cuts
  cuts_after (Scope b) cuts = cuts_after_all b cuts
  cuts_after (Cut parts b) cuts = without_slot parts.array.slot (cuts_after_all b (with_slot parts.array.slot cuts))
  cuts_after (Region tag b) cuts = cuts_after_all b cuts
  cuts_after _ cuts = cuts

  -- the arrays that are cut after a block
  pub cuts_after_all : Block → Slots → Slots
  cuts_after_all End cuts = cuts
  cuts_after_all (Then line s b) cuts = cuts_after_all b (cuts_after s cuts)

-- the locals held after a statement
abbrev pub taken_after : (known : Row) → Stmt → Taken → Taken
taken_after known s taken =
    record { outer = taken.outer; here = after known s taken.here; cuts = cuts_after s taken.cuts }

-- the locals held after a statement whose test and blocks see these locals as held
abbrev pub left_by : (known : Row) → Stmt → Taken → Taken
left_by known (While e b) seen = seen
left_by known s seen = taken_after known s seen

-- the locals that one iteration of each `while` in the inner blocks of a statement holds
abbrev pub turns_within : (known : Row) → Stmt → List Restrictions
turns_within known (While e b) = turns_in known b
turns_within known s = turns known s

-- the second list begins with the first
abbrev pub BeginWith : List Restrictions → List Restrictions → Type 0
BeginWith first rows = rows ≡ first ++ drop (length first) rows

-- the locals held after a block
abbrev pub taken_after_all : (known : Row) → Block → Taken → Taken
taken_after_all known b taken =
    record { outer = taken.outer; here = after_all known b taken.here; cuts = cuts_after_all b taken.cuts }

-- the known locals with these parameters, after this number of integers and arrays
abbrev pub with_params : (ints arrays : ℕ) → List Param → Row → Row
with_params ints arrays [] known = known
with_params ints arrays (p ∷ ps) known =
    if is_array_param p then with_params ints (arrays + 1) ps (with_array arrays known)
    else with_params (ints + 1) arrays ps (with_int ints known)

-- the abstraction of the locals that a value of the code holds
abbrev pub restrictions_of : code_held.Restrictions → Restrictions
restrictions_of h = record {
  ints = slots_of h.taken.ints.words;
  arrays = slots_of h.taken.arrays.words;
  frozen = slots_of h.frozen.words;
}

-- the abstraction of the held locals and of the cut arrays
abbrev pub taken_of : code.Taken → Taken
taken_of t = record { outer = restrictions_of t.outer; here = restrictions_of t.here; cuts = slots_of t.cuts.words }
