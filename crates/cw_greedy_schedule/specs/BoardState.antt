-- The representation of a state of the schedule by the board and the flags of joins, and the strands that become
-- ready when a strand ends.
use Rattle.std.specs.Prelude.{ℕ, ◌+◌, ◌≡◌, ◌≢◌, ◌<◌, ◌≤◌, Bool, true, false, Option, Some, None}
use Rattle.cw_greedy.specs.Jumping.{StrandBlock, Last, Fork, size, Going, Ready, Before, Both, Child, Rest, After}
use Rattle.cw_greedy_schedule.specs.declared.plan.Begins.{Begins}
use Rattle.cw_greedy_schedule.specs.declared.plan.Begins.TheVariants as w
use Rattle.cw_greedy_schedule.specs.declared.plan.Strand.{Strand}
use Rattle.cw_greedy_schedule.specs.Planned.{strand}

-- no strand is ready in this range, and no join has one side done
abbrev pub Quiet : (s : ℕ → Option ℕ) (f : ℕ → Bool) (from count : ℕ) → Type 0
Quiet s f from count = (k : ℕ) → from ≤ k → k < from + count → (s k ≡ None) × (f k ≡ false)

-- no strand is ready in this range, and the first join has one side done
pub record Half (s : ℕ → Option ℕ) (f : ℕ → Bool) (from count : ℕ) : Type 0 where
  pub flag : f from ≡ true
  pub idle : (k : ℕ) → from ≤ k → k < from + count → s k ≡ None
  pub others : (k : ℕ) → from < k → k < from + count → f k ≡ false

-- the slots and the flags represent a state of a block whose first strand has this index
pub data Shows (s : ℕ → Option ℕ) (f : ℕ → Bool) : ℕ → StrandBlock → Going → Type 0 where
  ready : (o j k : ℕ) → s o ≡ Some k → f o ≡ false → Shows s f o (Last j) (Ready k)
  before : (o j k : ℕ) (c r a : StrandBlock) → s o ≡ Some k → f o ≡ false → Quiet s f (o + 1) (size c + (size r + size a))
      → Shows s f o (Fork j c r a) (Before k c r a)
  both : (o j : ℕ) (c r a : StrandBlock) (x y : Going) → Quiet s f o 1 → Shows s f (o + 1) c x →
      Shows s f (o + 1 + size c) r y
      → Quiet s f (o + 1 + size c + size r) (size a) → Shows s f o (Fork j c r a) (Both x y a)
  child : (o j : ℕ) (c r a : StrandBlock) (x : Going) → Quiet s f o 1 → Shows s f (o + 1) c x →
      Quiet s f (o + 1 + size c) (size r)
      → Half s f (o + 1 + size c + size r) (size a) → Shows s f o (Fork j c r a) (Child x (size r) a)
  rest : (o j : ℕ) (c r a : StrandBlock) (y : Going) → Quiet s f o (1 + size c) → Shows s f (o + 1 + size c) r y
      → Half s f (o + 1 + size c + size r) (size a) → Shows s f o (Fork j c r a) (Rest (size c) y a)
  after : (o j : ℕ) (c r a : StrandBlock) (x : Going) → Quiet s f o (1 + (size c + size r)) →
      Shows s f (o + 1 + size c + size r) a x
      → Shows s f o (Fork j c r a) (After (1 + (size c + size r)) x)

-- the strands of a block, by index
abbrev pub PlanAt : (ℕ → Strand) → ℕ → Begins → StrandBlock → Type 0
PlanAt p o begins (Last k) = p o ≡ strand k begins
PlanAt p o begins (Fork k c r a) =
    (p o ≡ strand k begins)
    × (PlanAt p (o + 1) (w.Child (size c)) c
    × (PlanAt p (o + 1 + size c) (w.Continuation (size r)) r × PlanAt p (o + 1 + size c + size r) w.Sync a))

-- the join that waits for the strand before this one
abbrev pub join_of : Begins → (next : ℕ) → Option ℕ
join_of w.Start next = None
join_of (w.Child later) next = None
join_of (w.Continuation later) next = Some (next + later)
join_of w.Sync next = Some next

-- the child and the continuation of a spawn become ready
pub record Forks (p : ℕ → Strand) (s : ℕ → Option ℕ) (f : ℕ → Bool) (s' : ℕ → Option ℕ) (f' : ℕ → Bool) (i later : ℕ) :
    Type 0 where
  pub gone : s' i ≡ None
  pub child : s' (i + 1) ≡ Some (p (i + 1)).weight
  pub rest : s' (i + 1 + later) ≡ Some (p (i + 1 + later)).weight
  pub others : (k : ℕ) → k ≢ i → k ≢ i + 1 → k ≢ i + 1 + later → s' k ≡ s k
  pub flags : (k : ℕ) → f' k ≡ f k

-- one side of a join is done
pub record Arrives (s : ℕ → Option ℕ) (f : ℕ → Bool) (s' : ℕ → Option ℕ) (f' : ℕ → Bool) (i join : ℕ) : Type 0 where
  pub first : f join ≡ false
  pub gone : s' i ≡ None
  pub others : (k : ℕ) → k ≢ i → s' k ≡ s k
  pub flag : f' join ≡ true
  pub flags : (k : ℕ) → k ≢ join → f' k ≡ f k

-- the other side of a join is done too, and the strand after the join becomes ready
pub record Joins (p : ℕ → Strand) (s : ℕ → Option ℕ) (f : ℕ → Bool) (s' : ℕ → Option ℕ) (f' : ℕ → Bool) (i join : ℕ) :
    Type 0 where
  pub second : f join ≡ true
  pub gone : s' i ≡ None
  pub joined : s' join ≡ Some (p join).weight
  pub others : (k : ℕ) → k ≢ i → k ≢ join → s' k ≡ s k
  pub flag : f' join ≡ false
  pub flags : (k : ℕ) → k ≢ join → f' k ≡ f k

-- a strand is removed, and the strands that waited only for it become ready; the next strand's start determines which
-- these are
pub data Releases (p : ℕ → Strand) (s : ℕ → Option ℕ) (f : ℕ → Bool) (s' : ℕ → Option ℕ) (f' : ℕ → Bool) (i : ℕ) : Type
    0 where
  forks : (later : ℕ) → (p (i + 1)).begins ≡ w.Child later → Forks p s f s' f' i later → Releases p s f s' f' i
  arrives : (join : ℕ) → join_of (p (i + 1)).begins (i + 1) ≡ Some join → Arrives s f s' f' i join →
      Releases p s f s' f' i
  joins : (join : ℕ) → join_of (p (i + 1)).begins (i + 1) ≡ Some join → Joins p s f s' f' i join →
      Releases p s f s' f' i
