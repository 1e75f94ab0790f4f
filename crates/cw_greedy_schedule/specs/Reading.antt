-- The block that a list of codes represents.
use Rattle.std.specs.Prelude.{ℕ, ◌+◌, Bool, true, false, List, [], ◌∷◌, Option, Some, None}
use Rattle.cw_greedy.specs.declared.code.Code.{Code}
use Rattle.cw_greedy.specs.declared.code.Code.TheVariants.{Instructions, Spawned, Ended, Joined, Called}
use Rattle.cw_greedy.specs.Jumping.{StrandBlock, Last, Fork}

-- a spawn whose join has not been read: in its child, with the block before the spawn; or in its continuation, with
-- that block and the child
pub data Frame : Type 0 where
  InChild : (first : Bool) → (before : StrandBlock) → Frame
  InRest : (first : Bool) → (before child : StrandBlock) → Frame

-- adds instructions at the end of a block
abbrev pub add_at_end : StrandBlock → ℕ → StrandBlock
add_at_end (Last k) n = Last (k + n)
add_at_end (Fork k c r a) n = Fork k c r (add_at_end a n)

-- adds a fork at the end of a block
abbrev pub fork_at_end : StrandBlock → (child rest : StrandBlock) → StrandBlock
fork_at_end (Last k) child rest = Fork k child rest (Last 0)
fork_at_end (Fork k c r a) child rest = Fork k c r (fork_at_end a child rest)

-- a join: ends the spawns of its sync block, the last one first
abbrev pub joined : List Frame → StrandBlock → Option (List Frame × StrandBlock)
joined [] rest = None
joined (InChild first before ∷ frames) rest = None
joined (InRest true before child ∷ frames) rest = Some (frames, fork_at_end before child rest)
joined (InRest false before child ∷ frames) rest = joined frames (fork_at_end before child rest)

-- continues after a join, if it succeeded
abbrev pub after_join : (List Frame → StrandBlock → Option StrandBlock) → Option (List Frame × StrandBlock) → Option StrandBlock
after_join f None = None
after_join f (Some state) = f state.0 state.1

-- the block that codes make after open spawns and a block that has begun, or `None` if they represent no block
abbrev pub read : List Code → List Frame → StrandBlock → Option StrandBlock
read [] [] block = Some block
read [] (frame ∷ frames) block = None
read (Instructions n ∷ codes) frames block = read codes frames (add_at_end block n)
read (Called ∷ codes) frames block = read codes frames block
read (Spawned first ∷ codes) frames block = read codes (InChild first block ∷ frames) (Last 0)
read (Ended ∷ codes) [] block = None
read (Ended ∷ codes) (InChild first before ∷ frames) block = read codes (InRest first before block ∷ frames) (Last 0)
read (Ended ∷ codes) (InRest first before child ∷ frames) block = None
read (Joined ∷ codes) frames block = after_join (λ more later. read codes more later) (joined frames block)

-- the number of instructions in a list of codes
abbrev pub instructions : List Code → ℕ
instructions [] = 0
instructions (Instructions n ∷ codes) = n + instructions codes
instructions (Spawned first ∷ codes) = instructions codes
instructions (Ended ∷ codes) = instructions codes
instructions (Joined ∷ codes) = instructions codes
instructions (Called ∷ codes) = instructions codes

-- the number of children that a list of codes spawns
abbrev pub spawned : List Code → ℕ
spawned [] = 0
spawned (Instructions n ∷ codes) = spawned codes
spawned (Spawned first ∷ codes) = 1 + spawned codes
spawned (Ended ∷ codes) = spawned codes
spawned (Joined ∷ codes) = spawned codes
spawned (Called ∷ codes) = spawned codes
