-- The weights of paths while codes are read.
use Rattle.std.specs.Prelude.{ℕ, ◌+◌, ◌-◌, ◌^◌, ◌≡◌, max, min, Bool, List, [], ◌∷◌, ◌++◌, Some}
use Rattle.cw_model.specs.declared.burden.Burden.{Burden}
use Rattle.cw_model.specs.Burdens.{at_child, at_rest}
use Rattle.cw_greedy.specs.declared.code.Code.{Code}
use Rattle.cw_greedy.specs.Jumping.{StrandBlock, Last, Fork}
use Rattle.cw_greedy_schedule.specs.declared.weights.Spawn.{Spawn}
use Rattle.cw_greedy_schedule.specs.declared.weights.Ways.{Ways}
use Rattle.cw_greedy_schedule.specs.Reading.{Frame, InChild, InRest, joined, read}

-- the weight of the heaviest path through a block, with the charge at each fork that it goes through
abbrev pub path_of : (burden : Burden) → StrandBlock → ℕ
path_of burden (Last k) = k
path_of burden (Fork k child rest after) =
    k + (max (at_child burden + path_of burden child) (at_rest burden + path_of burden rest) + path_of burden after)

-- a weight as it is counted: at most the largest number of 64 bits
abbrev pub counted : ℕ → ℕ
counted n = min n (2 ^ 64 - 1)

-- the weight of a path after a join: what was before the spawn, and the heavier of the paths through child and continuation
abbrev pub after_join : Burden → (before child rest : ℕ) → ℕ
after_join burden before child rest =
    counted (before + max (counted (at_child burden + child)) (counted (at_rest burden + rest)))

-- the record of a spawn with these weights
abbrev pub spawn : (before child : ℕ) → Bool → Spawn
spawn before child first = record { before = before; child = child; first = first }

-- the record of an open spawn
abbrev pub spawn_of : (burden : Burden) → Frame → Spawn
spawn_of burden (InChild first before) = spawn (counted (path_of burden before)) 0 first
spawn_of burden (InRest first before child) = spawn (counted (path_of burden before)) (counted (path_of burden child)) first

-- the records of the open spawns
abbrev pub spawns_of : (burden : Burden) → List Frame → List Spawn
spawns_of burden [] = []
spawns_of burden (frame ∷ frames) = spawns_of burden frames ++ spawn_of burden frame ∷ []

-- the record of the paths through open spawns and through a block that has begun
pub record Weighs (burden : Burden) (frames : List Frame) (block : StrandBlock) (w : Ways) : Type 0 where
  pub path : w.path ≡ counted (path_of burden block)
  pub spawns : w.spawns.items ≡ spawns_of burden frames

-- after the remaining codes, the paths will be the paths of this block
pub record WillWeigh (burden : Burden) (block : StrandBlock) (codes : List Code) (w : Ways) : Type 0 where
  pub frames : List Frame
  pub begun : StrandBlock
  pub weighs : Weighs burden frames begun w
  pub reads : read codes frames begun ≡ Some block

-- the last sync block is joined, which leaves these open spawns and this block
pub record WillJoin (burden : Burden) (end : List Frame × StrandBlock) (w : Ways) : Type 0 where
  pub frames : List Frame
  pub begun : StrandBlock
  pub weighs : Weighs burden frames begun w
  pub joins : joined frames begun ≡ Some end
