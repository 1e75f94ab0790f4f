-- The open blocks of a strand, with the instructions of one site.
use Rattle.std.specs.Prelude.{ℕ, ◌+◌, nat_lt, Bool, true, false, List, [], ◌∷◌, Option, Some, None}
use Rattle.cw_sites.specs.ChosenPaths.{Path, nowhere, plus, best}

-- an open block: the path up to the spawn of its longest child, this child, and, while a child runs, the path from
-- that spawn to the running child's spawn
pub record SeenBlock : Type 0 where
  pub base : Path
  pub longest : Option Path
  pub rest : Path

-- the path of the current strand, and the blocks that have spawned, the innermost first
pub record StrandPath : Type 0 where
  pub now : Path
  pub blocks : List SeenBlock

-- the paths at the start of a run
abbrev pub nothing_run : StrandPath
nothing_run = record { now = nowhere; blocks = [] }

-- the longest child, or the empty path if there is none
abbrev pub longest_path : Option Path → Path
longest_path None = nowhere
longest_path (Some l) = l

-- the sum of all paths of these blocks
abbrev pub sum_of : List SeenBlock → Path
sum_of [] = nowhere
sum_of (p ∷ ps) = plus (plus p.base (plus (longest_path p.longest) p.rest)) (sum_of ps)

-- the sum of all paths of a strand
abbrev pub whole : StrandPath → Path
whole t = plus t.now (sum_of t.blocks)

-- the first spawn of a block since its last join
abbrev pub begins : StrandPath → StrandPath
begins t = record { now = nowhere; blocks = record { base = t.now; longest = None; rest = nowhere } ∷ t.blocks }

-- a further spawn of a block
abbrev pub resting : Path → List SeenBlock → List SeenBlock
resting n [] = []
resting n (p ∷ ps) = record { base = p.base; longest = p.longest; rest = n } ∷ ps

-- a further spawn of the innermost block that has spawned
abbrev pub again : StrandPath → StrandPath
again t = record { now = nowhere; blocks = resting t.now t.blocks }

-- a spawn: the first of its block since the last join, or a further one
abbrev pub spawns : (first : Bool) → StrandPath → StrandPath
spawns true t = begins t
spawns false t = again t

-- the current child becomes the longest: the base is extended to its spawn
abbrev pub takes : (base rest child : Path) → List SeenBlock → StrandPath
takes base rest child ps =
    record { now = nowhere; blocks = record { base = plus base rest; longest = Some child; rest = nowhere } ∷ ps }

-- the current child does not become the longest: its path is dropped
abbrev pub keeps : (base longest rest : Path) → List SeenBlock → StrandPath
keeps base longest rest ps =
    record { now = rest; blocks = record { base = base; longest = Some longest; rest = nowhere } ∷ ps }

-- the current child becomes the longest if the test is true
abbrev pub chooses : Bool → (base longest rest child : Path) → List SeenBlock → StrandPath
chooses true base l rest child ps = takes base rest child ps
chooses false base l rest child ps = keeps base l rest ps

-- the current spawned child ended, in a block with these paths
abbrev pub ends_at : (base : Path) → Option Path → (rest child : Path) → List SeenBlock → StrandPath
ends_at base None rest child ps = takes base rest child ps
ends_at base (Some l) rest child ps = chooses (nat_lt l.weight (rest.weight + child.weight)) base l rest child ps

-- the current spawned child ended
abbrev pub ends : StrandPath → StrandPath
ends t = at t.now t.blocks
  where
    at : Path → List SeenBlock → StrandPath
    at n [] = record { now = n; blocks = [] }
    at n (p ∷ ps) = ends_at p.base p.longest p.rest n ps

-- the block joins
abbrev pub joins : StrandPath → StrandPath
joins t = at t.now t.blocks
  where
    at : Path → List SeenBlock → StrandPath
    at n [] = record { now = n; blocks = [] }
    at n (p ∷ ps) = record { now = plus p.base (best p.longest n); blocks = ps }

-- whether a child of this weight is heavier than the longest
abbrev pub is_longer : Option ℕ → ℕ → Bool
is_longer None w = true
is_longer (Some l) w = nat_lt l w

-- the strand continues after a child that is not the longest
abbrev pub goes_on : SeenBlock → List SeenBlock → StrandPath
goes_on p ps = record { now = p.rest; blocks = record { base = p.base; longest = p.longest; rest = nowhere } ∷ ps }

-- the current strand's path is extended by a path
abbrev pub extends_by : Path → StrandPath → StrandPath
extends_by p t = record { now = plus t.now p; blocks = t.blocks }

-- a spawned child with this path begins and ends
abbrev pub forks : (first : Bool) → (child : Path) → StrandPath → StrandPath
forks first child t = ends (extends_by child (spawns first t))

-- appends a piece of the current block without open parts: the paths of its block, and its current path
abbrev pub appends_block : (first : Bool) → (base : Path) → Option Path → (now : Path) → StrandPath → StrandPath
appends_block first base None now t = extends_by now (extends_by base t)
appends_block first base (Some l) now t = extends_by now (forks first l (extends_by base t))

-- appends a piece with this current path and these blocks
abbrev pub appends_at : (first : Bool) → (now : Path) → List SeenBlock → StrandPath → StrandPath
appends_at first now [] t = extends_by now t
appends_at first now (p ∷ ps) t = appends_block first p.base p.longest now t

-- appends a piece
abbrev pub appends : (first : Bool) → (piece t : StrandPath) → StrandPath
appends first piece t = appends_at first piece.now piece.blocks t
