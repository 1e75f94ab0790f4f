-- The chosen path of a run so far, with the instructions of one site.
use Rattle.std.specs.Prelude.{◌≡◌, ℕ, Bool, true, false, List, [], ◌∷◌, Option, Some, None}
use Rattle.cw_model.specs.Trees.{Mark, Event}
use Rattle.cw_model.specs.Rows.{site_inside}
use Rattle.cw_measure.specs.OpenParts.{Open}
use Rattle.cw_sites.specs.ChosenPaths.{nowhere}
use Rattle.cw_sites.specs.BlockPaths.{BlockPath, Straight, Split, now_of, after_all}
use Rattle.cw_sites.specs.StrandPaths.{SeenBlock, StrandPath}

-- the site of the innermost invocation; `base` is the site in which the piece began
abbrev pub inside : Option Mark → ℕ → ℕ
inside None here = here
inside (Some m) here = site_inside m here

-- the site of the innermost invocation of a run so far
abbrev pub here_in : (base : ℕ) → List Open → ℕ
here_in base [] = base
here_in base (o ∷ os) = inside o.mark (here_in base os)

-- the path at the start of a part
abbrev pub enters : (spawned : Bool) → BlockPath → BlockPath
enters true L = Straight nowhere
enters false L = Straight (now_of L)

-- the paths of the current block
abbrev pub block_path : (site base : ℕ) → List Open → List Event → BlockPath
block_path site base [] es = after_all site base (Straight nowhere) es
block_path site base (o ∷ os) es =
    after_all site (here_in base (o ∷ os)) (enters o.spawned (block_path site base os o.outer)) es

-- the current block, or a block in which a call, a scope or a region is open: its spawned children
abbrev pub IsStackedOn : (below : List SeenBlock → Type 0) → BlockPath → List SeenBlock → Type 0
IsStackedOn below (Straight n) ps = below ps
IsStackedOn below (Split b l n) [] = ⊥
IsStackedOn below (Split b l n) (p ∷ ps) = (p.base ≡ b) × (p.longest ≡ l) × (p.rest ≡ nowhere) × below ps

-- a block whose spawned child is running
abbrev pub RestsOn : (below : List SeenBlock → Type 0) → BlockPath → List SeenBlock → Type 0
RestsOn below L [] = ⊥
RestsOn below (Straight n) (p ∷ ps) = (p.base ≡ n) × (p.longest ≡ None) × (p.rest ≡ nowhere) × below ps
RestsOn below (Split b l n) (p ∷ ps) = (p.base ≡ b) × (p.longest ≡ l) × (p.rest ≡ n) × below ps

-- the blocks below a part: its block's child is running if the part was spawned
abbrev pub LiesUnder : (spawned : Bool) → (below : List SeenBlock → Type 0) → BlockPath → List SeenBlock → Type 0
LiesUnder true below L ps = RestsOn below L ps
LiesUnder false below L ps = IsStackedOn below L ps

-- the blocks below all open parts
abbrev pub Under : (site base : ℕ) → List Open → List SeenBlock → Type 0
Under site base [] ps = ps ≡ []
Under site base (o ∷ os) ps = LiesUnder o.spawned (Under site base os) (block_path site base os o.outer) ps

-- the paths of a strand represent a run so far
pub record Shows (site base : ℕ) (os : List Open) (es : List Event) (t : StrandPath) : Type 0 where
  pub now_is : t.now ≡ now_of (block_path site base os es)
  pub blocks_are : IsStackedOn (Under site base os) (block_path site base os es) t.blocks

-- whether a block has spawned since its last join
abbrev pub is_split : BlockPath → Bool
is_split (Straight n) = false
is_split (Split b l n) = true

-- the weight of the current strand's path
abbrev pub path_in : (site base : ℕ) → List Open → List Event → ℕ
path_in site base os es = (now_of (block_path site base os es)).weight
