-- The origin of a recorder or a meter.
use Rattle.std.specs.Prelude.{ℕ, false, List, [], ◌∷◌, Some}
use Rattle.cw_model.specs.Trees.{Invocation}
use Rattle.cw_measure.specs.OpenParts.{Open}

-- a recorder began with the run's own call of `main`, or with a continuation that another strand handed out, in an
-- invocation of this site
pub data Origin : Type 0 where
  Main : Origin
  Rest : (site : ℕ) → Origin

-- the site of the invocation around the recorded events
abbrev pub base_of : Origin → ℕ
base_of Main = 0
base_of (Rest site) = site

-- the run's own call of `main`
abbrev pub main_open : List Open
main_open = record { spawned = false; mark = Some (Invocation 0); outer = [] } ∷ []

-- the parts that were open at the start
abbrev pub first_open : Origin → List Open
first_open Main = main_open
first_open (Rest site) = []

-- the number of open parts that no recorded instruction began
abbrev pub given_open : Origin → ℕ
given_open Main = 1
given_open (Rest site) = 0
