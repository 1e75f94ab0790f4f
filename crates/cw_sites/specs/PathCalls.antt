-- The readings of the paths of a strand.
use Rattle.std.specs.Prelude.{◌≡◌, ℕ, ◌^◌, ◌<◌, List}
use Rattle.cw_sites.specs.declared.paths.Paths.{Paths}
use Rattle.cw_sites.specs.StepLists.{strand_path, Laid}
use Rattle.cw_sites.specs.StepSums.{sum_at}

-- the instructions of a site on the current strand's path
abbrev pub ReadsOwn : Paths → (site own : ℕ) → Type 0
ReadsOwn paths site own =
    Laid paths → (strand_path site paths).now.own < 2 ^ 64 → own ≡ (strand_path site paths).now.own

-- the instructions of each site on the current strand's path, by site number
abbrev pub ReadsOwnBySite : Paths → (sums : List ℕ) → Type 0
ReadsOwnBySite paths sums = (site : ℕ) → ReadsOwn paths site (sum_at site sums)
