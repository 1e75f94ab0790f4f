-- The places of a job's arrays when the job ends.
use Rattle.std.proofs.Common.{◌≡◌, Option, Some, None, List, [], refl}
use Rattle.std.proofs.lemmas.Option.{none-some}
use Rattle.cw_slices.specs.Placed.{Placed}
use Rattle.cw_jobs.specs.Jobs.{KeepsHomes, own_or}

-- arrays that no one changed are in their places
pub unchanged_homes : (slices : List Placed) → KeepsHomes slices slices []
unchanged_homes slices = (refl, λ a. (refl, refl, λ some. refl), λ a own q. absurd (none-some (Some own) q), λ a some p q. absurd (none-some (Some p) q))

-- if no new array is in a slot, its slice is what came back
pub own_home : (o : Option (Option Placed)) (p : Placed) → ((q : Placed) → o ≡ Some (Some q) → ⊥) → own_or o p ≡ p
own_home None p none = refl
own_home (Some None) p none = refl
own_home (Some (Some q)) p none = absurd (none q refl)
