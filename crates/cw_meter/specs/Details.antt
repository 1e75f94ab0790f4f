-- How much is recorded of a run.
use Rattle.std.specs.Prelude.{◌≡◌, ℕ, ◌≤◌, Bool, true, false}
use Rattle.cw_model.specs.declared.burden.Burden.{Burden}
use Rattle.cw_model.specs.declared.burden.Edges.TheVariants.{Spawn}
use Rattle.cw_model.specs.declared.limits.TheConstants.{MOST_BURDEN}
use Rattle.cw_meter.specs.declared.detail.Detail.{Detail}
use Rattle.cw_meter.specs.declared.detail.Detail.TheVariants.{Values, Strands, Measures}

-- only values are computed
abbrev pub records_only_values : Detail → Bool
records_only_values Values = true
records_only_values Strands = false
records_only_values (Measures burden) = false

-- all measures are counted
abbrev pub is_counted : Detail → Bool
is_counted Values = false
is_counted Strands = false
is_counted (Measures burden) = true

-- the charge for a spawn is in its range, if all measures are counted
abbrev pub IsLight : Detail → Type 0
IsLight Values = Unit {0}
IsLight Strands = Unit {0}
IsLight (Measures burden) = burden.charge ≤ MOST_BURDEN

-- the charge for a spawn; 0 if not all measures are counted
abbrev pub burden_of : Detail → Burden
burden_of Values = record { charge = 0; edges = Spawn }
burden_of Strands = record { charge = 0; edges = Spawn }
burden_of (Measures burden) = burden

-- the site of the innermost invocation is known, if all measures are counted
abbrev pub IsSite : Detail → (site here : ℕ) → Type 0
IsSite Values site here = Unit {0}
IsSite Strands site here = Unit {0}
IsSite (Measures burden) site here = site ≡ here
