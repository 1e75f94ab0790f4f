-- The charge for a path at each fork that it goes through.
use Rattle.std.specs.Prelude.{ℕ}
use Rattle.cw_model.specs.declared.burden.Edges.{Edges}
use Rattle.cw_model.specs.declared.burden.Edges.TheVariants.{Spawn, Both}
use Rattle.cw_model.specs.declared.burden.Burden.{Burden}

-- the charge on return edges: 0 if only continuation edges are charged
abbrev pub on_returns : Edges → ℕ → ℕ
on_returns Spawn charge = 0
on_returns Both charge = charge

-- the charge for a path that goes through a spawned part
abbrev pub at_child : Burden → ℕ
at_child burden = on_returns burden.edges burden.charge

-- the charge for a path that goes through the continuation of a spawn
abbrev pub at_rest : Burden → ℕ
at_rest burden = burden.charge

-- nothing is charged
abbrev pub no_burden : Burden
no_burden = record { charge = 0; edges = Spawn }

-- `charge` on each continuation edge
abbrev pub on_spawns : ℕ → Burden
on_spawns charge = record { charge = charge; edges = Spawn }

-- `charge` on each continuation edge and on each return edge
abbrev pub on_both : ℕ → Burden
on_both charge = record { charge = charge; edges = Both }
