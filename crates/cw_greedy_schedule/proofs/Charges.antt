-- The burdened span of the tree of a record fits into 64 bits.
use Rattle.std.proofs.Common.{◌≤◌, ◌+◌, ◌*◌, ℕ, arith}
use Rattle.std.proofs.Math.Nat.{mul-add, mul-le-mul}
use Rattle.cw_model.specs.declared.burden.Burden.{Burden}
use Rattle.cw_model.specs.declared.burden.Edges.{Edges}
use Rattle.cw_model.specs.declared.burden.Edges.TheVariants as edges
use Rattle.cw_model.specs.declared.limits.TheConstants.{MOST_BURDEN, MOST_STRANDS}
use Rattle.cw_model.specs.Burdens.{on_returns}
use Rattle.cw_model.specs.Trees.{Tree, Leaf, Seq, Par, Marked, burdened_span, work}
use Rattle.cw_greedy.specs.Counts.{spawns_in}

return_charge : (e : Edges) (charge : ℕ) → on_returns e charge ≤ charge
return_charge edges.Spawn charge = omega arith
return_charge edges.Both charge = omega arith

-- a path pays at most one charge for each spawn
pub few_charges : (burden : Burden) (t : Tree) → burdened_span burden t ≤ work t + burden.charge * spawns_in t
few_charges burden (Leaf k) = omega arith
few_charges burden (Seq t u) =
    omega (arith, few_charges burden t, few_charges burden u, mul-add burden.charge (spawns_in t) (spawns_in u))
few_charges burden (Par c r) =
    omega (
      arith,
      few_charges burden c,
      few_charges burden r,
      return_charge burden.edges burden.charge,
      mul-add burden.charge 1 (spawns_in c + spawns_in r),
      mul-add burden.charge (spawns_in c) (spawns_in r),
    )
few_charges burden (Marked mark t) = few_charges burden t

-- the charges for all spawns of a record
pub all_charges : (charge spawns : ℕ) → charge ≤ MOST_BURDEN → spawns ≤ MOST_STRANDS → charge * spawns ≤ MOST_BURDEN * MOST_STRANDS
all_charges charge spawns low few = mul-le-mul low few
