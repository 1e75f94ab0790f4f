use Rattle.std.proofs.Common.{◌≡◌, ◌*◌, arith, subst}
use Rattle.cw_greedy_schedule.specs.MinTrees.{HasFrom}
use Rattle.cw_greedy_schedule.proofs.Groups.{stands_in_group}
use Rattle.cw_greedy_schedule.proofs.rows.find_in_group.Goals as goal

pub find_from-place-requires : goal.find_from-place-requires
find_from-place-requires c =
    let e : 8 * c.args.at ≡ c.args.at * 8 = omega arith in
    subst (λ n. HasFrom n c.args.least c.args.row.now) e (stands_in_group c.args.row.now c.args.at c.args.least c.requires)
