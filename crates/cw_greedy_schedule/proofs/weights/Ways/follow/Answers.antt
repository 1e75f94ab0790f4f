use Rattle.std.proofs.Common.{◌++◌}
use Rattle.cw_greedy.specs.Entries.{code_of_cut}
use Rattle.cw_greedy_schedule.proofs.Weighing.{weighs_work}
use Rattle.cw_greedy_schedule.proofs.weights.Ways.follow.Goals as goal

pub returns-clause-weighs : goal.returns-clause-weighs
returns-clause-weighs c =
    λ block later h. c.in_ok-cut.ensures.weighs block later
    (weighs_work c.args.burden block c.args.entry.before (code_of_cut c.args.entry.cut ++ later) c.args.self.now c.worked.new.self h c.worked.ensures.path c.worked.ensures.spawns)
