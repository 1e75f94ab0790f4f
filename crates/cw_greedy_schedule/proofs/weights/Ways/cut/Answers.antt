use Rattle.std.proofs.Common.{◌++◌, subst}
use Rattle.cw_greedy.specs.declared.entry.Cut.{Cut}
use Rattle.cw_greedy.specs.Entries.{code_of_cut}
use Rattle.cw_greedy_schedule.specs.Weighed.{WillWeigh}
use Rattle.cw_greedy_schedule.proofs.Weighing.{weighs_spawn, weighs_end, weighs_join}
use Rattle.cw_greedy_schedule.proofs.weights.Ways.cut.Goals as goal

pub returns-in_ok-spawned-in-Spawned-clause-weighs : goal.returns-in_ok-spawned-in-Spawned-clause-weighs
returns-in_ok-spawned-in-Spawned-clause-weighs c =
    λ block later h. weighs_spawn c.args.burden block c.in-Spawned.first later c.args.self.now c.spawned.new.self
    (subst (λ (x : Cut). WillWeigh c.args.burden block (code_of_cut x ++ later) c.args.self.now) c.in-Spawned.is h) c.in_ok-spawned-in-Spawned.ensures.path c.in_ok-spawned-in-Spawned.ensures.spawns

pub returns-in_ok-ended-in-Ended-clause-weighs : goal.returns-in_ok-ended-in-Ended-clause-weighs
returns-in_ok-ended-in-Ended-clause-weighs c =
    λ block later h. weighs_end c.args.burden block later c.args.self.now c.ended.new.self
    (subst (λ (x : Cut). WillWeigh c.args.burden block (code_of_cut x ++ later) c.args.self.now) c.in-Ended.is h) c.in_ok-ended-in-Ended.ensures.path (λ outer top e. c.in_ok-ended-in-Ended.ensures.spawns outer top e)

pub returns-in-Joined-clause-weighs : goal.returns-in-Joined-clause-weighs
returns-in-Joined-clause-weighs c =
    λ block later h. weighs_join c.args.burden block later c.args.self.now c.joined.new.self
    (subst (λ (x : Cut). WillWeigh c.args.burden block (code_of_cut x ++ later) c.args.self.now) c.in-Joined.is h) (λ end j. c.joined.ensures.joined end j)
