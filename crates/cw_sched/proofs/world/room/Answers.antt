use Rattle.std.proofs.Common.{arith}
use Rattle.cw_facts.specs.Lists.{get_set}
use Rattle.cw_sched.proofs.Tops.{same_laid, on_ok}
use Rattle.cw_sched.proofs.world.room.Goals as goal

pub returns-clause-same : goal.returns-clause-same
returns-clause-same c = same_laid c.args.begun.now.items c.args.w c.index_mut.result.now c.reserve.new.self c.requires c.index_mut.ensures.value c.reserve.ensures.items

pub returns-clause-room : goal.returns-clause-room
returns-clause-room c =
    on_ok c.reserve.result (λ more. (c.reserve.new.self, get_set c.args.begun.now.items c.args.w c.reserve.new.self c.requires, omega (arith, more))) c.reserve.ensures.ok
