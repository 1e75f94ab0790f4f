use Rattle.std.proofs.Common.{◌++◌}
use Rattle.cw_greedy.specs.Entries.{code_of_cut}
use Rattle.cw_greedy_schedule.proofs.Plans.{makes_work}
use Rattle.cw_greedy_schedule.proofs.plan.Planning.follow.Goals as goal

pub returns-clause-makes : goal.returns-clause-makes
returns-clause-makes c =
    λ block later h. c.in_ok-cut.ensures.makes block later
    (makes_work block c.args.entry.before (code_of_cut c.args.entry.cut ++ later) c.args.self.now c.worked.new.self h c.worked.ensures.strands c.worked.ensures.last c.worked.ensures.spawns)

pub cut-requires : goal.cut-requires
cut-requires c =
    let block = c.requires.makes.0 in
    let later = c.requires.makes.1.0 in (
      block,
      (
        later,
        makes_work block c.args.entry.before (code_of_cut c.args.entry.cut ++ later) c.args.self.now c.worked.new.self c.requires.makes.1.1
            c.worked.ensures.strands c.worked.ensures.last c.worked.ensures.spawns,
      ),
    )
