use Rattle.std.proofs.Common.{◌++◌, subst}
use Rattle.cw_greedy.specs.declared.entry.Cut.{Cut}
use Rattle.cw_greedy.specs.Entries.{code_of_cut}
use Rattle.cw_greedy_schedule.specs.Planned.{Makes}
use Rattle.cw_greedy_schedule.proofs.Plans.{makes_end, makes_joins, makes_join}
use Rattle.cw_greedy_schedule.proofs.plan.Planning.cut.Goals as goal

pub joined-requires : goal.joined-requires
joined-requires c =
    makes_joins c.requires.0 c.requires.1.0 c.args.self.now
    (subst (λ (x : Cut). Makes c.requires.0 (code_of_cut x ++ c.requires.1.0) c.args.self.now) c.in-Joined.is c.requires.1.1)

pub returns-in_ok-ended-in-Ended-clause-makes : goal.returns-in_ok-ended-in-Ended-clause-makes
returns-in_ok-ended-in-Ended-clause-makes c =
    λ block later h. makes_end block later c.args.self.now c.ended.new.self
    (subst (λ (x : Cut). Makes block (code_of_cut x ++ later) c.args.self.now) c.in-Ended.is h) (λ outer at first e. c.in_ok-ended-in-Ended.ensures outer at first e)

pub returns-in_ok-joined-in-Joined-clause-makes : goal.returns-in_ok-joined-in-Joined-clause-makes
returns-in_ok-joined-in-Joined-clause-makes c =
    λ block later h. makes_join block later c.args.self.now c.joined.new.self
    (subst (λ (x : Cut). Makes block (code_of_cut x ++ later) c.args.self.now) c.in-Joined.is h) (λ end j. c.in_ok-joined-in-Joined.ensures.joined end j)
