use Rattle.std.proofs.Common.{refl, ap, inr}
use Rattle.std.specs.Prelude.{map, reverse}
use Rattle.cw_strand.specs.Moves.{hands_out}
use Rattle.cw_strand.proofs.Advanced.{comes_within, within_run, within_still}
use Rattle.cw_strand.proofs.Losing.{leaves_going}
use Rattle.cw_strand.proofs.strand.Strand.next_event.Goals as goal

pub returns-in-Going-clause-keeps : goal.returns-in-Going-clause-keeps
returns-in-Going-clause-keeps c =
    comes_within c.args.most c.within-to.result c.end_of_job-end.result c.run_on-stop.result c.settle.result c.args.self.now c.run_on-stop.new.self c.settle.new.self
    (ap (λ v. map (λ l. l.job.value) (reverse v.items)) c.run_on-stop.ensures.same.1) c.within-to.ensures.by c.run_on-stop.ensures.comes c.args.spawns c.run_on-stop.ensures.ran c.settle.ensures.spawns c.settle.ensures.keeps

pub returns-in-Going-clause-leaves : goal.returns-in-Going-clause-leaves
returns-in-Going-clause-leaves c = leaves_going c.settle.result c.args.self.now c.settle.new.self c.in-Going.is c.settle.ensures.goes

pub returns-else-has_ended-clause-keeps : goal.returns-else-has_ended-clause-keeps
returns-else-has_ended-clause-keeps c = (c.requires, refl, c.has_ended.ensures.no c.if-has_ended.false, c.in_default.not-Going)

pub returns-then-has_ended-clause-leaves : goal.returns-then-has_ended-clause-leaves
returns-then-has_ended-clause-leaves c = inr refl

pub returns-else-has_ended-clause-leaves : goal.returns-else-has_ended-clause-leaves
returns-else-has_ended-clause-leaves c = inr refl

pub returns-in-Going-clause-within : goal.returns-in-Going-clause-within
returns-in-Going-clause-within c =
    within_run c.args.most c.within-to.result c.end_of_job-end.result c.run_on-stop.result (hands_out c.args.spawns) c.args.self.now c.run_on-stop.new.self c.settle.new.self
    c.run_on-stop.ensures.comes c.run_on-stop.ensures.ran c.within-to.ensures.most c.end_of_job-end.ensures.end c.settle.ensures.counts c.settle.ensures.halts

pub returns-then-has_ended-clause-within : goal.returns-then-has_ended-clause-within
returns-then-has_ended-clause-within c = within_still c.args.most c.args.self.now

pub returns-else-has_ended-clause-within : goal.returns-else-has_ended-clause-within
returns-else-has_ended-clause-within c = within_still c.args.most c.args.self.now
