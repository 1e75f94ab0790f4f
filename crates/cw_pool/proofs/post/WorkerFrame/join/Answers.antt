use Rattle.std.proofs.Common.{Some, refl, sym, ap, subst}
use Rattle.cw_yard.specs.Tickets.{ticket_job}
use Rattle.cw_pool.specs.WorkerFrames.{Lacks, job_of_out}
use Rattle.cw_pool.proofs.Joins.{after_back, lacks_newest, popped, post}
use Rattle.cw_pool.proofs.post.WorkerFrame.join.Goals as goal

pub take_in-requires-clause-newest : goal.take_in-requires-clause-newest
take_in-requires-clause-newest c =
    let y = c.args.yard.now in
    let p = post c.args.self.now.strand c.pop.new.self in
    let l = popped y c.args.self.now c.pop.new.self c.in-Some-Own.field-0 c.requires.works c.in-Some-Own.ensures.items in
    lacks_newest y p c.in-Some-Own.rest (subst (λ k. Lacks y p (job_of_out k)) c.in-Some-Own.field-0-is l.0)

pub returns-in-Some-Own-clause-works : goal.returns-in-Some-Own-clause-works
returns-in-Some-Own-clause-works c =
    let y = c.args.yard.now in
    let p = post c.args.self.now.strand c.pop.new.self in
    let l = popped y c.args.self.now c.pop.new.self c.in-Some-Own.field-0 c.requires.works c.in-Some-Own.ensures.items in
    let m : Lacks y p (Some c.in-Some-Own.rest) = subst (λ k. Lacks y p (job_of_out k)) c.in-Some-Own.field-0-is l.0 in
    after_back y p (Some c.in-Some-Own.rest) c.take_in.new.strand c.pop.new.self c.in-Some-Own.rest m refl c.take_in.ensures.running c.take_in.ensures.outs

pub take_in-requires-in-Mine-clause-newest : goal.take_in-requires-in-Mine-clause-newest
take_in-requires-in-Mine-clause-newest c =
    let y = c.args.yard.now in
    let p = post c.args.self.now.strand c.pop.new.self in
    let l = popped y c.args.self.now c.pop.new.self c.in-Some-Out.field-0 c.requires.works c.in-Some-Out.ensures.items in
    let t : Lacks y p (ticket_job c.in-Some-Out.ticket) = subst (λ k. Lacks y p (job_of_out k)) c.in-Some-Out.field-0-is l.0 in
    lacks_newest y p c.in-Mine.rest (subst (λ o. Lacks y p o) c.in-Mine.ensures.ticket.0 t)

pub returns-in-Mine-clause-works : goal.returns-in-Mine-clause-works
returns-in-Mine-clause-works c =
    let y = c.args.yard.now in
    let p = post c.args.self.now.strand c.pop.new.self in
    let l = popped y c.args.self.now c.pop.new.self c.in-Some-Out.field-0 c.requires.works c.in-Some-Out.ensures.items in
    let t : Lacks y p (ticket_job c.in-Some-Out.ticket) = subst (λ k. Lacks y p (job_of_out k)) c.in-Some-Out.field-0-is l.0 in
    after_back y p (ticket_job c.in-Some-Out.ticket) c.take_in-in-Mine.new.strand c.pop.new.self c.in-Mine.rest t refl
    c.take_in-in-Mine.ensures.running c.take_in-in-Mine.ensures.outs

pub collect-requires-clause-lacks : goal.collect-requires-clause-lacks
collect-requires-clause-lacks c =
    let y = c.args.yard.now in
    let p = post c.args.self.now.strand c.pop.new.self in
    let l = popped y c.args.self.now c.pop.new.self c.in-Some-Out.field-0 c.requires.works c.in-Some-Out.ensures.items in
    let t : Lacks y p (ticket_job c.in-Some-Out.ticket) = subst (λ k. Lacks y p (job_of_out k)) c.in-Some-Out.field-0-is l.0 in
    subst (λ o. Lacks y p o) (ap ticket_job (sym c.in-Later.ensures.ticket.0)) t
