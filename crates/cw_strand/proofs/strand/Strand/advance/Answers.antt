use Rattle.std.proofs.Common.{◌<◌, sym, subst, ◌∙◌}
use Rattle.std.specs.Prelude.{◌-◌}
use Rattle.cw_strand.specs.Holds.{its_end}
use Rattle.cw_strand.proofs.Losing.{going_not_up}
use Rattle.cw_strand.proofs.Advanced.{advances_from, ends_now, leaves_from}
use Rattle.cw_strand.proofs.strand.Strand.advance.Goals as goal

pub step-requires-clause-running : goal.step-requires-clause-running
step-requires-clause-running c = c.in-None.ensures.joins.0

pub step-requires-clause-before : goal.step-requires-clause-before
step-requires-clause-before c = c.in-None.ensures.joins.3

pub returns-in-Some-clause-advances : goal.returns-in-Some-clause-advances
returns-in-Some-clause-advances c =
    let h = c.in-Some.ensures.joins in
    (h.0, ends_now c.in-Some.effect c.args.self.now (λ _. h.2) h.1)

pub returns-in-Some-clause-does : goal.returns-in-Some-clause-does
returns-in-Some-clause-does c = λ going unended lt.
    let h = c.in-Some.ensures.joins in
    absurd (h.2 (unended h.0.1))

pub returns-in-None-clause-advances : goal.returns-in-None-clause-advances
returns-in-None-clause-advances c =
    let h = c.in-None.ensures.joins in
    advances_from c.step.result c.args.self.now c.end_at_join.new.self c.step.new.self c.end_at_join.ensures.of h.1 c.in-None.ensures.leaves h.2 h.3 c.step.ensures.advances

pub returns-in-None-clause-leaves : goal.returns-in-None-clause-leaves
returns-in-None-clause-leaves c = leaves_from c.step.result c.args.self.now c.end_at_join.new.self c.step.new.self c.in-Going.is
    (going_not_up c.end_at_join.new.self.mode (c.in-None.ensures.leaves ∙ c.in-Going.is)) c.step.ensures.leaves

pub returns-in-None-clause-does : goal.returns-in-None-clause-does
returns-in-None-clause-does c = λ going unended lt.
    let h = c.in-None.ensures.joins in
    let self = c.args.self.now in
    let mid = c.end_at_join.new.self in
    c.step.ensures.does (subst (λ o. mid.count < (o.value.parts.value).limit - (o.value.parts.value).before) (sym c.end_at_join.ensures.of) (subst (λ n. n < its_end self) (sym h.2) lt))

pub returns-in_default-clause-advances : goal.returns-in_default-clause-advances
returns-in_default-clause-advances c = (c.pause.ensures.keeps, c.pause.ensures.counts)

pub returns-in_default-clause-does : goal.returns-in_default-clause-does
returns-in_default-clause-does c = λ going unended lt. absurd (c.in_default.not-Going going)
