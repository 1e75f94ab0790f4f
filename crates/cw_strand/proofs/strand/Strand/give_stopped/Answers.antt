use Rattle.cw_strand.proofs.Same.{newest_of, others_left}
use Rattle.cw_strand.proofs.Gave.{lost_runs, may_stopped, stopped_runs}
use Rattle.std.proofs.Common.{◌∙◌, sym, ap, inl, inr}
use Rattle.cw_strand.specs.Holds.{has_failed, stops}
use Rattle.cw_strand.proofs.Losing.{failed_not_over, lost_before, memory_fails, waits_not}
use Rattle.cw_strand.proofs.strand.Strand.give_stopped.Goals as goal

pub return_newest-requires : goal.return_newest-requires
return_newest-requires c =
    let self = c.args.self.now in
    let given = c.requires.given in
    let newest = newest_of self given.out given.others given.are in
    may_stopped self given.out given.others newest c.requires.running c.args.effect given.means c.in-Some.slices.items c.in-Some.replaced.items c.in-Some.ensures c.requires.stopped

pub returns-in-Some-clause-running : goal.returns-in-Some-clause-running
returns-in-Some-clause-running c =
    let self = c.args.self.now in
    let given = c.requires.given in
    let newest = newest_of self given.out given.others given.are in
    stopped_runs self given.out given.others newest c.requires.running c.args.effect given.means c.in-Some.slices.items c.in-Some.replaced.items c.in-Some.ensures c.requires.stopped c.return_newest.new.self c.return_newest.ensures

pub returns-in-Some-clause-outs : goal.returns-in-Some-clause-outs
returns-in-Some-clause-outs c = λ out others e. others_left c.args.self.now c.return_newest.new.self out others e (λ x xs. c.return_newest.ensures.left x xs)

pub returns-in-None-clause-running : goal.returns-in-None-clause-running
returns-in-None-clause-running c =
    let self = c.args.self.now in
    let given = c.requires.given in
    let newest = newest_of self given.out given.others given.are in
    lost_runs self given.out given.others newest c.requires.running c.calls_preserve_strand_job.ensures c.lose.new.self c.lose.ensures

pub returns-in-None-clause-outs : goal.returns-in-None-clause-outs
returns-in-None-clause-outs c = λ out others e. others_left c.args.self.now c.lose.new.self out others e (λ x xs. c.lose.ensures.left x xs)

pub returns-in-Some-clause-lacks : goal.returns-in-Some-clause-lacks
returns-in-Some-clause-lacks c = λ l. inl (lost_before c.args.self.now.mode c.return_newest.new.self.mode c.return_newest.ensures.mode c.requires.stopped l)

pub returns-in-Some-clause-back : goal.returns-in-Some-clause-back
returns-in-Some-clause-back c = λ w. waits_not c.return_newest.new.self.mode (ap stops c.return_newest.ensures.mode ∙ c.requires.stopped) w

pub returns-in-None-clause-lacks : goal.returns-in-None-clause-lacks
returns-in-None-clause-lacks c = λ _. inr (inl (memory_fails c.args.effect c.in-None.ensures))

pub returns-in-None-clause-back : goal.returns-in-None-clause-back
returns-in-None-clause-back c = λ w. waits_not c.lose.new.self.mode (ap stops c.lose.ensures.mode) w

pub returns-in-Some-clause-over : goal.returns-in-Some-clause-over
returns-in-Some-clause-over c = λ over. sym c.return_newest.ensures.mode ∙ over

pub returns-in-None-clause-over : goal.returns-in-None-clause-over
returns-in-None-clause-over c = λ over. absurd (failed_not_over c.lose.new.self.mode (ap has_failed c.lose.ensures.mode) over)
