use Rattle.cw_strand.proofs.Same.{newest_of, others_left}
use Rattle.cw_strand.proofs.Gave.{lost_runs}
use Rattle.std.proofs.Common.{◌≡◌, true, sym, ap, subst, inl, inr}
use Rattle.cw_strand.specs.Holds.{stops, has_failed}
use Rattle.cw_strand.specs.Giving.{passes_limit}
use Rattle.cw_strand.specs.Losing.{cost_in, CountsGiven, TakesIn, ReportsFailure, ReportsOverLimit}
use Rattle.cw_strand.proofs.Losing.{failed_not_over, lacks_not, waits_not}
use Rattle.cw_strand.proofs.strand.Strand.give_waiting.Goals as goal

pub returns-in-Memory-clause-running : goal.returns-in-Memory-clause-running
returns-in-Memory-clause-running c =
    let self = c.args.self.now in
    let given = c.requires.given in
    let newest = newest_of self given.out given.others given.are in
    lost_runs self given.out given.others newest c.requires.running c.calls_preserve_strand_job.ensures c.lose.new.self c.lose.ensures

pub returns-in-Memory-clause-outs : goal.returns-in-Memory-clause-outs
returns-in-Memory-clause-outs c = λ out others e. others_left c.args.self.now c.lose.new.self out others e (λ x xs. c.lose.ensures.left x xs)

pub returns-in-Joined-clause-lacks : goal.returns-in-Joined-clause-lacks
returns-in-Joined-clause-lacks c = λ l. inr (inr (subst (TakesIn c.args.self.now) (sym c.in-Joined.is) (c.requires.waiting, c.give_joined.ensures.lacks l)))

pub returns-in-Trapped-clause-lacks : goal.returns-in-Trapped-clause-lacks
returns-in-Trapped-clause-lacks c = λ l. inr (inr (subst (TakesIn c.args.self.now) (sym c.in-Trapped.is) (c.requires.waiting, c.give_trap.ensures.lacks l)))

pub returns-in-OverLimit-clause-lacks : goal.returns-in-OverLimit-clause-lacks
returns-in-OverLimit-clause-lacks c = λ l. absurd (lacks_not c.give_over.new.self.mode (ap stops c.give_over.ensures.over) (ap has_failed c.give_over.ensures.over) l)

pub returns-in-OverLimit-clause-back : goal.returns-in-OverLimit-clause-back
returns-in-OverLimit-clause-back c = λ w. waits_not c.give_over.new.self.mode (ap stops c.give_over.ensures.over) w

pub returns-in-Memory-clause-lacks : goal.returns-in-Memory-clause-lacks
returns-in-Memory-clause-lacks c = λ _. inr (inl (subst ReportsFailure (sym c.in-Memory.is) tt))

pub returns-in-Memory-clause-back : goal.returns-in-Memory-clause-back
returns-in-Memory-clause-back c = λ w. waits_not c.lose.new.self.mode (ap stops c.lose.ensures.mode) w

pub returns-in-GivenUp-clause-lacks : goal.returns-in-GivenUp-clause-lacks
returns-in-GivenUp-clause-lacks c = λ _. inr (inl (subst ReportsFailure (sym c.in-GivenUp.is) tt))

pub returns-in-Joined-clause-counts : goal.returns-in-Joined-clause-counts
returns-in-Joined-clause-counts c = subst (λ e. CountsGiven e c.args.self.now c.give_joined.new.self) (sym c.in-Joined.is) c.give_joined.ensures.counts

pub returns-in-Trapped-clause-counts : goal.returns-in-Trapped-clause-counts
returns-in-Trapped-clause-counts c = subst (λ e. CountsGiven e c.args.self.now c.give_trap.new.self) (sym c.in-Trapped.is) c.give_trap.ensures.counts

pub returns-in-OverLimit-clause-counts : goal.returns-in-OverLimit-clause-counts
returns-in-OverLimit-clause-counts c = inl c.give_over.ensures.counts

pub returns-in-GivenUp-clause-counts : goal.returns-in-GivenUp-clause-counts
returns-in-GivenUp-clause-counts c = inl c.give_given_up.ensures.counts

pub returns-in-Memory-clause-counts : goal.returns-in-Memory-clause-counts
returns-in-Memory-clause-counts c = inl c.lose.ensures.count

pub returns-in-Joined-clause-over : goal.returns-in-Joined-clause-over
returns-in-Joined-clause-over c = λ over.
    inr (c.requires.waiting, inr (subst (λ e. passes_limit c.args.self.now (cost_in e) ≡ true) (sym c.in-Joined.is) (c.give_joined.ensures.over over)))

pub returns-in-Trapped-clause-over : goal.returns-in-Trapped-clause-over
returns-in-Trapped-clause-over c = λ over.
    inr (c.requires.waiting, inr (subst (λ e. passes_limit c.args.self.now (cost_in e) ≡ true) (sym c.in-Trapped.is) (c.give_trap.ensures.over over)))

pub returns-in-OverLimit-clause-over : goal.returns-in-OverLimit-clause-over
returns-in-OverLimit-clause-over c = λ _. inr (c.requires.waiting, inl (subst ReportsOverLimit (sym c.in-OverLimit.is) tt))

pub returns-in-GivenUp-clause-over : goal.returns-in-GivenUp-clause-over
returns-in-GivenUp-clause-over c = λ over. absurd (c.give_given_up.ensures.over over)

pub returns-in-Memory-clause-over : goal.returns-in-Memory-clause-over
returns-in-Memory-clause-over c = λ over. absurd (failed_not_over c.lose.new.self.mode (ap has_failed c.lose.ensures.mode) over)
