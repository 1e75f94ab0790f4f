use Rattle.std.proofs.Common.{◌≡◌, ◌+◌, length, arith, ap, sym, ◌∙◌, subst}
use Rattle.cw_greedy_schedule.specs.Boards.{minus}
use Rattle.cw_greedy_schedule.proofs.Boards.{Lowers, lowers_more, all_lowered}
use Rattle.cw_greedy_schedule.proofs.board.lower_all.Goals as goal

pub loop-place-preserved : goal.loop-place-preserved
loop-place-preserved c =
    subst (Lowers c.args.by (c.loop-place.place + 1) c.args.running.now) (sym c.set.ensures)
    (lowers_more c.args.by c.loop-place.place c.args.running.now c.loop-place.running c.less-lower.result c.loop-place.invariant (omega arith)
    (c.less-lower.ensures ∙ ap (λ a. minus a c.args.by) c.at.ensures))

pub returns : goal.returns
returns c =
    let all : c.loop-place.place ≡ length c.args.running.now = omega arith in
    all_lowered c.args.by c.args.running.now c.loop-place.running (subst (λ n. Lowers c.args.by n c.args.running.now c.loop-place.running) all c.loop-place.invariant)
