use Rattle.std.proofs.Common.{rules, ◌≡◌, None, arith}
use Rattle.cw_greedy_schedule.specs.Boards.{left_at}
use Rattle.cw_greedy_schedule.proofs.Groups.{some_before, none_from}
use Rattle.cw_greedy_schedule.proofs.rows.last_before.Goals as goal

pub overflow_sub-place : goal.overflow_sub-place
overflow_sub-place c = some_before c.args.row.now c.args.end c.requires.some c.requires.none

pub overflow_sub-place-in-loop-place : goal.overflow_sub-place-in-loop-place
overflow_sub-place-in-loop-place c =
    let p = c.loop-place.place in
    let none : left_at c.args.row.now p ≡ None = search rules in
    some_before c.args.row.now p c.requires.some (none_from c.args.row.now p none c.loop-place.invariant.1)

pub loop-place-smaller : goal.loop-place-smaller
loop-place-smaller c =
    let p = c.loop-place.place in
    let none : left_at c.args.row.now p ≡ None = search rules in
    let some = some_before c.args.row.now p c.requires.some (none_from c.args.row.now p none c.loop-place.invariant.1) in
    omega (arith, some)
