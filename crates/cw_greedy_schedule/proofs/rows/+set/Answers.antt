use Rattle.std.proofs.Common.{◌/◌, sym, ◌∙◌, ap, subst}
use Rattle.std.specs.Prelude.{slice_set}
use Rattle.cw_greedy_schedule.specs.Boards.{least_slot}
use Rattle.cw_greedy_schedule.specs.MinTrees.{group, Leasts}
use Rattle.cw_greedy_schedule.proofs.Groups.{leasts_set, leasts_same}
use Rattle.cw_greedy_schedule.proofs.rows.+set.Goals as goal

pub set_in_rows-returns-then-not-is_equal-clause-rows : goal.set_in_rows-returns-then-not-is_equal-clause-rows
set_in_rows-returns-then-not-is_equal-clause-rows t c =
    let row = c.change-least.ensures.row in
    let least = c.change-least.ensures.least ∙ ap (λ xs. least_slot (group xs (c.args.place / 8))) row in
    subst (λ xs. Leasts xs c.set.new.self) (sym row)
    (subst (Leasts (slice_set c.args.row.now c.args.place c.args.number)) (sym c.set.ensures)
    (leasts_set c.args.row.now c.args.above.now c.args.place c.args.number c.change-least.result c.requires.rows c.requires.place least))

pub set_in_rows-returns-else-not-is_equal-clause-rows : goal.set_in_rows-returns-else-not-is_equal-clause-rows
set_in_rows-returns-else-not-is_equal-clause-rows t c =
    let row = c.change-least.ensures.row in
    let least = c.change-least.ensures.least ∙ ap (λ xs. least_slot (group xs (c.args.place / 8))) row in
    let same = sym c.at-was.ensures ∙ c.is_equal.ensures.0 c.if-not-is_equal.false in
    subst (λ xs. Leasts xs c.args.above.now) (sym row)
    (leasts_same c.args.row.now c.args.above.now c.args.place c.args.number c.change-least.result c.requires.rows least same)
