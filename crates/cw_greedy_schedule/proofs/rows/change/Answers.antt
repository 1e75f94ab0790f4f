use Rattle.std.proofs.Common.{rules, ◌≡◌, None, ap, sym, ◌∙◌}
use Rattle.cw_greedy_schedule.specs.Boards.{left_at, lesser}
use Rattle.cw_greedy_schedule.proofs.Groups.{group_put}
use Rattle.cw_greedy_schedule.proofs.rows.change.Goals as goal

pub returns-then-is_none-clause-least : goal.returns-then-is_none-clause-least
returns-then-is_none-clause-least c =
    let none : left_at c.args.row.now c.args.place ≡ None = search rules in
    c.lesser_of.ensures ∙ ap (λ l. lesser l c.args.number) c.requires.least
    ∙ sym (group_put c.args.row.now c.args.place c.args.number c.requires.place none)
