use Rattle.std.proofs.Common.{ap, ◌∙◌}
use Rattle.cw_greedy_schedule.specs.Boards.{least_slot}
use Rattle.cw_greedy_schedule.proofs.Groups.{opened, opened_numbers, least_above}
use Rattle.cw_greedy_schedule.proofs.rows.MinTree.+least.Goals as goal

pub returns-in-Many : goal.returns-in-Many
returns-in-Many t c =
    let h = opened c.self.invariant c.in-Many.is in
    c.least.ensures ∙ ap least_slot c.deref-in-Many.ensures ∙ least_above c.in-Many.field-0.items c.in-Many.above.value h ∙ ap least_slot (opened_numbers c.self.view_is c.in-Many.is)
