use Rattle.std.proofs.Common.{◌≤◌, length, arith, ap}
use Rattle.cw_greedy.specs.Slots.{ready_slots}
use Rattle.cw_greedy_schedule.proofs.Groups.{opened, opened_numbers, ready_above}
use Rattle.cw_greedy_schedule.proofs.rows.MinTree.+last.Goals as goal

pub last-requires : goal.last-requires
last-requires t c =
    let h = opened c.self.invariant c.in-Many.is in
    let e = opened_numbers c.self.view_is c.in-Many.is in
    let s = c.deref-in-Many-2.ensures in
    let some : 1 ≤ ready_slots c.in-Many.row.items = omega (arith, ap ready_slots e, c.requires) in (
      omega (arith, h.fewer, ap length s, ap length e),
      omega (arith, ready_above c.in-Many.row.items c.in-Many.above.value h some, ap ready_slots s),
    )
