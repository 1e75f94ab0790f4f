use Rattle.std.proofs.Common.{length, arith, ap, sym, ◌∙◌, subst}
use Rattle.cw_greedy_schedule.specs.Boards.{least_slot}
use Rattle.cw_greedy_schedule.specs.MinTrees.{HasFrom}
use Rattle.cw_greedy_schedule.proofs.Groups.{opened, opened_numbers, stands_somewhere, least_above}
use Rattle.cw_greedy_schedule.proofs.rows.MinTree.+find.Goals as goal

pub find_from-requires : goal.find_from-requires
find_from-requires t c =
    let e = c.deref.ensures.value ∙ opened_numbers c.self.view_is c.in-Few.is in
    subst (HasFrom 0 c.args.least) (sym e) (stands_somewhere c.args.self.now c.args.least c.requires)

pub find-requires : goal.find-requires
find-requires t c =
    let h = opened c.self.invariant c.in-Many.is in
    let e = opened_numbers c.self.view_is c.in-Many.is in (
      omega (arith, h.fewer, ap length c.deref-in-Many-2.ensures, ap length e),
      ap least_slot c.deref-in-Many-2.ensures ∙ least_above c.in-Many.row.items c.in-Many.above.value h ∙ ap least_slot e ∙ c.requires,
    )
