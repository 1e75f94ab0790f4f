use Rattle.std.proofs.Common.{rules, sym, subst}
use Rattle.cw_facts.specs.Lists.{each_init}
use Rattle.cw_yard.specs.Ledger.{Each}
use Rattle.cw_yard.specs.Seats.{table_of}
use Rattle.cw_yard.specs.Opens.{IsFresh, IsPart}
use Rattle.cw_yard.proofs.Openings.{Lead, Made, lead_init, made_snoc, seated, seat}
use Rattle.cw_yard.proofs.open.seats.Goals as goal

pub loop-own-preserved : goal.loop-own-preserved
loop-own-preserved c =
    let y = c.args.yard.now in
    let n = c.args._cells in
    let owns = c.pop.new.self.items in
    let own = c.in-Some.own in
    let part = c.in-Some-pop.field-0 in
    let lead = subst (Lead y) c.in-Some.ensures.items c.loop-own.invariant.2 in
    let fresh = each_init (IsFresh (table_of y)) owns own (subst (λ l. Each (IsFresh (table_of y)) l) c.in-Some.ensures.items c.loop-own.invariant.3) in
    let given = each_init (IsPart y n) c.pop-in-Some.new.self.items part (subst (λ l. Each (IsPart y n) l) c.in-Some-pop.ensures.items c.loop-own.invariant.4) in (
      (search rules),
      (search rules),
      lead_init y owns own lead,
      fresh.0,
      given.0,
      subst (Made y n) (sym c.in_ok-push.ensures.items)
          (made_snoc y n _ c.loop-own.made.items (seat own part) (search rules) (seated y n owns own part lead fresh.1 given.1) c.loop-own.invariant.5),
    )
