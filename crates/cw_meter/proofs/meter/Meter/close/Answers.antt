use Rattle.std.proofs.Common.{◌≡◌, length, rules}
use Rattle.std.proofs.lemmas.Result.{on_ok_weaker}
use Rattle.cw_meter.proofs.MeterLaws.{part_closed, nothing_closed}
use Rattle.cw_meter.proofs.meter.Meter.close.Goals as goal

pub returns-in-Some-clause-closes : goal.returns-in-Some-clause-closes
returns-in-Some-clause-closes c = on_ok_weaker c.close.result (λ closes. part_closed c.args.self.now c.pop.new.self.items c.in-Some.part c.close.new.self c.args.count closes c.in-Some.ensures.items) c.close.ensures

pub returns-in-None-clause-closes : goal.returns-in-None-clause-closes
returns-in-None-clause-closes c =
    let old = c.args.self.now in
    let none = c.in-None.ensures.cases.0 in
    let e : length old.parts.items ≡ 0 = search (rules, none) in
    nothing_closed old (record old { parts = c.pop.new.self }) c.args.count e
