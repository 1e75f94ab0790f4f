use Rattle.std.proofs.Common.{◌∙◌, sym, arith}
use Rattle.std.proofs.lemmas.Result.{on_ok_weaker}
use Rattle.cw_meter.specs.declared.meter.Meter.{Meter}
use Rattle.std.proofs.Math.Nat.{mod-eq_of_lt}
use Rattle.cw_meter.proofs.MeterLaws.{meter_begins_region}
use Rattle.cw_meter.proofs.DetailLaws.{region_counted}
use Rattle.cw_meter.proofs.meter.Meter.begin_region.Goals as goal

pub returns : goal.returns
returns c =
    let mid = c.stack.new.self in
    let stacks = c.in_ok-stack.ensures in
    let new : Meter = record mid { tables = c.begin_region.new.self } in
    region_counted c.args.self.now new c.args.count c.args.tag (sym c.is_counted.ensures ∙ c.if-not-is_counted.false) stacks.detail
    (meter_begins_region c.args.self.now mid c.begin_region.new.self c.args.count _ c.args.tag stacks c.in_ok-begin_region.ensures (λ small. mod-eq_of_lt (omega arith)))

pub returns-then-not-is_counted : goal.returns-then-not-is_counted
returns-then-not-is_counted c = on_ok_weaker c.open_quiet.result (λ begins. begins c.args.tag) c.open_quiet.ensures.region
