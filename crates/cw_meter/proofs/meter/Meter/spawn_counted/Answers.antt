use Rattle.std.proofs.Common.{true, Some, refl, arith}
use Rattle.std.proofs.lemmas.Result.{on_ok_weaker}
use Rattle.cw_model.specs.Trees.{Invocation}
use Rattle.cw_meter.specs.declared.meter.Meter.{Meter}
use Rattle.cw_meter.specs.declared.parts.PartKind.TheVariants as kind
use Rattle.std.proofs.Math.Nat.{mod-eq_of_lt}
use Rattle.cw_meter.proofs.MeterLaws.{meter_begins}
use Rattle.cw_meter.proofs.DetailLaws.{begins_counted}
use Rattle.cw_meter.proofs.meter.Meter.spawn_counted.Goals as goal

pub returns : goal.returns
returns c =
    let mid = c.stack_within.new.self in
    let stacks = c.stack_within.ensures in
    let new : Meter = record mid { tables = c.spawn.new.self } in
    on_ok_weaker c.spawn.result (λ opens. begins_counted c.args.self.now new c.args.count true (Some (Invocation c.args.site)) c.requires stacks.detail
    (meter_begins c.args.self.now mid c.spawn.new.self c.args.count _ kind.SpawnedCall true (Some (Invocation c.args.site)) stacks opens (λ tags outer. (refl, (c.args.site, refl))) (λ small. mod-eq_of_lt (omega arith)))) c.spawn.ensures
