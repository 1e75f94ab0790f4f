use Rattle.std.proofs.Common.{◌∙◌, true, None, refl, sym, arith}
use Rattle.std.proofs.lemmas.Result.{on_ok_weaker}
use Rattle.cw_meter.specs.declared.meter.Meter.{Meter}
use Rattle.cw_meter.specs.declared.parts.PartKind.TheVariants as kind
use Rattle.std.proofs.Math.Nat.{mod-eq_of_lt}
use Rattle.cw_meter.proofs.MeterLaws.{meter_begins}
use Rattle.cw_meter.proofs.DetailLaws.{begins_counted}
use Rattle.cw_meter.proofs.meter.Meter.spawn_half.Goals as goal

pub returns : goal.returns
returns c =
    let mid = c.stack.new.self in
    let stacks = c.in_ok-stack.ensures in
    let new : Meter = record mid { tables = c.spawn_half.new.self } in
    begins_counted c.args.self.now new c.args.count true None (sym c.is_counted.ensures ∙ c.if-not-is_counted.false) stacks.detail
    (meter_begins c.args.self.now mid c.spawn_half.new.self c.args.count _ kind.Half true None stacks c.in_ok-spawn_half.ensures (λ tags outer. (refl, refl)) (λ small. mod-eq_of_lt (omega arith)))

pub returns-then-not-is_counted : goal.returns-then-not-is_counted
returns-then-not-is_counted c = on_ok_weaker c.open_spawned.result (λ begins. begins None) c.open_spawned.ensures
