use Rattle.std.specs.Prelude.{Some}
use Rattle.std.proofs.lemmas.Result.{on_ok_weaker}
use Rattle.cw_model.specs.Trees.{Invocation}
use Rattle.cw_meter.proofs.meter.Meter.spawn.Goals as goal

pub returns-then-not-is_counted : goal.returns-then-not-is_counted
returns-then-not-is_counted c = on_ok_weaker c.open_spawned.result (λ begins. begins (Some (Invocation c.args.site))) c.open_spawned.ensures
