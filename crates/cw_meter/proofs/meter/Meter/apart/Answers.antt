use Rattle.std.proofs.Common.{refl, subst}
use Rattle.cw_model.specs.declared.burden.Burden.{Burden}
use Rattle.cw_meter.specs.declared.meter.Meter.{Meter}
use Rattle.cw_meter.specs.Tables.{StartsTablesOfRest}
use Rattle.cw_meter.proofs.DetailLaws.{rest_starts_as}
use Rattle.cw_meter.proofs.meter.Meter.apart.Goals as goal

pub returns : goal.returns
returns c =
    let m : Meter = record { detail = c.args.detail; open_parts = 0; recorder = c.apart.result; tables = c.apart-2.result; parts = c.new.result } in
    let P : Burden → Type 0 = λ b. StartsTablesOfRest b c.args.site c.apart-2.result in
    rest_starts_as c.args.detail c.args.site m refl refl c.apart.ensures (subst P c.burden.ensures c.apart-2.ensures) c.new.ensures.items
