use Rattle.std.proofs.Common.{◌∙◌, refl, sym}
use Rattle.cw_meter.specs.declared.meter.Meter.{Meter}
use Rattle.cw_meter.proofs.DetailLaws.{rests_recorded}
use Rattle.cw_meter.proofs.meter.Meter.rest_uncounted.Goals as goal

pub returns-in_ok-rest : goal.returns-in_ok-rest
returns-in_ok-rest c =
    let old = c.args.self.now in
    let new : Meter = record old { recorder = c.rest.new.self } in
    rests_recorded old c.args.rest new c.args.count c.args.cost (record { counts = c.requires; values = sym c.records_only_values.ensures ∙ c.if-not-records_only_values.true }) refl refl c.in_ok-rest.ensures
