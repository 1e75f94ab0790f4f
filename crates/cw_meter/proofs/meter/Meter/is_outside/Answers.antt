use Rattle.std.proofs.Common.{◌≡◌, ◌∙◌, length, sym, subst}
use Rattle.std.specs.Prelude.{nat_eq}
use Rattle.cw_meter.specs.Meters.{IsOutside}
use Rattle.cw_meter.proofs.DetailLaws.{outside_counted, outside_uncounted}
use Rattle.cw_meter.proofs.meter.Meter.is_outside.Goals as goal

pub returns-then-not-is_counted : goal.returns-then-not-is_counted
returns-then-not-is_counted c = outside_uncounted c.args.self.now (sym c.is_counted.ensures ∙ c.if-not-is_counted.true)

pub returns : goal.returns
returns c =
    let m = c.args.self.now in
    let many : c.len.result ≡ length m.parts.items = c.len.ensures ∙ m.parts.ok.0 in
    subst (λ n. IsOutside m (nat_eq n 0)) (sym many) (outside_counted m (sym c.is_counted.ensures ∙ c.if-not-is_counted.false))
