use Rattle.cw_meter.proofs.TrimLaws.{still_tells}
use Rattle.cw_meter.proofs.meter.Meter.trim.Goals as goal

pub returns : goal.returns
returns c = λ d tags from count os es h.
    still_tells c.args.self.now c.shrink_to_fit.new.self c.shrink_to_fit-2.new.self c.trim.new.self c.shrink_to_fit.ensures.items c.shrink_to_fit-2.ensures.items c.trim.ensures.told d tags from count os es h
