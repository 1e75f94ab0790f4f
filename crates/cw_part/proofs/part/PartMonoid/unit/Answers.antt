use Rattle.std.proofs.Common.{ap, refl}
use Rattle.cw_part.specs.Parts.{Completed}
use Rattle.cw_part.specs.RunParts.{nothing_part}
use Rattle.cw_part.specs.RunPartLaws.{same_run}
use Rattle.cw_part.proofs.part.PartMonoid.unit.Goals as goal

pub returns : goal.returns
returns c = record { value = same_run _ nothing_part refl (ap Completed c.unit.ensures.value) }
