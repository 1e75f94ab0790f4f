-- The number of open parts.
use Rattle.std.specs.Prelude.{◌≡◌, ℕ, suc, List, [], ◌∷◌, length, reverse, refl}
use Rattle.std.proofs.Common.{sym, ◌∙◌, ap}
use Rattle.std.proofs.lemmas.List.{length-reverse}
use Rattle.cw_model.specs.declared.burden.Burden.{Burden}
use Rattle.cw_model.specs.Trees.{Event}
use Rattle.cw_measure.specs.OpenParts.{Open}
use Rattle.cw_regions.specs.Regions.{Tags}
use Rattle.cw_meter.specs.Origins.{Origin}
use Rattle.cw_meter.specs.declared.meter.Meter.{Meter}
use Rattle.cw_meter.specs.declared.parts.Part.{Part}
use Rattle.cw_meter.specs.Alike.{AreOpenAlike}
use Rattle.cw_meter.specs.Meters.{Measured}
use Rattle.cw_meter.specs.Parts.{AreParts}

as_many : (from : Origin) (tags : Tags) (os : List Open) (ps : List Part) → AreParts from tags os ps → length ps ≡ length os
as_many from tags [] [] h = refl
as_many from tags [] (p ∷ ps) h = absurd h
as_many from tags (o ∷ os) [] h = absurd h
as_many from tags (o ∷ os) (p ∷ ps) h = ap suc (as_many from tags os ps h.1)

alike_many : (os told : List Open) → AreOpenAlike os told → length told ≡ length os
alike_many [] [] h = refl
alike_many [] (p ∷ ps) h = absurd h
alike_many (o ∷ os) [] h = absurd h
alike_many (o ∷ os) (p ∷ ps) h = ap suc (alike_many os ps h.3)

pub parts_many : (burden : Burden) (tags : Tags) (from : Origin) (count : ℕ) (os : List Open) (es : List Event) (m : Meter) → Measured burden tags from count os es m → length m.parts.items ≡ length os
parts_many burden tags from count os es m h = sym (length-reverse m.parts.items) ∙ as_many from tags h.recorded_open (reverse m.parts.items) h.parts ∙ alike_many os h.recorded_open h.open_alike
