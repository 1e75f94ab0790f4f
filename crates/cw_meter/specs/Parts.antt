-- The record of the open parts of a run.
use Rattle.std.specs.Prelude.{◌≡◌, ℕ, ◌<◌, true, false, List, [], ◌∷◌, Option, Some, None}
use Rattle.cw_model.specs.Trees.{Mark, Invocation, Execution}
use Rattle.cw_measure.specs.OpenParts.{Open, has_spawned}
use Rattle.cw_sites.specs.OpenPaths.{here_in}
use Rattle.cw_regions.specs.Regions.{Tags}
use Rattle.cw_meter.specs.Origins.{Origin, base_of}
use Rattle.cw_meter.specs.declared.parts.PartKind.{PartKind}
use Rattle.cw_meter.specs.declared.parts.PartKind.TheVariants.{Call, SpawnedCall, Quiet, Half, Region}
use Rattle.cw_meter.specs.declared.parts.Part.{Part}

-- the mark is an invocation, a run of a call statement
abbrev pub IsInvocation : Option Mark → Type 0
IsInvocation mark = (site : ℕ) × (mark ≡ Some (Invocation site))

-- an open part is of this kind
abbrev pub IsOfKind : Tags → Open → PartKind → Type 0
IsOfKind tags o Call = (o.spawned ≡ false) × IsInvocation o.mark
IsOfKind tags o SpawnedCall = (o.spawned ≡ true) × IsInvocation o.mark
IsOfKind tags o Quiet = (o.spawned ≡ false) × (o.mark ≡ None)
IsOfKind tags o Half = (o.spawned ≡ true) × (o.mark ≡ None)
IsOfKind tags o (Region tag) = (o.spawned ≡ false) × (tag < tags.count) × (o.mark ≡ Some (Execution (tags.name tag)))

-- the record of an open part, inside these open parts
pub record IsPart (from : Origin) (tags : Tags) (o : Open) (os : List Open) (p : Part) : Type 0 where
  pub kind : IsOfKind tags o p.kind
  pub site : p.site ≡ here_in (base_of from) os
  pub spawned : p.spawned ≡ has_spawned o.outer

-- the records of all open parts, the innermost first
abbrev pub AreParts : Origin → Tags → List Open → List Part → Type 0
AreParts from tags [] [] = Unit {0}
AreParts from tags [] (p ∷ ps) = ⊥
AreParts from tags (o ∷ os) [] = ⊥
AreParts from tags (o ∷ os) (p ∷ ps) = IsPart from tags o os p × AreParts from tags os ps
