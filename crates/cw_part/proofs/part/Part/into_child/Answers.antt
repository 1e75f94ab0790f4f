use Rattle.std.proofs.Common.{ap, ◌∙◌}
use Rattle.cw_part.specs.Parts.{seen}
use Rattle.cw_part.specs.Read.{child_read}
use Rattle.cw_part.specs.RunParts.{RunPart, as_child}
use Rattle.cw_part.specs.RunPartLaws.{same_run}
use Rattle.cw_part.proofs.part.Part.into_child.Goals as goal

pub returns : goal.returns
returns c =
    same_run _ (as_child c.args.burden c.args.self) (ap (λ (r : RunPart). r.limit) c.self.view_is)
    (c.into_child-outcome.ensures ∙ ap (λ (r : RunPart). seen (child_read c.args.burden) r.came) c.self.view_is)
