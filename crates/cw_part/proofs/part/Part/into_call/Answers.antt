use Rattle.std.proofs.Common.{ap, ◌∙◌}
use Rattle.cw_part.specs.Parts.{seen}
use Rattle.cw_part.specs.Read.{call_read}
use Rattle.cw_part.specs.RunParts.{RunPart, as_call}
use Rattle.cw_part.specs.RunPartLaws.{same_run}
use Rattle.cw_part.proofs.part.Part.into_call.Goals as goal

pub returns : goal.returns
returns c =
    same_run _ (as_call c.args.self) (ap (λ (r : RunPart). r.limit) c.self.view_is)
    (c.into_call-outcome.ensures ∙ ap (λ (r : RunPart). seen call_read r.came) c.self.view_is)
