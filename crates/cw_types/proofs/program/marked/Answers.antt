use Rattle.std.proofs.Common.{◌∙◌, [], ap}
use Rattle.cw_model.specs.Sizes.{first_places}
use Rattle.cw_types.specs.Regions.{regions_of}
use Rattle.cw_types.proofs.program.marked.Goals as goal

pub returns : goal.returns
returns c =
    c.in_ok-found.ensures
    ∙ ap (λ ms. first_places (regions_of ms) []) c.deref.ensures.value
    ∙ ap (λ ds. first_places ds []) c.in_ok-regions.ensures
