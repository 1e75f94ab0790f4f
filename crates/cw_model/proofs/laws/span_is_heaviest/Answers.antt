use Rattle.cw_model.specs.Burdens.{no_burden}
use Rattle.cw_model.proofs.Paths.{span_holds}
use Rattle.cw_model.proofs.laws.span_is_heaviest.Goals as goal

pub returns-clause-burdened : goal.returns-clause-burdened
returns-clause-burdened c = span_holds

pub returns-clause-plain : goal.returns-clause-plain
returns-clause-plain c = λ t. span_holds no_burden t
