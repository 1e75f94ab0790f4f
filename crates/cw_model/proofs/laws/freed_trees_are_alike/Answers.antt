use Rattle.cw_model.specs.lemmas.Freed.{freed_regrouped, freed_agrees}
use Rattle.cw_model.proofs.laws.freed_trees_are_alike.Goals as goal

pub returns : goal.returns
returns c = record {
  grouped = λ frees t u r. freed_regrouped frees 0 r;
  sites = λ count frees others t h s agree. freed_agrees count frees others agree 0 t h s;
}
