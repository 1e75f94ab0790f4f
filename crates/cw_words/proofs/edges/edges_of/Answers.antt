use Rattle.std.proofs.Common.{refl, subst, codes}
use Rattle.clap.specs.Words.{found_of}
use Rattle.cw_words.specs.Command.{usual_edges}
use Rattle.cw_words.specs.Requests.{IsEdgesNamed}
use Rattle.cw_words.proofs.Texts.{word_given}
use Rattle.cw_words.proofs.edges.edges_of.Goals as goal

pub returns : goal.returns
returns c =
    let text_is = word_given (found_of c.args.given.now) (codes "edges") usual_edges c.get_str.result _ c.unwrap_or.result c.get_str.ensures refl c.unwrap_or.ensures in
    subst (λ t. IsEdgesNamed t c.edges_named.result) text_is c.edges_named.ensures
