use Rattle.std.proofs.Common.{refl, subst}
use Rattle.clap.specs.Words.{found_of}
use Rattle.cw_words.specs.Requests.{IsNumberOf}
use Rattle.cw_words.specs.NumberOptions.{row_of}
use Rattle.cw_words.proofs.Texts.{number_given}
use Rattle.cw_words.proofs.words.number_of.Goals as goal

pub returns : goal.returns
returns c =
    let text_is = number_given (found_of c.args.given.now) (row_of c.args.option) c.get_str.result c.args.option.usual c.unwrap_or-text.result c.get_str.ensures refl c.unwrap_or-text.ensures in
    subst (λ t. IsNumberOf t (row_of c.args.option) c.read_number.result) text_is c.read_number.ensures
