use Rattle.cw_words.proofs.Reading.{read_once}
use Rattle.cw_words.proofs.Taken.{taken}
use Rattle.cw_words.proofs.laws.read_words.Goals as goal

pub returns : goal.returns
returns c = record { taken = taken; once = read_once }
