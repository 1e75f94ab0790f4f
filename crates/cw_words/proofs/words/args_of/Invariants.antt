-- The arguments so far are the arguments of the texts so far.
use Rattle.std.proofs.Common.{◌≡◌, map, take, pos}
use Rattle.std.specs.List.{All}
use Rattle.cw_model.specs.Pieces.{decimal_value}
use Rattle.cw_words.specs.Requests.{IsArgument}
use Rattle.cw_words.proofs.words.args_of.Given as goal

abbrev pub invariant-loop-text : goal.invariant-loop-text
invariant-loop-text l = record {
  values : l.args.items ≡ map (λ text. pos (decimal_value text.now)) (take l.text-index l.texts);
  arguments : All (λ text. IsArgument text.now) (take l.text-index l.texts);
}
