-- With each word so far a source goes on.
use Rattle.std.specs.Prelude.{All}
use Rattle.cw_explain.specs.Going.{CanFollow}
use Rattle.cw_explain.proofs.unparsed.choices.Given as goal

abbrev pub invariant-loop-word : goal.invariant-loop-word
invariant-loop-word l = All (λ word. CanFollow l.text word.now) l.expected.items
