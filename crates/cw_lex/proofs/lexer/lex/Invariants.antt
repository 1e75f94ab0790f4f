use Rattle.std.proofs.Common.{length, ◌-◌}
use Rattle.cw_lex.proofs.Reached.{IsReached}
use Rattle.cw_lex.proofs.lexer.lex.Given as goal

abbrev pub invariant-loop-token : goal.invariant-loop-token
invariant-loop-token l = IsReached l.text l.tokens.items l.at l.line

abbrev pub decreases-loop-token : goal.decreases-loop-token
decreases-loop-token l = length l.text - l.at
