-- The recorded lines so far, continued with the remaining tokens, are the recorded lines of all tokens.
use Rattle.std.proofs.Common.{◌≡◌, ◌≤◌, None, drop}
use Rattle.cw_parse.specs.Nesting.{first_passed}
use Rattle.cw_parse.proofs.nesting.first_passed.Given as goal

abbrev pub invariant-loop-token : goal.invariant-loop-token
invariant-loop-token l = record {
  passed : first_passed l.passed.first l.brackets l.row (drop l.token-index l.tokens) ≡ first_passed None 0 0 l.tokens;
  brackets_within : l.brackets ≤ l.token-index;
  row_within : l.row ≤ l.token-index;
}
