use Rattle.std.proofs.Common.{rules, ◌==◌, sym, arith}
use Rattle.std.proofs.lemmas.List.Sums.{position_or_len_is}
use Rattle.cw_report.proofs.cells.end_at.Goals as goal

pub returns-else-text-end-clause-value : goal.returns-else-text-end-clause-value
returns-else-text-end-clause-value c =
    sym (position_or_len_is (λ b. b == c.args.at) c.args.text.now c.loop-end.end 0 c.loop-end.invariant.0 c.loop-end.invariant.1 (λ l. search rules))

pub returns-after-loop-end-clause-value : goal.returns-after-loop-end-clause-value
returns-after-loop-end-clause-value c =
    sym (position_or_len_is (λ b. b == c.args.at) c.args.text.now c.loop-end.end 0 c.loop-end.invariant.0 c.loop-end.invariant.1 (λ l. absurd (omega (arith, l))))
