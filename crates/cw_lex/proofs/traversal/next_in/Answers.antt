use Rattle.std.proofs.Common.{arith}
use Rattle.cw_lex.proofs.Lines.{line_lf, line_same}
use Rattle.cw_lex.proofs.Reached.{begin_across, past_separator, past_comment, token_next, fault_next}
use Rattle.cw_lex.proofs.traversal.next_in.Goals as goal
use Rattle.cw_lex.proofs.traversal.next_in.Goals.{then-text-at-eq10, else-text-at-eq10}

pub loop-at-init : goal.loop-at-init
loop-at-init c = begin_across _ _ _ c.requires.within c.requires.same_line

pub loop-at-preserved-in-Separator : goal.loop-at-preserved-in-Separator
loop-at-preserved-in-Separator c =
    let text = c.args.text.now in
    let at = c.loop-at.at in
    let r = c.loop-at.invariant in
    elim c.if-text-at-eq10.branch [
      | then-text-at-eq10 w ↦ past_separator _ _ _ _ _ r c.loop-at-test.true c.in-Separator.ensures (omega (arith, r.same_line, line_lf text at c.loop-at-test.true w.if-text-at-eq10.true))
      | else-text-at-eq10 w ↦ past_separator _ _ _ _ _ r c.loop-at-test.true c.in-Separator.ensures (omega (arith, r.same_line, line_same text at c.loop-at-test.true w.if-text-at-eq10.false))
    ]

pub loop-at-preserved : goal.loop-at-preserved
loop-at-preserved c = past_comment _ _ _ _ _ c.loop-at.invariant c.in-Comment.ensures

pub returns-in-Token : goal.returns-in-Token
returns-in-Token c = token_next _ _ _ _ _ _ c.loop-at.invariant c.in-Token.ensures

pub returns-in-Uncut : goal.returns-in-Uncut
returns-in-Uncut c = fault_next _ _ _ _ _ c.loop-at.invariant c.in-Uncut.ensures
