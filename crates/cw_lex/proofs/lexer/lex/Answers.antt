use Rattle.std.proofs.Common.{refl, arith, subst, sym}
use Rattle.cw_model.specs.Tokens.{IsTokenCut, none}
use Rattle.cw_lex.specs.Faults.{HasNoCut}
use Rattle.cw_lex.proofs.Reached.{past_token, whole_cut, fault_reached}
use Rattle.cw_lex.proofs.Reasons.{no_cut_for}
use Rattle.cw_lex.proofs.lexer.lex.Goals as goal

pub loop-token-init : goal.loop-token-init
loop-token-init c = rw c.new-tokens.ensures.items (record { within = omega arith; same_line = refl; cut = none })

pub loop-token-preserved : goal.loop-token-preserved
loop-token-preserved c = rw c.in_ok-push-in-Token.ensures.items (past_token _ _ _ _ _ c.loop-token.invariant c.in-Token.ensures)

pub returns-in-End : goal.returns-in-End
returns-in-End c = subst (λ text. IsTokenCut text c.loop-token.tokens.items) c.bytes-text.ensures.value (whole_cut _ _ _ _ c.loop-token.invariant c.in-End.ensures)

pub returns-in-Uncut : goal.returns-in-Uncut
returns-in-Uncut c =
    let text = c.bytes-text.result.now in
    let found = c.in-Uncut.found in
    let fault = no_cut_for text found.reason found.line (fault_reached _ _ _ _ found c.loop-token.invariant c.in-Uncut.ensures) in
    subst (λ text. HasNoCut text c.fault_of.result) c.bytes-text.ensures.value (subst (λ f. HasNoCut text f) (sym c.fault_of.ensures) fault)
