use Rattle.std.proofs.Common.{◌≤◌, ◌<◌, length, ◌∙◌, arith}
use Rattle.cw_model.specs.declared.limits.TheConstants.{MOST_CALL_STATEMENTS, MOST_INSTRUCTIONS}
use Rattle.cw_gen.proofs.Small.{too_many_sites, too_long, generated, emitted_same}
use Rattle.cw_gen.proofs.generating.generate.Goals as goal

pub returns-then-len-gt-MOST_CALL_STATEMENTS : goal.returns-then-len-gt-MOST_CALL_STATEMENTS
returns-then-len-gt-MOST_CALL_STATEMENTS c =
    let core = c.args.core.now in
    let typed = core.source.typed in
    let many : MOST_CALL_STATEMENTS < length c.in_ok-sites.sites.items = omega (arith, c.len.ensures, c.if-len-gt-MOST_CALL_STATEMENTS.true) in
    too_many_sites c.while_is_least.ensures c.owned_is_lowerable.ensures c.lowering_keeps_answers.ensures.answers c.lowering_keeps_answers.ensures.size typed.tree core.tree typed.resolved typed.typed core.source.owned typed.within core.few
    c.core_is_lowered.ensures c.requires.source_like c.requires.numbered c.in_ok-sites.sites.items (c.in_ok-sites.ensures ∙ emitted_same c.deref.ensures.value) many

pub returns-then-len-gt-MOST_INSTRUCTIONS : goal.returns-then-len-gt-MOST_INSTRUCTIONS
returns-then-len-gt-MOST_INSTRUCTIONS c =
    let core = c.args.core.now in
    let typed = core.source.typed in
    let few : length c.in_ok-sites.sites.items ≤ MOST_CALL_STATEMENTS = omega (arith, c.len.ensures, c.if-len-gt-MOST_CALL_STATEMENTS.false) in
    let long : MOST_INSTRUCTIONS < length c.in_ok-code.code.instrs.items = omega (arith, c.len-2.ensures, c.if-len-gt-MOST_INSTRUCTIONS.true) in
    too_long c.while_is_least.ensures c.owned_is_lowerable.ensures c.lowering_keeps_answers.ensures.answers c.lowering_keeps_answers.ensures.size typed.tree core.tree typed.resolved typed.typed core.source.owned typed.within core.few
    c.core_is_lowered.ensures c.requires.source_like c.requires.numbered c.in_ok-sites.sites.items (c.in_ok-sites.ensures ∙ emitted_same c.deref.ensures.value) few c.in_ok-code.code c.in_ok-code.ensures long

pub returns : goal.returns
returns c =
    let core = c.args.core.now in
    let typed = core.source.typed in
    let few : length c.in_ok-sites.sites.items ≤ MOST_CALL_STATEMENTS = omega (arith, c.len.ensures, c.if-len-gt-MOST_CALL_STATEMENTS.false) in
    let short : length c.in_ok-code.code.instrs.items ≤ MOST_INSTRUCTIONS = omega (arith, c.len-2.ensures, c.if-len-gt-MOST_INSTRUCTIONS.false) in
    generated c.while_is_least.ensures c.owned_is_lowerable.ensures c.lowering_keeps_answers.ensures.answers c.lowering_keeps_answers.ensures.size typed.tree core.tree typed.resolved typed.typed core.source.owned typed.within core.few
    c.core_is_lowered.ensures c.requires.source_like c.requires.numbered c.in_ok-sites.sites.items (c.in_ok-sites.ensures ∙ emitted_same c.deref.ensures.value) few c.in_ok-code.code c.in_ok-code.ensures short
