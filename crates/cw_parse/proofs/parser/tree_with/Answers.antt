use Rattle.std.proofs.Common.{◌≡◌, ◌-◌, length, drop, Err, sym, ap, subst, ◌∙◌, arith}
use Rattle.cw_model.specs.Grammar.{Derives, HasSyntaxFault, first_line}
use Rattle.cw_tree.specs.SyntaxView.{program_of}
use Rattle.cw_parse.specs.Reading.{Fails}
use Rattle.cw_parse.specs.Parts.{whole}
use Rattle.cw_parse.proofs.Items.{Answer, fault_there, whole_answers}
use Rattle.cw_parse.proofs.Cuts.{fewer_tokens}
use Rattle.cw_parse.proofs.parser.tree_with.Goals as goal

pub whole-requires : goal.whole-requires
whole-requires c =
    let few = fewer_tokens c.args.source.now 0 c.args.tokens.now (length c.args.source.now) c.requires in
    let short = c.bytes-text.ensures.valid.short in
    omega arith

pub returns-in-Ok : goal.returns-in-Ok
returns-in-Ok c =
    let text = c.bytes-text.result.now in
    let ast = program_of c.in-Ok.ast in
    let answer : Derives text c.args.tokens.now ast = subst (λ r. Answer text c.args.tokens.now r) c.in-Ok.ensures (whole_answers text c.args.tokens.now) in
    subst (λ w. Derives w c.args.tokens.now ast) c.bytes-text.ensures.value answer

pub returns-in-Err-At : goal.returns-in-Err-At
returns-in-Err-At c =
    let text = c.bytes-text.result.now in
    let ts = c.args.tokens.now in
    let stops : whole text (length ts) ts ≡ Err c.in-Err-At.left = subst (λ s. Fails s (whole text (length ts) ts)) c.in-Err-At.field-0-is c.in-Err-At.ensures in
    let answer : HasSyntaxFault text ts (first_line text (drop (length ts - c.in-Err-At.left) ts)) =
    fault_there text ts (length ts - c.in-Err-At.left) (subst (λ r. Answer text ts r) stops (whole_answers text ts)) in
    let source = c.args.source.now in
    let there : HasSyntaxFault source ts (first_line source (drop (length ts - c.in-Err-At.left) ts)) =
    subst (λ w. HasSyntaxFault w ts (first_line w (drop (length ts - c.in-Err-At.left) ts))) c.bytes-text.ensures.value answer in
    let line = c.line_of-line.ensures ∙ ap (λ n. first_line source (drop (length ts - n) ts)) c.in-Err-At.left-is in
    subst (λ l. HasSyntaxFault source ts l) (sym line) there
