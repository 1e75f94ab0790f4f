use Rattle.std.proofs.Common.{◌≡◌, ◌-◌, ◌+◌, suc, arith, ap, sym, ◌∙◌}
use Rattle.cw_explain.specs.Lines.{behind_lines, first_line}
use Rattle.cw_explain.proofs.excerpt.line_of.Goals as goal

pub loop-passed-preserved : goal.loop-passed-preserved
loop-passed-preserved c =
    let left = c.args.line - (c.loop-passed.passed + 1) in
    let one_less : c.args.line - c.loop-passed.passed ≡ suc left = omega (arith, c.loop-passed-test.true) in
    ap (behind_lines left) c.after_line-rest.ensures
    ∙ ap (λ n. behind_lines n c.loop-passed.rest.now) (sym one_less)
    ∙ c.loop-passed.invariant

pub returns : goal.returns
returns c =
    let none : c.args.line - c.loop-passed.passed ≡ 0 = omega (arith, c.loop-passed-test.false) in
    c.first_line.ensures
    ∙ ap (λ n. first_line (behind_lines n c.loop-passed.rest.now)) (sym none)
    ∙ ap first_line c.loop-passed.invariant
