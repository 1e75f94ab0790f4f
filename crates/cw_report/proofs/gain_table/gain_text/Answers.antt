use Rattle.std.proofs.Common.{◌≡◌, ℕ, List, ◌++◌, ap, ◌∙◌, append_assoc}
use Rattle.cw_model.specs.Report.{gain_header}
use Rattle.cw_report.specs.Texts.{function_lines, whole_line}
use Rattle.cw_report.proofs.gain_table.gain_text.Goals as goal

regrouped : (made header whole lines : List ℕ) → made ≡ (header ++ whole) ++ lines → made ≡ header ++ (whole ++ lines)
regrouped made header whole lines h = h ∙ append_assoc header whole lines

pub returns-clause-ok : goal.returns-clause-ok
returns-clause-ok c =
    let gains = c.args.gains.now in
    let whole = c.in_ok-push_whole.ensures gain_header c.in_ok-table.ensures in
    let functions = c.in_ok-push_functions.ensures _ whole in
    let text = c.in_ok-text.ensures _ functions in
    regrouped c.in_ok-text.text.items gain_header (whole_line gains.measure) (function_lines gains.measure.work gains.functions.items)
    (text ∙ ap (λ all. (gain_header ++ whole_line gains.measure) ++ function_lines gains.measure.work all) c.deref.ensures.value)
