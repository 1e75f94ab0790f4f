use Rattle.std.proofs.Common.{◌≡◌, ◌++◌, ◌∷◌, drop, get_or, ◌+◌, ap, sym, ◌∙◌, subst, add-one, drop-cons}
use Rattle.std.proofs.lemmas.List.{drop_all}
use Rattle.cw_report.specs.Texts.{function_line, function_lines}
use Rattle.cw_report.proofs.Lines.{Towards, arrived, onward}
use Rattle.cw_report.proofs.gain_table.push_functions.Goals as goal

pub loop-function-preserved : goal.loop-function-preserved
loop-function-preserved c =
    let work = c.args.work in
    let functions = c.args.functions.now in
    let item = c.function-item.result in
    let whole = function_lines work functions in
    let next : drop c.loop-function.function-index functions ≡ get_or functions c.loop-function.function-index item ∷ drop (c.loop-function.function-index + 1) functions =
    rw add-one (drop-cons functions c.loop-function.function-index item c.loop-function-test.true) in
    let cut : function_lines work (drop c.loop-function.function-index functions)
    ≡ function_line work item ++ function_lines work (drop (c.loop-function.function-index + 1) functions) =
    ap (function_lines work) next
    ∙ ap (λ f. function_line work f ++ function_lines work (drop (c.loop-function.function-index + 1) functions)) (sym c.function-item.is) in
    onward c.args.table.now c.loop-function.table c.push_function.new.table (function_line work item)
    (function_lines work (drop (c.loop-function.function-index + 1) functions)) whole
    (subst (λ l. Towards c.args.table.now c.loop-function.table l whole) cut c.loop-function.invariant) c.in_ok-push_function.ensures

pub returns : goal.returns
returns c =
    let work = c.args.work in
    let functions = c.args.functions.now in
    let whole = function_lines work functions in
    arrived c.args.table.now c.loop-function.table whole
    (subst (λ l. Towards c.args.table.now c.loop-function.table l whole)
    (ap (function_lines work) (drop_all c.loop-function.function-index functions c.loop-function-test.false)) c.loop-function.invariant)
