use Rattle.std.proofs.Common.{refl, ◌≡◌, ◌&&◌, not, true, false, List, map, [], arith, ap, sym, ◌∙◌}
use Rattle.std.proofs.lemmas.Grind.{common_steps}
use Rattle.cw_tree.specs.SyntaxView.{function_of, param_of, program_of}
use Rattle.cw_model.specs.Typing.{block_returns}
use Rattle.cw_tree.specs.declared.syntax.Param.{Param}
use Rattle.cw_types.specs.ReasonMeaning.{OfReturns}
use Rattle.cw_types.specs.Typing.{are_new, is_right_main, returns_well}
use Rattle.cw_types.proofs.Heading.{head_by_parts}
use Rattle.cw_types.proofs.RecordingLines.{both_sides, broken, kept}
use Rattle.cw_types.proofs.functions.of_head.Goals as goal

pub returns-in-Some-clause-decides : goal.returns-in-Some-clause-decides
returns-in-Some-clause-decides c =
    rw (head_by_parts (program_of c.args.globals.now.ast.now) (function_of c.args.function.now)) (grind (arith, common_steps))

pub returns-then-may_end-clause-decides : goal.returns-then-may_end-clause-decides
returns-then-may_end-clause-decides c =
    let program = program_of c.args.globals.now.ast.now in
    let f = function_of c.args.function.now in
    let params : are_new program [] f.params ≡ true =
    ap (λ (ps : List Param). are_new program [] (map param_of ps)) (sym c.as_slice.ensures.value) ∙ kept (are_new program [] (map param_of c.as_slice.result.now)) c.in_default.ensures.decides in
    let returns : returns_well f ≡ false = broken (returns_well f) c.if-may_end.ensures in
    ap not (sym (head_by_parts program f ∙ ap (λ b. b && (returns_well f && is_right_main f)) params ∙ ap (λ b. b && is_right_main f) returns))

pub returns-in-Some-of_main-clause-decides : goal.returns-in-Some-of_main-clause-decides
returns-in-Some-of_main-clause-decides c =
    let program = program_of c.args.globals.now.ast.now in
    let f = function_of c.args.function.now in
    let params : are_new program [] f.params ≡ true =
    ap (λ (ps : List Param). are_new program [] (map param_of ps)) (sym c.as_slice.ensures.value) ∙ kept (are_new program [] (map param_of c.as_slice.result.now)) c.in_default.ensures.decides in
    let returns : returns_well f ≡ true = kept (returns_well f) c.if-may_end.ensures in
    let main : is_right_main f ≡ false = broken (is_right_main f) c.in-Some-of_main.ensures.decides in
    ap not (sym (head_by_parts program f ∙ ap (λ b. b && (returns_well f && is_right_main f)) params ∙ ap (λ b. b && is_right_main f) returns ∙ main))

pub returns-clause-decides : goal.returns-clause-decides
returns-clause-decides c =
    let program = program_of c.args.globals.now.ast.now in
    let f = function_of c.args.function.now in
    let params : are_new program [] f.params ≡ true =
    ap (λ (ps : List Param). are_new program [] (map param_of ps)) (sym c.as_slice.ensures.value) ∙ kept (are_new program [] (map param_of c.as_slice.result.now)) c.in_default.ensures.decides in
    let returns : returns_well f ≡ true = kept (returns_well f) c.if-may_end.ensures in
    let main : is_right_main f ≡ true = kept (is_right_main f) c.in_default-of_main.ensures.decides in
    ap not (sym (head_by_parts program f ∙ ap (λ b. b && (returns_well f && is_right_main f)) params ∙ ap (λ b. b && is_right_main f) returns ∙ main))

pub returns-then-may_end-clause-holds : goal.returns-then-may_end-clause-holds
returns-then-may_end-clause-holds c =
    let f = function_of c.args.function.now in
    let ends = both_sides f.gives_int (block_returns f.body) (broken (returns_well f) c.if-may_end.ensures) in
    OfReturns (refl, ends.0, ends.1)
