use Rattle.std.proofs.Common.{nat_le, is_some, length, ap, sym, refl, ◌∙◌}
use Rattle.std.specs.Option.{option_to_list}
use Rattle.cw_model.specs.declared.limits.TheConstants.{MOST_PARAMETERS}
use Rattle.cw_model.specs.Lines.{lowest, unless}
use Rattle.cw_model.specs.lemmas.Lowest.{lowest-append}
use Rattle.cw_tree.specs.SyntaxView.{function_of}
use Rattle.cw_types.specs.Limits.{IsPassedByFunction, declared_past}
use Rattle.cw_types.specs.RecordingLines.{recorded_line}
use Rattle.cw_types.proofs.Among.{denied}
use Rattle.cw_types.proofs.RecordingLines.{and_then, found_true, least_true, lowest_least}
use Rattle.cw_types.proofs.limits.function_limits.Goals as goal

pub returns-clause-lines : goal.returns-clause-lines
returns-clause-lines c =
    let f = function_of c.args.function.now in
    let old = recorded_line c.args.told.now in
    let few = nat_le (length f.params) MOST_PARAMETERS in
    let past = declared_past f in
    let n = recorded_line c.note.new.self in
    c.record_least.ensures.lines
    ∙ ap (λ o. lowest n (option_to_list o)) c.declared_beyond.ensures
    ∙ lowest_least n past
    ∙ ap (λ o. lowest o past) (c.note.ensures.lines ∙ ap (λ b. lowest old (unless b f.line)) (denied (is_some c.many_params.result) few c.many_params.ensures.decides))
    ∙ sym (lowest-append old (unless few f.line) past)

pub returns-clause-told : goal.returns-clause-told
returns-clause-told c =
    let f = function_of c.args.function.now in
    let Such = IsPassedByFunction f in
    and_then Such c.args.told.now c.note.new.self c.record_least.new.self
    (found_true Such c.args.told.now c.note.new.self f.line c.many_params.result c.many_params.ensures.holds c.note.ensures.told)
    (least_true Such c.note.new.self c.record_least.new.self c.declared_beyond.result.line (declared_past f) _ c.declared_beyond.ensures (λ line h. (refl, h)) c.record_least.ensures.told)
