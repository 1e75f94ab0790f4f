use Rattle.std.proofs.Common.{map, List, Option, MatchOption, sym, ap, subst, ◌∙◌}
use Rattle.cw_model.specs.Typing.{type_faults}
use Rattle.cw_tree.specs.SyntaxView.{program_of}
use Rattle.cw_text.specs.Rising.{Has, there}
use Rattle.cw_text.specs.RecordedReasons.{least_lines, line_of}
use Rattle.cw_text.specs.declared.reasons.At.{At}
use Rattle.cw_types.specs.Faults.{IsPassedAt, IsWithin}
use Rattle.cw_types.specs.declared.reason.IllTyped.{IllTyped}
use Rattle.cw_types.specs.declared.reason.TooLarge.{TooLarge}
use Rattle.cw_types.proofs.Refusing.{all_within, lines_told, none_past, passed_so}
use Rattle.cw_types.proofs.checking.ill_typed.Goals as goal

pub faults-requires : goal.faults-requires
faults-requires c =
    let P = program_of c.args.ast.now in
    subst (λ (o : Option (At TooLarge)). MatchOption o (IsWithin P) (IsPassedAt P)) c.in-None.is c.in_ok-too_large.ensures

pub returns-in-Some-clause-lines : goal.returns-in-Some-clause-lines
returns-in-Some-clause-lines c =
    let P = program_of c.args.ast.now in
    ap (λ ps. map line_of (there ps)) c.new.ensures
    ∙ sym (ap least_lines (none_past P c.in-Some.field-0 (passed_so P c.in_ok-too_large.field-0 c.in-Some.field-0 c.in-Some.is c.in_ok-too_large.ensures)))

pub returns-in-Some-clause-holds : goal.returns-in-Some-clause-holds
returns-in-Some-clause-holds c = λ at h. absurd (subst (λ (ps : List (Option (At IllTyped))). Has ps at) c.new.ensures h)

pub returns-in_ok-told-in-None-clause-lines : goal.returns-in_ok-told-in-None-clause-lines
returns-in_ok-told-in-None-clause-lines c =
    let P = program_of c.args.ast.now in
    let within = subst (λ (o : Option (At TooLarge)). MatchOption o (IsWithin P) (IsPassedAt P)) c.in-None.is c.in_ok-too_large.ensures in
    lines_told c.in_ok-told-in-None.told (type_faults P) c.in_ok-told-in-None.ensures.lines ∙ sym (ap least_lines (all_within P within))
