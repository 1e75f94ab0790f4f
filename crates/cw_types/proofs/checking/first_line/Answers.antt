use Rattle.std.proofs.Common.{sym, ap, option_map, ◌∙◌}
use Rattle.cw_model.specs.Typing.{type_faults}
use Rattle.cw_tree.specs.SyntaxView.{program_of}
use Rattle.cw_text.specs.RecordedReasons.{line_of}
use Rattle.cw_types.proofs.Refusing.{first_told}
use Rattle.cw_types.proofs.checking.first_line.Goals as goal

pub returns-in-Some : goal.returns-in-Some
returns-in-Some c =
    sym (ap (option_map line_of) (sym c.first.ensures ∙ c.in-Some.is))
    ∙ first_told c.in_ok-told.told (type_faults (program_of c.args.ast.now)) c.in_ok-told.ensures.lines

pub returns-in-None : goal.returns-in-None
returns-in-None c =
    sym (ap (option_map line_of) (sym c.first.ensures ∙ c.in-None.is))
    ∙ first_told c.in_ok-told.told (type_faults (program_of c.args.ast.now)) c.in_ok-told.ensures.lines
