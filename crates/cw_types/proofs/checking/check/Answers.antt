use Rattle.std.proofs.Common.{ap, ◌∙◌}
use Rattle.cw_model.specs.Sizes.{limit_faults}
use Rattle.cw_model.specs.Typing.{type_faults}
use Rattle.cw_tree.specs.SyntaxView.{program_of}
use Rattle.cw_tree.specs.Bounds.{is_fitting}
use Rattle.cw_tree.specs.Resolved.{plain}
use Rattle.cw_tree.specs.Slots.{is_resolved}
use Rattle.cw_types.proofs.Refusing.{least_so, passed_so, typed_so, within_so}
use Rattle.cw_types.proofs.checking.check.Goals as goal

pub returns-in-Some : goal.returns-in-Some
returns-in-Some c = (passed_so (program_of c.args.ast) c.in_ok-at.field-0 c.in-Some.at c.in-Some.is c.in_ok-at.ensures).0

pub first_line-requires : goal.first_line-requires
first_line-requires c = within_so (program_of c.args.ast) c.in_ok-at.field-0 c.in_default.not-Some c.in_ok-at.ensures

pub returns-in-Some-2 : goal.returns-in-Some-2
returns-in-Some-2 c = record {
  within = within_so (program_of c.args.ast) c.in_ok-at.field-0 c.in_default.not-Some c.in_ok-at.ensures;
  least = least_so (type_faults (program_of c.args.ast)) c.in_ok-line.field-0 c.in-Some-2.line c.in-Some-2.is c.in_ok-line.ensures;
}

pub resolve-requires : goal.resolve-requires
resolve-requires c = within_so (program_of c.args.ast) c.in_ok-at.field-0 c.in_default.not-Some c.in_ok-at.ensures

pub invariant_of-result : goal.invariant_of-result
invariant_of-result c =
    let program = program_of c.args.ast in
    let fits = within_so program c.in_ok-at.field-0 c.in_default.not-Some c.in_ok-at.ensures in
    let typed = typed_so (type_faults program) c.in_ok-line.field-0 c.in_default-2.not-Some c.in_ok-line.ensures in
    let same = ap plain c.in_ok-tree.ensures ∙ c.plain_of_resolved.ensures program typed in
    record {
      resolved = ap is_resolved c.in_ok-tree.ensures ∙ c.resolved_is_right.ensures program typed;
      within = ap limit_faults same ∙ fits;
      typed = ap type_faults same ∙ typed;
      fitting = ap is_fitting c.in_ok-tree.ensures ∙ c.resolved_is_fitting.ensures program fits typed;
    }

pub returns : goal.returns
returns c =
    let program = program_of c.args.ast in
    record {
      same = ap plain c.in_ok-tree.ensures ∙ c.plain_of_resolved.ensures program (typed_so (type_faults program) c.in_ok-line.field-0 c.in_default-2.not-Some c.in_ok-line.ensures);
      within = within_so program c.in_ok-at.field-0 c.in_default.not-Some c.in_ok-at.ensures;
      typed = typed_so (type_faults program) c.in_ok-line.field-0 c.in_default-2.not-Some c.in_ok-line.ensures;
    }
