use Rattle.std.proofs.Common.{ap, ◌∙◌}
use Rattle.cw_verify.specs.Table.{are_unmarked}
use Rattle.cw_verify.proofs.SlotMarks.{unmarked_from_none}
use Rattle.cw_verify.proofs.named.names_arrays.Goals as goal

pub returns : goal.returns
returns c =
    let passed = c.args.passed.now in
    c.are_unmarked.ensures ∙ ap (λ row. are_unmarked row passed) c.in_ok-row.ensures ∙ unmarked_from_none c.args.arrays passed
