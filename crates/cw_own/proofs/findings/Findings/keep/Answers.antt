use Rattle.std.proofs.Common.{Some, ap, ◌∙◌}
use Rattle.cw_text.specs.Rising.{kept}
use Rattle.cw_own.specs.Reasons.{Reason, line_in, reasons_at}
use Rattle.cw_own.specs.Views.{views_at}
use Rattle.cw_own.proofs.Small.{found_kept}
use Rattle.cw_own.proofs.findings.Findings.keep.Goals as goal

pub returns : goal.returns
returns c =
    ap views_at c.note.ensures.is
    ∙ found_kept c.args.line (Some c.told.result) c.args.self.now.reasons.places
    ∙ ap (λ (r : Reason). kept line_in (views_at c.args.self.now.reasons.places) (reasons_at c.args.line (Some r))) c.told.ensures
