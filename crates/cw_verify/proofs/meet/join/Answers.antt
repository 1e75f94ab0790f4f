use Rattle.std.proofs.Common.{sym, ap, ◌∙◌}
use Rattle.cw_verify.specs.Meetings.{meets}
use Rattle.cw_verify.specs.Table.{shape_view}
use Rattle.cw_verify.proofs.Numbering.{tells_alike}
use Rattle.cw_verify.proofs.Rounds.{meet_alike}
use Rattle.cw_verify.proofs.meet.join.Goals as goal

pub shared_each-requires-clause-alike : goal.shared_each-requires-clause-alike
shared_each-requires-clause-alike c =
    let there = shape_view c.args.there in
    let found = shape_view c.args.found.now in
    ap meets c.requires ∙ tells_alike there.outer found.outer ∙ meet_alike there found (sym c.if-not-can_meet.ensures)
