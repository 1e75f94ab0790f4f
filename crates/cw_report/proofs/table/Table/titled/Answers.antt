use Rattle.std.proofs.Common.{[]}
use Rattle.cw_report.proofs.table.Table.titled.Goals as goal

pub returns : goal.returns
returns c = c.in_ok-push.ensures [] c.new-table.ensures
