use Rattle.std.proofs.Common.{arith}
use Rattle.cw_sites.proofs.RowLaws.{on_row, on_first}
use Rattle.cw_sites.proofs.rows.RowsBySite.join_beyond.Goals as goal

pub returns-then-place-len : goal.returns-then-place-len
returns-then-place-len c = on_first c.args.piece.now c.args.self.now c.args.place (omega arith)

pub returns : goal.returns
returns c = on_row c.args.piece.now c.args.self.now c.add.new.self c.args.place c.row_at.result (omega arith) c.row_at.ensures c.in_ok-add.ensures.own c.in_ok-add.ensures.others
