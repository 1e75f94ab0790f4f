use Rattle.cw_sites.proofs.RowLaws.{rows_joined}
use Rattle.cw_sites.proofs.rows.RowsBySite.join.Goals as goal

pub returns : goal.returns
returns c = rows_joined c.args.self.now c.args.piece c.join_firsts.new.self c.join_further.new.self c.in_ok-join_firsts.ensures c.in_ok-join_further.ensures
