use Rattle.std.proofs.Common.{[], ap, length, arith}
use Rattle.cw_types.proofs.Newest.{known_length}
use Rattle.cw_types.proofs.known.Known.len.Goals as goal

pub returns : goal.returns
returns c =
    let counted = known_length [] c.self.inside.entries.items in
    let same = ap length c.self.view_is in
    omega (arith, counted, same, c.len.ensures)
