use Rattle.std.proofs.Common.{subst}
use Rattle.cw_regions.specs.declared.rows.RowsByTag.{RowsByTag}
use Rattle.cw_regions.specs.RegionRows.{under, AddsEach}
use Rattle.cw_regions.proofs.RowLaws.{joined_into_ours, joined_into_piece}
use Rattle.cw_regions.proofs.rows.RowsByTag.join.Goals as goal

pub returns-then-len : goal.returns-then-len
returns-then-len c = joined_into_ours c.args.self.now c.args.piece c.add.new.self c.add.ensures

pub returns-else-len : goal.returns-else-len
returns-else-len c =
    let new = c.add_under.new.self in
    let L : RowsByTag → Type 0 = λ longer. AddsEach under longer c.replace-ours.result new in
    let S : RowsByTag → Type 0 = λ shorter. AddsEach under c.args.piece shorter new in
    joined_into_piece c.args.self.now c.args.piece new (subst S c.replace-ours.ensures.value (subst L c.replace-ours.ensures.after c.add_under.ensures))
