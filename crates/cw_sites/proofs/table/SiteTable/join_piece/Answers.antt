use Rattle.std.proofs.Common.{◌+◌, ◌*◌, refl, arith}
use Rattle.cw_sites.specs.declared.table.SiteTable.{SiteTable}
use Rattle.cw_sites.specs.PathBounds.{most_steps}
use Rattle.cw_sites.proofs.TableLaws.{tight_bounded}
use Rattle.cw_sites.proofs.JoiningLaws.{table_piece}
use Rattle.cw_sites.proofs.table.SiteTable.join_piece.Goals as goal

pub returns-clause-told : goal.returns-clause-told
returns-clause-told c =
    let old = c.args.self.now in
    let new : SiteTable = record { rows = c.join.new.self; paths = c.append.new.self; noted = c.saturating_add-self.result; here = old.here } in
    table_piece old c.args.piece new c.args.first c.in_ok-join.ensures c.in_ok-append.ensures.laid c.in_ok-append.ensures.strand_path (λ h. omega arith) refl

pub returns-clause-bounded : goal.returns-clause-bounded
returns-clause-bounded c = λ most a b. tight_bounded most _ (record { paths = c.in_ok-append.ensures.bounded (2 * (most_steps most + 1)) most a.paths.sites b.paths; here = b.here })
