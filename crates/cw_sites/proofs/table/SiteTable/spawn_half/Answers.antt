use Rattle.cw_sites.proofs.TableLaws.{half_begins, tight_bounded}
use Rattle.cw_sites.proofs.table.SiteTable.spawn_half.Goals as goal

pub returns-clause-told : goal.returns-clause-told
returns-clause-told c = λ base busy mark os es fs quiet since n small h.
    half_begins base busy mark os es fs c.args.self.now c.flush.new.self c.spawn.new.self c.args.count c.args.first quiet since n small h c.in_ok-flush.ensures.flushed c.in_ok-spawn.ensures.laid c.in_ok-spawn.ensures.strand_path

pub returns-clause-bounded : goal.returns-clause-bounded
returns-clause-bounded c = λ most h b.
    let f = c.in_ok-flush.ensures.bounded most b in
    tight_bounded most _ (record { paths = c.in_ok-spawn.ensures.bounded most f.paths; here = f.here })
