use Rattle.cw_sites.proofs.TrimLaws.{still_bounded, still_told}
use Rattle.cw_sites.proofs.table.SiteTable.trim.Goals as goal

pub returns-clause-told : goal.returns-clause-told
returns-clause-told c = λ base busy os es h. still_told base busy os es c.args.self.now c.trim.new.self c.trim.ensures h

pub returns-clause-bounded : goal.returns-clause-bounded
returns-clause-bounded c = λ most h. still_bounded most c.args.self.now c.trim.new.self c.trim.ensures h
