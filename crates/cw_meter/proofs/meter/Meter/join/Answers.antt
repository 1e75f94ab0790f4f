use Rattle.cw_meter.proofs.TableLaws.{tables_unspawned}
use Rattle.cw_meter.proofs.meter.Meter.join.Goals as goal

pub returns-in_ok-join-clause-told : goal.returns-in_ok-join-clause-told
returns-in_ok-join-clause-told c = λ burden tags from os es small light h. c.in_ok-join.ensures.told burden tags from os es c.if-self.true small light h

pub returns-else-self-clause-told : goal.returns-else-self-clause-told
returns-else-self-clause-told c = λ burden tags from os es small light h. tables_unspawned burden tags from c.args.count os es c.args.self.now.tables c.if-self.false h
