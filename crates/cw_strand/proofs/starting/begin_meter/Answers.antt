use Rattle.cw_strand.proofs.starting.begin_meter.Goals as goal

pub returns-in_ok-meter-in-WholeCall : goal.returns-in_ok-meter-in-WholeCall
returns-in_ok-meter-in-WholeCall c = rw c.in-WholeCall.is c.in_ok-meter-in-WholeCall.ensures

pub returns-in-ToJoin : goal.returns-in-ToJoin
returns-in-ToJoin c = rw c.in-ToJoin.is c.apart.ensures
