use Rattle.cw_cli.proofs.Tools.{tries}
use Rattle.cw_cli.proofs.responses.refuse.Goals as goal

pub returns : goal.returns
returns g c = record {
  line = tries g.E.Sink.seen c.args.err.now c.write_fault.new.to _ c.write_fault.result c.write_fault.ensures;
  status_is = c.status.ensures;
}
