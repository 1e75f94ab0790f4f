use Rattle.std.proofs.Common.{◌∙◌}
use Rattle.cw_yard.proofs.Outs.{outs}
use Rattle.cw_yard.proofs.Thefts.{collects}
use Rattle.cw_yard.proofs.handoff.collect.Goals as goal

pub collect-requires-clause-out : goal.collect-requires-clause-out
collect-requires-clause-out c = outs c.args.ticket.cell c.args.ticket.token.me c.args.ticket.out c.args.ticket.empty

pub returns-in-Some-clause-done : goal.returns-in-Some-clause-done
returns-in-Some-clause-done c = (
  collects c.args.ticket.cell c.args.ticket.token.me c.in-Some.left c.into_effect.result c.args.ticket.out c.args.ticket.empty c.into_effect.ensures
      (c.collect.ensures.done c.in-Some.left c.in-Some.is).1,
  c.collect.ensures.same ∙ c.requires.table.0,
)
