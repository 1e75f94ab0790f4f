use Rattle.std.proofs.Common.{refl, subst, sym}
use Rattle.crossbeam_deque.specs.Handles.{worker_view}
use Rattle.cw_yard.proofs.Outs.{Outs, outs}
use Rattle.cw_yard.proofs.Thefts.{leaves}
use Rattle.cw_yard.proofs.handoff.retake.Goals as goal

pub undo-requires-clause-out : goal.undo-requires-clause-out
undo-requires-clause-out c = subst (λ x. Outs x c.args.ticket.token.me) (sym c.if-cell-ticket.false) (outs c.args.ticket.cell c.args.ticket.token.me c.args.ticket.out c.args.ticket.empty)

-- the removed job is in another cell
pub returns-then-cell-ticket-clause-later : goal.returns-then-cell-ticket-clause-later
returns-then-cell-ticket-clause-later c = (
  refl,
  leaves c.args.table.now.table_id (worker_view c.args.own.now) (worker_view c.retake.new.own) c.in-Some.task c.args.ticket c.requires.own.0 c.in-Some.ensures.some c.if-cell-ticket.true,
)
