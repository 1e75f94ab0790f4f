use Rattle.std.proofs.Common.{List, refl, ap, length}
use Rattle.std.proofs.lemmas.Option.{slice_get_read}
use Rattle.cw_sched.specs.core.Board.{pushed}
use Rattle.cw_sched.specs.declared.board.Offer.{Offer}
use Rattle.cw_sched.proofs.Boards.{worker_set, worker_kept}
use Rattle.cw_sched.proofs.board.Board.offer.Goals as goal

pub returns-in-Ok-clause-offered : goal.returns-in-Ok-clause-offered
returns-in-Ok-clause-offered c =
    let b = c.args.self.now in
    let o : Offer = record { number = c.args.number; job = c.args.job } in
    ap (λ (l : List (List Offer)). record { offers = l; cells = b.cells.items })
    (worker_set (λ q. q.items) b.lists.items c.args.w c.index_mut.result.now c.push_back.new.self (λ l. pushed l o) c.requires.worker c.index_mut.ensures.value c.in-Ok.ensures.items)

pub returns-in-Err-clause-same : goal.returns-in-Err-clause-same
returns-in-Err-clause-same c =
    let b = c.args.self.now in
    ap (λ (l : List (List Offer)). record { offers = l; cells = b.cells.items })
    (worker_kept (λ q. q.items) b.lists.items c.args.w c.index_mut.result.now c.push_back.new.self c.requires.worker c.index_mut.ensures.value c.in-Err.ensures.items)

pub returns-in-Err-clause-full : goal.returns-in-Err-clause-full
returns-in-Err-clause-full c =
    let qs = c.args.self.now.lists.items in
    let q = c.index_mut.result.now in
    (q, slice_get_read qs (length qs) c.args.w q refl c.requires.worker c.index_mut.ensures.value, c.in-Err.ensures.full)
