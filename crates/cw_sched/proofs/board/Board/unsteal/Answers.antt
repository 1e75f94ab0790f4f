use Rattle.std.proofs.Common.{List, ◌∷◌, ap}
use Rattle.std.proofs.lemmas.Option.{slice_get_within}
use Rattle.cw_sched.specs.declared.board.Offer.{Offer}
use Rattle.cw_sched.proofs.Boards.{worker_set}
use Rattle.cw_sched.proofs.board.Board.unsteal.Goals as goal

pub returns : goal.returns
returns c =
    let b = c.args.self.now in
    ap (λ (l : List (List Offer)). record { offers = l; cells = b.cells.items })
    (worker_set (λ q. q.items) b.lists.items c.args.v c.index_mut.result.now c.push_front_reserved.new.self (λ l. c.args.offer ∷ l) (slice_get_within b.lists.items c.args.v c.requires.0 c.requires.1) c.index_mut.ensures.value
    c.push_front_reserved.ensures.items)
