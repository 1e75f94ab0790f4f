use Rattle.std.proofs.Common.{List, sym, ap, arith}
use Rattle.cw_facts.specs.Lists.{get_set}
use Rattle.cw_sched.specs.core.Board.{but_oldest}
use Rattle.cw_sched.specs.declared.board.Offer.{Offer}
use Rattle.cw_sched.proofs.Boards.{worker_set, oldest_there}
use Rattle.cw_sched.proofs.board.Board.steal.Goals as goal

pub returns-clause-stolen : goal.returns-clause-stolen
returns-clause-stolen c =
    let b = c.args.self.now in
    let lt = oldest_there (λ q. q.items) b.lists.items c.args.v c.requires in
    ap (λ (l : List (List Offer)). record { offers = l; cells = b.cells.items })
    (worker_set (λ q. q.items) b.lists.items c.args.v c.index_mut.result.now c.pop_front.new.self but_oldest lt c.index_mut.ensures.value
    (sym (ap but_oldest c.in-Some.ensures.items)))

pub returns-clause-room : goal.returns-clause-room
returns-clause-room c =
    let b = c.args.self.now in
    let lt = oldest_there (λ q. q.items) b.lists.items c.args.v c.requires in
    (c.pop_front.new.self, get_set b.lists.items c.args.v c.pop_front.new.self lt, omega (arith, c.in-Some.ensures.cases, c.pop_front.ensures.capacity, c.index_mut.result.now.small.1))
