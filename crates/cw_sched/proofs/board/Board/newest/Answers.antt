use Rattle.std.proofs.Common.{◌≡◌, ◌∙◌, sym, ap, length, arith}
use Rattle.cw_sched.specs.core.Board.{newest}
use Rattle.cw_sched.proofs.Boards.{worker_read}
use Rattle.std.proofs.Common.{◌<◌, ◌≤◌, get_or}
use Rattle.cw_sched.specs.Boards.{back_number}
use Rattle.cw_sched.proofs.Boards.{worker_past, last_read, none_read}
use Rattle.cw_sched.proofs.board.Board.newest.Goals as goal

pub returns-in-Some-back : goal.returns-in-Some-back
returns-in-Some-back c =
    let qs = c.args.self.now.lists.items in
    let q = c.in-Some.list.now in
    let lt : c.args.w < length qs = grind (arith, c.deref.ensures.value, c.in-Some.ensures.lookup.0) in
    let is : q ≡ get_or qs c.args.w q = grind (arith, c.deref.ensures.value, c.in-Some.ensures.lookup) in
    let read = worker_read (λ x. x.items) qs c.args.w q lt is in
    let some : 0 < q.len = grind (arith, c.in-Some-back.ensures.variant) in
    sym (ap (λ l. back_number (newest l)) read
    ∙ ap back_number (last_read q.items q.len c.in-Some-back.offer.now q.ok.0 some c.in-Some-back.ensures.lookup))

pub returns-in-None-back : goal.returns-in-None-back
returns-in-None-back c =
    let qs = c.args.self.now.lists.items in
    let q = c.in-Some.list.now in
    let lt : c.args.w < length qs = grind (arith, c.deref.ensures.value, c.in-Some.ensures.lookup.0) in
    let is : q ≡ get_or qs c.args.w q = grind (arith, c.deref.ensures.value, c.in-Some.ensures.lookup) in
    let read = worker_read (λ x. x.items) qs c.args.w q lt is in
    let none : q.len ≤ 0 = grind (arith, c.in-None-back.ensures.variant) in
    sym (ap (λ l. back_number (newest l)) read
    ∙ ap back_number (none_read q.items q.len q.ok.0 none))

pub returns-in-None : goal.returns-in-None
returns-in-None c =
    sym (ap (λ l. back_number (newest l))
    (worker_past (λ q. q.items) c.args.self.now.lists.items c.args.w (grind (arith, c.deref.ensures.value, c.in-None.ensures.lookup.0))))
