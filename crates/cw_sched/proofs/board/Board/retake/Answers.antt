use Rattle.std.proofs.Common.{◌≡◌, ◌≢◌, ◌∙◌, List, Some, None, sym, ap}
use Rattle.std.specs.Prelude.{map}
use Rattle.cw_sched.specs.core.Board.{newest, but_newest, of_worker}
use Rattle.cw_sched.specs.declared.board.Offer.{Offer}
use Rattle.cw_sched.proofs.Lists.{newest_pushed, but_newest_pushed}
use Rattle.cw_sched.proofs.Boards.{worker_read, worker_set, newest_there}
use Rattle.cw_sched.specs.Boards.{back_number}
use Rattle.cw_sched.proofs.board.Board.retake.Goals as goal

there : (l : List Offer) (n : _) → back_number (newest l) ≡ Some n → newest l ≢ None
there l n e none = let never : ⊥ = cc in absurd never

numbered : (o : Offer) (n : _) → back_number (Some o) ≡ Some n → Some o ≡ Some (record { number = n; job = o.job })
numbered o n e = let same : o.number ≡ n = cc in ap (λ m. Some (record { number = m; job = o.job })) same

pub returns-clause-job : goal.returns-clause-job
returns-clause-job c =
    let b = c.args.self.now in
    let lt = newest_there (λ q. q.items) b.lists.items c.args.w (there (of_worker (map (λ q. q.items) b.lists.items) c.args.w) c.args.number c.requires) in
    let read = worker_read (λ q. q.items) b.lists.items c.args.w c.index_mut.result.now lt c.index_mut.ensures.value in
    let is : newest (of_worker (map (λ q. q.items) b.lists.items) c.args.w) ≡ Some c.in-Some.offer =
    ap newest (read ∙ c.in-Some.ensures.items) ∙ newest_pushed c.pop_back.new.self.items c.in-Some.offer in
    is ∙ numbered c.in-Some.offer c.args.number (ap back_number (sym is) ∙ c.requires)

pub returns-clause-retaken : goal.returns-clause-retaken
returns-clause-retaken c =
    let b = c.args.self.now in
    let lt = newest_there (λ q. q.items) b.lists.items c.args.w (there (of_worker (map (λ q. q.items) b.lists.items) c.args.w) c.args.number c.requires) in
    ap (λ (l : List (List Offer)). record { offers = l; cells = b.cells.items })
    (worker_set (λ q. q.items) b.lists.items c.args.w c.index_mut.result.now c.pop_back.new.self but_newest lt c.index_mut.ensures.value
    (sym (ap but_newest c.in-Some.ensures.items ∙ but_newest_pushed c.pop_back.new.self.items c.in-Some.offer)))
