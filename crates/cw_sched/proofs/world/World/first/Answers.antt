use Rattle.std.proofs.Common.{◌≡◌, ◌∙◌, ◌<◌, sym, ap, length, get_or, arith}
use Rattle.std.specs.Prelude.{slice_get}
use Rattle.cw_sched.specs.core.Board.{oldest}
use Rattle.cw_sched.specs.Scenes.{stages}
use Rattle.cw_sched.proofs.Boards.{worker_read, worker_past}
use Rattle.cw_sched.proofs.Ends.{staged_first}
use Rattle.cw_sched.proofs.world.World.first.Goals as goal

pub returns-in-Some : goal.returns-in-Some
returns-in-Some c =
    let qs = c.args.self.now.begun.items in
    let q = c.in-Some.stack.now in
    let lt : 0 < length qs = grind (arith, c.deref.ensures.value, c.in-Some.ensures.lookup.0) in
    let is : q ≡ get_or qs 0 q = grind (arith, c.deref.ensures.value, c.in-Some.ensures.lookup) in
    staged_first c.first.result q.items (c.first.ensures.value ∙ ap (λ l. slice_get l 0) c.as_slice.ensures.value)
    ∙ sym (ap oldest (worker_read stages qs 0 q lt is))

pub returns-in-None : goal.returns-in-None
returns-in-None c =
    sym (ap oldest (worker_past stages c.args.self.now.begun.items 0 (grind (arith, c.deref.ensures.value, c.in-None.ensures.lookup.0))))
