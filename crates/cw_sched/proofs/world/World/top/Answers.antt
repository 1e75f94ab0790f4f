use Rattle.std.proofs.Common.{◌≡◌, ◌∙◌, ◌<◌, ◌-◌, sym, ap, length, get_or, arith}
use Rattle.std.specs.Prelude.{slice_get}
use Rattle.cw_sched.specs.core.Board.{newest}
use Rattle.cw_sched.specs.Scenes.{stages}
use Rattle.cw_sched.proofs.Boards.{worker_read, worker_past}
use Rattle.cw_sched.proofs.Tops.{staged_last}
use Rattle.cw_sched.proofs.world.World.top.Goals as goal

pub returns-in-Some : goal.returns-in-Some
returns-in-Some c =
    let qs = c.args.self.now.begun.items in
    let q = c.in-Some.stack.now in
    let lt : c.args.w < length qs = grind (arith, c.deref.ensures.value, c.in-Some.ensures.lookup.0) in
    let is : q ≡ get_or qs c.args.w q = grind (arith, c.deref.ensures.value, c.in-Some.ensures.lookup) in
    staged_last c.last.result q.items (c.last.ensures.value ∙ ap (λ l. slice_get l (length l - 1)) c.as_slice.ensures.value)
    ∙ sym (ap newest (worker_read stages qs c.args.w q lt is))

pub returns-in-None : goal.returns-in-None
returns-in-None c =
    sym (ap newest (worker_past stages c.args.self.now.begun.items c.args.w (grind (arith, c.deref.ensures.value, c.in-None.ensures.lookup.0))))
