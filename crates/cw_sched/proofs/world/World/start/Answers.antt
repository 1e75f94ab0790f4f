use Rattle.std.proofs.Common.{◌≡◌, ◌∙◌, ◌-◌, ◌<◌, [], ◌∷◌, ap, arith}
use Rattle.std.specs.Arc.{arc_value}
use Rattle.cw_sched.specs.Boards.{opened}
use Rattle.cw_sched.specs.Scenes.{Goes, posted}
use Rattle.cw_sched.specs.Worlds.{idle}
use Rattle.cw_sched.proofs.Begins.{begins}
use Rattle.cw_sched.proofs.Doing.{scene_is}
use Rattle.cw_sched.proofs.world.World.start.Goals as goal

pub returns : goal.returns
returns c =
    let root = c.in_ok-root.root in
    let post = posted c.in_ok-post.post in
    let b = c.in_ok-post.ensures in
    let some : 0 < c.args.workers = omega (arith, c.if-workers-eq0.false) in
    let same : arc_value c.in_ok-code.code ≡ c.args.code.value =
    c.in_ok-code.ensures ∙ (ap (λ p. arc_value p.code) c.deref.ensures ∙ c.in_ok-root.ensures.code) in
    begins c.args.code.value c.args.args.now c.args.n c.args.burden c.args.workers _ root post some c.in_ok-root.ensures same
    (scene_is _ (root ∷ []) _ ((Goes post ∷ []) ∷ idle (c.args.workers - 1)) _ (opened c.args.workers) c.in_ok-jobs.ensures c.in_ok-begun.ensures c.in_ok-board.ensures)
    b.numbered b.of b.running b.none b.outs_are b.goes b.fresh b.count (b.whole c.in_ok-root.ensures.whole)
