-- Room in a list changes nothing that matters.
use Rattle.std.proofs.Common.{◌≡◌, ℕ, true, ◌&&◌, List, ap, Vec, Global}
use Rattle.std.specs.Prelude.{is_some, not, ◌||◌, slice_get}
use Rattle.cw_facts.specs.Tests.{first_true, second_true}
use Rattle.cw_sched.specs.core.Board.{oldest, of_worker}
use Rattle.cw_sched.specs.declared.event.Event.TheVariants as event
use Rattle.cw_sched.specs.Table.{is_possible, is_at_join}
use Rattle.cw_sched.specs.declared.world.Begun.{Begun}
use Rattle.cw_sched.specs.declared.world.World.{World}
use Rattle.cw_sched.specs.Boards.{boarded}
use Rattle.cw_sched.specs.Scenes.{Stage, Scene, scene, stacks, jobs_of, top}
use Rattle.cw_sched.proofs.Turns.{scene_of}

pub steal_room : (w : World) (begun : Vec (Vec Begun Global) Global) → stacks begun ≡ stacks w.begun → scene (record { code = w.code; jobs = w.jobs; begun = begun; board = w.board }) ≡ scene w
steal_room w begun same = ap (λ (l : List (List Stage)). scene_of (jobs_of w.jobs) l (boarded w.board)) same

pub steal_there : (s : Scene) (w v : ℕ) → is_possible s (event.Steal w v) ≡ true → is_some (slice_get s.begun w) ≡ true
steal_there s w v e =
    let a = is_some (slice_get s.begun w) in
    let b = not (is_some (top s w)) || is_at_join (top s w) in
    let d = is_some (oldest (of_worker s.board.offers v)) in
    first_true a b (first_true (a && b) d e)

pub steal_some : (s : Scene) (w v : ℕ) → is_possible s (event.Steal w v) ≡ true → is_some (oldest (of_worker s.board.offers v)) ≡ true
steal_some s w v e =
    let a = is_some (slice_get s.begun w) in
    let b = not (is_some (top s w)) || is_at_join (top s w) in
    let d = is_some (oldest (of_worker s.board.offers v)) in
    second_true (a && b) d e
