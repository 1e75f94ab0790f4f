use Rattle.std.proofs.Common.{◌≡◌, ◌∙◌, ◌-◌, ap, length, rules}
use Rattle.std.specs.Prelude.{slice_get}
use Rattle.cw_sched.specs.core.Board.{newest}
use Rattle.cw_sched.specs.Scenes.{staged}
use Rattle.cw_sched.specs.Table as table
use Rattle.cw_sched.proofs.Tops.{out_last}
use Rattle.cw_sched.proofs.world.newest_out.Goals as goal

pub returns-in-Some-Goes : goal.returns-in-Some-Goes
returns-in-Some-Goes c =
    let same : newest c.in-Some-Goes.post.outs.items ≡ table.newest_out (staged c.args.top) = search rules in
    out_last c.last.result c.in-Some-Goes.post.outs.items (c.last.ensures.value ∙ ap (λ l. slice_get l (length l - 1)) c.as_slice.ensures.value) ∙ same
