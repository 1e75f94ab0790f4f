use Rattle.std.proofs.Common.{◌≡◌, sym, subst}
use Rattle.std.specs.Prelude.{IfSome}
use Rattle.cw_machine.specs.Answering.{IsOfWhole}
use Rattle.cw_runnable.specs.declared.verified.Verified.{Verified}
use Rattle.cw_sched.specs.Scenes.{posted, stage_of}
use Rattle.cw_sched.specs.Events.{IsBegun}
use Rattle.cw_sched.proofs.world.turn.Goals as goal

pub as_begun-next-requires : goal.as_begun-next-requires
as_begun-next-requires c =
    subst (λ (x : Verified). c.args.post.number ≡ 0 → IfSome c.args.ended (λ e. ∥ IsOfWhole x e ∥₁)) (sym c.deref.ensures) c.requires.root

pub returns : goal.returns
returns c =
    record {
      stage = stage_of c.as_begun-next.result;
      begun = subst (λ (x : Verified). IsBegun x (posted c.args.post) c.args.ended (stage_of c.as_begun-next.result)) c.deref.ensures c.as_begun-next.ensures;
      is = c.put.ensures;
    }
