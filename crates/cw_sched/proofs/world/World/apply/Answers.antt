use Rattle.std.proofs.Common.{◌≡◌, true, sym, subst, rules}
use Rattle.std.specs.Prelude.{Ok}
use Rattle.cw_sched.specs.declared.event.Event.TheVariants as event
use Rattle.cw_sched.specs.Scenes.{scene}
use Rattle.cw_sched.specs.Lacking.{PreservesMemory}
use Rattle.cw_sched.specs.Table.{is_possible}
use Rattle.cw_sched.specs.MemoryNeeds.{MayNeedMemory}
use Rattle.cw_sched.specs.Worlds.{IsForMemory}
use Rattle.cw_sched.proofs.After.{kept_world, kept_run, not_not_now}
use Rattle.cw_sched.proofs.Keeping.{world_keeps}
use Rattle.cw_sched.proofs.Staying.{world_stays}
use Rattle.cw_sched.proofs.Wanting.{for_memory}
use Rattle.cw_sched.proofs.world.World.apply.Goals as goal

pub returns-in-Run-clause-sound : goal.returns-in-Run-clause-sound
returns-in-Run-clause-sound c = kept_world c.args.self.now c.run.new.self (event.Run c.in-Run.w) c.run.result c.requires c.run.ensures.code c.run.ensures.does

pub returns-in-Run-clause-run : goal.returns-in-Run-clause-run
returns-in-Run-clause-run c = kept_run c.args.self.now c.run.new.self (event.Run c.in-Run.w) c.run.result c.requires c.run.ensures.does

pub returns-in-Run-clause-not_now : goal.returns-in-Run-clause-not_now
returns-in-Run-clause-not_now c =
    let possible : is_possible (scene c.args.self.now) c.args.event ≡ true = search rules in
    not_not_now c.run.result (is_possible (scene c.args.self.now) c.args.event) possible c.run.ensures.memory

pub returns-in-Offer-clause-sound : goal.returns-in-Offer-clause-sound
returns-in-Offer-clause-sound c = kept_world c.args.self.now c.offer.new.self (event.Offer c.in-Offer.w) c.offer.result c.requires c.offer.ensures.code c.offer.ensures.does

pub returns-in-Offer-clause-run : goal.returns-in-Offer-clause-run
returns-in-Offer-clause-run c = kept_run c.args.self.now c.offer.new.self (event.Offer c.in-Offer.w) c.offer.result c.requires c.offer.ensures.does

pub returns-in-Offer-clause-not_now : goal.returns-in-Offer-clause-not_now
returns-in-Offer-clause-not_now c =
    let possible : is_possible (scene c.args.self.now) c.args.event ≡ true = search rules in
    not_not_now c.offer.result (is_possible (scene c.args.self.now) c.args.event) possible c.offer.ensures.memory

pub returns-in-Inline-clause-sound : goal.returns-in-Inline-clause-sound
returns-in-Inline-clause-sound c = kept_world c.args.self.now c.inline.new.self (event.Inline c.in-Inline.w) (Ok tt) c.requires c.inline.ensures.code c.inline.ensures.does

pub returns-in-Inline-clause-run : goal.returns-in-Inline-clause-run
returns-in-Inline-clause-run c = kept_run c.args.self.now c.inline.new.self (event.Inline c.in-Inline.w) (Ok tt) c.requires c.inline.ensures.does

pub returns-in-Retake-clause-sound : goal.returns-in-Retake-clause-sound
returns-in-Retake-clause-sound c = kept_world c.args.self.now c.retake.new.self (event.Retake c.in-Retake.w) (Ok tt) c.requires c.retake.ensures.code c.retake.ensures.does

pub returns-in-Retake-clause-run : goal.returns-in-Retake-clause-run
returns-in-Retake-clause-run c = kept_run c.args.self.now c.retake.new.self (event.Retake c.in-Retake.w) (Ok tt) c.requires c.retake.ensures.does

pub returns-in-Steal-clause-sound : goal.returns-in-Steal-clause-sound
returns-in-Steal-clause-sound c = kept_world c.args.self.now c.steal.new.self (event.Steal c.in-Steal.w c.in-Steal.v) c.steal.result c.requires c.steal.ensures.code c.steal.ensures.does

pub returns-in-Steal-clause-run : goal.returns-in-Steal-clause-run
returns-in-Steal-clause-run c = kept_run c.args.self.now c.steal.new.self (event.Steal c.in-Steal.w c.in-Steal.v) c.steal.result c.requires c.steal.ensures.does

pub returns-in-Steal-clause-not_now : goal.returns-in-Steal-clause-not_now
returns-in-Steal-clause-not_now c =
    let possible : is_possible (scene c.args.self.now) c.args.event ≡ true = search rules in
    not_not_now c.steal.result (is_possible (scene c.args.self.now) c.args.event) possible c.steal.ensures.memory

pub returns-in-Settle-clause-sound : goal.returns-in-Settle-clause-sound
returns-in-Settle-clause-sound c = kept_world c.args.self.now c.settle.new.self (event.Settle c.in-Settle.w) c.settle.result c.requires c.settle.ensures.code c.settle.ensures.does

pub returns-in-Settle-clause-run : goal.returns-in-Settle-clause-run
returns-in-Settle-clause-run c = kept_run c.args.self.now c.settle.new.self (event.Settle c.in-Settle.w) c.settle.result c.requires c.settle.ensures.does

pub returns-in-Settle-clause-not_now : goal.returns-in-Settle-clause-not_now
returns-in-Settle-clause-not_now c =
    let possible : is_possible (scene c.args.self.now) c.args.event ≡ true = search rules in
    not_not_now c.settle.result (is_possible (scene c.args.self.now) c.args.event) possible c.settle.ensures.memory

pub returns-in-Collect-clause-sound : goal.returns-in-Collect-clause-sound
returns-in-Collect-clause-sound c = kept_world c.args.self.now c.collect.new.self (event.Collect c.in-Collect.w) (Ok tt) c.requires c.collect.ensures.code c.collect.ensures.does

pub returns-in-Collect-clause-run : goal.returns-in-Collect-clause-run
returns-in-Collect-clause-run c = kept_run c.args.self.now c.collect.new.self (event.Collect c.in-Collect.w) (Ok tt) c.requires c.collect.ensures.does

pub returns-in-Run-clause-stays : goal.returns-in-Run-clause-stays
returns-in-Run-clause-stays c = world_stays c.args.self.now c.run.new.self (event.Run c.in-Run.w) c.run.result c.run.ensures.does

pub returns-in-Run-clause-wants : goal.returns-in-Run-clause-wants
returns-in-Run-clause-wants c =
    subst (λ e. IsForMemory c.run.result → MayNeedMemory c.args.self.now e) (sym c.in-Run.is) (for_memory c.run.result c.run.ensures.wants)

pub returns-in-Offer-clause-stays : goal.returns-in-Offer-clause-stays
returns-in-Offer-clause-stays c = world_stays c.args.self.now c.offer.new.self (event.Offer c.in-Offer.w) c.offer.result c.offer.ensures.does

pub returns-in-Offer-clause-wants : goal.returns-in-Offer-clause-wants
returns-in-Offer-clause-wants c =
    subst (λ e. IsForMemory c.offer.result → MayNeedMemory c.args.self.now e) (sym c.in-Offer.is) (for_memory c.offer.result c.offer.ensures.wants)

pub returns-in-Inline-clause-stays : goal.returns-in-Inline-clause-stays
returns-in-Inline-clause-stays c = world_stays c.args.self.now c.inline.new.self (event.Inline c.in-Inline.w) (Ok tt) c.inline.ensures.does

pub returns-in-Retake-clause-stays : goal.returns-in-Retake-clause-stays
returns-in-Retake-clause-stays c = world_stays c.args.self.now c.retake.new.self (event.Retake c.in-Retake.w) (Ok tt) c.retake.ensures.does

pub returns-in-Steal-clause-stays : goal.returns-in-Steal-clause-stays
returns-in-Steal-clause-stays c = world_stays c.args.self.now c.steal.new.self (event.Steal c.in-Steal.w c.in-Steal.v) c.steal.result c.steal.ensures.does

pub returns-in-Settle-clause-stays : goal.returns-in-Settle-clause-stays
returns-in-Settle-clause-stays c = world_stays c.args.self.now c.settle.new.self (event.Settle c.in-Settle.w) c.settle.result c.settle.ensures.does

pub returns-in-Settle-clause-wants : goal.returns-in-Settle-clause-wants
returns-in-Settle-clause-wants c =
    subst (λ e. IsForMemory c.settle.result → MayNeedMemory c.args.self.now e) (sym c.in-Settle.is) (for_memory c.settle.result c.settle.ensures.wants)

pub returns-in-Collect-clause-stays : goal.returns-in-Collect-clause-stays
returns-in-Collect-clause-stays c = world_stays c.args.self.now c.collect.new.self (event.Collect c.in-Collect.w) (Ok tt) c.collect.ensures.does

pub returns-in-Run-clause-keeps : goal.returns-in-Run-clause-keeps
returns-in-Run-clause-keeps c =
    subst (λ e. PreservesMemory e (scene c.args.self.now) (scene c.run.new.self)) (sym c.in-Run.is)
    (world_keeps c.args.self.now c.run.new.self (event.Run c.in-Run.w) c.run.result c.run.ensures.does)

pub returns-in-Offer-clause-keeps : goal.returns-in-Offer-clause-keeps
returns-in-Offer-clause-keeps c =
    subst (λ e. PreservesMemory e (scene c.args.self.now) (scene c.offer.new.self)) (sym c.in-Offer.is)
    (world_keeps c.args.self.now c.offer.new.self (event.Offer c.in-Offer.w) c.offer.result c.offer.ensures.does)

pub returns-in-Inline-clause-keeps : goal.returns-in-Inline-clause-keeps
returns-in-Inline-clause-keeps c =
    subst (λ e. PreservesMemory e (scene c.args.self.now) (scene c.inline.new.self)) (sym c.in-Inline.is)
    (world_keeps c.args.self.now c.inline.new.self (event.Inline c.in-Inline.w) (Ok tt) c.inline.ensures.does)

pub returns-in-Retake-clause-keeps : goal.returns-in-Retake-clause-keeps
returns-in-Retake-clause-keeps c =
    subst (λ e. PreservesMemory e (scene c.args.self.now) (scene c.retake.new.self)) (sym c.in-Retake.is)
    (world_keeps c.args.self.now c.retake.new.self (event.Retake c.in-Retake.w) (Ok tt) c.retake.ensures.does)

pub returns-in-Steal-clause-keeps : goal.returns-in-Steal-clause-keeps
returns-in-Steal-clause-keeps c =
    subst (λ e. PreservesMemory e (scene c.args.self.now) (scene c.steal.new.self)) (sym c.in-Steal.is)
    (world_keeps c.args.self.now c.steal.new.self (event.Steal c.in-Steal.w c.in-Steal.v) c.steal.result c.steal.ensures.does)

pub returns-in-Settle-clause-keeps : goal.returns-in-Settle-clause-keeps
returns-in-Settle-clause-keeps c =
    subst (λ e. PreservesMemory e (scene c.args.self.now) (scene c.settle.new.self)) (sym c.in-Settle.is)
    (world_keeps c.args.self.now c.settle.new.self (event.Settle c.in-Settle.w) c.settle.result c.settle.ensures.does)

pub returns-in-Collect-clause-keeps : goal.returns-in-Collect-clause-keeps
returns-in-Collect-clause-keeps c =
    subst (λ e. PreservesMemory e (scene c.args.self.now) (scene c.collect.new.self)) (sym c.in-Collect.is)
    (world_keeps c.args.self.now c.collect.new.self (event.Collect c.in-Collect.w) (Ok tt) c.collect.ensures.does)
