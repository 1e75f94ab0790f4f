use Rattle.std.proofs.Common.{◌≡◌, ◌+◌, ◌∷◌, ◌∙◌, ap, suc, arith, drop, slice_index_or}
use Rattle.cw_sched.specs.declared.event.Event.TheVariants as event
use Rattle.cw_sched.proofs.After.{still_world}
use Rattle.cw_sched.proofs.Keeping.{memory_was_wanting}
use Rattle.cw_sched.proofs.Plays.{drop_next, drop_none, plays_on, plays_out}
use Rattle.cw_sched.proofs.play.play.Goals as goal

pub loop-event-init : goal.loop-event-init
loop-event-init c = record { is = c.in_ok-world.ensures.is; first = c.in_ok-world.world; started = c.in_ok-world.ensures; leads = λ last h. h }

pub loop-event-preserved : goal.loop-event-preserved
loop-event-preserved c =
    let v = c.args.code.value in
    let events = c.args.events.now in
    let k = c.loop-event.event-index in
    let w = c.loop-event.world in
    let e = slice_index_or events k (event.Run 0) in
    let p = c.loop-event.invariant in
    let next : suc k ≡ k + 1 = omega arith in
    let left = drop_next events k (event.Run 0) c.loop-event-test.true ∙ ap (λ i. e ∷ drop i events) next in
    plays_on v c.args.args.now c.args.n c.args.burden c.args.workers events (drop k events) (drop (k + 1) events) e w c.apply.new.self p left
    (still_world v c.args.args.now c.args.n c.args.burden w c.apply.new.self p.is c.apply.ensures.sound c.apply.ensures.code c.apply.ensures.run)
    (record { answer = c.apply.result; happens = c.apply.ensures.does; not_now = c.apply.ensures.not_now; wants = c.apply.ensures.wants; memory = c.apply.ensures.keeps })

pub returns : goal.returns
returns c =
    let v = c.args.code.value in
    let events = c.args.events.now in
    let k = c.loop-event.event-index in
    let w = c.loop-event.world in
    let p = c.loop-event.invariant in
    let none = drop_none events k (omega (arith, c.loop-event-test.false)) in
    let leads = plays_out v c.args.args.now c.args.n c.args.burden c.args.workers events (drop k events) w p none in
    record {
      first = p.first;
      started = p.started;
      last = w;
      leads = leads;
      copy = c.outcome-outcome.ensures.copy;
      memory = memory_was_wanting v c.args.args.now c.args.n c.args.burden c.args.workers events p.first w p.started leads;
      serial = c.outcome-outcome.ensures.answers v c.args.args.now c.args.n c.args.burden p.is;
    }
