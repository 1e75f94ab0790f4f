use Rattle.std.proofs.Common.{rules, ◌≡◌, [], sym, subst}
use Rattle.cw_facts.specs.Lists.{each_pushed}
use Rattle.cw_yard.specs.Seats.{table_of}
use Rattle.cw_yard.specs.Opens.{HasPasses}
use Rattle.cw_yard.specs.Ledger.{Each}
use Rattle.cw_yard.specs.Words.{stolen}
use Rattle.crossbeam_deque.specs.Handles.{view}
use Rattle.cw_yard.proofs.Openings.{may_guest, deques_set, passes_snoc, new_pass}
use Rattle.cw_yard.proofs.open.passes.Goals as goal

pub guest-requires : goal.guest-requires
guest-requires c = may_guest (table_of c.args.yard.now) c.loop-k.owns.items c.loop-k.k c.index_mut-own.result.now c.loop-k.invariant.0.1 (search rules) c.index_mut-own.ensures.value

pub returns-in_err-push-clause-deques : goal.returns-in_err-push-clause-deques
returns-in_err-push-clause-deques c =
    deques_set c.args.yard.now c.loop-k.owns.items c.loop-k.k c.index_mut-own.result.now c.guest.new.own (search rules) c.index_mut-own.ensures.value
    c.guest.ensures.same.0.0 c.guest.ensures.same.0.1 c.guest.ensures.same.1 c.loop-k.invariant.0

pub loop-k-preserved : goal.loop-k-preserved
loop-k-preserved c = (
  deques_set c.args.yard.now c.loop-k.owns.items c.loop-k.k c.index_mut-own.result.now c.guest.new.own (search rules) c.index_mut-own.ensures.value
      c.guest.ensures.same.0.0 c.guest.ensures.same.0.1 c.guest.ensures.same.1 c.loop-k.invariant.0,
  (search rules),
  (search rules),
  subst (λ l. HasPasses c.args.yard.now l) (sym c.in_ok-push.ensures.items)
      (passes_snoc c.args.yard.now c.loop-k.owns.items c.loop-k.made.items c.guest.result c.loop-k.k c.index_mut-own.result.now c.loop-k.invariant.0 c.loop-k.invariant.1 (search rules) c.index_mut-own.ensures.value c.guest.ensures.thief.0 c.guest.ensures.thief.1 c.loop-k.invariant.3),
  subst (λ l. Each (λ e. stolen (view e) ≡ []) l) (sym c.in_ok-push.ensures.items)
      (each_pushed (λ e. stolen (view e) ≡ []) c.loop-k.made.items c.guest.result c.loop-k.invariant.4
      (new_pass (table_of c.args.yard.now) c.loop-k.owns.items c.loop-k.k c.index_mut-own.result.now c.guest.result c.loop-k.invariant.0.1 (search rules) c.index_mut-own.ensures.value c.guest.ensures.thief.1)),
)
