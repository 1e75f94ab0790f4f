use Rattle.std.proofs.Common.{arith, ◌≡◌, ◌+◌, ◌-◌, ◌<◌, length, suc, sym, ◌∙◌, ap, subst}
use Rattle.std.specs.Coded.{le_prop}
use Rattle.std.proofs.Math.Logic.{∥∥₁_elim, ∥∥₁_map}
use Rattle.cw_code.specs.Code.{code_view}
use Rattle.cw_code.specs.Run as run
use Rattle.cw_machine.specs.Arrays.{alone}
use Rattle.cw_machine.specs.RepresentsState.{Follows}
use Rattle.cw_machine.specs.declared.machine.Moved.TheVariants as moved
use Rattle.cw_machine.proofs.AtTrap.{has_next, traps_as}
use Rattle.cw_machine.specs.TrapState.{state_after}
use Rattle.cw_machine.proofs.FastPathSteps.{alone_on, burst_on, does_alone, one_further}
use Rattle.cw_machine.proofs.Moves as moves
use Rattle.cw_machine.proofs.Stepping.{goes_on, stood, stopped}
use Rattle.cw_machine.proofs.Whole.{none_above, none_frozen}
use Rattle.cw_machine.proofs.machine.Machine.run_to_trap.Goals as goal

pub loop-left-init : goal.loop-left-init
loop-left-init c = record {
  running = c.requires;
  within = omega arith;
  came = λ is s shows. record {
    state = s;
    shows = shows;
    reached = (let e : c.args.limit - c.args.limit ≡ 0 = omega arith in ap (λ n. state_after (code_view c.args.code.now.code) n s) e);
    same = λ k. (let e : c.args.limit - c.args.limit + k ≡ k = omega arith in ap (λ n. run.steps (code_view c.args.code.now.code) n s) e);
  };
}

pub fast_path-left-requires-clause-running : goal.fast_path-left-requires-clause-running
fast_path-left-requires-clause-running c = ∥∥₁_map c.loop-left.invariant.running (λ r. record { ok = alone c.args.code.now r.verified; state = r.state; shows = r.shows; above = none_above _; frozen = none_frozen c.args.code.now r.verified r.state })

pub returns-then-left-eq0 : goal.returns-then-left-eq0
returns-then-left-eq0 c = λ is s shows.
    let v = c.args.code.now in
    let now = burst_on v is s c.loop-left.left c.fast_path-left.result c.args.limit c.loop-left.self c.fast_path-left.new.self (c.loop-left.invariant.came is s shows) c.fast_path-left.ensures c.loop-left.invariant.within in
    let none = c.if-left-eq0.true in
    let e : c.args.limit ≡ c.args.limit - c.fast_path-left.result + 0 = omega (arith, none) in
    ap (λ n. run.steps (code_view v.code) n s) e ∙ now.same 0

pub op_at-o-requires : goal.op_at-o-requires
op_at-o-requires c =
    let there = ∥∥₁_elim c.loop-left.invariant.running le_prop (λ u.
    let v = c.args.code.now in
    let r = alone_on v c.loop-left.left c.fast_path-left.result c.loop-left.self c.fast_path-left.new.self u c.fast_path-left.ensures in
    moves.stands_within v (alone v r.verified) c.fast_path-left.new.self r.state r.shows) in
    subst (λ l. c.fast_path-left.new.self.place < length l) (sym c.as_slice-ops.ensures.value) there

pub trap_operands-trap_operands-requires : goal.trap_operands-trap_operands-requires
trap_operands-trap_operands-requires c = ∥∥₁_map c.loop-left.invariant.running (λ u.
    let v = c.args.code.now in
    let r = alone_on v c.loop-left.left c.fast_path-left.result c.loop-left.self c.fast_path-left.new.self u c.fast_path-left.ensures in
    record { running = record { ok = alone v r.verified; state = r.state; shows = r.shows; above = none_above _; frozen = none_frozen v r.verified r.state }; is = stood _ c.as_slice-ops.ensures.value c.op_at-o.ensures })

pub step-requires : goal.step-requires
step-requires c = ∥∥₁_map c.loop-left.invariant.running (λ u.
    let v = c.args.code.now in
    let r = alone_on v c.loop-left.left c.fast_path-left.result c.loop-left.self c.fast_path-left.new.self u c.fast_path-left.ensures in
    record { running = record { ok = alone v r.verified; state = r.state; shows = r.shows; above = none_above _; frozen = none_frozen v r.verified r.state }; is = stood _ c.as_slice-ops.ensures.value c.op_at-o.ensures })

pub returns-in-Gave : goal.returns-in-Gave
returns-in-Gave c = λ is s shows.
    let v = c.args.code.now in
    let ok = alone v is in
    let m = c.step.new.self in
    let done = c.args.limit - c.fast_path-left.result in
    let now = burst_on v is s c.loop-left.left c.fast_path-left.result c.args.limit c.loop-left.self c.fast_path-left.new.self (c.loop-left.invariant.came is s shows) c.fast_path-left.ensures c.loop-left.invariant.within in
    let some = c.if-left-eq0.false in
    let within = c.loop-left.invariant.within in
    let less = c.fast_path-left.ensures.within in
    let e : c.args.limit ≡ done + suc (c.fast_path-left.result - 1) = omega (arith, some, within, less) in
    let did = subst (λ to. Follows v ok to m (run.step (code_view v.code) now.state)) c.in-Gave.is (does_alone v is c.fast_path-left.new.self now.state now.shows _ _ _ (stood _ c.as_slice-ops.ensures.value c.op_at-o.ensures) c.step.ensures) in
    let end = stopped v ok (moved.Gave c.in-Gave._value) m c.args.limit done (c.fast_path-left.result - 1) s now.state (λ e. cc) e now.same did in
    (c.in-Gave._value, end.0, end.1, end.2)

pub returns-in-Trapped : goal.returns-in-Trapped
returns-in-Trapped c = λ is s shows.
    let v = c.args.code.now in
    let ok = alone v is in
    let m = c.step.new.self in
    let now = burst_on v is s c.loop-left.left c.fast_path-left.result c.args.limit c.loop-left.self c.fast_path-left.new.self (c.loop-left.invariant.came is s shows) c.fast_path-left.ensures c.loop-left.invariant.within in
    let some = c.if-left-eq0.false in
    let within = c.loop-left.invariant.within in
    let less = c.fast_path-left.ensures.within in
    let did = subst (λ to. Follows v ok to m (run.step (code_view v.code) now.state)) c.in-Trapped.is (does_alone v is c.fast_path-left.new.self now.state now.shows _ _ _ (stood _ c.as_slice-ops.ensures.value c.op_at-o.ensures) c.step.ensures) in
    record {
      done = c.args.limit - c.fast_path-left.result;
      within = omega (arith, some, within, less);
      state = now.state;
      reached = now.reached;
      traps = traps_as v ok c.fast_path-left.new.self now.state now.shows c.in-Trapped.trap c.in-Trapped.line m (run.step (code_view v.code) now.state) did;
      has = has_next v ok c.fast_path-left.new.self now.state now.shows c.trap_operands-trap_operands.result c.op_at-o.result.now (stood _ c.as_slice-ops.ensures.value c.op_at-o.ensures) c.trap_operands-trap_operands.ensures;
    }

pub loop-left-preserved : goal.loop-left-preserved
loop-left-preserved c =
    let v = c.args.code.now in
    let m = c.step.new.self in
    let some = c.if-left-eq0.false in
    let within = c.loop-left.invariant.within in
    let less = c.fast_path-left.ensures.within in
    record {
      running = ∥∥₁_map c.loop-left.invariant.running (λ u.
          let r = alone_on v c.loop-left.left c.fast_path-left.result c.loop-left.self c.fast_path-left.new.self u c.fast_path-left.ensures in
          let ok = alone v r.verified in
          let went = goes_on v ok r.state m (subst (λ x. Follows v ok x m (run.step (code_view v.code) r.state)) c.in-On.is (does_alone v r.verified c.fast_path-left.new.self r.state r.shows _ _ _ (stood _ c.as_slice-ops.ensures.value c.op_at-o.ensures) c.step.ensures)) in
          record { verified = r.verified; state = went.state; shows = went.shows });
      within = omega (arith, within, less);
      came = λ is s shows.
          let ok = alone v is in
          let now = burst_on v is s c.loop-left.left c.fast_path-left.result c.args.limit c.loop-left.self c.fast_path-left.new.self (c.loop-left.invariant.came is s shows) c.fast_path-left.ensures within in
          let went = goes_on v ok now.state m (subst (λ x. Follows v ok x m (run.step (code_view v.code) now.state)) c.in-On.is (does_alone v is c.fast_path-left.new.self now.state now.shows _ _ _ (stood _ c.as_slice-ops.ensures.value c.op_at-o.ensures) c.step.ensures)) in
          record {
            state = went.state;
            shows = went.shows;
            reached = (let e : c.args.limit - (c.fast_path-left.result - 1) ≡ suc (c.args.limit - c.fast_path-left.result) = omega (arith, some, within, less) in
                ap (λ n. state_after (code_view v.code) n s) e ∙ one_further (code_view v.code) (c.args.limit - c.fast_path-left.result) s now.state went.state now.reached went.steps_to);
            same = λ k.
                let e : c.args.limit - (c.fast_path-left.result - 1) + k ≡ c.args.limit - c.fast_path-left.result + suc k = omega (arith, some, within, less) in
                ap (λ n. run.steps (code_view v.code) n s) e ∙ now.same (suc k) ∙ went.same k;
          };
    }
