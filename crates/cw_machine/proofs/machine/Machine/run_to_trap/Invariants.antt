use Rattle.std.proofs.Common.{◌≤◌, ◌-◌}
use Rattle.cw_code.specs.Run as run
use Rattle.cw_machine.specs.Arrays.{IsFit, alone}
use Rattle.cw_machine.specs.RepresentsState.{RepresentsState, IsAlone}
use Rattle.cw_machine.proofs.FastPathSteps.{HasCome}
use Rattle.cw_machine.proofs.machine.Machine.run_to_trap.Given as goal

abbrev pub invariant-loop-left : goal.invariant-loop-left
invariant-loop-left l = record {
  running : ∥ IsAlone l.code l.self ∥₁;
  within : l.left ≤ l.limit;
  came : (is : IsFit l.code) (s : run.State) → RepresentsState l.code (alone l.code is) l.initial.self s → HasCome l.code is s (l.limit - l.left) l.self;
}

abbrev pub decreases-loop-left : goal.decreases-loop-left
decreases-loop-left l = l.left
