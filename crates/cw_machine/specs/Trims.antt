-- A machine that gives memory back.
use Rattle.std.specs.Prelude.{◌≡◌, ℕ, ◌+◌, ◌<◌, ◌≤◌, ℤ, List, length}
use Rattle.cw_code.specs.Run.{State}
use Rattle.cw_runnable.specs.declared.verified.Verified.{Verified}
use Rattle.cw_machine.specs.declared.machine.Machine.{Machine}
use Rattle.cw_machine.specs.Arrays.{Ok}
use Rattle.cw_machine.specs.RepresentsState.{cell, RepresentsState}

-- cells keep their values up to so many from a first one on, and as many of these as there are are there still
pub record KeepsFirst (first many : ℕ) (cells cells' : List ℤ) : Type 0 where
  pub kept : (k : ℕ) → k < first + many → cell cells' k ≡ cell cells k
  pub there : (n : ℕ) → n ≤ first + many → n ≤ length cells → n ≤ length cells'

-- A MACHINE HOLDS EACH STATE THAT IT HELD of a run of this code
abbrev pub Trims : Verified → (old new : Machine) → Type 0
Trims v old new = (ok : Ok v) (s : State) → RepresentsState v ok old s → RepresentsState v ok new s
