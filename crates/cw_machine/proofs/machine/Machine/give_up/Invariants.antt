use Rattle.std.proofs.Common.{◌≡◌, ℕ, ◌<◌, ◌≤◌, length}
use Rattle.cw_slices.specs.Blocks.{ins}
use Rattle.cw_jobs.specs.Calls.{placed}
use Rattle.cw_machine.specs.Arrays.{block}
use Rattle.cw_machine.proofs.machine.Machine.give_up.Given as goal

abbrev pub invariant-loop-k : goal.invariant-loop-k
invariant-loop-k l = record {
  count : length l.rest.slices.items ≡ length l.initial.rest.slices.items;
  blocks : length l.self.blocks.items ≡ length l.initial.self.blocks.items;
  back : (a : ℕ) → a < l.k → (ins (placed l.rest.slices.items a).items ≡ (block l.initial.self.blocks.items a).cells)
      × ((placed l.rest.slices.items a).spot ≡ (block l.initial.self.blocks.items a).spot);
  still : (a : ℕ) → l.k ≤ a → block l.self.blocks.items a ≡ block l.initial.self.blocks.items a;
}
