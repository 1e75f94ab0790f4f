use Rattle.std.proofs.Common.{◌≡◌, ℕ, ◌+◌, ◌^◌, ◌<◌, length}
use Rattle.cw_jobs.specs.Calls.{placed}
use Rattle.cw_machine.specs.Arrays.{view}
use Rattle.cw_machine.specs.Arrays.{home_in}
use Rattle.cw_machine.proofs.job.add_views.Given as goal

abbrev pub invariant-loop-k : goal.invariant-loop-k
invariant-loop-k l = record {
  as_many : length l.views.items ≡ length l.initial.views.items + l.k;
  old_are : (c : ℕ) → c < length l.initial.views.items → view l.views.items c ≡ view l.initial.views.items c;
  are : (a : ℕ) → a < l.k → view l.views.items (length l.initial.views.items + a) ≡ home_in l.slices a;
  small : (a : ℕ) → a < l.k → length (placed l.slices a).items < 2 ^ 60;
}
