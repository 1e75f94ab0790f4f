use Rattle.std.proofs.Common.{◌≡◌, ◌≤◌, ◌<◌, ◌-◌, ◌^◌, length}
use Rattle.cw_sites.specs.StepSums.{upto, whole}
use Rattle.cw_sites.proofs.paths.Paths.own.Given as goal

abbrev pub invariant-loop-i : goal.invariant-loop-i
invariant-loop-i l = l.self.start ≤ length l.self.steps.items → whole l.site l.self.steps.items - upto l.site l.self.steps.items l.self.start
    < 2 ^ 64 → l.sum ≡ upto l.site l.self.steps.items l.i - upto l.site l.self.steps.items l.self.start
