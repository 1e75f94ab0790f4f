use Rattle.std.proofs.Common.{◌≡◌}
use Rattle.std.specs.Prelude.{drop, reverse}
use Rattle.cw_machine.specs.Hands.{is_cut_among}
use Rattle.cw_machine.proofs.machine.Machine.is_cut.Given as goal

abbrev pub invariant-loop-k : goal.invariant-loop-k
invariant-loop-k l = is_cut_among l.cell l.first (drop l.k (reverse l.self.cuts.items)) ≡ is_cut_among l.cell l.first (reverse l.self.cuts.items)
