use Rattle.std.proofs.Common.{subst}
use Rattle.cw_slices.specs.Blocks.{Counts}
use Rattle.cw_slices.proofs.Missing.{all_own}
use Rattle.cw_slices.proofs.block.ArrayBlock.drop.Goals as goal

pub unkeep-ptr-requires-clause-alike : goal.unkeep-ptr-requires-clause-alike
unkeep-ptr-requires-clause-alike c =
    let k = c.self.inside.kept in
    (all_own k.base k.cells k.rights (subst (λ n. Counts k.cells k.rights k.base n) c.if-out-eq0.true c.self.invariant.0)).1
