use Rattle.std.proofs.Common.{◌≡◌, []}
use Rattle.std.specs.Prelude.{map, replicate}
use Rattle.cw_gen.proofs.lists.no_lists.Given as goal

abbrev pub invariant-loop-number : goal.invariant-loop-number
invariant-loop-number g l = map (λ slots. slots.items) l.lists.items ≡ replicate l._number []
